use Rattle.std.proofs.Common.{refl, arith}
use Rattle.yq_outline.proofs.KnownLaws.{known_first, one_there}
use Rattle.yq_row_walk.proofs.known_count.first_known.Goals as goal

pub returns : goal.returns
returns c =
    let ss = c.args.rows.now.rows in
    let x = one_there ss c.args.under.row c.requires.within in
    known_first ss _ x.0 x.1 (c.level_at-level.ensures x.0 x.1) (omega (arith, c.if-level-floor.false)) refl c.in_ok-checked_add.ensures.1
