use Rattle.std.proofs.Common.{refl, ◌∙◌, arith}
use Rattle.yq_outline.proofs.KnownLaws.{count_one, known_more, moved_to, one_there}
use Rattle.yq_row_walk.proofs.known_key.item_after.Goals as goal

pub rows-preserved : goal.rows-preserved
rows-preserved c =
    let ss = c.args.rows.now.rows in
    let k = c.args.known in
    let x = one_there ss c.rows.row (omega (arith, c.rows-test.true, c.requires.within)) in
    let level = c.level_at-level.ensures x.0 x.1 in
    known_more ss (moved_to k c.rows.index c.rows.row) x.0 _ _ c.rows.invariant x.1 (omega (arith, level, c.if-level-known.false)) refl (c.in_ok-index.ensures ∙ count_one k.level c.rows.index c.level_at-level.result x.0 level)
