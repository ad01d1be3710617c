use Rattle.std.proofs.Common.{refl, ◌∙◌, arith}
use Rattle.yq_outline.proofs.KnownLaws.{count_one, known_more, moved_to, one_there}
use Rattle.yq_places.proofs.places.known_end.known_last.Goals as goal

pub rows-preserved : goal.rows-preserved
rows-preserved c =
    let ss = c.args.rows.now.rows in
    let k = c.args.known in
    let x = one_there ss c.rows.row (omega (arith, c.rows-test.true, c.requires.within)) in
    let level = c.level_at-level.ensures x.0 x.1 in
    record {
      last = c.rows.invariant.here;
      here = known_more ss (moved_to k c.rows.index c.rows.row) x.0 _ _ c.rows.invariant.here x.1 (omega (arith, level, c.if-level-known.false)) refl (c.in-Some.ensures ∙ count_one k.level c.rows.index c.level_at-level.result x.0 level);
    }
