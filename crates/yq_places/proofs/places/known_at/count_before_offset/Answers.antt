use Rattle.std.{proofs.Common.{arith, refl}, proofs.lemmas.List.Elements.All-more}
use Rattle.yq_places.specs.RowWalk.{StaysKnown}
use Rattle.yq_places.proofs.places.known_at.count_before_offset.Goals as goal

pub items-preserved : goal.items-preserved
items-preserved c = record {
  within = omega (arith, c.items-test.true);
  stay = λ cut is. All-more (StaysKnown c.args.front cut) c.args.known.now c.items.count _ (omega (arith, c.items-test.true)) (c.items.invariant.stay cut is) (c.if-not-is_before_offset.ensures refl cut is);
}
