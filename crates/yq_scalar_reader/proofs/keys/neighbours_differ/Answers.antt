use Rattle.std.{proofs.Common.{◌-◌, refl, sym, ◌∙◌, arith}, proofs.lemmas.Bool.false≢true}
use Rattle.yq_scalar_reader.proofs.DistinctKeys.{AreDistinct-from_places, DifferAt-from_distinct, DifferAt-from_sorted}
use Rattle.yq_scalar_reader.proofs.keys.neighbours_differ.Goals as goal

pub returns-then-eq : goal.returns-then-eq
returns-then-eq c = (λ never. absurd (false≢true never), λ h. absurd (false≢true (sym (DifferAt-from_distinct c.args.keys.now (c.pairs.later - 1) c.pairs.later h (omega arith) c.pairs-test.true _) ∙ (sym c.eq.ensures ∙ c.if-eq.true))))

pub returns : goal.returns
returns c = (λ _. AreDistinct-from_places c.args.keys.now (DifferAt-from_sorted c.args.keys.now c.requires (λ k h. c.pairs.invariant k (omega arith))), λ _. refl)
