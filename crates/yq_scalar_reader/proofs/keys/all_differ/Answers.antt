use Rattle.std.{proofs.Common.{refl, sym, ◌∙◌, arith}, proofs.lemmas.Bool.false≢true}
use Rattle.yq_scalar_reader.proofs.DistinctKeys.{AreDistinct-from_before, DiffersBefore-from_distinct}
use Rattle.yq_scalar_reader.proofs.keys.all_differ.Goals as goal

pub returns-then-not-differs_before : goal.returns-then-not-differs_before
returns-then-not-differs_before c = (λ never. absurd (false≢true never), λ h. absurd (false≢true (sym c.if-not-differs_before.true ∙ c.differs_before.ensures.1 (DiffersBefore-from_distinct c.args.keys.now c.each.at h c.each-test.true))))

pub returns : goal.returns
returns c = (λ _. AreDistinct-from_before c.args.keys.now (λ k h. c.each.invariant k (omega arith)), λ _. refl)
