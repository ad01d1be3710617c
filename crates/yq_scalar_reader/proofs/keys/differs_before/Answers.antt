use Rattle.std.{proofs.Common.{refl, sym, ◌∙◌, arith}, proofs.lemmas.Bool.false≢true}
use Rattle.yq_scalar_reader.proofs.DistinctKeys.{DiffersBefore-from_places, DifferAt-from_before}
use Rattle.yq_scalar_reader.proofs.keys.differs_before.Goals as goal

pub returns-then-eq : goal.returns-then-eq
returns-then-eq c = (λ never. absurd (false≢true never), λ h. absurd (false≢true (sym (DifferAt-from_before c.args.keys.now c.args.at c.earlier.earlier h c.requires c.earlier-test.true _) ∙ (sym c.eq.ensures ∙ c.if-eq.true))))

pub returns : goal.returns
returns c = (λ _. DiffersBefore-from_places c.args.keys.now c.args.at c.requires (λ k h. c.earlier.invariant k (omega arith)), λ _. refl)
