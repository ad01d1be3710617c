use Rattle.std.proofs.Common.{◌≡◌, List, [], ◌∷◌, ◌++◌, length, refl, sym, ◌∙◌, eqb-true, arith}
use Rattle.yq_splice.proofs.carrying.edited_after.Goals as goal

-- what comes after nothing
after_nothing : {A : Type 0} (xs ys : List A) → length xs ≡ 0 → ys ≡ xs ++ ys
after_nothing [] ys e = refl
after_nothing (x ∷ xs) ys e = absurd (omega (arith, e))

pub returns-then-is_empty : goal.returns-then-is_empty
returns-then-is_empty c = (refl, after_nothing c.args.splices.items c.args.edited.splices.items (sym c.args.splices.ok.0 ∙ eqb-true _ 0 (sym c.is_empty.ensures ∙ c.if-is_empty.true)))
