-- The sum of two scalars with which a right side begins.
use Rattle.std.proofs.Common.{rules, ◌≡◌, ℕ, false, List, [], ◌∷◌, length, map, get_or, None, arith}
use Rattle.yq_core.{specs.declared.kind.Kind.Kind, specs.Tree.{Node, scalar}}
use Rattle.yq_nodes.specs.Nodes.{kind_of, text_of}
use Rattle.yq_expr.specs.Summand.{IsSummand}
use Rattle.yq_semantics.{specs.Copies.copy, specs.Judgement.{Judgement, and_then, gives}, specs.Places.FoundPlace}
use Rattle.yq_semantics.{specs.RightValues.{is_null, scalar_sum, sum, term_value, right_value}, specs.Program.Term}
use Rattle.yq_nodes.specs.declared.nodes.node.NodeKind.TheVariants as kinds

-- nothing more comes of a last step that gives what it has
then_same : (j : Judgement Node) → and_then (λ (u : Node). gives u) j ≡ j
then_same j = search rules

-- the sum of two scalars that are not null
scalars_added : (k l : Kind) (s r : List ℕ) → is_null (scalar None k s) ≡ false → is_null (scalar None l r) ≡ false → sum (scalar None k s) (scalar None l r) ≡ scalar_sum k s l r
scalars_added k l s r some other = search rules

-- two terms that are scalars
pub two_added : {X : Type 0} (view : X → Term) (doc : ℕ) (p : FoundPlace) (xs : List X) (x y : X) (k l : Kind) (s r : List ℕ) → length xs ≡ 2 → x ≡ get_or xs 0 x → y ≡ get_or xs 1 y →
    IsSummand k s (term_value doc p (view x)) → IsSummand l r (term_value doc p (view y)) → right_value doc (map view xs) p ≡ scalar_sum k s l r
two_added view doc p [] x y k l s r long is at one two = absurd (omega (arith, long))
two_added view doc p (a ∷ []) x y k l s r long is at one two = absurd (omega (arith, long))
two_added {X} view doc p (a ∷ (b ∷ [])) x y k l s r long is at one two = search (rules, then_same, scalars_added)
two_added view doc p (a ∷ (b ∷ (c ∷ cs))) x y k l s r long is at one two = absurd (omega (arith, long))

-- a scalar is copied as it is
pub scalar_copied : (n : Node) (k : Kind) → kind_of n ≡ kinds.Scalar k → copy n ≡ gives (scalar None k (text_of n))
scalar_copied n k e = search rules
