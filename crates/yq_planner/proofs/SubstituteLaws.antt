-- Small values are refused where large ones are.
use Rattle.std.proofs.Common.{◌≡◌, ℕ, ◌-◌, ◌<◌, min, nat_lt, true, false, ◌||◌, List, [], ◌∷◌, length, map, Option, None, IfSome, IfOk}
use Rattle.std.{proofs.Common.{Result, eqb, rules, refl, sym, ap, ◌∙◌, subst, arith}, proofs.lemmas.Bool.Decides.nat_tests}
use Rattle.std.{specs.Prelude.Vec, specs.declared.alloc.AllocError.AllocError, specs.declared.alloc.Global.Global}
use Rattle.yq_core.{specs.Keys.depth, specs.Values.{entries, entry, items, value_node}, specs.Scalar.ScalarText}
use Rattle.yq_core.{specs.declared.value.Value.{Value, Scalar as ScalarValue, List as ListValue, the_lemmas}, specs.declared.kind.Kind.Kind}
use Rattle.yq_core.specs.Tree.{Node, scalar, list, none, child, plain_label}
use Rattle.yq_planner.specs.Substitutes.{IsSubstitute, lists, maps, texts}
use Rattle.yq_semantics.specs.Changes.{has_long_key, is_long_key}
use Rattle.yq_core.specs.Tree as tree
use Rattle.yq_core.specs.declared.kind.Kind.TheVariants as kinds

-- a text for any other one
pub text_for : (k j : Kind) (t u : List ℕ) → k ≡ kinds.Text → j ≡ kinds.Text → IsSubstitute (scalar None k t) (scalar None j u)
text_for k j t u is same =
    subst (λ x. IsSubstitute (scalar None x t) (scalar None j u)) (sym is)
    (subst (λ x. IsSubstitute (scalar None kinds.Text t) (scalar None x u)) (sym same)
    (record { kind = texts; fit = refl; short = refl; deep = refl }))

-- a scalar and a list of values, as nodes
pub node_of-scalar : (s : ScalarText) → value_node (ScalarValue s) ≡ scalar None s.kind s.text
node_of-scalar s = search (rules, the_lemmas)

pub node_of-list : (v : Vec Value Global) → value_node (ListValue v) ≡ list None (items (map value_node v.items))
node_of-list v = search (rules, the_lemmas)

-- the same of scalars of the code
pub scalar_for : (k : Kind) (t : List ℕ) (s : ScalarText) → k ≡ kinds.Text → s.kind ≡ kinds.Text → IsSubstitute (scalar None k t) (value_node (ScalarValue s))
scalar_for k t s is same = subst (IsSubstitute (scalar None k t)) (sym (node_of-scalar s)) (text_for k s.kind t s.text is same)

-- a list of one item for one of some
pub list_for : (ns : List Node) (inside : Node) (d : ℕ) → 0 < length ns → has_long_key (list None (items ns)) ≡ false → has_long_key inside ≡ false →
    d ≡ min 65 (depth (list None (items ns))) → depth inside ≡ d - 1 → IsSubstitute (list None (items ns)) (list None (child plain_label inside none))
list_for [] inside d some fit short is inner = absurd (omega (arith, some))
list_for (n ∷ ns) inside d some fit short is inner = record {
  kind = lists;
  fit = fit;
  short = ap (λ b. b || false) short;
  deep = omega (arith, is, inner);
}

-- a mapping of one entry for one of some
pub map_for : (es : List (List ℕ × Node)) (inside : Node) (d : ℕ) → 0 < length es → has_long_key (tree.map None (entries es)) ≡ false → has_long_key inside ≡ false → is_long_key [] ≡ false →
    d ≡ min 65 (depth (tree.map None (entries es))) → depth inside ≡ d - 1 → IsSubstitute (tree.map None (entries es)) (tree.map None (child (entry []) inside none))
map_for [] inside d some fit short key is inner = absurd (omega (arith, some))
map_for (e ∷ es) inside d some fit short key is inner = record {
  kind = maps;
  fit = fit;
  short = ap (λ b. b || (has_long_key inside || false)) key ∙ ap (λ b. b || false) short;
  deep = omega (arith, is, inner);
}

-- the same of the answer that has it
pub mapped : (es : List (List ℕ × Node)) (inside v : Node) (d : ℕ) → v ≡ tree.map None (entries es) → 0 < length es → has_long_key v ≡ false → has_long_key inside ≡ false →
    d ≡ min 65 (depth v) → depth inside ≡ d - 1 → (r : Result (Option Value) AllocError) →
    IfOk r (λ o. IfSome o (λ w. value_node w ≡ tree.map None (child (entry []) inside none))) → IfOk r (λ o. IfSome o (λ _. is_long_key [] ≡ false)) →
    IfOk r (λ o. IfSome o (λ w. IsSubstitute v (value_node w)))
mapped es inside v d is some fit short deep inner r node key = search (rules, map_for)

pub deeper : (d n : ℕ) → nat_lt d n ≡ true → d < n
deeper d n h = grind (arith, nat_tests, h)

-- what isn't empty has something
pub some_there : (n : ℕ) → eqb n 0 ≡ false → 0 < n
some_there n h = grind (arith, nat_tests, h)
