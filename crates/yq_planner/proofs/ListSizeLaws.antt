-- How large the list of several lists' items is, and what is refused where it is.
use Rattle.std.proofs.Common.{◌≡◌, ℕ, ◌+◌, ◌-◌, ◌<◌, ◌≤◌, min, max, Bool, false, ◌||◌, List, [], ◌∷◌, length, None, refl, sym, ap, ◌∙◌}
use Rattle.std.proofs.Common.{subst, arith, rules}
use Rattle.yq_core.{specs.Keys.{depth, deepest}, specs.Paths.append_children}
use Rattle.yq_core.{specs.Tree.{Node, list, Children, none, child, key_label, plain_label}, specs.Values.items}
use Rattle.yq_planner.{specs.ListSizes.HasSize, specs.Substitutes.{IsSubstitute, lists}}
use Rattle.yq_planner.specs.declared.updating.list_size.ListSize.{ListSize}
use Rattle.yq_semantics.{specs.Changes.{is_overlong_key, has_long_key, have_long_key}, specs.Sizes.items_among}

or_parts : (a b c : Bool) → (a || (b || c)) ≡ false → (a ≡ false) × (b ≡ false) × (c ≡ false)
or_parts a b c h = search rules

no_part : (a b c : Bool) → a ≡ false → b ≡ false → c ≡ false → (a || (b || c)) ≡ false
no_part a b c h k l = search rules

neither : (cs ds : Children) → have_long_key cs ≡ false → have_long_key ds ≡ false → have_long_key (append_children cs ds) ≡ false
neither none ds h k = k
neither (child l n cs) ds h k =
    let first = or_parts (is_overlong_key l.key) (has_long_key n) (have_long_key cs) h in
    no_part _ _ _ first.0 first.1 (neither cs ds first.2 k)

deepest_of : (cs ds : Children) → deepest (append_children cs ds) ≡ max (deepest cs) (deepest ds)
deepest_of none ds = omega arith
deepest_of (child l n cs) ds = omega (arith, deepest_of cs ds)

items_of_both : (cs ds : Children) → items_among (append_children cs ds) ≡ items_among cs + items_among ds
items_of_both none ds = omega arith
items_of_both (child l n cs) ds = omega (arith, items_of_both cs ds)

-- the sizes of two lists give that of the list of both lists' items
pub both_sizes : (cs ds : Children) (a b c : ListSize) → HasSize (list None cs) a → HasSize (list None ds) b → c.depth ≡ max a.depth b.depth → c.items ≤ a.items + b.items →
    HasSize (list None (append_children cs ds)) c
both_sizes none ds a b c h k deep many = absurd (let is = h.is in cc)
both_sizes (child l n cs) ds a b c h k deep many = record {
  label = l;
  first = n;
  others = append_children cs ds;
  is = refl;
  fit = neither (child l n cs) ds h.fit k.fit;
  deep = omega (arith, deep, h.deep, k.deep, deepest_of (child l n cs) ds);
  many = omega (arith, many, h.many, k.many, items_of_both (child l n cs) ds);
}

-- the size of a list of one item
pub one_size : (v : Node) (d : ℕ) (size : ListSize) → has_long_key v ≡ false → d ≡ min 65 (depth v) → size.depth ≡ min (d + 1) 65 → size.items ≡ 1 → HasSize (list None (child (key_label None) v none)) size
one_size v d size fit is deep many = record {
  label = key_label None;
  first = v;
  others = none;
  is = refl;
  fit = ap (λ b. b || false) fit;
  deep = omega (arith, is, deep);
  many = omega (arith, many);
}

-- the size of a list with the items of the code's list
pub list_size : (ns : List Node) (d : ℕ) (size : ListSize) → 0 < length ns → has_long_key (list None (items ns)) ≡ false → d ≡ min 65 (depth (list None (items ns))) → size.depth ≡ d → size.items ≡ length ns →
    HasSize (list None (items ns)) size
list_size [] d size some fit is deep many = absurd (omega (arith, some))
list_size (n ∷ ns) d size some fit is deep many = record {
  label = plain_label;
  first = n;
  others = items ns;
  is = refl;
  fit = fit;
  deep = omega (arith, is, deep);
  many = omega (arith, many, some_of (n ∷ ns));
}
  where
    some_of : (ms : List Node) → length ms ≤ items_among (items ms)
    some_of [] = omega arith
    some_of (m ∷ ms) = omega (arith, some_of ms)

-- a small list stands for one of that size
pub small_for : (v inside w : Node) (size : ListSize) → w ≡ list None (child plain_label inside none) → depth inside ≡ size.depth - 1 → has_long_key inside ≡ false → HasSize v size → IsSubstitute v w
small_for v inside w size is deep short h =
    subst (λ x. IsSubstitute x w) (sym h.is)
    (subst (IsSubstitute (list None (child h.label h.first h.others))) (sym is)
    (record {
      kind = lists;
      fit = ap has_long_key (sym h.is) ∙ h.fit;
      short = ap (λ b. b || false) short;
      deep = omega (arith, deep, h.deep, ap depth h.is);
    }))
