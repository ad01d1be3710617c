-- Unique keys and depth of a tree in which a node is changed.
use Rattle.std.proofs.lemmas.Grind.{common_steps}
use Rattle.std.proofs.Common.{rules, ◌≡◌, ℕ, ◌+◌, ◌-◌, ◌≤◌, max, [], ◌∷◌, length, Option, Some, None, option_and_then, Bool, true, false}
use Rattle.std.{proofs.Common.{cond, refl, sym, subst, arith}, proofs.lemmas.Option.{none-some, same_Some}}
use Rattle.yq_core.specs.Keys.{keys_of, HasUniqueKeys, EachHasUniqueKeys, depth, deepest}
use Rattle.yq_core.specs.Paths.{Step, is_here, further, child_at, node_at, change_child, within, changed_at}
use Rattle.yq_core.specs.Tree.{Node, list, map, Children, none, child, children_of}
use Rattle.yq_edit_rules.specs.Conditions.{UniqueChanged, DepthChanged}

keys_stay : (s : Step) (f : Node → Node) (cs : Children) → keys_of (change_child s f cs) ≡ keys_of cs
keys_stay s f none = refl
keys_stay s f (child l n cs) = search (rules, keys_stay (further s) f cs)

-- a property of each item or entry, where one is changed
each_unique : (s : Step) (f : Node → Node) (cs : Children) (k : Node) → child_at s cs ≡ Some k → (HasUniqueKeys k → HasUniqueKeys (f k)) → EachHasUniqueKeys cs →
    EachHasUniqueKeys (change_child s f cs)
each_unique s f none k e new h = tt
each_unique s f (child l n cs) k e new h = go (is_here s l) e (λ d. each_unique (further s) f cs k d new h.1)
  where
    go : (b : Bool) → cond b (Some n) (child_at (further s) cs) ≡ Some k → (child_at (further s) cs ≡ Some k → EachHasUniqueKeys (change_child (further s) f cs)) →
        EachHasUniqueKeys (cond b (child l (f n) cs) (child l n (change_child (further s) f cs)))
    go true e ih = (subst (λ x. HasUniqueKeys (f x)) (sym (same_Some _ _ e)) (new (subst HasUniqueKeys (same_Some _ _ e) h.0)), h.1)
    go false e ih = (h.0, ih e)

pub unique_changed : UniqueChanged
unique_changed [] n old f e h new = subst (λ x. HasUniqueKeys (f x)) (sym (same_Some _ _ e)) new
unique_changed (s ∷ ss) n old f e h new = go (child_at s (children_of n)) refl e (λ k d u. unique_changed ss k old f d u new)
  where
    kinds : (n k : Node) → child_at s (children_of n) ≡ Some k → (HasUniqueKeys k → HasUniqueKeys (changed_at ss f k)) → HasUniqueKeys n → HasUniqueKeys (within (change_child s (changed_at ss f)) n)
    kinds n k is r h = search (rules, each_unique, keys_stay)

    go : (r : Option Node) → child_at s (children_of n) ≡ r → option_and_then (node_at ss) r ≡ Some old → ((k : Node) → node_at ss k ≡ Some old → HasUniqueKeys k → HasUniqueKeys (changed_at ss f k)) →
        HasUniqueKeys (within (change_child s (changed_at ss f)) n)
    go None is e ih = absurd (none-some _ e)
    go (Some k) is e ih = kinds n k is (ih k e) h

pub max_least : (a b d : ℕ) → a ≤ d → b ≤ d → max a b ≤ d
max_least a b d h k = omega (arith, h, k)

pub max_left : (a b : ℕ) → a ≤ max a b
max_left a b = omega arith

pub max_right : (a b : ℕ) → b ≤ max a b
max_right a b = omega arith

deepest_changed : (d : ℕ) (s : Step) (f : Node → Node) (cs : Children) (k : Node) → child_at s cs ≡ Some k → (depth k ≤ d → depth (f k) ≤ d) → deepest cs ≤ d → deepest (change_child s f cs) ≤ d
deepest_changed d s f none k e new h = h
deepest_changed d s f (child l n cs) k e new h = grind (arith, common_steps, max_left, max_right, max_least, same_Some, deepest_changed d (further s) f cs k)

pub depth_changed : DepthChanged
depth_changed d [] n old f e h new = search (rules, arith, same_Some)
depth_changed d (s ∷ ss) n old f e h new =
    let less : length ss + depth (f old) ≤ d - 1 = omega (arith, new) in go (child_at s (children_of n)) refl e (λ k u w. depth_changed (d - 1) ss k old f u w less)
  where
    kinds : (n k : Node) → child_at s (children_of n) ≡ Some k → (depth k ≤ d - 1 → depth (changed_at ss f k) ≤ d - 1) → depth n ≤ d → depth (within (change_child s (changed_at ss f)) n) ≤ d
    kinds (list a cs) k is r h = let x = deepest_changed (d - 1) s (changed_at ss f) cs k is r (omega (arith, h)) in omega (arith, x, h)
    kinds (map a cs) k is r h = let x = deepest_changed (d - 1) s (changed_at ss f) cs k is r (omega (arith, h)) in omega (arith, x, h)
    kinds _ k is r h = h

    go : (r : Option Node) → child_at s (children_of n) ≡ r → option_and_then (node_at ss) r ≡ Some old → ((k : Node) → node_at ss k ≡ Some old → depth k ≤ d - 1 → depth (changed_at ss f k) ≤ d - 1) →
        depth (within (change_child s (changed_at ss f)) n) ≤ d
    go None is e ih = absurd (none-some _ e)
    go (Some k) is e ih = kinds n k is (ih k e) h
