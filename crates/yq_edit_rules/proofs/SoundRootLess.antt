-- What one less, or another label, leaves of what is asked of a document's root.
use Rattle.std.proofs.Common.{◌≡◌, ℕ, suc, ◌≤◌, List, [], ◌++◌, Option, Some, None, Bool, true, false, cond, refl, sym, ap, ◌∙◌, rules}
use Rattle.std.proofs.Common.{subst, arith, append_assoc, not, bytes_eq}
use Rattle.std.{proofs.lemmas.Bool.{and_parts, and_from, or_parts, or_from, not-true}, proofs.lemmas.Option.none-some, specs.List.list_any}
use Rattle.yq_core.specs.Keys.{AreDistinct, keys_of, HasUniqueKeys, EachHasUniqueKeys, depth, deepest, are_distinct}
use Rattle.yq_core.specs.Paths.{Step, is_here, further, child_at, relabel_child, remove_child, within}
use Rattle.yq_core.specs.Tree.{Label, Node, list, map, Children, none, child, children_of}
use Rattle.yq_core.{specs.Anchors.{Name, anchor_names, names_of, names_in}, specs.Text.with_first}
use Rattle.yq_core.proofs.DistinctKeys.{distinct_is, is_distinct}
use Rattle.yq_edit_rules.{specs.SoundRoots.{RemoveKeeps, RelabelKeeps}, proofs.BoundLaws.{AroundChild, anchor_front, around_child}}
use Rattle.yq_edit_rules.{proofs.TreeLaws.{max_least, max_left, max_right}, proofs.SoundRootLaws.{unique_at, depth_at, sound, same_names}}

-- one less
unlike_less : (k : List ℕ) (s : Step) (cs : Children) → list_any (bytes_eq k) (keys_of cs) ≡ false → list_any (bytes_eq k) (keys_of (remove_child s cs)) ≡ false
unlike_less k s none e = e
unlike_less k s (child l n cs) e = search (rules, or_parts, or_from, unlike_less k (further s) cs)

distinct_less : (s : Step) (cs : Children) → are_distinct (keys_of cs) ≡ true → are_distinct (keys_of (remove_child s cs)) ≡ true
distinct_less s none e = e
distinct_less s (child l n cs) e = go (is_here s l) l.key e (distinct_less (further s) cs)
  where
    go : (b : Bool) (j : Option (List ℕ)) → are_distinct (with_first j (keys_of cs)) ≡ true → (are_distinct (keys_of cs) ≡ true → are_distinct (keys_of (remove_child (further s) cs)) ≡ true) →
        are_distinct (keys_of (cond b cs (child (record l { key = j }) n (remove_child (further s) cs)))) ≡ true
    go true None e ih = e
    go true (Some j) e ih = (and_parts (not (list_any (bytes_eq j) (keys_of cs))) (are_distinct (keys_of cs)) e).1
    go false None e ih = ih e
    go false (Some j) e ih = search (rules, and_parts, and_from, unlike_less, not-true)

each_less : (s : Step) (cs : Children) → EachHasUniqueKeys cs → EachHasUniqueKeys (remove_child s cs)
each_less s none h = h
each_less s (child l n cs) h = search (rules, each_less (further s) cs h.1)

deepest_less : (s : Step) (cs : Children) → deepest (remove_child s cs) ≤ deepest cs
deepest_less s none = omega arith
deepest_less s (child l n cs) = search (rules, arith, max_right, max_least, max_left, deepest_less (further s) cs)

remove_unique : (s : Step) (n : Node) → HasUniqueKeys n → HasUniqueKeys (within (remove_child s) n)
remove_unique s (list a cs) h = each_less s cs h
remove_unique s (map a cs) h = (distinct_is (keys_of (remove_child s cs)) (distinct_less s cs (is_distinct (keys_of cs) h.0)), each_less s cs h.1)
remove_unique s _ h = h

-- the names around an item or entry of a node, which is taken out
record WithoutIn (s : Step) (n x : Node) : Type 0 where
  pub front : List Name
  pub back : List Name
  pub old : names_of n ≡ front ++ (names_of x ++ back)
  pub new : names_of (within (remove_child s) n) ≡ front ++ ([] ++ back)

with_names : (a : Option (List ℕ)) (s : Step) (cs : Children) (x n : Node) → ((g : Children → Children) → names_of (within g n) ≡ anchor_names a (names_in (g cs))) →
    names_of n ≡ anchor_names a (names_in cs) → AroundChild s cs x → WithoutIn s n x
with_names a s cs x n new old w =
    let put : (p q : List Name) → names_in (remove_child s cs) ≡ p ++ q → anchor_names a (names_in (remove_child s cs)) ≡ (anchor_names a [] ++ p) ++ q =
    λ p q e. anchor_front a (names_in (remove_child s cs)) ∙ (ap (λ y. anchor_names a [] ++ y) e ∙ sym (append_assoc (anchor_names a []) p q)) in
    record {
      front = anchor_names a [] ++ w.front;
      back = w.back;
      old = old ∙ (anchor_front a (names_in cs) ∙ (ap (λ y. anchor_names a [] ++ y) w.old ∙ sym (append_assoc (anchor_names a []) w.front (names_of x ++ w.back))));
      new = new (remove_child s) ∙ put w.front w.back w.gone;
    }

without_in : (s : Step) (n x : Node) → child_at s (children_of n) ≡ Some x → WithoutIn s n x
without_in s (list a cs) x e = with_names a s cs x (list a cs) (λ g. refl) refl (around_child s cs x e)
without_in s (map a cs) x e = with_names a s cs x (map a cs) (λ g. refl) refl (around_child s cs x e)
without_in s _ x e = absurd (none-some _ e)

pub remove_keeps : RemoveKeeps
remove_keeps steps root old x s h there is spared =
    let low = depth_at steps root old there in
    let less : depth (within (remove_child s) old) ≤ depth old = search (rules, deepest_less) in
    let limit = h.nested in
    let w = without_in s old x is in
    sound steps root old (within (remove_child s)) w.front (names_of x) [] w.back h there (remove_unique s old (unique_at steps root old there h.unique)) (omega (arith, low, less, limit)) w.old w.new refl spared

-- other labels
labels_stay : (s : Step) (g : Label → Label) (cs : Children) → ((l : Label) → (g l).key ≡ l.key) →
    (keys_of (relabel_child s g cs) ≡ keys_of cs) × (names_in (relabel_child s g cs) ≡ names_in cs) × (deepest (relabel_child s g cs) ≡ deepest cs) × (EachHasUniqueKeys cs → EachHasUniqueKeys (relabel_child s g cs))
labels_stay s g none key = (refl, refl, refl, λ h. h)
labels_stay s g (child l n cs) key = search (rules, labels_stay (further s) g cs key)

relabel_node : (s : Step) (g : Label → Label) (n : Node) → ((l : Label) → (g l).key ≡ l.key) →
    (names_of (within (relabel_child s g) n) ≡ names_of n) × (depth (within (relabel_child s g) n) ≡ depth n) × (HasUniqueKeys n → HasUniqueKeys (within (relabel_child s g) n))
relabel_node s g (list a cs) key = let r = labels_stay s g cs key in (ap (anchor_names a) r.1, ap suc r.2, r.3)
relabel_node s g (map a cs) key = let r = labels_stay s g cs key in (ap (anchor_names a) r.1, ap suc r.2, λ h. (subst AreDistinct (sym r.0) h.0, r.3 h.1))
relabel_node s g _ key = (refl, refl, λ h. h)

pub relabel_keeps : RelabelKeeps
relabel_keeps steps root old s g h there key =
    let r = relabel_node s g old key in
    let low = depth_at steps root old there in
    let limit = h.nested in
    let same = r.1 in
    same_names steps root old (within (relabel_child s g)) h there (r.2 (unique_at steps root old there h.unique)) (omega (arith, low, same, limit)) r.0
