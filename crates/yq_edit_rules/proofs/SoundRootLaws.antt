-- What a value put in, or one more, leaves of what is asked of a document's root.
use Rattle.std.proofs.Common.{◌≡◌, ℕ, suc, ◌+◌, ◌-◌, ◌≤◌, max, List, [], ◌∷◌, ◌++◌, length, Option, Some, None, option_and_then, Bool, true}
use Rattle.std.proofs.Common.{false, cond, refl, sym, ap, ◌∙◌, rules, subst, inl, inr, arith, append-nil, not, bytes_eq}
use Rattle.std.{proofs.lemmas.Bool.{and_parts, and_from, or_parts, or_from, not-true}, proofs.lemmas.Option.{none-some, same_Some}}
use Rattle.std.specs.List.{list_any}
use Rattle.yq_core.specs.Keys.{AreDistinct, keys_of, HasUniqueKeys, EachHasUniqueKeys, depth, deepest, are_distinct}
use Rattle.yq_core.specs.Paths.{Step, is_here, further, append_child, changed_at, child_at, node_at, within}
use Rattle.yq_core.{specs.Tree.{Label, Node, Children, none, child, children_of, anchor_of}, specs.Inline.depth_limit}
use Rattle.yq_core.{specs.Anchors.{Name, anchor_names, names_of, names_in, IsAmong}, specs.Text.with_first}
use Rattle.yq_core.proofs.DistinctKeys.{differs, distinct_is, is_distinct}
use Rattle.yq_outline.{specs.Outline.anchored, proofs.SoundLaws.depth-anchored}
use Rattle.yq_edit_rules.specs.Conditions.{aliases_in, AreSpared}
use Rattle.yq_edit_rules.specs.SoundRoots.{IsSoundRoot, IsNewKey, inner_names, ReplaceKeeps, AppendKeeps}
use Rattle.yq_edit_rules.proofs.BoundLaws.{bound_changed, anchor_front}
use Rattle.yq_edit_rules.proofs.TreeLaws.{unique_changed, depth_changed, max_least, max_left, max_right}
use Rattle.yq_documents.specs.TreeEdits.{replaced_node}

-- what holds of a whole holds of the node at a path
child_unique : (s : Step) (cs : Children) (k : Node) → child_at s cs ≡ Some k → EachHasUniqueKeys cs → HasUniqueKeys k
child_unique s none k e h = absurd (none-some _ e)
child_unique s (child l n cs) k e h = go (is_here s l) e (λ d. child_unique (further s) cs k d h.1)
  where
    go : (b : Bool) → cond b (Some n) (child_at (further s) cs) ≡ Some k → (child_at (further s) cs ≡ Some k → HasUniqueKeys k) → HasUniqueKeys k
    go true e ih = subst HasUniqueKeys (same_Some _ _ e) h.0
    go false e ih = ih e

pub unique_at : (steps : List Step) (n old : Node) → node_at steps n ≡ Some old → HasUniqueKeys n → HasUniqueKeys old
unique_at [] n old e h = subst HasUniqueKeys (same_Some _ _ e) h
unique_at (s ∷ ss) n old e h = go (child_at s (children_of n)) refl e (λ k d u. unique_at ss k old d u)
  where
    go : (r : Option Node) → child_at s (children_of n) ≡ r → option_and_then (node_at ss) r ≡ Some old → ((k : Node) → node_at ss k ≡ Some old → HasUniqueKeys k → HasUniqueKeys old) →
        HasUniqueKeys old
    go None is e ih = absurd (none-some _ e)
    go (Some k) is e ih = ih k e (child_unique s (children_of n) k is (search rules))

child_depth : (s : Step) (cs : Children) (k : Node) → child_at s cs ≡ Some k → depth k ≤ deepest cs
child_depth s none k e = absurd (none-some _ e)
child_depth s (child l n cs) k e = go (is_here s l) e (λ d. child_depth (further s) cs k d)
  where
    go : (b : Bool) → cond b (Some n) (child_at (further s) cs) ≡ Some k → (child_at (further s) cs ≡ Some k → depth k ≤ deepest cs) → depth k ≤ max (depth n) (deepest cs)
    go true e ih = omega (arith, ap depth (same_Some _ _ e), max_left (depth n) (deepest cs))
    go false e ih = let low = ih e in omega (arith, low, max_right (depth n) (deepest cs))

inner_depth : (s : Step) (n k : Node) → child_at s (children_of n) ≡ Some k → suc (depth k) ≤ depth n
inner_depth s n k h1 = search (rules, none-some, child_depth)

pub depth_at : (steps : List Step) (n old : Node) → node_at steps n ≡ Some old → length steps + depth old ≤ depth n
depth_at [] n old e = let same : depth n ≡ depth old = ap depth (same_Some _ _ e) in omega (arith, same)
depth_at (s ∷ ss) n old e = go (child_at s (children_of n)) refl e (λ k d. depth_at ss k old d)
  where
    go : (r : Option Node) → child_at s (children_of n) ≡ r → option_and_then (node_at ss) r ≡ Some old → ((k : Node) → node_at ss k ≡ Some old → length ss + depth old ≤ depth k) →
        length (s ∷ ss) + depth old ≤ depth n
    go None is e ih = absurd (none-some _ e)
    go (Some k) is e ih = let low = ih k e in let deep = inner_depth s n k is in omega (arith, low, deep)

-- a root changed
pub sound : (steps : List Step) (root old : Node) (f : Node → Node) (front gone come back : List Name) → IsSoundRoot root → node_at steps root ≡ Some old → HasUniqueKeys (f old) →
    length steps + depth (f old) ≤ depth_limit →
    names_of old ≡ front ++ (gone ++ back) → names_of (f old) ≡ front ++ (come ++ back) → aliases_in come ≡ [] → AreSpared gone come (names_of root) → IsSoundRoot (changed_at steps f root)
sound steps root old f front gone come back h there unique nested is new bare spared = record {
  unique = unique_changed steps root old f there h.unique unique;
  nested = depth_changed depth_limit steps root old f there h.nested nested;
  bound = bound_changed steps root old f front gone come back there (record { old_names = is; new_names = new; bare = bare }) spared h.bound;
}

-- replaced
own_names : (n : Node) → names_of n ≡ anchor_names (anchor_of n) [] ++ (inner_names n ++ [])
own_names n = search (rules, append-nil, anchor_front)

nameless : (a : Option (List ℕ)) (v : Node) → names_of v ≡ [] → names_of (anchored a v) ≡ anchor_names a [] ++ ([] ++ [])
nameless a v h1 = search rules

anchored_unique : (a : Option (List ℕ)) (v : Node) → HasUniqueKeys v → HasUniqueKeys (anchored a v)
anchored_unique a v h1 = search rules

pub replace_keeps : ReplaceKeeps
replace_keeps steps root old v h there may =
    let a : Option (List ℕ) = anchor_of old in
    let deep : length steps + depth (anchored a v) ≤ depth_limit = subst (λ k. length steps + k ≤ depth_limit) (sym (depth-anchored a v)) may.value_is.nested in
    sound steps root old (replaced_node v) (anchor_names a []) (inner_names old) [] [] h there (anchored_unique a v may.value_is.unique) deep (own_names old) (nameless a v may.value_is.bare) refl may.spared

-- one more
names_more : (l : Label) (v : Node) (cs : Children) → names_of v ≡ [] → names_in (append_child l v cs) ≡ names_in cs
names_more l v none e = ap (λ x. x ++ []) e
names_more l v (child k n cs) e = ap (λ x. names_of n ++ x) (names_more l v cs e)

append_names : (l : Label) (v n : Node) → names_of v ≡ [] → names_of (within (append_child l v) n) ≡ names_of n
append_names l v n h1 = search (rules, names_more)

each_more : (l : Label) (v : Node) (cs : Children) → HasUniqueKeys v → EachHasUniqueKeys cs → EachHasUniqueKeys (append_child l v cs)
each_more l v none h k = (h, tt)
each_more l v (child i n cs) h k = (k.0, each_more l v cs h k.1)

deepest_more : (l : Label) (v : Node) (cs : Children) → deepest (append_child l v cs) ≤ max (deepest cs) (depth v)
deepest_more l v none = max_least (depth v) 0 (max 0 (depth v)) (max_right 0 (depth v)) (omega arith)
deepest_more l v (child i n cs) = search (rules, arith, max_left, max_right, max_least, deepest_more l v cs)

-- keys in order, with one more at the end
with_append : (k : Option (List ℕ)) (xs ys : List (List ℕ)) → with_first k (xs ++ ys) ≡ with_first k xs ++ ys
with_append k xs ys = search rules

keys_more : (l : Label) (v : Node) (cs : Children) → keys_of (append_child l v cs) ≡ keys_of cs ++ with_first l.key []
keys_more l v none = refl
keys_more l v (child i n cs) = ap (with_first i.key) (keys_more l v cs) ∙ with_append i.key (keys_of cs) (with_first l.key [])

unlike_more : (k x : List ℕ) (ks : List (List ℕ)) → list_any (bytes_eq k) ks ≡ false → bytes_eq k x ≡ false → list_any (bytes_eq k) (ks ++ (x ∷ [])) ≡ false
unlike_more k x [] e f = or_from (bytes_eq k x) false f refl
unlike_more k x (y ∷ ks) e f = let p = or_parts (bytes_eq k y) (list_any (bytes_eq k) ks) e in or_from (bytes_eq k y) _ p.0 (unlike_more k x ks p.1 f)

distinct_more : (ks : List (List ℕ)) (x : List ℕ) → are_distinct ks ≡ true → (IsAmong x ks → ⊥) → are_distinct (ks ++ (x ∷ [])) ≡ true
distinct_more [] x e new = refl
distinct_more (k ∷ ks) x e new =
    let p = and_parts (not (list_any (bytes_eq k) ks)) (are_distinct ks) e in
    and_from (not (list_any (bytes_eq k) (ks ++ (x ∷ [])))) (are_distinct (ks ++ (x ∷ [])))
    (ap not (unlike_more k x ks (not-true (list_any (bytes_eq k) ks) p.0) (differs k x (λ is. new (inl (sym is)))))) (distinct_more ks x p.1 (λ m. new (inr m)))

key_more : (ks : List (List ℕ)) (k : Option (List ℕ)) → AreDistinct ks → IsNewKey k ks → AreDistinct (ks ++ with_first k [])
key_more ks None h new = subst AreDistinct (sym (append-nil ks)) h
key_more ks (Some x) h new = distinct_is (ks ++ (x ∷ [])) (distinct_more ks x (is_distinct ks h) new)

append_unique : (l : Label) (v n : Node) → HasUniqueKeys n → HasUniqueKeys v → IsNewKey l.key (keys_of (children_of n)) → HasUniqueKeys (within (append_child l v) n)
append_unique l v n h1 h2 h3 = search (rules, each_more, keys_more, key_more)

-- a change that leaves the names as they are
pub same_names : (steps : List Step) (root old : Node) (f : Node → Node) → IsSoundRoot root → node_at steps root ≡ Some old → HasUniqueKeys (f old) → length steps + depth (f old) ≤ depth_limit →
    names_of (f old) ≡ names_of old →
    IsSoundRoot (changed_at steps f root)
same_names steps root old f h there unique nested same =
    sound steps root old f (names_of old) [] [] [] h there unique nested (sym (append-nil (names_of old))) (same ∙ sym (append-nil (names_of old))) refl (λ a m u. m)

pub append_keeps : AppendKeeps
append_keeps steps root old v l h there is new =
    let nested = is.nested in
    let low = depth_at steps root old there in
    let limit = h.nested in
    let deep : depth (within (append_child l v) old) ≤ depth_limit - length steps = search (rules, deepest_more, max_least) in
    same_names steps root old (within (append_child l v)) h there (append_unique l v old (unique_at steps root old there h.unique) is.unique new) (omega (arith, deep, nested)) (append_names l v old is.bare)
