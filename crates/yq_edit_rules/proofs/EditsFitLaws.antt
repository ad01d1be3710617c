-- What an operation that fits says of its value, its key, the anchors that go, and the node that is replaced.
use Rattle.std.proofs.Common.{inl, inr, ◌≡◌, ℕ, ◌+◌, ◌≤◌, Bool, true, false, ◌||◌, List, [], ◌∷◌, length, Option, Some, None, sym, ap, ◌∙◌}
use Rattle.std.{proofs.Common.{subst, arith, rules}, proofs.lemmas.Bool.{false≢true, ltb-false, or_parts}, specs.List.{list_any, slice_get}}
use Rattle.std.{proofs.lemmas.Option.{none-some, same_Some}, specs.Prelude.{◌≢◌, All}, specs.Str.bytes_eq}
use Rattle.yq_core.{specs.Answers.◌>>=◌, specs.Keys.{HasUniqueKeys, EachHasUniqueKeys, AreDistinct, keys_of, depth}}
use Rattle.yq_core.{specs.Paths.{Step, To, child_at, node_at}, specs.Shapes.{IsTree, AreTrees, AreEntries, IsNew}}
use Rattle.yq_core.{specs.Tree.{Node, Children}, specs.Inline.depth_limit, specs.Anchors.{Name, Anchors, Refers, names_of, IsAmong}}
use Rattle.yq_flow_edits.specs.Valued.{IsLabel, IsValueTree, AreValueTrees}
use Rattle.yq_row_table.specs.Rows.{Part, Cut, cut_text}
use Rattle.yq_documents.{specs.Documents.{Document, document_parts}, specs.Reading.{documents, root_of}}
use Rattle.yq_edit_rules.{specs.BlockValues.{IsNear, HasNearKeys, EachHasNearKeys}, proofs.KeyLaws.near_key}
use Rattle.yq_edit_rules.{specs.Conditions.{aliases_in, AreSpared}, specs.SoundRoots.{IsNewValue, MayReplace}, specs.Operands.KeyIsUtf8}
use Rattle.yq_edit_rules.{proofs.DoneLaws.nth_map, proofs.FitLaws.no_names}
use Rattle.yq_semantics.specs.Changes.{is_overlong_key, has_long_key, have_long_key, is_deep, is_used, refers_to, is_used_inside}
use Rattle.yq_semantics.{specs.Fits.Fits, specs.Operations.replace, specs.Rooms.room_of, proofs.PathLaws.bytes_refl}
use Rattle.yq_places.specs.NodesAt.{node_in}
use Rattle.yq_core.specs.Tree as tree
use Rattle.yq_documents.specs.Reading as reading

-- ---- values

other_keys : (k : List ℕ) (cs : Children) → IsNew k cs → All (λ j. k ≢ j) (keys_of cs)
other_keys k tree.none h = λ i d within. absurd (omega (arith, within))
other_keys k (tree.child label n cs) h = search (rules, h.0, other_keys k cs h.1)

distinct : (cs : Children) → AreEntries cs → AreDistinct (keys_of cs)
distinct tree.none h = λ i j d less within. absurd (omega (arith, within))
distinct (tree.child label n cs) h = search (rules, other_keys, distinct cs h.1)

mutual
  pub tree_unique : (n : Node) → IsTree n → HasUniqueKeys n
  tree_unique (tree.alias name) h = tt
  tree_unique (tree.scalar a kind text) h = tt
  tree_unique (tree.list a cs) h = trees_unique cs h.1
  tree_unique (tree.map a cs) h = (distinct cs h.0, trees_unique cs h.1)

  trees_unique : (cs : Children) → AreTrees cs → EachHasUniqueKeys cs
  trees_unique tree.none h = tt
  trees_unique (tree.child label n cs) h = (tree_unique n h.0, trees_unique cs h.1)

pub new_value : (above : ℕ) (v : Node) → IsValueTree v → HasUniqueKeys v → is_deep above v ≡ false → IsNewValue v above
new_value above v h unique deep = record { bare = no_names v h; unique = unique; nested = ltb-false depth_limit (above + depth v) deep }

-- ---- keys

pub key_near : (key : Option (List ℕ)) → KeyIsUtf8 key → is_overlong_key key ≡ false → IsNear key
key_near key h1 h2 = search (rules, near_key, ltb-false)

label_near : (keyed : Bool) (label : tree.Label) → IsLabel keyed label → is_overlong_key label.key ≡ false → IsNear label.key
label_near keyed label h1 h2 = search (rules, key_near)

mutual
  pub near_keys : (v : Node) → IsValueTree v → has_long_key v ≡ false → HasNearKeys v
  near_keys (tree.alias n) h long = tt
  near_keys (tree.scalar a kind text) h long = tt
  near_keys (tree.list a cs) h long = each_near false cs h.1 long
  near_keys (tree.map a cs) h long = each_near true cs h.1 long

  each_near : (keyed : Bool) (cs : Children) → AreValueTrees keyed cs → have_long_key cs ≡ false → EachHasNearKeys cs
  each_near keyed tree.none h long = tt
  each_near keyed (tree.child label n cs) h long =
      let others = (or_parts (is_overlong_key label.key) (has_long_key n || have_long_key cs) long).1 in (
        label_near keyed label h.0 (or_parts (is_overlong_key label.key) (has_long_key n || have_long_key cs) long).0,
        near_keys n h.1 (or_parts (has_long_key n) (have_long_key cs) others).0,
        each_near keyed cs h.2 (or_parts (has_long_key n) (have_long_key cs) others).1,
      )

pub new_key : (k : List ℕ) (cs : Children) → child_at (To k) cs ≡ None → IsAmong k (keys_of cs) → ⊥
new_key k tree.none e among = among
new_key k (tree.child label n cs) e among = search (rules, none-some, false≢true, bytes_refl, new_key k cs)

-- ---- anchors that go

pub none_refers : (a : List ℕ) (names : List Name) → list_any (refers_to a) names ≡ false → IsAmong a (aliases_in names) → ⊥
none_refers a [] h among = among
none_refers a (Anchors b ∷ names) h among = none_refers a names h among
none_refers a (Refers b ∷ names) h (inl same) = absurd (false≢true (sym (or_parts (bytes_eq a b) (list_any (refers_to a) names) h).0 ∙ (ap (bytes_eq a) (sym same) ∙ bytes_refl a)))
none_refers a (Refers b ∷ names) h (inr more) = none_refers a names (or_parts (bytes_eq a b) (list_any (refers_to a) names) h).1 more

pub not_used : (names gone : List Name) → list_any (is_used names) gone ≡ false → AreSpared gone [] names
not_used names [] h a among others = among
not_used names (Anchors b ∷ gone) h a (inl same) others =
    none_refers b names (or_parts (list_any (refers_to b) names) (list_any (is_used names) gone) h).0 (subst (λ (x : List ℕ). IsAmong x (aliases_in names)) same others)
not_used names (Anchors b ∷ gone) h a (inr more) others = not_used names gone (or_parts (list_any (refers_to b) names) (list_any (is_used names) gone) h).1 a more others
not_used names (Refers b ∷ gone) h a among others = not_used names gone h a among others

-- ---- a node that is replaced

-- An operation that fits exchanges a node of a part of a cut: that node is there, and the value may be in its place.
pub record FitsReplace (doc : ℕ) (steps : List Step) (v : Node) (c : Cut) (p : Part) : Type 0 where
  pub node : Node
  pub there : node_at steps (root_of p) ≡ Some node
  pub known : node_in doc steps c ≡ Some node
  pub may : MayReplace v node (root_of p) (length steps)
  pub near : HasNearKeys v
  pub long : has_long_key v ≡ false
  pub deep : depth v ≤ depth_limit

pub fits_replace : (doc : ℕ) (steps : List Step) (v : Node) (c : Cut) (p : Part) → slice_get (document_parts c) doc ≡ Some p → IsValueTree v → Fits (room_of (cut_text c)) (replace doc steps v) (documents c) → FitsReplace doc steps v c p
fits_replace doc steps v c p at h fits =
    let same : reading.part_document p ≡ fits.0 = same_Some _ _ (sym (nth_map doc p reading.part_document (document_parts c) at) ∙ fits.1) in
    let root : root_of p ≡ fits.0.root = ap (λ (d : Document). d.root) same in
    let n : Node = fits.2.1.0 in
    let used : is_used_inside (names_of (root_of p)) (Some n) ≡ false = ap (λ m. is_used_inside (names_of m) (Some n)) root ∙ fits.2.1.2 in
    let new : IsNewValue v (length steps) = new_value (length steps) v h (tree_unique v fits.2.0.0) fits.2.0.2 in
    record {
      node = n;
      there = ap (node_at steps) root ∙ fits.2.1.1;
      known = ap (λ (o : Option Document). o >>= λ d. node_at steps d.root) fits.1 ∙ fits.2.1.1;
      may = record { value_is = new; spared = (search (rules, not_used, used)) };
      near = near_keys v h fits.2.0.1;
      long = fits.2.0.1;
      deep = omega (arith, new.nested);
    }
