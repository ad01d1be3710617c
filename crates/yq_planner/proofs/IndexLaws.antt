-- Maps by texts: one entry or alias more.
use Rattle.std.proofs.lemmas.Bool.{cases_Bool, false≢true}
use Rattle.std.proofs.Common.{◌≡◌, ℕ, Bool, false, ◌||◌, cond, List, Option, Some, is_some, option_map, sym, ap, ◌∙◌, bytes_eq, rules}
use Rattle.std.{proofs.lemmas.Map.Text.btree_map_updates_str, proofs.lemmas.Slice.Eq.bytes_eq-Decides, specs.BTreeMap.BTreeMap}
use Rattle.std.{specs.Map.lookup, specs.Borrow.Bor, specs.Cmp.Lexicographic.slice_cmp, specs.List.list_any, specs.Ordering.nat_cmp}
use Rattle.yq_core.{specs.Tree.{Label, Node}, specs.Anchors.{Name, names_of}}
use Rattle.yq_outline.proofs.BoundLaws.{equal_back}
use Rattle.yq_semantics.specs.Changes.{refers_to}
use Rattle.yq_planner.{specs.EntryNumbers.number_kept, specs.Indexes.{get_text, HasAliases, kept_first}}
use Rattle.std.specs.BTreeMap as maps
use Rattle.yq_core.specs.Tree as tree

-- that a map has a value more, as `insert` says it
abbrev pub Puts : {X : Type 0} → BTreeMap (Bor (List ℕ)) X → BTreeMap (Bor (List ℕ)) X → List ℕ → X → Type 0
Puts m n a v = maps.UpdatesBy (λ x y. slice_cmp nat_cmp x.now y.now) (λ k. slice_cmp nat_cmp a k.now) m n (Some v)

-- what such a map has for a text
pub put_text : {X : Type 0} (m n : BTreeMap (Bor (List ℕ)) X) (a : List ℕ) (v : X) → Puts m n a v → (k : List ℕ) → get_text k n ≡ cond (bytes_eq a k) (Some v) (get_text k m)
put_text m n a v h k = btree_map_updates_str a m n (Some v) h k

-- ---- entries

-- the entry of a key for which there is none is kept
pub new_kept : (a k : List ℕ) (f : List ℕ → Option Node) (label : Label) (n : Node) → label.key ≡ Some a → is_some (f a) ≡ false → cond (bytes_eq a k) (Some n) (f k) ≡ kept_first k (f k) label n
new_kept a k f label n h absent = search (rules, bytes_eq, false≢true, bytes_eq-Decides, cases_Bool)

-- ---- aliases

-- one more alias
pub alias_put : {X : Type 0} (a k : List ℕ) (v : X) (o : Option X) (n : Node) → n ≡ tree.alias a → is_some (cond (bytes_eq a k) (Some v) o) ≡ (is_some o || list_any (refers_to k) (names_of n))
alias_put {X} a k v o n is = search (rules, bytes_eq, equal_back, false≢true)

-- an empty map has no alias
pub no_aliases : {X : Type 0} (names : List Name) (m : BTreeMap (Bor (List ℕ)) X) → maps.IsEmpty m → HasAliases names m → (k : List ℕ) → list_any (refers_to k) names ≡ false
no_aliases names m empty h k = sym (h k) ∙ ap (λ es. is_some (lookup (maps.is_at (λ j. slice_cmp nat_cmp k j.now)) es)) empty

-- and is that of names without aliases
pub without_aliases : {X : Type 0} (names : List Name) (m : BTreeMap (Bor (List ℕ)) X) → maps.IsEmpty m → ((k : List ℕ) → list_any (refers_to k) names ≡ false) → HasAliases names m
without_aliases names m empty none k = ap (λ es. is_some (lookup (maps.is_at (λ j. slice_cmp nat_cmp k j.now)) es)) empty ∙ sym (none k)

-- a view of a value, if one is put
pub map_put : {A B : Type 0} (f : A → B) (b : Bool) (v : A) (o : Option A) → option_map f (cond b (Some v) o) ≡ cond b (Some (f v)) (option_map f o)
map_put f b v o = search rules

-- no value has no view
pub map_none : {A B : Type 0} (f : A → B) (o : Option A) → is_some o ≡ false → is_some (option_map f o) ≡ false
map_none f o h = search rules

-- the number of an entry whose key has none is kept
pub new_number : (a k : List ℕ) (f : List ℕ → Option ℕ) (n : ℕ) → is_some (f a) ≡ false → cond (bytes_eq a k) (Some n) (f k) ≡ number_kept k (f k) a n
new_number a k f n absent = search (rules, bytes_eq, false≢true, bytes_eq-Decides, cases_Bool)
