-- Entries that come into a mapping, by additions that each fit at their turn: all are in it afterwards.
use Rattle.std.proofs.Common.{◌≡◌, ◌≢◌, ℕ, suc, ◌+◌, ◌≤◌, Bool, true, false, cond, List, Option, Some, None, is_some, refl, sym, ap, ◌∙◌}
use Rattle.std.{proofs.Common.{subst, arith, rules}, proofs.lemmas.Option.{none-some, same_Some}, proofs.lemmas.Bool.cond-false}
use Rattle.yq_core.{specs.Paths.{Step, To, is_here, further, child_at, remove_child, append_child}, specs.Shapes.{AreEntries, IsNew}}
use Rattle.yq_core.specs.Tree.{Node, Children, none, child, key_label}
use Rattle.yq_documents.specs.TreeEdits.{replaced_node}
use Rattle.yq_semantics.{specs.Changes.{Addition, appends, overwrites, addition}, specs.Meaning.add_to, specs.Sizes.{items_in, items_among}}
use Rattle.yq_semantics.{proofs.PathLaws.{bytes_differ, bytes_refl}, proofs.sizes.RowSizes.under_anchor}
use Rattle.yq_semantics.{proofs.updates.AllowedChanges.{other_append, key_same, other_change}, proofs.updates.FitsInOrder.child_changed}
use Rattle.yq_core.specs.Tree as tree

-- items or entries have one of a key, with so many items and entries at least
abbrev pub HasEntry : Option (List ℕ) → Node → Children → Type 0
HasEntry None v cs = ⊥
HasEntry (Some k) v cs = (w : Node) × (child_at (To k) cs ≡ Some w) × (items_in v ≤ items_in w)

-- they have one for each of others
abbrev pub HaveEntries : Children → Children → Type 0
HaveEntries none cs = Unit {0}
HaveEntries (child label v ds) cs = HasEntry label.key v cs × HaveEntries ds cs

-- ---- what is found of another key

other_remove : (j k : List ℕ) (es : Children) → j ≢ k → child_at (To k) (remove_child (To j) es) ≡ child_at (To k) es
other_remove j k none d = refl
other_remove j k (child label n es) d = search (rules, key_same, bytes_differ, cond-false, other_remove j k es d)

-- ---- how many items and entries are in entries that all are there

removed_size : (s : Step) (cs : Children) (w : Node) → child_at s cs ≡ Some w → items_among cs ≡ suc (items_in w + items_among (remove_child s cs))
removed_size s none w h = absurd (none-some _ h)
removed_size s (child l m cs) w h = go (is_here s l) (λ e. removed_size (further s) cs w e) h
  where
    go : (here : Bool) → (child_at (further s) cs ≡ Some w → items_among cs ≡ suc (items_in w + items_among (remove_child (further s) cs))) → cond here (Some m) (child_at (further s) cs) ≡ Some w →
        suc (items_in m + items_among cs) ≡ suc (items_in w + items_among (cond here cs (child l m (remove_child (further s) cs))))
    go true inside e = let same : m ≡ w = same_Some m w e in rw same refl
    go false inside e = omega (arith, inside e)

-- another one that goes leaves those of new keys
still_there : (k : List ℕ) (ds cs : Children) → IsNew k ds → HaveEntries ds cs → HaveEntries ds (remove_child (To k) cs)
still_there k none cs new h = tt
still_there k (child label v ds) cs new h = (go label.key new.0 h.0, still_there k ds cs new.1 h.1)
  where
    go : (o : Option (List ℕ)) → o ≢ Some k → HasEntry o v cs → HasEntry o v (remove_child (To k) cs)
    go None d e = e
    go (Some j) d e = (e.0, other_remove k j cs (λ same. d (ap Some (sym same))) ∙ e.1, e.2)

pub entries_size : (ds cs : Children) → AreEntries ds → HaveEntries ds cs → items_among ds ≤ items_among cs
entries_size none cs entries h = omega arith
entries_size (child label v ds) cs entries h = go label.key entries.0.1 h.0 (λ k new. entries_size ds (remove_child (To k) cs) entries.1 (still_there k ds cs new h.1))
  where
    go : (o : Option (List ℕ)) → o ≡ Some entries.0.0 → HasEntry o v cs → ((k : List ℕ) → IsNew k ds → items_among ds ≤ items_among (remove_child (To k) cs)) → suc (items_in v + items_among ds) ≤ items_among cs
    go None is e rest = absurd e
    go (Some k) is e rest =
        let same : entries.0.0 ≡ k = sym (same_Some k entries.0.0 is) in
        omega (arith, rest k (subst (λ j. IsNew j ds) same entries.0.2), e.2, removed_size (To k) cs e.0 e.1)

-- ---- additions

-- an addition fits items or entries: an entry of its key is there, or none
abbrev pub Adds : Addition → Children → Type 0
Adds (appends None v) cs = Unit {0}
Adds (appends (Some k) v) cs = child_at (To k) cs ≡ None
Adds (overwrites k v) cs = (w : Node) × (child_at (To k) cs ≡ Some w)

found_appended : (k : List ℕ) (v : Node) (es : Children) → child_at (To k) es ≡ None → child_at (To k) (append_child (key_label (Some k)) v es) ≡ Some v
found_appended k v none h = ap (λ b. cond b (Some v) None) (bytes_refl k)
found_appended k v (child label n es) h = search (rules, none-some, found_appended k v es)

-- an entry is there after its addition
pub entry_comes : (cs : Children) (k : List ℕ) (v : Node) (es : Children) → Adds (addition cs (Some k) v) es → HasEntry (Some k) v (add_to (addition cs (Some k) v) es)
entry_comes cs k v es h = go (is_some (child_at (To k) cs)) h
  where
    go : (b : Bool) → Adds (cond b (overwrites k v) (appends (Some k) v)) es → HasEntry (Some k) v (add_to (cond b (overwrites k v) (appends (Some k) v)) es)
    go true e = (replaced_node v e.0, child_changed (To k) (replaced_node v) es e.0 e.1, omega (arith, under_anchor (tree.anchor_of e.0) v))
    go false e = (v, found_appended k v es e, omega arith)

-- and after that of another key
pub entry_stays : (cs : Children) (j : List ℕ) (u : Node) (k : List ℕ) (v : Node) (es : Children) → j ≢ k → HasEntry (Some k) v es → HasEntry (Some k) v (add_to (addition cs (Some j) u) es)
entry_stays cs j u k v es d h = go (is_some (child_at (To j) cs))
  where
    go : (b : Bool) → HasEntry (Some k) v (add_to (cond b (overwrites j u) (appends (Some j) u)) es)
    go true = (h.0, other_change j k (replaced_node u) es d ∙ h.1, h.2)
    go false = (h.0, other_append j k u es d ∙ h.1, h.2)
