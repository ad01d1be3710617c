-- The node that lines mean is a tree.
use Rattle.std.proofs.Common.{◌≡◌, ◌≢◌, ℕ, zero, suc, ◌+◌, ◌*◌, List, [], ◌∷◌, ◌++◌, Option, Some, None, refl, sym, ap, ◌∙◌, subst, arith}
use Rattle.std.{proofs.Common.rules, proofs.lemmas.Option.same_Some, specs.List.All}
use Rattle.yq_core.specs.Keys.{keys_of, AreDistinct, HasUniqueKeys, EachHasUniqueKeys}
use Rattle.yq_core.specs.Shapes.{IsNew, AreItems, AreKeyed, AreEntries as HaveNewKeys, IsTree, AreTrees, IsShaped, AreShaped}
use Rattle.yq_core.{specs.Tree.{Node, alias, scalar, list, map, Children, none, child}, specs.Text.with_first}
use Rattle.yq_outline.specs.Outline.{LineMark, Bare, Key, Dash, rank, Line, level, anchored, key_of}
use Rattle.yq_outline.specs.Grammar.{IsNodeOutline, alone, mapping, sequence, AreEntryLines, no_more, entry, IsUnder, headed, missing}
use Rattle.yq_outline.{specs.Grammar.deeper_lines, specs.ShapedLines.{HeadIsShaped, HeadsAreShaped}}

-- ---- items and keys

anchored_shaped : (a : Option (List ℕ)) (n : Node) → IsShaped n → IsShaped (anchored a n)
anchored_shaped a n h1 = search rules

front_shaped : (ls ms : List Line) → HeadsAreShaped (ls ++ ms) → HeadsAreShaped ls
front_shaped [] ms h = tt
front_shaped (l ∷ ls) ms h = (h.0, front_shaped ls ms h.1)

back_shaped : (ls ms : List Line) → HeadsAreShaped (ls ++ ms) → HeadsAreShaped ms
back_shaped [] ms h = h
back_shaped (l ∷ ls) ms h = back_shaped ls ms h.1

-- the rank of a key: what is at its level has one too
is_key : (m : LineMark) → (m ≡ Bare → ⊥) → (b c : ℕ) → 3 * b + rank m ≡ 3 * c + 2 → (k : List ℕ) × (key_of m ≡ Some k)
is_key Bare some b c e = absurd (some refl)
is_key (Key k) some b c e = (k, refl)
is_key Dash some b c e = absurd (omega (arith, e))

-- the rank of a dash: what is at its level has no key
is_item : (m : LineMark) → (m ≡ Bare → ⊥) → (b c : ℕ) → 3 * b + rank m ≡ 3 * c + 3 → key_of m ≡ None
is_item m h1 b c h2 = search rules

all_keyed : {n : ℕ} {ls : List Line} {cs : Children} (c : ℕ) → n ≡ 3 * c + 2 → AreEntryLines n ls cs → AreKeyed cs
unfolding level
all_keyed c e no_more = tt
all_keyed c e (entry {n} {l} {under} {after} {all} {v} {cs} lev mark u es is) = (is_key l.mark mark l.column c (lev ∙ e), all_keyed c e es)

all_items : {n : ℕ} {ls : List Line} {cs : Children} (c : ℕ) → n ≡ 3 * c + 3 → AreEntryLines n ls cs → AreItems cs
unfolding level
all_items c e no_more = tt
all_items c e (entry {n} {l} {under} {after} {all} {v} {cs} lev mark u es is) = (is_item l.mark mark l.column c (lev ∙ e), all_items c e es)

-- the level of the first line
first_level : {n : ℕ} {l : Line} {ls : List Line} {cs : Children} → AreEntryLines n (l ∷ ls) cs → level l ≡ n
first_level (entry lev mark u es is) = lev

mutual
  unfolding level

  node_shaped : {n : ℕ} {ls : List Line} {v : Node} → IsNodeOutline n ls v → HeadsAreShaped ls → IsShaped v
  node_shaped (alone {n} {l} {v} lev bare head) h = anchored_shaped l.anchor v (subst HeadIsShaped head h.0)
  node_shaped (mapping {n} {l} {k} {ls} {cs} mark es) h =
      (all_keyed l.column (sym (first_level es) ∙ ap (λ m. 3 * l.column + rank m) mark) es, entries_shaped es h)
  node_shaped (sequence {n} {l} {ls} {cs} mark es) h =
      (all_items l.column (sym (first_level es) ∙ ap (λ m. 3 * l.column + rank m) mark) es, entries_shaped es h)

  entries_shaped : {n : ℕ} {ls : List Line} {cs : Children} → AreEntryLines n ls cs → HeadsAreShaped ls → AreShaped cs
  entries_shaped no_more h = tt
  entries_shaped (entry {n} {l} {under} {after} {all} {v} {cs} lev mark u es is) h =
      let rest = subst HeadsAreShaped is h.1 in
      (anchored_shaped l.anchor v (under_shaped u h.0 (front_shaped under after rest)), entries_shaped es (back_shaped under after rest))

  under_shaped : {l : Line} {ls : List Line} {v : Node} → IsUnder l ls v → HeadIsShaped l.head → HeadsAreShaped ls → IsShaped v
  under_shaped (headed {l} {v} head) h hs = subst HeadIsShaped head h
  under_shaped (missing {l} head) h hs = tt
  under_shaped (deeper_lines {l} {n} {ls} {v} head lt d) h hs = node_shaped d hs

pub shaped_by_lines : (n : ℕ) (ls : List Line) (node : Node) → IsNodeOutline n ls node → HeadsAreShaped ls → IsShaped node
shaped_by_lines n ls node d h = node_shaped d h

-- ---- keys that differ

new_key : (k : List ℕ) (cs : Children) → AreKeyed cs → All (λ b. k ≢ b) (keys_of cs) → IsNew k cs
new_key k none keyed h = tt
new_key k (child lbl n cs) keyed h =
    let j = keyed.0.0 in
    let all : All (λ b. k ≢ b) (j ∷ keys_of cs) = subst (λ o. All (λ b. k ≢ b) (with_first o (keys_of cs))) keyed.0.1 h in
    ((λ e. all zero [] (omega arith) (sym (same_Some _ _ (sym keyed.0.1 ∙ e)))), new_key k cs keyed.1 (λ i d within. all (suc i) d (omega arith)))

new_keys : (cs : Children) → AreKeyed cs → AreDistinct (keys_of cs) → HaveNewKeys cs
new_keys none keyed h = tt
new_keys (child lbl n cs) keyed h =
    let k = keyed.0.0 in
    let all : AreDistinct (k ∷ keys_of cs) = subst (λ o. AreDistinct (with_first o (keys_of cs))) keyed.0.1 h in
    ((k, keyed.0.1, new_key k cs keyed.1 (λ j d within. all zero (suc j) d (omega arith) (omega arith))), new_keys cs keyed.1 (λ i j d lt within. all (suc i) (suc j) d (omega arith) (omega arith)))

mutual
  pub shaped_is_tree : (n : Node) → IsShaped n → HasUniqueKeys n → IsTree n
  shaped_is_tree (alias name) h u = tt
  shaped_is_tree (scalar anchor kind text) h u = tt
  shaped_is_tree (list anchor cs) h u = (h.0, shaped_are_trees cs h.1 u)
  shaped_is_tree (map anchor cs) h u = (new_keys cs h.0 u.0, shaped_are_trees cs h.1 u.1)

  shaped_are_trees : (cs : Children) → AreShaped cs → EachHasUniqueKeys cs → AreTrees cs
  shaped_are_trees none h u = tt
  shaped_are_trees (child lbl n cs) h u = (shaped_is_tree n h.0 u.0, shaped_are_trees cs h.1 u.1)
