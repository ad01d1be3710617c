-- What is written in block style is made of the characters of a text.
use Rattle.std.proofs.Common.{◌≡◌, ℕ, zero, suc, Bool, true, false, List, [], ◌∷◌, ◌++◌, Option, Some, None, refl, sym, subst, append-nil}
use Rattle.std.{proofs.Common.{replicate, rules}, proofs.lemmas.Bool.{and_from, and_parts}, proofs.lemmas.List.Folds.list_all-append}
use Rattle.std.{proofs.lemmas.Str.{chars-append, IsUtf8-append, IsUtf8-nil}, specs.List.list_all, specs.Str.{chars, IsUtf8}}
use lib.Utf8.{encode}
use Rattle.yq_core.{specs.declared.block_types.Break.Break, specs.BlockWritten.break_text}
use Rattle.yq_core.{specs.Characters.{is_text, is_text_char, pairs_returns}, specs.Tree.Children, specs.Nodes.node_text}
use Rattle.yq_flow_edits.specs.Valued.{IsLabel, IsValueTree, AreValueTrees}
use Rattle.yq_row_table.proofs.CharacterLaws.{pairs_join}
use Rattle.yq_edit_rules.specs.BlockRows.{block_key, column_below, inline_of}
use Rattle.yq_edit_rules.specs.BlockText.{block_children, block_entry, block_node, then_lines, block_value, inline_or}
use Rattle.yq_edit_rules.{specs.declared.layout.Layout.Layout, proofs.ScalarLaws.{key_spelled, scalar_spelled}}
use Rattle.yq_core.specs.declared.block_types.Break.TheVariants as breaks
use Rattle.yq_core.specs.Tree as tree
use Rattle.yq_core.specs.Nodes as inline

-- whole characters of a text
abbrev pub IsUtf8Text : List ℕ → Type 0
IsUtf8Text t = IsUtf8 t × (is_text t ≡ true)

pub sound_join : (a b : List ℕ) → IsUtf8Text a → IsUtf8Text b → IsUtf8Text (a ++ b)
sound_join a b h k =
    let p = and_parts (list_all is_text_char (chars a)) (pairs_returns a) h.1 in
    let q = and_parts (list_all is_text_char (chars b)) (pairs_returns b) k.1 in
    let all : list_all is_text_char (chars (a ++ b)) ≡ true = search (rules, chars-append, list_all-append, and_from, p, q) in
    (IsUtf8-append a b h.0 k.0, and_from _ _ all (pairs_join a b p.1 q.1))

sound_none : IsUtf8Text []
unfolding chars pairs_returns encode
sound_none = (IsUtf8-nil, refl)

-- a byte of one character
byte_sound : (b : ℕ) → b ≡ 32 → IsUtf8Text (b ∷ [])
unfolding chars pairs_returns encode
byte_sound b e = rw e ((32 ∷ [], (refl, refl)), refl)

spaces_sound : (n : ℕ) → IsUtf8Text (replicate n 32)
spaces_sound zero = sound_none
spaces_sound (suc n) = sound_join (32 ∷ []) (replicate n 32) (byte_sound 32 refl) (spaces_sound n)

pub break_sound : (br : Break) → IsUtf8Text (break_text br)
unfolding chars pairs_returns encode
break_sound breaks.Lf = ((10 ∷ [], (refl, refl)), refl)
break_sound breaks.CrLf = ((13 ∷ 10 ∷ [], (refl, refl)), refl)

dash_sound : IsUtf8Text (45 ∷ 32 ∷ [])
unfolding chars pairs_returns encode
dash_sound = ((45 ∷ 32 ∷ [], (refl, refl)), refl)

space_sound : IsUtf8Text (58 ∷ 32 ∷ [])
unfolding chars pairs_returns encode
space_sound = ((58 ∷ 32 ∷ [], (refl, refl)), refl)

list_sound : IsUtf8Text (91 ∷ 93 ∷ [])
unfolding chars pairs_returns encode
list_sound = ((91 ∷ 93 ∷ [], (refl, refl)), refl)

map_sound : IsUtf8Text (123 ∷ 125 ∷ [])
unfolding chars pairs_returns encode
map_sound = ((123 ∷ 125 ∷ [], (refl, refl)), refl)

-- scalars and empty collections
abbrev Sounds : Option inline.FlowNode → Type 0
Sounds None = Unit {0}
Sounds (Some node) = IsUtf8Text (node_text node [])

head_sound : (v : tree.Node) → IsValueTree v → Sounds (inline_of v)
unfolding inline.node_text inline.flow_items_text
head_sound (tree.alias name) h = absurd h
head_sound (tree.scalar a kind t) h = let w = scalar_spelled (record { kind = kind; text = t }) h.1 in subst IsUtf8Text (sym (append-nil _)) (w.utf8, w.text)
head_sound (tree.list a tree.none) h = list_sound
head_sound (tree.map a tree.none) h = map_sound
head_sound _ h = tt

-- an entry or item
key_sound : (k : List ℕ) → IsUtf8 k → IsUtf8Text (block_key k)
key_sound k u = let w = key_spelled k u in (w.utf8, w.text)

entry_sound : (l : Layout) (below : ℕ) (keyed : Bool) (label : tree.Label) (node : Option inline.FlowNode) (t : List ℕ) → IsLabel keyed label → Sounds node → IsUtf8Text t → IsUtf8Text (block_entry l below label.key node t)
unfolding chars pairs_returns encode
entry_sound l below true label (Some node) t is h s =
    subst (λ (x : tree.Label). IsUtf8Text (block_entry l below x.key (Some node) t)) (sym is.1)
    (sound_join (block_key is.0) (58 ∷ 32 ∷ node_text node []) (key_sound is.0 is.2) (sound_join (58 ∷ 32 ∷ []) (node_text node []) space_sound h))
entry_sound l below true label None t is h s =
    subst (λ (x : tree.Label). IsUtf8Text (block_entry l below x.key None t)) (sym is.1)
    (sound_join (block_key is.0) (58 ∷ (break_text l.br ++ (replicate below 32 ++ t))) (key_sound is.0 is.2)
    (sound_join (58 ∷ []) (break_text l.br ++ (replicate below 32 ++ t)) (((58 ∷ [], (refl, refl)), refl))
    (sound_join (break_text l.br) (replicate below 32 ++ t) (break_sound l.br) (sound_join (replicate below 32) t (spaces_sound below) s))))
entry_sound l below false label (Some node) t is h s = subst (λ (x : tree.Label). IsUtf8Text (block_entry l below x.key (Some node) t)) (sym is) (sound_join (45 ∷ 32 ∷ []) (node_text node []) dash_sound h)
entry_sound l below false label None t is h s = subst (λ (x : tree.Label). IsUtf8Text (block_entry l below x.key None t)) (sym is) (sound_join (45 ∷ 32 ∷ []) t dash_sound s)

then_sound : (l : Layout) (column : ℕ) (cs : Children) (t : List ℕ) → IsUtf8Text t → IsUtf8Text (then_lines l column cs t)
then_sound l column tree.none t h = sound_none
then_sound l column (tree.child label n cs) t h = sound_join (break_text l.br) (replicate column 32 ++ t) (break_sound l.br) (sound_join (replicate column 32) t (spaces_sound column) h)

mutual
  unfolding block_node block_children

  node_sound : (n : tree.Node) (l : Layout) (column : ℕ) → IsValueTree n → IsUtf8Text (block_node l column n)
  node_sound (tree.alias name) l column h = sound_none
  node_sound (tree.scalar a kind t) l column h = sound_none
  node_sound (tree.list a cs) l column h = children_sound cs l column false h.1
  node_sound (tree.map a cs) l column h = children_sound cs l column true h.1

  children_sound : (cs : Children) (l : Layout) (column : ℕ) (keyed : Bool) → AreValueTrees keyed cs → IsUtf8Text (block_children l column cs)
  children_sound tree.none l column keyed h = sound_none
  children_sound (tree.child label n cs) l column keyed h =
      let below : ℕ = column_below l column label.key n in
      sound_join _ (then_lines l column cs (block_children l column cs))
      (entry_sound l below keyed label (inline_of n) (block_node l below n) h.0 (head_sound n h.1) (node_sound n l below h.1))
      (then_sound l column cs (block_children l column cs) (children_sound cs l column keyed h.2))

inline_sound : (v : tree.Node) (l : Layout) (column : ℕ) → IsValueTree v → (node : Option inline.FlowNode) → Sounds node → IsUtf8Text (inline_or node (block_node l column v))
inline_sound v l column h None s = node_sound v l column h
inline_sound v l column h (Some node) s = s

pub value_sound : (v : tree.Node) (l : Layout) (column : ℕ) → IsValueTree v → IsUtf8Text (block_value l column v)
value_sound v l column h = inline_sound v l column h (inline_of v) (head_sound v h)
