-- What is written in flow style is a node that means its tree.
use Rattle.std.proofs.Common.{◌≡◌, ℕ, zero, suc, ◌-◌, ◌≤◌, Bool, true, false, not, ◌||◌, eqb, List, [], ◌∷◌, ◌++◌, drop, Option, Some, None}
use Rattle.std.{proofs.Common.{refl, ap, inl, arith, eq-eqb, ⊎_elim, rules}, proofs.Math.Nat.{le-max_left, le-max_right}}
use Rattle.std.{proofs.lemmas.Bool.{or_cases, or_right}, specs.Str.IsUtf8}
use Rattle.yq_core.{specs.Keys.{depth, deepest}, specs.Piece.further_spaces, specs.Plain.{ends_plain, begins_plain}}
use Rattle.yq_core.{specs.Scalar.{ScalarText, string_of}, specs.Text.is_space, specs.Tree.key_label}
use Rattle.yq_core.{specs.Writable.{can_write_plain, in_flow}, specs.declared.gap.GapPlace.TheVariants.{Token, White}}
use Rattle.yq_core.{specs.Gaps.{IsInlineGap, stops}, specs.Inline.depth_limit}
use Rattle.yq_core.specs.Nodes.{key_text, sep_text, node_text, flow_items_text, begins_with, begins_content, is_empty_node, is_keyed}
use Rattle.yq_core.{specs.Nodes.{IsInlineKey, IsSep, IsFlowNode, AreFlowItems}, specs.Scalars.{is_quoted, begins_scalar, IsScalarAt}}
use Rattle.yq_core.specs.Trees.{scalar_node, key_content, tree_of, items_tree}
use Rattle.yq_core.{specs.NodesWritten.{scalar_text, flow_key, flow_sep, flow_of, flow_items, flow_text}, proofs.GapLaws.none_gap}
use Rattle.yq_core.{proofs.NodesPieceLaws.{front_is, front_not, no_space, scalar_begins}, proofs.NodesWrittenLaws.node_then}
use Rattle.yq_flow_edits.specs.Valued.{IsValid, IsLabel, IsValueTree, AreValueTrees, Spells}
use Rattle.yq_flow_edits.proofs.SpelledScalars.{IsWritten, written_by}
use Rattle.yq_core.specs.declared.style.Place.TheVariants as places
use Rattle.yq_core.specs.Tree as tree

-- where a content begins there is no white space, no break and no comment
begins_here : (k : ℕ) (t : List ℕ) → ((bs : List ℕ) → is_space (k ∷ bs) ≡ false) → begins_with k t ≡ true → is_space t ≡ false
begins_here k t never h = rw (front_is k t h) (never (drop 1 t))

no_gap : (t : List ℕ) → begins_content true t ≡ true → is_space t ≡ false
no_gap [] h = refl
no_gap (b ∷ t) h = ⊎_elim (begins_here 42 (b ∷ t) (λ bs. refl))
    (λ h. ⊎_elim (begins_here 91 (b ∷ t) (λ bs. refl))
    (λ h. ⊎_elim (begins_here 123 (b ∷ t) (λ bs. refl))
    (λ h. ⊎_elim
    (λ h. ⊎_elim (begins_here 34 (b ∷ t) (λ bs. refl)) (begins_here 39 (b ∷ t) (λ bs. refl)) (or_cases (eqb b 34) (eqb b 39) h))
    (no_space true b t)
    (or_cases (is_quoted (b ∷ t)) (begins_plain true (b ∷ t)) h))
    (or_cases (begins_with 123 (b ∷ t)) (begins_scalar true (b ∷ t)) h))
    (or_cases (begins_with 91 (b ∷ t)) (begins_with 123 (b ∷ t) || begins_scalar true (b ∷ t)) h))
    (or_cases (begins_with 42 (b ∷ t)) (begins_with 91 (b ∷ t) || (begins_with 123 (b ∷ t) || begins_scalar true (b ∷ t))) h)

no_token_gap : (t : List ℕ) → is_space t ≡ false → stops Token t ≡ true
no_token_gap t h = search rules

no_white_gap : (t : List ℕ) → begins_content true t ≡ true → stops White t ≡ true
no_white_gap t h = search (rules, no_gap, front_not)

-- a space before a content is a gap
space_gap : (t : List ℕ) → begins_content true t ≡ true → IsInlineGap (32 ∷ []) t
space_gap t h = record { inside = (refl, tt); ends = no_white_gap t h; unmarked = refl }

content_gap : (t : List ℕ) → begins_content true t ≡ true → IsInlineGap [] t
content_gap t h = none_gap t (no_token_gap t (no_gap t h))

scalar_content : (t : List ℕ) → begins_scalar true t ≡ true → begins_content true t ≡ true
scalar_content t h = simp (or_right)

-- scalars and keys as they are written
flow_scalar : (s : ScalarText) → IsValid s → IsWritten s (scalar_text s places.Flow)
unfolding scalar_text
flow_scalar s v = written_by s (can_write_plain s true) refl v

flow_key_text : (s : ScalarText) → IsValid s → IsWritten s (scalar_text s places.FlowKey)
unfolding scalar_text
flow_key_text s v = written_by s (can_write_plain s true) refl v

-- what the labels of items or entries with this closing bracket give
pub record Fits (k : ℕ) (keyed : Bool) : Type 0 where
  pub key : (label : tree.Label) → IsLabel keyed label → (t : List ℕ) → begins_content true t ≡ true → IsInlineKey k (flow_key label.key) t × (begins_content true (key_text (flow_key label.key) t) ≡ true)
  pub same : (label : tree.Label) → IsLabel keyed label → key_label (key_content (flow_key label.key)) ≡ label
  pub ends : (l : List ℕ) → ends_plain true (Some 0) (k ∷ l) ≡ true
  pub apart : (l : List ℕ) → is_space (k ∷ l) ≡ false

pub items_fit : Fits 93 false
items_fit = search rules

entry_key : (k : List ℕ) → IsUtf8 k → (t : List ℕ) → begins_content true t ≡ true → IsInlineKey 125 (flow_key (Some k)) t × (begins_content true (key_text (flow_key (Some k)) t) ≡ true)
entry_key k u t h =
    let w = flow_key_text (string_of k) (record { kind = tt; utf8 = u }) in
    let p : List ℕ = scalar_text (string_of k) places.FlowKey in
    let is : IsScalarAt true None p (58 ∷ 32 ∷ t) = w.piece true None (58 ∷ 32 ∷ t) refl in
    ((refl, is, none_gap (58 ∷ 32 ∷ t) refl, or_right (is_quoted p) true refl, inl (space_gap t h, or_right (begins_with 38 t) (begins_content true t) h)), scalar_content (p ++ 58 ∷ 32 ∷ t) (scalar_begins true None p (58 ∷ 32 ∷ t) is))

entry_same : (k : List ℕ) → IsUtf8 k → key_label (key_content (flow_key (Some k))) ≡ key_label (Some k)
entry_same k u = ap (λ (c : List ℕ). key_label (Some c)) (flow_key_text (string_of k) (record { kind = tt; utf8 = u })).content

pub entries_fit : Fits 125 true
entries_fit = search (rules, entry_key, entry_same)

-- nodes as they are written
pub no_bare : (v : tree.Node) → IsValueTree v → is_empty_node (flow_of v) ≡ false
unfolding flow_of
no_bare (tree.alias n) h = absurd h
no_bare _ h = refl

pub node_begins : (v : tree.Node) (rest : List ℕ) → IsValueTree v → ends_plain true (Some 0) rest ≡ true → begins_content true (node_text (flow_of v) rest) ≡ true
unfolding flow_of node_text
node_begins (tree.alias n) rest h ends = absurd h
node_begins (tree.scalar a kind t) rest h ends =
    let s : ScalarText = record { kind = kind; text = t } in
    let p : List ℕ = scalar_text s places.Flow in
    scalar_content (p ++ rest) (scalar_begins true (Some 0) p rest ((flow_scalar s h.1).piece true (Some 0) rest ends))
node_begins _ rest h ends = refl

sep_ends : (k : ℕ) (keyed : Bool) → Fits k keyed → (cs : tree.Children) (rest : List ℕ) → ends_plain true (Some 0) (sep_text (flow_sep cs) (flow_items_text k (flow_items cs) rest)) ≡ true
unfolding flow_items_text flow_items
sep_ends k keyed fits cs rest = search (rules, fits.ends)

items_gap : (k : ℕ) (keyed : Bool) → Fits k keyed → (cs : tree.Children) (rest : List ℕ) → AreValueTrees keyed cs → IsInlineGap [] (flow_items_text k (flow_items cs) rest)
unfolding flow_items_text flow_items
items_gap k keyed fits tree.none rest h = none_gap (k ∷ rest) (no_token_gap (k ∷ rest) (fits.apart rest))
items_gap k keyed fits (tree.child label n cs) rest h = content_gap _ (search (rules, node_begins, sep_ends))

sep_is : (k : ℕ) (keyed : Bool) → Fits k keyed → (cs : tree.Children) (rest : List ℕ) → AreValueTrees keyed cs → IsSep k (flow_sep cs) (flow_items_text k (flow_items cs) rest)
unfolding flow_items_text flow_items
sep_is k keyed fits tree.none rest h = (none_gap (k ∷ rest) (no_token_gap (k ∷ rest) (fits.apart rest)), eq-eqb k k refl)
sep_is k keyed fits (tree.child label n cs) rest h = (none_gap _ refl, space_gap _ (search (rules, node_begins, sep_ends)))

mutual
  unfolding IsFlowNode AreFlowItems flow_of flow_items node_text flow_items_text

  pub written_node : (v : tree.Node) (flow : Bool) (spaces : Option ℕ) (d : ℕ) (rest : List ℕ) → IsValueTree v → depth v ≤ d → ends_plain flow spaces rest ≡ true → IsFlowNode flow spaces d (flow_of v) rest
  written_node (tree.alias n) flow spaces d rest h deep ends = absurd h
  written_node (tree.scalar a kind t) flow spaces d rest h deep ends = (flow_scalar (record { kind = kind; text = t }) h.1).piece flow spaces rest ends
  written_node (tree.list a cs) flow spaces zero rest h deep ends = absurd (omega (arith, deep))
  written_node (tree.list a cs) flow spaces (suc d) rest h deep ends =
      (refl, items_gap 93 false items_fit cs rest h.1, written_items 93 false items_fit cs d rest h.1 (omega (arith, deep)))
  written_node (tree.map a cs) flow spaces zero rest h deep ends = absurd (omega (arith, deep))
  written_node (tree.map a cs) flow spaces (suc d) rest h deep ends =
      (refl, items_gap 125 true entries_fit cs rest h.1, written_items 125 true entries_fit cs d rest h.1 (omega (arith, deep)))

  written_items : (k : ℕ) (keyed : Bool) → Fits k keyed → (cs : tree.Children) (d : ℕ) (rest : List ℕ) → AreValueTrees keyed cs → deepest cs ≤ d → AreFlowItems d k (flow_items cs) rest
  written_items k keyed fits tree.none d rest h deep = tt
  written_items k keyed fits (tree.child label n cs) d rest h deep =
      let after : List ℕ = sep_text (flow_sep cs) (flow_items_text k (flow_items cs) rest) in
      let ends = sep_ends k keyed fits cs rest in (
        (fits.key label h.0 (node_text (flow_of n) after) (node_begins n after h.1 ends)).0,
        or_right (is_keyed (flow_key label.key)) (not (is_empty_node (flow_of n))) (rw (no_bare n h.1) refl),
        written_node n true (Some 0) d after h.1 (omega (arith, deep, le-max_left (depth n) (deepest cs))) ends,
        sep_is k keyed fits cs rest h.2,
        written_items k keyed fits cs d rest h.2 (omega (arith, deep, le-max_right (depth n) (deepest cs))),
      )

mutual
  unfolding flow_of flow_items tree_of items_tree

  pub written_tree : (v : tree.Node) → IsValueTree v → tree_of (flow_of v) ≡ v
  written_tree (tree.alias n) h = absurd h
  written_tree (tree.scalar a kind t) h = rw h.0 (ap scalar_node (flow_scalar (record { kind = kind; text = t }) h.1).scalar)
  written_tree (tree.list a cs) h = rw h.0 (ap (tree.list None) (written_children 93 false items_fit cs h.1))
  written_tree (tree.map a cs) h = rw h.0 (ap (tree.map None) (written_children 125 true entries_fit cs h.1))

  written_children : (k : ℕ) (keyed : Bool) → Fits k keyed → (cs : tree.Children) → AreValueTrees keyed cs → items_tree (flow_items cs) ≡ cs
  written_children k keyed fits tree.none h = refl
  written_children k keyed fits (tree.child label n cs) h = λ i. tree.child (fits.same label h.0 i) (written_tree n h.1 i) (written_children k keyed fits cs h.2 i)

-- the flow text of a value's tree spells it
pub flow_spells : (v : tree.Node) → IsValueTree v → Spells v (flow_text v)
flow_spells v h = record {
  node = flow_of v;
  written = λ rest. node_then (flow_of v) rest;
  is_located = λ place n around rest deep ends. record {
    valid = written_node v (in_flow place) (further_spaces place n) (depth_limit - around) rest h (omega (arith, deep)) ends;
    something = rw (no_bare v h) refl;
  };
  same = written_tree v h;
}
