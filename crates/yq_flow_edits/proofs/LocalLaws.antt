-- Items of one collection, edited.
use Rattle.std.proofs.Common.{◌≡◌, inl, ℕ, true, false, not, ◌&&◌, ◌||◌, eqb, cond, List, [], ◌∷◌, ◌++◌, Some, None, refl, sym, ap, ◌∙◌}
use Rattle.std.{proofs.Common.{subst, append_assoc, Bool, rules}, proofs.Math.Bool.{and-false, or-true}}
use Rattle.std.proofs.lemmas.Bool.{false≢true, or_from}
use Rattle.yq_core.{specs.Plain.is_safe, specs.Scalars.is_quoted, specs.Text.{front, is_feed, is_marker, is_empty}}
use Rattle.yq_core.{specs.declared.gap.GapPlace.GapPlace, specs.declared.gap.GapPlace.TheVariants.{Token, Comment}}
use Rattle.yq_core.specs.Alike.{Alike, colon, any_colon, EndsItem}
use Rattle.yq_core.specs.Gaps.{gap_place_after, at_line_start as at_break, stops, IsInlineGap}
use Rattle.yq_core.specs.Nodes.{Key, bare, keyed, FlowNode, empty, alias, scalar, coll, anchored, key_text, node_text, begins_with}
use Rattle.yq_core.specs.Nodes.{begins_content, begins_node, is_close, IsName, IsInlineKey, is_empty_node, is_keyed, IsFlowNode}
use Rattle.yq_core.{specs.Nodes.{takes_anchor, without_anchor}, specs.Trees.{tree_collection, with_name, key_content, tree_of}}
use Rattle.yq_core.{proofs.Alikes.{no_first, alike_append}, proofs.AlikePieces.{scalar_alike, gap_alike, name_by}}
use Rattle.yq_core.{proofs.EndLaws.{ends_safe, node_no_space}, proofs.GapLaws.none_gap}
use Rattle.yq_core.{proofs.KeepLaws.{go_front, some_begins, taken_begins}, proofs.KeyKeeps.{lead_gap, lead_none, key_front}}
use Rattle.yq_core.{proofs.NodesPieceLaws.front_not, proofs.NodesWrittenLaws.{node_then, key_append}, specs.Tree.anchor_of}
use Rattle.yq_flow_edits.specs.FlowEdits.{Becomes, space_for, put_content, put_value, FitsNode}
use Rattle.yq_core.specs.Tree as tree

-- gaps before what begins a node
pub node_no_feed : (t : List ℕ) → begins_node true t ≡ true → front is_feed t ≡ false
node_no_feed t h = search (rules, front_not)

pub node_stops : (s : GapPlace) (x y : List ℕ) → begins_node true x ≡ true → begins_node true y ≡ true → stops s x ≡ true → stops s y ≡ true
node_stops s [] y bx by h = absurd (false≢true bx)
node_stops s (a ∷ x) [] bx by h = refl
node_stops Token (a ∷ x) (b ∷ y) bx by h = rw (node_no_space b y by) refl
node_stops Comment (a ∷ x) (b ∷ y) bx by h = absurd (false≢true h)
node_stops _ (a ∷ x) (b ∷ y) bx by h = rw (node_no_space b y by, front_not (begins_node true) 35 (λ cs. refl) (b ∷ y) by) refl

pub gap_new : (g x y : List ℕ) → begins_node true x ≡ true → begins_node true y ≡ true → (at_break (gap_place_after Token g) && is_marker y) ≡ false → IsInlineGap g x → IsInlineGap g y
gap_new g x y bx by m h = search (rules, go_front, node_no_feed, node_stops)

pub space_before : (y : List ℕ) → begins_node true y ≡ true → IsInlineGap (32 ∷ []) y
space_before y by = search (rules, node_no_space, front_not)

pub no_gap_before : (y : List ℕ) → begins_node true y ≡ true → IsInlineGap [] y
no_gap_before y by = search (rules, none_gap, node_no_space)

unmarked_gap : (g y : List ℕ) → is_marker y ≡ false → (at_break (gap_place_after Token g) && is_marker y) ≡ false
unmarked_gap g y m = rw m (and-false (at_break (gap_place_after Token g)))

-- What becomes of a gap before a text.
abbrev pub Front : List ℕ → List ℕ → Type 0
Front x y = (g : List ℕ) → IsInlineGap g x → IsInlineGap g y

-- another node after the same key
refit : (k : ℕ) (key : Key) (x y : List ℕ) → begins_node true x ≡ true → begins_node true y ≡ true → is_marker y ≡ false → IsInlineKey k key x → IsInlineKey k key y × Front (key_text key x) (key_text key y)
refit k bare x y bx by m h = (h, λ g a. gap_new g x y bx by (unmarked_gap g y m) a)
refit k (keyed p b g) x y bx by m h =
    let gap = gap_new g x y bx by (unmarked_gap g y m) (lead_gap (begins_node true) g x bx bx h.4) in
    (key_front k p b g x y bx by gap h, λ q a. gap_alike None q _ _ (alike_append None p _ _ (alike_append None b (58 ∷ (g ++ x)) (58 ∷ (g ++ y)) any_colon)) a)

-- What is put in an item's place: another key and node.
pub record Filled (d k : ℕ) (m : FlowNode) (key : Key) (n : FlowNode) (rest : List ℕ) (key2 : Key) (n2 : FlowNode) : Type 0 where
  pub key_is : IsInlineKey k key2 (node_text n2 rest)
  pub some : (is_keyed key2 || not (is_empty_node n2)) ≡ true
  pub node_is : IsFlowNode true (Some 0) d n2 rest
  pub front : Front (key_text key (node_text n rest)) (key_text key2 (node_text n2 rest))
  pub text : Becomes (key_text key (node_text n rest)) (key_text key2 (node_text n2 rest)) (node_text (without_anchor n) []) (space_for (without_anchor n) ++ node_text m []) rest
  pub tree : tree_of n2 ≡ put_value (tree_of m) (tree_of n)
  pub label : key_content key2 ≡ key_content key

swap_text : (key : Key) (n m : FlowNode) (rest : List ℕ) → Becomes (key_text key (node_text n rest)) (key_text key (node_text m rest)) (node_text n []) (node_text m []) rest
swap_text key n m rest = record {
  before = key_text key [];
  was = key_append key [] (node_text n rest) ∙ ap (λ l. key_text key [] ++ l) (node_then n rest);
  is = key_append key [] (node_text m rest) ∙ ap (λ l. key_text key [] ++ l) (node_then m rest);
}

anchor_text : (key : Key) (n g h : List ℕ) (x : List ℕ) → key_text key (38 ∷ (n ++ (g ++ x))) ≡ (key_text key [] ++ (38 ∷ (n ++ g))) ++ x
anchor_text key n g h x = search (rules, key_append, append_assoc)

name_again : (n g x y : List ℕ) → not (is_empty g) ≡ true → IsName n (g ++ x) → IsName n (g ++ y)
name_again n g x y s h = search (rules, false≢true, name_by)

name_space : (n x y : List ℕ) → IsName n x → IsName n (32 ∷ y)
name_space n x y h = name_by n x (32 ∷ y) refl h

coll_anchor : (k : ℕ) (n : List ℕ) (cs : tree.Children) → anchor_of (with_name n (tree_collection k cs)) ≡ Some n
coll_anchor k n cs = elim (eqb k 125) as (λ c. anchor_of (with_name n (cond c (tree.map None cs) (tree.list None cs))) ≡ Some n) [ true ↦ refl | false ↦ refl ]

coll_no_anchor : (k : ℕ) (cs : tree.Children) → anchor_of (tree_collection k cs) ≡ None
coll_no_anchor k cs = elim (eqb k 125) as (λ c. anchor_of (cond c (tree.map None cs) (tree.list None cs)) ≡ None) [ true ↦ refl | false ↦ refl ]

-- in the place of a node that is something, without an anchor
filled_by : (d k : ℕ) (m : FlowNode) (key : Key) (n : FlowNode) (rest : List ℕ) → is_empty_node n ≡ false → FitsNode d m rest →
    IsInlineKey k key (node_text n rest) → IsFlowNode true (Some 0) d n rest → IsInlineKey k key (node_text m rest)
    × Front (key_text key (node_text n rest)) (key_text key (node_text m rest))
filled_by d k m key n rest some f h x = refit k key (node_text n rest) (node_text m rest) (some_begins true (Some 0) d n rest some x) (some_begins true (Some 0) d m rest f.some f.is) f.unmarked h

-- in the place of a node that is something, after an anchor
anchored_filled : (d k : ℕ) (m : FlowNode) (key : Key) (n g : List ℕ) (node : FlowNode) (rest : List ℕ) → is_empty_node node ≡ false →
    takes_anchor node ≡ true → tree_of (anchored n g m) ≡ put_value (tree_of m) (tree_of (anchored n g node)) → FitsNode d m rest →
    IsInlineKey k key (node_text (anchored n g node) rest) → IsFlowNode true (Some 0) d (anchored n g node) rest → Filled d k m key (anchored n g node) rest key (anchored n g m)
unfolding node_text IsFlowNode
anchored_filled d k m key n g node rest some takes tree f h x =
    let old : List ℕ = node_text node rest in
    let new : List ℕ = node_text m rest in
    let y = refit k key (38 ∷ (n ++ (g ++ old))) (38 ∷ (n ++ (g ++ new))) refl refl (no_first 38 (n ++ (g ++ new)) refl refl) h in
    let apart : not (is_empty g) ≡ true = subst (λ (b : Bool). (b || not (is_empty g)) ≡ true) some x.2 in
    search (rules, some_begins, gap_new, unmarked_gap, lead_gap, taken_begins, or-true, name_again, node_then, anchor_text)

-- in the place of nothing after a `:`
spaced : (k : ℕ) (p b x y : List ℕ) → is_close k ≡ true → begins_node true x ≡ false → begins_node true y ≡ true → is_safe true x ≡ false → IsInlineKey k (keyed p b []) x → IsInlineKey k (keyed p b (32 ∷ [])) y
spaced k p b x y c bx by unsafe h =
    let like : Alike (Some true) (58 ∷ x) (58 ∷ (32 ∷ y)) = colon unsafe refl in (
      h.0,
      scalar_alike true None p (b ++ (58 ∷ x)) (b ++ (58 ∷ (32 ∷ y))) (alike_append (Some true) b (58 ∷ x) (58 ∷ (32 ∷ y)) like) h.1,
      gap_alike (Some true) b (58 ∷ x) (58 ∷ (32 ∷ y)) like h.2,
      or-true (is_quoted p),
      inl (space_before y by, by),
    )

pub filled : (d k : ℕ) (m : FlowNode) (key : Key) (n : FlowNode) (rest : List ℕ) → is_close k ≡ true → EndsItem k rest → FitsNode d m rest →
    IsInlineKey k key (node_text n rest) → (is_keyed key || not (is_empty_node n)) ≡ true → IsFlowNode true (Some 0) d n rest →
    Filled d k m key n rest (put_content m key n).0 (put_content m key n).1
unfolding node_text IsFlowNode tree_of
filled d k m bare empty rest c e f h s x = absurd (false≢true s)
filled d k m (keyed p b g) empty rest c e f h s x =
    let bx : begins_node true rest ≡ false = or_from (begins_with 38 rest) (begins_content true rest) x.1 x.0 in
    let nothing : g ≡ [] = lead_none (begins_node true) g rest bx h.4 in
    let old : IsInlineKey k (keyed p b []) rest = subst (λ (l : List ℕ). IsInlineKey k (keyed p b l) rest) nothing h in
    let was : p ++ (b ++ (58 ∷ (g ++ rest))) ≡ (p ++ (b ++ (58 ∷ []))) ++ rest = rw nothing (ap (λ l. p ++ l) (sym (append_assoc b (58 ∷ []) rest)) ∙ sym (append_assoc p (b ++ (58 ∷ [])) rest)) in
    record {
      key_is = spaced k p b rest (node_text m rest) c bx (some_begins true (Some 0) d m rest f.some f.is) (ends_safe k rest c e) old;
      some = refl;
      node_is = f.is;
      front = λ q a. gap_alike None q _ _ (alike_append None p _ _ (alike_append None b (58 ∷ (g ++ rest)) (58 ∷ (32 ∷ node_text m rest)) any_colon)) a;
      text = search (rules, node_then, append_assoc);
      tree = refl;
      label = refl;
    }
filled d k m key (alias n) rest c e f h s x = let y = filled_by d k m key (alias n) rest refl f h x in
    record { key_is = y.0; some = rw f.some (or-true (is_keyed key)); node_is = f.is; front = y.1; text = swap_text key (alias n) m rest; tree = refl; label = refl }
filled d k m key (scalar p) rest c e f h s x = let y = filled_by d k m key (scalar p) rest refl f h x in
    record { key_is = y.0; some = rw f.some (or-true (is_keyed key)); node_is = f.is; front = y.1; text = swap_text key (scalar p) m rest; tree = refl; label = refl }
filled d k m key (coll j g is) rest c e f h s x = let y = filled_by d k m key (coll j g is) rest refl f h x in
    record {
      key_is = y.0;
      some = rw f.some (or-true (is_keyed key));
      node_is = f.is;
      front = y.1;
      text = swap_text key (coll j g is) m rest;
      tree = search (rules, coll_no_anchor);
      label = refl;
    }
filled d k m key (anchored n g empty) rest c e f h s x =
    let nothing : g ≡ [] = lead_none (begins_content true) g rest x.4.0 x.1 in
    let new : List ℕ = node_text m rest in
    let by = some_begins true (Some 0) d m rest f.some f.is in
    let y = refit k key (38 ∷ (n ++ (g ++ rest))) (38 ∷ (n ++ (32 ∷ new))) refl refl (no_first 38 (n ++ (32 ∷ new)) refl refl) h in
    record {
      key_is = y.0;
      some = or-true (is_keyed key);
      node_is = (name_space n (g ++ rest) new x.0, inl (space_before new by, taken_begins true (Some 0) d m rest f.some f.takes f.is), or-true (is_empty_node m), f.takes, f.is);
      front = y.1;
      text = record {
        before = key_text key [] ++ (38 ∷ n);
        was = rw nothing (key_append key [] (38 ∷ (n ++ rest)) ∙ sym (append_assoc (key_text key []) (38 ∷ n) rest));
        is = ap (λ l. key_text key (38 ∷ (n ++ (32 ∷ l)))) (node_then m rest) ∙ (key_append key [] (38 ∷ (n ++ (32 ∷ (node_text m [] ++ rest)))) ∙ sym (append_assoc (key_text key []) (38 ∷ n) (32 ∷ (node_text m [] ++ rest))));
      };
      tree = refl;
      label = refl;
    }
filled d k m key (anchored n g (alias a)) rest c e f h s x = absurd (false≢true x.3)
filled d k m key (anchored n g (anchored a q node)) rest c e f h s x = absurd (false≢true x.3)
filled d k m key (anchored n g (scalar p)) rest c e f h s x = anchored_filled d k m key n g (scalar p) rest refl refl refl f h x
filled d k m key (anchored n g (coll j q is)) rest c e f h s x = search (rules, anchored_filled, coll_anchor)
