-- An item replaced, and one added after the last.
use Rattle.std.proofs.Common.{◌≡◌, ℕ, Bool, true, false, not, ◌&&◌, ◌||◌, cond, List, [], ◌∷◌, ◌++◌, Some, None, refl, sym, ap, ◌∙◌, subst}
use Rattle.std.{proofs.Common.{arith, append_assoc, rules}, proofs.Math.Bool.and-false}
use Rattle.std.{proofs.lemmas.Bool.{false≢true, or_right, not-true, or_parts}, proofs.lemmas.Option.same_Some}
use Rattle.yq_core.{specs.Paths.{Step, is_here, further, change_child, append_child}, specs.PlainText.begins_marker}
use Rattle.yq_core.{specs.Text.{front, is_white, is_feed, is_return, is_space, is_marker, separates}, proofs.Bools.at_byte}
use Rattle.yq_core.{specs.Alike.{Alike, stop, EndsItem, fresh, KeepsApart}, specs.Gaps.IsInlineGap}
use Rattle.yq_core.specs.Nodes.{Key, bare, keyed, Sep, last, comma, FlowNode, Items, none, item, key_text, sep_text, node_text}
use Rattle.yq_core.specs.Nodes.{flow_items_text, begins_with, begins_node, is_close, IsInlineKey, IsSep, is_empty_node, is_keyed}
use Rattle.yq_core.{specs.Nodes.{IsFlowNode, AreFlowItems, without_anchor}, specs.Entries.{EntryPieces, item_at}}
use Rattle.yq_core.{specs.Trees.{key_content, tree_of, items_tree}, proofs.Alikes.{no_first, no_second, no_third, alike_append}}
use Rattle.yq_core.{proofs.AlikePieces.gap_alike, proofs.EndLaws.ends_by, proofs.GapLaws.none_gap}
use Rattle.yq_core.{proofs.KeepLaws.{NotEmpty, some_text, gap_some, keeps_append, keeps_alike, some_begins}, proofs.KeyKeeps.key_keeps}
use Rattle.yq_core.{proofs.NodeKeeps.{node_keeps, sep_ends, key_text_alike, node_text_alike}, proofs.NodeAgain.item_front}
use Rattle.yq_core.{proofs.NodesPieceLaws.{scalar_begins, scalar_some}, proofs.NodesWrittenLaws.{node_then, key_append}}
use Rattle.yq_core.specs.Tree.{key_label}
use Rattle.yq_flow_edits.specs.FlowEdits.{Becomes, space_for, put_content, put_item, put_value, FitsNode, add_item, is_none, after_last}
use Rattle.yq_flow_edits.{specs.FlowEdits.FitsItem, specs.Removals.{is_marks, ends_marked, ends_return, IsApartFrom}}
use Rattle.yq_flow_edits.{proofs.ItemSwaps.item_cut, proofs.LocalLaws.{Front, filled, space_before}}
use Rattle.yq_core.specs.Tree as tree

-- Items of a collection are replaced by others, with this tree: these come before the same rest, a gap before the ones may come before the others, and
-- bytes of their text are replaced by others.
pub record Local (d k : ℕ) (is new : Items) (cs : tree.Children) (rest old fresh_ after : List ℕ) : Type 0 where
  pub tree : items_tree new ≡ cs
  pub are : AreFlowItems d k new rest
  pub front : Front (flow_items_text k is rest) (flow_items_text k new rest)
  pub text : Becomes (flow_items_text k is rest) (flow_items_text k new rest) old fresh_ after

-- an item before another text after its node
pub record ItemIsThere (d k : ℕ) (key : Key) (n : FlowNode) (u : List ℕ) : Type 0 where
  pub key_is : IsInlineKey k key (node_text n u)
  pub node_is : IsFlowNode true (Some 0) d n u

keeps_node : (f : Bool) (key : Key) (n : FlowNode) (t u : List ℕ) → KeepsApart f (key_text key (node_text n [])) t u → (g : Bool) × KeepsApart g (node_text n []) t u
keeps_node f bare n t u h = (f, h)
keeps_node f (keyed p b g) n t u h =
    let a = keeps_append p f (b ++ (58 ∷ (g ++ node_text n []))) t u h in
    let q = keeps_append b (fresh f p) (58 ∷ (g ++ node_text n [])) t u a in
    (fresh false g, keeps_append g false (node_text n []) t u q.2)

pub item_keeps : (d k : ℕ) (f : Bool) (key : Key) (n : FlowNode) (t u : List ℕ) → is_close k ≡ true → EndsItem k t → EndsItem k u →
    KeepsApart f (key_text key (node_text n [])) t u → IsInlineKey k key (node_text n t) → IsFlowNode true (Some 0) d n t → ItemIsThere d k key n u
item_keeps d k f key n t u c e h keeps x y =
    let inner_ = keeps_node f key n t u keeps in
    search (rules, node_keeps, key_keeps)

-- an item's text begins as a node
pub item_begins : (d k : ℕ) (key : Key) (n : FlowNode) (r : List ℕ) → IsInlineKey k key (node_text n r) →
    (is_keyed key || not (is_empty_node n)) ≡ true → IsFlowNode true (Some 0) d n r → begins_node true (key_text key (node_text n r)) ≡ true
item_begins d k key n r h1 h2 h3 = search (rules, some_begins, not-true, or_right, scalar_begins)

-- bytes before an item's text
pub put_before : (p t u old new after : List ℕ) → Becomes t u old new after → Becomes (p ++ t) (p ++ u) old new after
put_before p t u old new after h = record {
  before = p ++ h.before;
  was = ap (λ l. p ++ l) h.was ∙ sym (append_assoc p h.before (old ++ after));
  is = ap (λ l. p ++ l) h.is ∙ sym (append_assoc p h.before (new ++ after));
}

pub becomes_same : (t u x y old new after : List ℕ) → t ≡ x → u ≡ y → Becomes x y old new after → Becomes t u old new after
becomes_same t u x y old new after a b h = record { before = h.before; was = a ∙ h.was; is = b ∙ h.is }

-- after an item that others follow is a comma
pub comma_like : (b g h t u : List ℕ) → Alike (Some true) (b ++ (44 ∷ (g ++ t))) (b ++ (44 ∷ (h ++ u)))
comma_like b g h t u = alike_append (Some true) b (44 ∷ (g ++ t)) (44 ∷ (h ++ u)) (stop refl)

pub cons_local : (d k : ℕ) (key : Key) (n : FlowNode) (sep : Sep) (is new : Items) (cs : tree.Children) (rest old fresh_ after : List ℕ) → is_close k ≡ true → is_none is ≡ false → AreFlowItems d k (item key n sep is) rest →
    Local d k is new cs rest old fresh_ after → Local d k (item key n sep is) (item key n sep new) (tree.child (key_label (key_content key)) (tree_of n) cs) rest old fresh_ after
unfolding flow_items_text AreFlowItems items_tree
cons_local d k key n sep none new cs rest old fresh_ after c some a l = absurd (false≢true (sym some))
cons_local d k key n (last b) (item key2 n2 sep2 is) new cs rest old fresh_ after c some a l = search (rules, false≢true, item_front)
cons_local d k key n (comma b g) (item key2 n2 sep2 is) new cs rest old fresh_ after c some a l =
    let t : List ℕ = flow_items_text k (item key2 n2 sep2 is) rest in
    let u : List ℕ = flow_items_text k new rest in
    let like = comma_like b g g t u in
    let sep_is : IsSep k (comma b g) u = (gap_alike (Some true) b (44 ∷ (g ++ t)) (44 ∷ (g ++ u)) (stop refl) a.3.0, l.front g a.3.1) in
    let e = sep_ends k (comma b g) t a.3 in
    let h = sep_ends k (comma b g) u sep_is in
    let is_located = item_keeps d k false key n (b ++ (44 ∷ (g ++ t))) (b ++ (44 ∷ (g ++ u))) c e h (keeps_alike (Some true) false (key_text key (node_text n [])) _ _ like) a.0 a.2 in
    record {
      tree = ap (tree.child (key_label (key_content key)) (tree_of n)) l.tree;
      are = (is_located.key_is, a.1, is_located.node_is, sep_is, l.are);
      front = λ q x. gap_alike (Some true) q _ _ (key_text_alike key _ _ (node_text_alike (Some true) n (b ++ (44 ∷ (g ++ t))) (b ++ (44 ∷ (g ++ u))) like)) x;
      text = becomes_same _ _ _ _ old fresh_ after (item_cut key n (comma b g) t) (item_cut key n (comma b g) u) (put_before (key_text key (node_text n (sep_text (comma b g) []))) t u old fresh_ after l.text);
    }

pub some_items : (k : ℕ) (s : Step) (is : Items) (rest : List ℕ) (y : EntryPieces) → item_at k s is rest ≡ Some y → is_none is ≡ false
some_items k s is rest y h = search rules

-- the node of an item replaced
pub put_local : (d k : ℕ) (s : Step) (m : FlowNode) (is : Items) (rest : List ℕ) (y : EntryPieces) → is_close k ≡ true → AreFlowItems d k is rest → item_at k s is rest ≡ Some y → FitsNode d m y.rest →
    Local d k is (put_item s m is) (change_child s (put_value (tree_of m)) (items_tree is)) rest (node_text (without_anchor y.node) []) (space_for (without_anchor y.node) ++ node_text m []) y.rest
unfolding flow_items_text AreFlowItems items_tree
put_local d k s m none rest y c a h f = cc
put_local d k s m (item key n sep is) rest y c a h f = go (is_here s (key_label (key_content key))) (put_local d k (further s) m is rest y c a.4) h where
  tail : List ℕ
  tail = flow_items_text k is rest

  here : EntryPieces
  here = record { key = key; node = n; rest = sep_text sep tail }

  others : tree.Children
  others = change_child (further s) (put_value (tree_of m)) (items_tree is)

  Result : Items → tree.Children → EntryPieces → Type 0
  Result new cs z = Local d k (item key n sep is) new cs rest (node_text (without_anchor z.node) []) (space_for (without_anchor z.node) ++ node_text m []) z.rest

  go : (b : Bool) → (item_at k (further s) is rest ≡ Some y → FitsNode d m y.rest → Local d k is (put_item (further s) m is) others rest (node_text (without_anchor y.node) []) (space_for (without_anchor y.node) ++ node_text m []) y.rest) →
      cond b (Some here) (item_at k (further s) is rest) ≡ Some y →
      Result (cond b (item (put_content m key n).0 (put_content m key n).1 sep is) (item key n sep (put_item (further s) m is)))
      (cond b (tree.child (key_label (key_content key)) (put_value (tree_of m) (tree_of n)) (items_tree is)) (tree.child (key_label (key_content key)) (tree_of n) others)) y
  go true again e =
      let fits : FitsNode d m (sep_text sep tail) = subst (λ (z : EntryPieces). FitsNode d m z.rest) (sym (same_Some _ _ e)) f in
      let x = filled d k m key n (sep_text sep tail) c (sep_ends k sep tail a.3) fits a.0 a.1 a.2 in
      search (rules, same_Some, tree.child, x.label, x.tree)
  go false again e = cons_local d k key n sep is (put_item (further s) m is) others rest _ _ _ c (some_items k (further s) is rest y e) a (again e f)

-- a text whose first byte is no `-` and no `.`
pub record Unmarked (u : List ℕ) : Type 0 where
  pub dash : begins_with 45 u ≡ false
  pub dot : begins_with 46 u ≡ false

-- a bracket or comma is neither a dash nor a dot
pub ends_mark : (k : ℕ) (t : List ℕ) → is_close k ≡ true → EndsItem k t → Unmarked t
ends_mark k t c e = ends_by Unmarked k t c e (λ r. record { dash = refl; dot = refl }) (λ r. record { dash = refl; dot = refl }) (λ r. record { dash = refl; dot = refl })
    (λ b r s. record { dash = at_byte (λ x. is_space (x ∷ r)) b 45 s refl; dot = at_byte (λ x. is_space (x ∷ r)) b 46 s refl })

-- no document marker is in front
pub marker_append : (t rest : List ℕ) → begins_marker t ≡ false → Unmarked rest → is_marker (t ++ rest) ≡ false
marker_append t rest h1 h2 = search (rules, no_first, no_second, no_third)

-- whether a marker is in front is given by a text before what begins with neither
pub marks_own : (t rest : List ℕ) → Unmarked rest → begins_marker (t ++ rest) ≡ begins_marker t
marks_own t rest h1 = search (rules, and-false)

byte_on : (b : ℕ) (t u : List ℕ) → (is_return b && front is_feed u) ≡ false → is_space (b ∷ t) ≡ false → is_space (b ∷ u) ≡ false
byte_on b t u r h = let x = or_parts (is_white b) (is_feed b || (is_return b && front is_feed t)) h in let y = or_parts (is_feed b) (is_return b && front is_feed t) x.1 in rw (x.0, y.0, r) refl

marker_on : (line : Bool) (b : ℕ) (p t u : List ℕ) → Unmarked u → ((line && is_marks (b ∷ p)) && separates u) ≡ false →
    ((e : ℕ) → (ends_return (e ∷ []) && front is_feed u) ≡ false → is_space (e ∷ t) ≡ false → is_space (e ∷ u) ≡ false) →
    (ends_return (b ∷ p) && front is_feed u) ≡ false →
    line ≡ true → is_marker (b ∷ (p ++ t)) ≡ false → is_marker (b ∷ (p ++ u)) ≡ false
marker_on line b [] t (x ∷ u) m n on r l h = no_second b x u m.dash m.dot
marker_on line b (c ∷ []) t (x ∷ u) m n on r l h = no_third b c x u m.dash m.dot
marker_on line b (c ∷ e ∷ []) t u m n on r l h = subst (λ (v : Bool). ((v && is_marks (b ∷ c ∷ e ∷ [])) && separates u) ≡ false) l n
marker_on line b (c ∷ e ∷ x ∷ []) t u m n on r l h = search (rules, no_second, no_third)
marker_on line b (c ∷ e ∷ x ∷ y ∷ p) t u m n on r l h = h
marker_on line b _ t [] m n on r l h = refl

pub keeps_from : (line : Bool) (p t u : List ℕ) → Unmarked u → IsApartFrom line p u → KeepsApart line p t u
keeps_from line [] t u m a = tt
keeps_from line (b ∷ p) t u m a = (
  space p a.unbroken,
  marker_on line b p t u m (and_or (line && is_marks (b ∷ p)) (ends_marked (is_feed b) p) (separates u) a.unmarked).0 (λ e r. byte_on e t u r) a.unbroken,
  keeps_from (is_feed b) p t u m (record {
    unmarked = (and_or (line && is_marks (b ∷ p)) (ends_marked (is_feed b) p) (separates u) a.unmarked).1;
    unbroken = later p a.unbroken;
  }),
) where
  and_or : (x y z : Bool) → ((x || y) && z) ≡ false → ((x && z) ≡ false) × ((y && z) ≡ false)
  and_or x y z h = search rules

  space : (q : List ℕ) → (ends_return (b ∷ q) && front is_feed u) ≡ false → is_space (b ∷ (q ++ t)) ≡ false → is_space (b ∷ (q ++ u)) ≡ false
  space q r h = search (rules, byte_on)

  later : (q : List ℕ) → (ends_return (b ∷ q) && front is_feed u) ≡ false → (ends_return q && front is_feed u) ≡ false
  later q r = search rules

-- a comma directly after
pub comma_apart : (line : Bool) (p u : List ℕ) → IsApartFrom line p (44 ∷ u)
comma_apart line p u = record { unmarked = and-false (ends_marked line p); unbroken = and-false (ends_return p) }

-- the text of an item isn't empty
pub item_some : (d k : ℕ) (key : Key) (n : FlowNode) (t : List ℕ) → IsInlineKey k key (node_text n t) → (is_keyed key || not (is_empty_node n)) ≡ true → IsFlowNode true (Some 0) d n t → NotEmpty (key_text key (node_text n []))
item_some d k bare n t h s x = some_text d n t (not-true (is_empty_node n) s) x
item_some d k (keyed [] b g) n t h s x = absurd (omega (arith, scalar_some true None [] (b ++ (58 ∷ (g ++ node_text n t))) h.1))
item_some d k (keyed (a ∷ p) b g) n t h s x = (a, (p ++ (b ++ (58 ∷ (g ++ node_text n []))), refl))

-- a gap before an item
pub gap_before : (d k : ℕ) (key : Key) (n : FlowNode) (t u q : List ℕ) → IsInlineKey k key (node_text n t) →
    (is_keyed key || not (is_empty_node n)) ≡ true → IsFlowNode true (Some 0) d n t → KeepsApart (fresh false q) (key_text key (node_text n [])) t u →
    IsInlineGap q (key_text key (node_text n t)) → IsInlineGap q (key_text key (node_text n u))
gap_before d k key n t u q h s x keeps gap = search (rules, node_then, key_append, gap_some, item_some)

-- one more after the last
pub add_local : (d k : ℕ) (key : Key) (m : FlowNode) (gap : List ℕ) (is : Items) (rest : List ℕ) → is_close k ≡ true → is_none is ≡ false → AreFlowItems d k is rest → FitsItem d k key m (after_last k gap is rest) →
    Local d k is (add_item key m gap is) (append_child (key_label (key_content key)) (tree_of m) (items_tree is)) rest [] (44 ∷ (32 ∷ key_text key (node_text m []))) (after_last k gap is rest)
unfolding flow_items_text AreFlowItems items_tree
add_local d k key m gap none rest c some a f = absurd (false≢true (sym some))
add_local d k key m gap (item j n sep none) rest c some a f =
    let t : List ℕ = sep_text sep (k ∷ rest) in
    let x : List ℕ = key_text key (node_text m t) in
    let u : List ℕ = 44 ∷ (32 ∷ x) in
    let by = item_begins d k key m t f.key_is f.some f.is in
    let sep_is : IsSep k (comma [] (32 ∷ [])) x = (none_gap u refl, space_before x by) in
    let e = sep_ends k sep (k ∷ rest) a.3 in
    let h = sep_ends k (comma [] (32 ∷ [])) x sep_is in
    let keeps : (f : Bool) → KeepsApart f (key_text j (node_text n [])) t u = λ f. keeps_from f (key_text j (node_text n [])) t u (record { dash = refl; dot = refl }) (comma_apart f (key_text j (node_text n [])) (32 ∷ x)) in
    let is_located = item_keeps d k false j n t u c e h (keeps false) a.0 a.2 in
    search (rules, gap_before, node_then, key_append)
add_local d k key m gap (item j n sep (item j2 n2 sep2 is)) rest c some a f =
    cons_local d k j n sep (item j2 n2 sep2 is) (add_item key m gap (item j2 n2 sep2 is)) _ rest [] _ _ c refl a (add_local d k key m gap (item j2 n2 sep2 is) rest c refl a.4 f)
