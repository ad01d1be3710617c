-- What putting a value into a flow collection comes to, by what the code finds.
use Rattle.std.proofs.Common.{rules, ◌≡◌, ℕ, Bool, ◌-◌, List, [], ◌∷◌, ◌++◌, length, take, drop, Option, Some, None, option_map, refl, sym}
use Rattle.std.proofs.Common.{ap, ◌∙◌, subst, arith, append_assoc, append-nil, length-append}
use Rattle.std.{proofs.Math.Seq.{take-append_seam, drop-append_seam}, proofs.lemmas.Option.{none-some, same_Some}}
use Rattle.std.{specs.Prelude.{option_and_then, String, string_bytes}, specs.declared.alloc.Global.Global}
use Rattle.yq_core.{specs.Paths.Step, specs.declared.style.Place.TheVariants.Flow as InFlow, specs.Collections.CollPieces}
use Rattle.yq_core.specs.Entries.{EntryPieces, PlacedEntry, entry_pieces_at, item_at, locate_entry, flow_part_at, parts_of, placed_entry_at}
use Rattle.yq_core.{specs.Nodes.{bare, coll, node_text}, specs.Places.{Placed, placed, locate}, specs.Trees.placed_tree}
use Rattle.yq_core.{specs.NodesWritten.flow_of, proofs.PathLaws.path_places, proofs.TreeLaws.node_tree}
use Rattle.yq_flow_edits.{specs.FlowEdits.{FlowEdit, replacing}, specs.FlowPlaces.{PlacedEdit, edit_view, place_edit, replace_place}}
use Rattle.yq_flow_edits.specs.declared.flow_place.EditPlace.{EditPlace}
use Rattle.yq_row_table.specs.Rows.{Cut, cut_text}
use Rattle.yq_places.{specs.FlowViews.{following_anchor, placed_collection}, specs.NodesAt.node_in}
use Rattle.yq_places.{specs.Placements.{FlowPart, flow_placement, last_step}, specs.declared.places.flow_node.FlowHead.FlowHead}
use Rattle.yq_places.proofs.FlowNodeLaws.{entry_more}
use Rattle.yq_edit_rules.{specs.FlowParts.flow_value, specs.Replacing.keeps_scalar, specs.WrittenValues.value_text}
use Rattle.yq_text.specs.Script.{keep}
use Rattle.yq_edit_laws.specs.EditPlaces.{edit_segments}
use Rattle.yq_edit_laws.specs.PartPuts.{IsPlaceOf, IsValuePut, IsWrittenFor, IsWrittenIn, IsWrittenPart, part_put, part_replaced}
use Rattle.yq_edit_laws.specs.PartPuts.{place_after, put_edit}
use Rattle.yq_edit_laws.proofs.FlowAnswers.{CollFound, edit_lies, edit_moved, entry_found, part_in, segments_at, placement_is}
use Rattle.yq_edit_laws.{proofs.FlowHeads.{replace_found, replaced_within, whole_is, edit_more}, proofs.FlowPartNodes.part_node}
use Rattle.yq_edit_laws.{proofs.FlowPutLaws.{bounds, e, m, there}, proofs.FlowPlacements.EntryAt}
use Rattle.yq_edit_laws.proofs.FlowWholeLaws.{IsPlacedBefore, replaced_is_there}
use Rattle.yq_core.specs.Tree as tree
use Rattle.yq_core.specs.Nodes as inline

-- the parts of a node without its anchor
core_parts : (q : Placed) → parts_of (following_anchor q) ≡ parts_of q
core_parts (placed a b c e f) = refl

one_step : (o : Option PlacedEntry) → option_and_then (placed_entry_at []) o ≡ o
one_step o = search rules

one_piece : (o : Option EntryPieces) → option_and_then (entry_pieces_at []) o ≡ o
one_piece o = search rules

part_placed : (total : ℕ) (s : Step) (w : CollPieces) → flow_part_at s (parts_of (placed_collection total w)) ≡ option_map (locate_entry total) (item_at w.close s w.items w.rest)
part_placed total s w =
    let slot : EntryPieces = record { key = bare; node = coll w.close w.gap w.items; rest = w.rest } in
    sym (one_step (flow_part_at s (parts_of (placed_collection total w)))) ∙ (path_places total (s ∷ []) slot ∙ ap (option_map (locate_entry total)) (one_piece (item_at w.close s w.items w.rest)))

-- what is at the place of an edit
pub old_at : (t before : List ℕ) (e : FlowEdit) → t ≡ before ++ (e.old ++ e.after) → drop (length t - length (e.old ++ e.after)) (take (length t - length e.after) t) ≡ e.old
old_at t before e is =
    let whole : t ≡ (before ++ e.old) ++ e.after = is ∙ sym (append_assoc before e.old e.after) in
    let start : length t - length (e.old ++ e.after) ≡ length before = omega (arith, ap length is, length-append before (e.old ++ e.after)) in
    let end_ : length t - length e.after ≡ length (before ++ e.old) = omega (arith, ap length whole, length-append (before ++ e.old) e.after) in
    let front : take (length t - length e.after) t ≡ before ++ e.old = (λ i. take (end_ i) (whole i)) ∙ take-append_seam (before ++ e.old) e.after in
    (λ i. drop (start i) (front i)) ∙ drop-append_seam before e.old

-- how a value is written is the text of its node
pub value_is : (old : List ℕ) (v : tree.Node) → value_text InFlow old v ≡ node_text (flow_value old v) []
unfolding node_text flow_of
value_is old v = search (rules, append-nil)

-- what is written at a part, by whether the scalar there is kept
pub written_found : (old : Option tree.Node) (v : tree.Node) (z : FlowPart) (kept : Bool) (new : List ℕ) → keeps_scalar old v ≡ kept →
    new ≡ (put_edit v z).written → (o : Option (String Global)) → IsWrittenFor kept new o → IsWrittenPart old v z o
written_found old v z kept new keeps is None h = keeps ∙ h
written_found old v z kept new keeps is (Some s) h = (keeps ∙ h.0, h.1 ∙ is)

-- ---- the answers

-- The part at the last step is found, or none is.
module _ (c : Cut) (n : ℕ) (path init : List Step) (s : Step) (x : FlowHead) (q : Placed) (last : Some (init, s) ≡ last_step path) (f : CollFound c n init x q) (o : Option PlacedEntry) (is : o ≡ flow_part_at s (parts_of q)) where
  abbrev own : CollPieces
  own = f.agrees.at.coll

  abbrev row : List ℕ
  row = x.text.now

  abbrev part_of : EntryPieces → FlowPart
  part_of y = part_in s f.coll (entry_more f.agrees.after y)

  is_located : (y : Option EntryPieces) → item_at own.close s own.items own.rest ≡ y → flow_placement n c (last_step path) ≡ option_map (part_in s f.coll) (option_map (entry_more f.agrees.after) y)
  is_located y at = placement_is c n path init s x q last f ∙ ap (λ (z : Option EntryPieces). option_map (part_in s f.coll) (option_map (entry_more f.agrees.after) z)) at

  part_is : o ≡ option_map (locate_entry (length row)) (item_at own.close s own.items own.rest)
  part_is = is ∙ (ap (flow_part_at s) (sym (core_parts q) ∙ ap parts_of f.node) ∙ part_placed (length row) s own)

  -- The item or entry is one of the row alone.
  pub record PartFound (p : PlacedEntry) : Type 0 where
    pub item : EntryPieces
    pub at : item_at own.close s own.items own.rest ≡ Some item
    pub placed_is : p ≡ locate_entry (length row) item

  pub part_found : (p : PlacedEntry) → o ≡ Some p → PartFound p
  part_found p some = search (rules, part_is, e, none-some, same_Some)

  module _ (p : PlacedEntry) (some : o ≡ Some p) where
    abbrev y : EntryPieces
    y = (part_found p some).item

    abbrev pub z : FlowPart
    z = part_of y

    abbrev a : EntryAt c n path
    a = entry_found c n path init s x q last f y (part_found p some).at

    pub placement_there : flow_placement n c (last_step path) ≡ Some z
    placement_there = is_located (Some y) (part_found p some).at

    -- the node there
    pub node_there : node_in n path c ≡ Some (placed_tree p.1)
    node_there = part_node c n path a f.read ∙ ap Some (sym (ap (λ (e : PlacedEntry). placed_tree e.1) (part_found p some).placed_is ∙ node_tree (length row) y.node y.rest))

    -- The place of its content is that of the edit that puts a value there.
    module _ (v : tree.Node) (r : EditPlace) (place : edit_view r ≡ replace_place p.1) where
      abbrev edit : FlowEdit
      edit = e c n path v f.read a

      abbrev new : inline.FlowNode
      new = m c n path v f.read a

      abbrev alone : FlowEdit
      alone = replacing s y new own

      own_place : edit_view r ≡ place_edit (length row) alone
      own_place =
          place
          ∙ (ap (λ (e : PlacedEntry). replace_place e.1) (part_found p some).placed_is
          ∙ subst (λ (l : List ℕ). replace_place (locate (length l) y.node y.rest) ≡ place_edit (length l) alone) (sym f.agrees.node_is) (replace_found f.agrees.at f.agrees.is_located s y new (part_found p some).at))

      pub place_found : IsPlaceOf (cut_text c) v z (place_after x.before r)
      place_found =
          let same : edit ≡ edit_more f.agrees.after alone = ap (λ (w : CollPieces). replacing s (entry_more f.agrees.after y) new w) (whole_is (cut_text c) f.coll x f.agrees) in
          let moved = edit_moved c n init x q f edit alone (edit_view r) same (replaced_within f.agrees.at f.agrees.is_located s y new (part_found p some).at) own_place in
          let t = there c n path v f.read a in
          record { lies = edit_lies c n init x q f edit (edit_view r) (bounds c n path v f.read a) moved; place_is = moved; before = t.before; text = t.text }

      pub text_found : value_text InFlow (drop r.start (take r.end row)) v ≡ (put_edit v z).written
      text_found =
          let stood = subst (λ (l : List ℕ). IsPlacedBefore l (alone.old ++ alone.after)) (sym f.agrees.node_is) (replaced_is_there f.agrees.at [] f.agrees.is_located s y (part_found p some).at) in
          (λ i. value_text InFlow (drop (own_place i).start (take (own_place i).end row)) v)
          ∙ (ap (λ (l : List ℕ). value_text InFlow l v) (old_at row stood.before alone stood.text) ∙ value_is edit.old v)

    -- so what the code puts there is what is put at the part
    pub puts_found : (v : tree.Node) (r : EditPlace) (o : Option (String Global)) → edit_view r ≡ replace_place p.1 → IsWrittenIn row p.1 v o → IsValuePut n path v c (place_after x.before r) o
    puts_found v r o place h =
        let text = (λ i. value_text InFlow (drop (sym place i).start (take (sym place i).end row)) v) ∙ text_found v r place in
        (z, placement_there, place_found v r place, written_found (node_in n path c) v z _ _ (ap (λ (m : Option tree.Node). keeps_scalar m v) node_there) text o h)

-- ---- no collection

-- ---- the segments

pub puts_none : (n : ℕ) (path : List Step) (v : tree.Node) (c : Cut) → flow_placement n c (last_step path) ≡ None → part_replaced n path v c ≡ None
puts_none n path v c none = ap (option_map (part_put (cut_text c) (keeps_scalar (node_in n path c) v) v)) none

pub puts_written : (n : ℕ) (path : List Step) (v : tree.Node) (c : Cut) (place : PlacedEdit) (o : Option (String Global)) (written : String Global) (whole : List ℕ) → o ≡ Some written → whole ≡ cut_text c → IsValuePut n path v c place o →
    part_replaced n path v c ≡ Some (edit_segments whole place (string_bytes written))
puts_written n path v c place o written whole some all h =
    let t : List ℕ = cut_text c in
    let w = h.2 in
    let k = subst (IsWrittenPart (node_in n path c) v h.0) some h.3 in
    (λ i. option_map (part_put t (k.0 i) v) (h.1 i))
    ∙ ap Some (sym (segments_at t w.before (put_edit v h.0) w.text) ∙ (λ i. edit_segments (sym all i) (sym w.place_is i) (sym k.1 i)))

pub puts_kept : (n : ℕ) (path : List Step) (v : tree.Node) (c : Cut) (place : PlacedEdit) (o : Option (String Global)) → o ≡ None → IsValuePut n path v c place o → part_replaced n path v c ≡ Some (keep (cut_text c) ∷ [])
puts_kept n path v c place o h6 h = search rules
