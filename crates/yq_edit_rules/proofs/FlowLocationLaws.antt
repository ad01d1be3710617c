-- The flow collection at a path as a node of the text, with its places.
use Rattle.std.proofs.Common.{◌≡◌, ℕ, ◌+◌, Bool, true, List, [], ◌∷◌, ◌++◌, length, Option, Some, option_map, refl, sym, ap, ◌∙◌, subst}
use Rattle.std.{proofs.Common.append_assoc, proofs.lemmas.Option.same_Some, specs.Str.IsUtf8}
use Rattle.yq_core.{specs.Paths.Step, specs.Collections.{CollPieces, coll_along, coll_in}}
use Rattle.yq_core.specs.Entries.{EntryPieces, entry_pieces_at, path_inside, locate_entry, placed_entry_at}
use Rattle.yq_core.{specs.Nodes.{bare, FlowNode, key_text, node_text, IsFlowNode}, specs.Places.locate, specs.Spans.HasSpans}
use Rattle.yq_core.{proofs.PathLaws.{path_holds, path_places, path_is_there, then_some}, proofs.NodesWrittenLaws.key_append}
use Rattle.yq_row_table.{specs.Exchange.after_row, specs.Rows.{Cut, cut_text}}
use Rattle.yq_documents.{specs.Reading.read_at, specs.LinesInRows.document_row}
use Rattle.yq_places.{proofs.FlowSpanLaws.entry_spans, proofs.HeadSpanLaws.node_spans}
use Rattle.yq_edit_rules.{specs.FlowRows.{text_after_node, FlowAt}, proofs.FlowPathLaws.{row_in_cut, row_texts}}
use Rattle.yq_edit_rules.{proofs.FlowRowLaws.flow_is_there, proofs.PartLaws.document_known, proofs.TextPieceLaws.text_is_piece}

-- a collection is that of the item or entry to which the steps lead
pub coll_entry : (ss : List Step) (x : EntryPieces) (w : CollPieces) → coll_along ss x.node x.rest ≡ Some w → (y : EntryPieces)
    × (entry_pieces_at ss x ≡ Some y) × (coll_in y.node y.rest ≡ Some w)
coll_entry [] x w e = (x, refl, e)
coll_entry (s ∷ ss) x w e =
    let z = then_some (path_inside s x.node x.rest) e in
    let y = coll_entry ss z.0 w z.2 in
    (y.0, ap (Rattle.std.specs.Prelude.option_and_then (entry_pieces_at ss)) z.1 ∙ y.1, y.2)

-- A node is valid before a rest.
pub record Valid (node : FlowNode) (rest : List ℕ) : Type 0 where
  pub flow : Bool
  pub spaces : Option ℕ
  pub depth : ℕ
  pub is : IsFlowNode flow spaces depth node rest

entry_valid : (ss : List Step) (x y : EntryPieces) → Valid x.node x.rest → entry_pieces_at ss x ≡ Some y → Valid y.node y.rest
entry_valid [] x y v e = subst (λ (z : EntryPieces). Valid z.node z.rest) (same_Some _ _ e) v
entry_valid (s ∷ ss) x y v e = let k = path_holds v.flow v.spaces v.depth s ss x y v.is e in record { flow = true; spaces = Some 0; depth = k.0; is = k.2 }

-- The flow collection at a path is that of a node of the text, which is valid there and has its places at whole characters.
pub record CollIsThere (c : Cut) (w : CollPieces) : Type 0 where
  pub node : FlowNode
  pub rest : List ℕ
  pub before : List ℕ
  pub text : cut_text c ≡ before ++ node_text node rest
  pub is : coll_in node rest ≡ Some w
  pub valid : Valid node rest
  pub spans : HasSpans (cut_text c) (locate (length (cut_text c)) node rest)

pub coll_is_there : (c : Cut) (k : ℕ) (steps : List Step) (w : CollPieces) → read_at (cut_text c) ≡ Some c → FlowAt c k steps w → CollIsThere c w
coll_is_there c k steps w read at =
    let i = at.row in
    let p = at.part in
    let total : ℕ = length (cut_text c) in
    let r : List ℕ = text_after_node c k p i in
    let slot : EntryPieces = record { key = bare; node = i.node; rest = r } in
    let y = coll_entry at.rest slot w at.at.along in
    let texts = row_texts c k p i at.there at.at.rows_are at.at.content_is in
    let inside' = path_is_there at.rest slot y.0 y.1 in
    let known = document_known (cut_text c) c k p (record { read = read; there = at.there }) in
    let is_located = flow_is_there (cut_text c) c k p steps at.line at.rest i w (record { read = read; there = at.there }) at.at in
    let h = row_in_cut c k p i.front i.row i.back at.there at.at.rows_are in
    let utf8 : IsUtf8 (cut_text c) = (text_is_piece c read).utf8 in
    let own : HasSpans (cut_text c) (locate total i.node (i.tail ++ after_row (document_row k c + length i.front) c)) =
    node_spans c (document_row k c + length i.front) i.row utf8 known.cut h.there i.space i.node i.tail at.at.content_is in
    let spans : HasSpans (cut_text c) (locate total i.node r) = subst (λ (u : List ℕ). HasSpans (cut_text c) (locate total i.node (i.tail ++ u))) h.after own in
    let placed : placed_entry_at at.rest (locate_entry total slot) ≡ Some (locate_entry total y.0) =
    path_places total at.rest slot ∙ (ap (option_map (locate_entry total)) y.1) in
    record {
      node = y.0.node;
      rest = y.0.rest;
      before = texts.before ++ (inside'.before ++ key_text y.0.key []);
      text =
          texts.old
          ∙ (ap (λ (l : List ℕ). texts.before ++ l)
          (inside'.text ∙ (ap (λ (l : List ℕ). inside'.before ++ l) (key_append y.0.key [] (node_text y.0.node y.0.rest))
          ∙ sym (append_assoc inside'.before (key_text y.0.key []) (node_text y.0.node y.0.rest))))
          ∙ sym (append_assoc texts.before (inside'.before ++ key_text y.0.key []) (node_text y.0.node y.0.rest)));
      is = y.2;
      valid = entry_valid at.rest slot y.0 (record { flow = _; spaces = _; depth = _; is = is_located.inline.valid }) y.1;
      spans = (entry_spans (cut_text c) at.rest (locate_entry total slot) (locate_entry total y.0) (tt, spans) placed).1;
    }
