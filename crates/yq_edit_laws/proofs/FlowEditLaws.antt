-- An edit of a flow collection carries out an operation, where it makes of the document what that does.
use Rattle.std.proofs.Common.{rules, ◌+◌, [], refl, ◌≡◌, ℕ, ◌-◌, ◌≤◌, List, ◌++◌, length, take, Some, sym, ap, ◌∙◌, arith, append_assoc}
use Rattle.std.{proofs.Common.{append-nil, length-append}, proofs.Math.Seq.take-append_seam}
use Rattle.yq_text.{specs.Limit.text_limit, specs.Script.{Segment, old_text, new_text, script_text_before, kept_front, kept_back}}
use Rattle.yq_core.{specs.Paths.{Step, changed_at, within}, specs.Tree.Children, specs.Collections.CollPieces}
use Rattle.yq_core.specs.Nodes.{FlowNode, node_text}
use Rattle.yq_flow_edits.specs.FlowEdits.{FlowEdit, IsFlowEdited, edited_node}
use Rattle.yq_row_table.{specs.Exchange.{row_front, with_content}, specs.Rows.{Inline, Row, rows_text, Cut, cut_text}}
use Rattle.yq_row_table.{proofs.PlaceLaws.row_front-append, proofs.seams.SeamLaws.rows_text-append}
use Rattle.yq_documents.{specs.Documents.{HasFitKeys, lead_of}, specs.Reading.{read_at, root_of}}
use Rattle.yq_edit_rules.{specs.Changed.put_document, specs.DocumentRows.after_document}
use Rattle.yq_edit_rules.{specs.FlowRows.{text_after_node, row_collection, with_node, FlowAt}, proofs.PlaceTextLaws.{IsAround, around}}
use Rattle.yq_edit_rules.{specs.Rooms.is_block_root, specs.SoundRoots.IsSoundRoot, proofs.FlowKeptLaws.flow_rooms}
use Rattle.yq_edit_rules.{proofs.FlowPathLaws.row_texts, proofs.FlowRowLaws.flow_edited, proofs.LeadLaws.same_lead_goes}
use Rattle.yq_edit_rules.{specs.Done.ArePieces, specs.EditLaws.CarriedOut, specs.FlowParts.flow_segments, proofs.LocalLaws.at_row}
use Rattle.yq_semantics.{specs.After.{op_document, root_after}, specs.Operations.Operation}
use Rattle.yq_edit_laws.proofs.OneRows.{MakesRow, PutsRow, RowIn, row_carried, row_made}

-- the node that is edited, in its row
abbrev pub edited_at : (c : Cut) (k : ℕ) (steps : List Step) (w : CollPieces) → FlowAt c k steps w → FlowEdit → FlowNode
edited_at c k steps w at e = edited_node (row_collection c k at.part at.row at.rest w) e

-- the cut with the edited node there
abbrev pub made_cut : (op : Operation) (c : Cut) (steps : List Step) (w : CollPieces) → FlowAt c (op_document op) steps w → FlowEdit → Cut
made_cut op c steps w at e = put_document (op_document op) (with_node at.part at.row (edited_at c (op_document op) steps w at e)) c

-- An edit of the flow collection at a path makes of a document what an operation does.
pub record FlowCarried (op : Operation) (c : Cut) (steps : List Step) (w : CollPieces) (at : FlowAt c (op_document op) steps w) (e : FlowEdit) (h : Children → Children) : Type 0 where
  pub edited : IsFlowEdited (row_collection c (op_document op) at.part at.row at.rest w) e (changed_at at.rest (within h))
  pub keys : HasFitKeys (edited_at c (op_document op) steps w at e)
  pub sound : IsSoundRoot (changed_at steps (within h) (root_of at.part))
  pub root : changed_at steps (within h) (root_of at.part) ≡ root_after (is_block_root at.part) (lead_of at.part) op (root_of at.part)
  pub pieces : ArePieces (flow_segments (cut_text c) e)
  pub stays : length (text_after_node c (op_document op) at.part at.row) ≤ length e.after

-- the text before what is at its end
pub before_is : (t before after : List ℕ) → t ≡ before ++ after → script_text_before t after ≡ before
before_is t before after e =
    let size : length t - length after ≡ length before = omega (arith, ap length e, length-append before after) in
    (λ i. take (size i) (e i)) ∙ take-append_seam before after

-- Where the text of an edit is in the text of a cut, and in the new one; it is inside a node with what is after that.
pub record FlowTexts (c new : Cut) (e : FlowEdit) (node : List ℕ) : Type 0 where
  pub before : List ℕ
  pub old : cut_text c ≡ before ++ (e.old ++ e.after)
  pub is : cut_text new ≡ before ++ ((e.lead ++ e.written) ++ e.after)
  pub inside : length (cut_text c) ≤ length before + length node

pub flow_texts : (c : Cut) (k : ℕ) (steps : List Step) (w : CollPieces) (at : FlowAt c k steps w) (e : FlowEdit) (h : Children → Children) → IsFlowEdited (row_collection c k at.part at.row at.rest w) e (changed_at at.rest (within h)) →
    FlowTexts c (put_document k (with_node at.part at.row (edited_at c k steps w at e)) c) e (node_text at.row.node (text_after_node c k at.part at.row))
flow_texts c k steps w at e h edited =
    let s = row_texts c k at.part at.row at.there at.at.rows_are at.at.content_is in
    let b = edited.text in
    record {
      before = s.before ++ b.before;
      old = s.old ∙ (ap (λ (l : List ℕ). s.before ++ l) b.was ∙ sym (append_assoc s.before b.before (e.old ++ e.after)));
      is = s.new (edited_at c k steps w at e) ∙ (ap (λ (l : List ℕ). s.before ++ l) b.is ∙ sym (append_assoc s.before b.before ((e.lead ++ e.written) ++ e.after)));
      inside = omega (arith, ap length s.old, length-append s.before (node_text at.row.node (text_after_node c k at.part at.row)), length-append s.before b.before);
    }

-- the texts of the segments
pub segments_old : (t before : List ℕ) (e : FlowEdit) → t ≡ before ++ (e.old ++ e.after) → old_text (flow_segments t e) ≡ t
segments_old t before e is = (λ i. before_is t before (e.old ++ e.after) is i ++ (e.old ++ append-nil e.after i)) ∙ sym is

segments_new : (t u before : List ℕ) (e : FlowEdit) → t ≡ before ++ (e.old ++ e.after) → u ≡ before ++ ((e.lead ++ e.written) ++ e.after) → new_text (flow_segments t e) ≡ u
segments_new t u before e was is =
    (λ i. before_is t before (e.old ++ e.after) was i ++ (e.lead ++ (e.written ++ append-nil e.after i))) ∙ (ap (λ (l : List ℕ). before ++ l) (sym (append_assoc e.lead e.written e.after)) ∙ sym is)

-- the row in the text
row_there : (c : Cut) (k : ℕ) (steps : List Step) (w : CollPieces) (at : FlowAt c k steps w) (a : IsAround k c at.part) →
    cut_text c ≡ (a.start ++ rows_text at.row.front []) ++ ((row_front at.row.row ++ at.row.space) ++ node_text at.row.node (text_after_node c k at.part at.row))
row_there c k steps w at a = search (rules, row_front-append, append_assoc, rows_text-append, at_row)

-- the row in its document
abbrev row_here : (c : Cut) (k : ℕ) (steps : List Step) (w : CollPieces) (at : FlowAt c k steps w) → read_at (cut_text c) ≡ Some c → RowIn k c
row_here c k steps w at read = let a = around k c at.part at.there in record {
  part = at.part;
  old = record { read = read; there = at.there };
  start = a.start;
  put = a.put;
  front = at.row.front;
  row = at.row.row;
  back = at.row.back;
  rows_are = at.at.rows_are;
}

module _ (op : Operation) (c : Cut) (steps : List Step) (w : CollPieces) (at : FlowAt c (op_document op) steps w) (e : FlowEdit) (h : Children → Children) (read : read_at (cut_text c) ≡ Some c) (done : FlowCarried op c steps w at e h) where
  abbrev k : ℕ
  k = op_document op

  abbrev new : Row
  new = with_content (Inline at.row.space (edited_at c k steps w at e) at.row.tail) at.row.row

  abbrev ss : List Segment
  ss = flow_segments (cut_text c) e

  puts : PutsRow op c (row_here c (op_document op) steps w at read) new (flow_segments (cut_text c) e)
  puts =
      let i = at.row in
      let a = around k c at.part at.there in
      let t = flow_texts c k steps w at e h done.edited in
      let f : List ℕ = a.start ++ rows_text i.front [] in
      let before : kept_front ss ≡ t.before = append-nil _ ∙ before_is (cut_text c) t.before (e.old ++ e.after) t.old in
      let after : kept_back ss ≡ e.after = append-nil e.after in
      record {
        old = segments_old (cut_text c) t.before e t.old;
        text = segments_new (cut_text c) (cut_text (made_cut op c steps w at e)) t.before e t.old t.is;
        puts = refl;
        front = omega (
          arith,
          t.inside,
          ap length before,
          ap length (row_there c k steps w at a),
          length-append f ((row_front i.row ++ i.space) ++ node_text i.node (text_after_node c k at.part i)),
          length-append (row_front i.row ++ i.space) (node_text i.node (text_after_node c k at.part i)),
        );
        after = omega (arith, done.stays, ap length after, length-append i.tail (rows_text i.back (at.part.end ++ after_document k c)));
        pieces = done.pieces;
      }

  makes : MakesRow op c (row_here c (op_document op) steps w at read) new (changed_at steps (within h))
  makes =
      let kept = flow_rooms c k at.part steps at.line at.rest at.row w e.gap e.items at.at in
      record {
        lead = lead_of at.part;
        changed = flow_edited (cut_text c) c k at.part steps at.line at.rest at.row w e h (record { read = read; there = at.there }) at.at done.edited done.keys done.sound;
        root = done.root;
        keeps = record { block = kept.1; lead = same_lead_goes at.part (with_node at.part at.row (edited_at c k steps w at e)) kept.2 kept.1; room = λ sets. kept.0 };
      }

  pub flow_carried : length (new_text (flow_segments (cut_text c) e)) ≤ text_limit → CarriedOut op c (flow_segments (cut_text c) e)
  flow_carried = row_carried op c (row_here c k steps w at read) new ss puts (changed_at steps (within h)) makes

  -- the text that it makes reads as that cut
  pub made_reads : length (new_text (flow_segments (cut_text c) e)) ≤ text_limit → read_at (new_text (flow_segments (cut_text c) e)) ≡ Some (made_cut op c steps w at e)
  made_reads = row_made op c (row_here c k steps w at read) new ss puts (changed_at steps (within h)) makes
