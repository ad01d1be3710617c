-- A block scalar that a key or dash holds: its header's line, the lines below, and a value on one line in their place.
use Rattle.std.proofs.Common.{◌≡◌, inl, inr, ℕ, cond, List, [], ◌++◌, length, Option, None, Some, true, false, ◌&&◌, ◌||◌, refl, sym, ap}
use Rattle.std.{proofs.Common.{◌∙◌, subst, append_assoc, append-nil, rules, ◌≤◌, not, ◌∷◌}, proofs.lemmas.Bool.{false≢true, and_parts}}
use Rattle.yq_core.{specs.Block.{BlockText, block_text}, specs.Lines.{is_blank, is_hash}, specs.Paths.Step}
use Rattle.yq_core.{specs.Text.{front, is_empty, is_line, is_white, past_white, separates}, specs.Tree.{anchor_of, Node}}
use Rattle.yq_core.{specs.BlockWritten.break_text, specs.Piece.deeper, specs.Plain.ends_plain, specs.declared.block_types.Break.Break}
use Rattle.yq_core.{specs.Nodes.{node_text, IsFlowNode}, specs.Trees.node_anchor}
use Rattle.yq_outline.{specs.Places.content_under, specs.Lines.{block_anchor, content_anchor}, specs.Comments.line_comment}
use Rattle.yq_row_table.{specs.Exchange.{row_front, with_content}, specs.Gap.IsBreak, specs.Grammar.{IsContent, IsTail, IsAnchor}}
use Rattle.yq_row_table.specs.Rows.{Anchor, Block, anchor_text, content_text, Row, parent_indent, rows_text, Cut, cut_text, Content, Inline}
use Rattle.yq_row_table.{specs.Rows.mark_column, specs.View.slices, proofs.LineEnds.{comment_none, text_line, white_none, none_in_white}}
use Rattle.yq_row_table.{proofs.NodeExchange.space_apart, proofs.PlaceLaws.row_front-append, proofs.seams.RowSeams.block_no_space}
use Rattle.yq_places.{specs.CommentPlaces.{LineEnd, end_in_line}, specs.PrintedLines.{last_break, less_break}}
use Rattle.yq_places.{specs.RowPieces.{anchor_before, space_before}, specs.Placements.{RowsOfEntry, before_entry, held, Held}}
use Rattle.yq_edit_rules.{proofs.HeldCuts.break_is_piece, specs.PlacementLaws.HasItsRows, specs.TextPieces.IsPiece}
use Rattle.yq_edit_rules.{specs.ReplaceEdits.{line_break, raw_last, spaced_text, held_put}, proofs.BreakLaws.{IsLfOrCrLf, break_is}}
use Rattle.yq_edit_rules.{proofs.CommentRowLaws.end_parts, specs.InlineRows.IsValueNode}
use Rattle.yq_edit_rules.proofs.CoreLaws.{recore, anchored_node, core_anchor, core_bare, core_head, core_keys}
use Rattle.yq_edit_rules.{proofs.InlineReplaceLaws.deeper_entry, proofs.PathTailLaws.anchor_other, proofs.ValueContentLaws.more_some}
use Rattle.yq_edit_rules.{specs.EditLaws.CarriedOut, proofs.EditsFitLaws.FitsReplace, proofs.ValueTexts.IsWrittenFor}
use Rattle.yq_edit_rules.proofs.PlacementMarks.{entry_there}
use Rattle.yq_text.{specs.Limit.text_limit, specs.Script.new_text}
use Rattle.yq_documents.proofs.RowLineLaws.{tail_is as content_tail}
use Rattle.yq_semantics.specs.Operations.{replace}
use Rattle.yq_edit_laws.{proofs.HeldInline.{apart_there, content_there, head_carried}, proofs.HeldCarried.{KnowsHeld, regroup}}
use Rattle.yq_edit_laws.{proofs.HeldRows.{mark_end, mark_tail}, proofs.NodeRowLaws.{rest, NodeRows, mark_node}}
use Rattle.yq_edit_laws.proofs.NodeValueLaws.{IsContentFor, end_is}
use Rattle.yq_core.specs.Nodes as inline
use Rattle.yq_edit_rules.specs.WrittenValues as written

-- ---- the break of a header's line

has_break : (tail more : List ℕ) → is_line tail ≡ true → (h : IsTail tail more) → IsLfOrCrLf h.line.break
unfolding is_line
has_break tail more line h = go h.line.ends
  where
    same : is_line tail ≡ is_line h.line.break
    same = ap is_line (h.line.spelled ∙ sym (append_assoc h.white h.comment h.line.break))
        ∙ text_line (h.white ++ h.comment) h.line.break
        (white_none h.white h.comment h.line.break h.line.blank (comment_none h.comment h.line.break h.line.as_comment))

    go : IsBreak h.line.break more → IsLfOrCrLf h.line.break
    go (inl k) = break_is h.line.break k
    go (inr k) = absurd (false≢true (sym (ap is_line k.0) ∙ (sym same ∙ line)))

-- a break and lines after it, as they are held: the break of the line is that one, with or without lines
abbrev gone_of : List ℕ → List ℕ → List ℕ
gone_of b below = cond (is_empty below) [] b

abbrev final_of : List ℕ → List ℕ → List ℕ
final_of b below = cond (is_empty below) b (last_break below)

lines_old : (b below u : List ℕ) → IsLfOrCrLf b →
    b ++ (less_break below ++ (cond (is_empty (gone_of b below)) [] (final_of b below) ++ u)) ≡ gone_of b below ++ (less_break below ++ (final_of b below ++ u))
unfolding less_break
lines_old b below u h1 = search rules

-- ---- the text up to a header

front_with : (base space : List ℕ) (anchor : Option Anchor) (block : BlockText) (r : Row) (u : List ℕ) → let s = slices (with_content (Block space anchor block) r) in
    (base ++ anchor_before s) ++ (space_before s ++ u) ≡ base ++ (space ++ anchor_text anchor u)
front_with base space None block r u = ap (λ t. t ++ (space ++ u)) (append-nil base)
front_with base space (Some a) block r u = simp append_assoc refl

-- ---- an inline node after the anchor of a block scalar

-- a node that has that anchor
abbrev carrier : Option Anchor → inline.FlowNode
carrier None = inline.coll 93 [] inline.none
carrier (Some a) = inline.anchored a.name a.gap (inline.coll 93 [] inline.none)

carrier_anchor : (a : Option Anchor) → node_anchor (carrier a) ≡ block_anchor a
carrier_anchor a = search rules

named_node : (anchor : Option Anchor) (v : Node) (node : inline.FlowNode) (spaces : Option ℕ) (d : ℕ) (old u : List ℕ) → IsAnchor anchor old →
    IsValueNode v node → IsFlowNode false spaces d node u → IsFlowNode false spaces d (recore node (carrier anchor)) u
named_node None v node spaces d old u h is is_located = is_located
named_node (Some a) v node spaces d old u h is is_located =
    anchored_node spaces d node u is.unnamed (more_some node is.more) is.takes is_located a.name a.gap (inline.coll 93 [] inline.none) (91 ∷ []) refl
    (anchor_other (Some a) old (91 ∷ []) h).0 (inl ((none_in_white a.gap (91 ∷ []) h.1, refl), refl)) (ap not h.2)

named_text : (anchor : Option Anchor) (node : inline.FlowNode) (u : List ℕ) → node_text (recore node (carrier anchor)) u ≡ anchor_text anchor (node_text node u)
unfolding node_text
named_text anchor node u = search rules

-- ---- a key or dash

module _ (n : ℕ) (s : Step) (ss : List Step) (c : Cut) (e : RowsOfEntry) (there : HasItsRows n s ss c e) (last : e.line ≡ length e.row.dashes) (knows : KnowsHeld n s ss c e there last)
    (space : List ℕ) (anchor : Option Anchor) (block : BlockText) (content_is : e.row.content ≡ Block space anchor block) where
  abbrev z : List ℕ
  z = rest n s ss c (mark_node n s ss c e there last)

  abbrev base : List ℕ
  base = before_entry e ++ row_front e.row

  pub row_is : e.row ≡ with_content (Block space anchor block) e.row
  row_is = ap (λ x. with_content x e.row) content_is

  pub headed : is_empty (slices e.row).head ≡ false
  headed = ap (λ (r : Row). is_empty (slices r).head) row_is

  pub valid : IsContent (parent_indent e.row) (Block space anchor block) (rest n s ss c (mark_node n s ss c e there last))
  valid = subst (λ x. IsContent (parent_indent e.row) x z) content_is (content_there n s ss c e there last knows headed)

  pub apart_is : separates (space ++ anchor_text anchor (block_text block (rest n s ss c (mark_node n s ss c e there last)))) ≡ true
  apart_is = subst (λ x. separates (content_text x z) ≡ true) content_is (apart_there n s ss c e there last knows headed)

  pub anchor_is : anchor_of (content_under there.found.line there.found.under) ≡ block_anchor anchor
  anchor_is = knows.named ∙ ap content_anchor content_is

  -- the text up to the header
  pub front_text : (u : List ℕ) → (held e).before ++ ((held e).space ++ u) ≡ (before_entry e ++ row_front e.row) ++ (space ++ anchor_text anchor u)
  front_text u = ap (λ (r : Row). (base ++ anchor_before (slices r)) ++ (space_before (slices r) ++ u)) row_is ∙ front_with base space anchor block e.row u

  -- the rest of the header's line
  abbrev below : List ℕ
  below = (slices e.row).raw ++ rows_text e.under []

  pub tail_is : (slices e.row).tail ≡ block.tail
  tail_is = ap (λ (r : Row). (slices r).tail) row_is

  break_there : IsLfOrCrLf (end_in_line [] (slices e.row).tail).after
  break_there =
      let line : is_line block.tail ≡ true = (and_parts (is_line block.tail) (is_blank block.tail || (front is_white block.tail && is_hash (past_white block.tail))) valid.2.tail).0 in
      subst (λ (x : LineEnd). IsLfOrCrLf x.after) (sym (mark_end n s ss c e there last)) (has_break (slices e.row).tail _ (ap is_line tail_is ∙ line) (mark_tail n s ss c e there last))

  line_is : line_break (held e) ≡ (end_in_line [] (slices e.row).tail).after
  line_is = search (rules, break_there)

  pub line_piece : IsPiece (line_break (held e))
  line_piece = break_is_piece (line_break (held e)) (inr (subst IsLfOrCrLf (sym line_is) break_there))

  pub header_line : (u : List ℕ) → (held e).white ++ ((held e).comment ++ (line_break (held e) ++ u)) ≡ block.tail ++ u
  header_line u =
      let t : LineEnd = end_in_line [] (slices e.row).tail in
      ap (λ q. t.white ++ (t.comment ++ (q ++ u))) line_is
      ∙ (ap (λ q. t.white ++ q) (sym (append_assoc t.comment t.after u)) ∙ (sym (append_assoc t.white (t.comment ++ t.after) u) ∙ ap (λ q. q ++ u) (sym (end_parts [] (slices e.row).tail) ∙ tail_is)))

  -- the old text
  pub raw_old : (held e).before ++ ((held e).space ++ ((held e).head ++ ((held e).white ++ ((held e).comment ++ (line_break (held e) ++ ((held e).lines ++ (raw_last (held e) ++ ((held e).after ++ [])))))))) ≡ cut_text c
  raw_old = search (rules, line_is, append-nil, lines_old, break_there)

  -- ---- a value on one line in the place of header and lines

  module _ (br : Break) (v : Node) (f : FitsReplace n (s ∷ ss) v c there.part) (t : List ℕ) (for : IsWrittenFor v t) where
    abbrev w : Held
    w = held e

    abbrev h : NodeRows n s ss c
    h = mark_node n s ss c e there last

    abbrev tail : List ℕ
    tail = w.white ++ (w.comment ++ w.last)

    abbrev node : inline.FlowNode
    node = recore for.node (carrier anchor)

    abbrev new : Content
    new = Inline space (recore for.node (carrier anchor)) (w.white ++ (w.comment ++ w.last))

    plain : ends_plain false (Some (deeper (parent_indent e.row))) (tail ++ z) ≡ true
    plain = subst (λ m. ends_plain false (Some m) (tail ++ z) ≡ true) (sym (deeper_entry e.row.mark (mark_column e.row) (entry_there n s ss c e there last))) (end_is n s ss c h tail knows.ended).plain

    is_for : IsContentFor n s ss c h v new
    is_for =
        let old = valid in
        record {
          is_located = (
            old.0,
            record {
              valid = named_node anchor v for.node _ _ (block_text block z) (tail ++ z) old.1 for.is (for.is.is_located (parent_indent e.row) (tail ++ z) plain).valid;
              something = ap not (core_bare for.node (carrier anchor) (more_some for.node for.is.more));
            },
            knows.ended,
          );
          apart = space_apart space (anchor_text anchor (block_text block z)) (node_text node (tail ++ z)) old.0 apart_is (block_no_space anchor block z);
          head = core_head for.node (carrier anchor) ∙ for.is.head;
          comment = knows.ended_comment ∙ ap line_comment (content_tail e.row.content);
          anchor = core_anchor for.node (carrier anchor) for.is.unnamed ∙ (carrier_anchor anchor ∙ sym anchor_is);
          keys = core_keys for.node (carrier anchor) for.is.keys;
        }

    spelled : (u : List ℕ) → e.start ++ (rows_text e.front [] ++ rows_text (with_content new e.row ∷ []) u) ≡ w.before ++ (w.space ++ spaced_text w.head (node_text for.node (tail ++ u)))
    spelled u =
        let b : List ℕ = rows_text e.front [] in
        ap (λ r. e.start ++ (b ++ r)) (row_front-append (with_content new e.row) u)
        ∙ (regroup e.start b (row_front e.row) (content_text new u)
        ∙ (ap (λ r. ((e.start ++ b) ++ row_front e.row) ++ (space ++ r)) (named_text anchor for.node (tail ++ u))
        ∙ (sym (front_text (node_text for.node (tail ++ u)))
        ∙ ap (λ b. w.before ++ (w.space ++ cond b (32 ∷ node_text for.node (tail ++ u)) (node_text for.node (tail ++ u)))) (sym headed))))

    pub scalar_inline : length (new_text (held_put (break_text br) w (written.inline t))) ≤ text_limit → CarriedOut (replace n (s ∷ ss) v) c (held_put (break_text br) w (written.inline t))
    scalar_inline = head_carried n s ss c e there last knows br v f t for new is_for spelled
