-- The document in which the node of a value is put in a row that is alone on its line.
use Rattle.std.proofs.lemmas.Grind.{common_steps}
use Rattle.std.proofs.Common.{arith, refl, ◌≡◌, ℕ, eqb, List, [], ◌∷◌, ◌++◌, length, Some, true, false, sym, ap, ◌∙◌, subst, append_assoc}
use Rattle.std.{proofs.Common.rules, proofs.lemmas.Bool.{and_right, false≢true}, proofs.lemmas.Option.same_Some, specs.Str.is_utf8}
use Rattle.yq_core.{specs.Paths.{Step, changed_at, node_at}, specs.Piece.deeper, specs.Text.is_marker, specs.Tree.Node}
use Rattle.yq_core.{proofs.Bools.guard_then, specs.Nodes.node_text}
use Rattle.yq_outline.{specs.Comments.head_comment, specs.Group.{group, is_fine}, specs.Outline.Line}
use Rattle.yq_outline.{specs.Places.{FoundLine, content_under}, proofs.Finding.{FoundNode, path_node}}
use Rattle.yq_outline.specs.Lines.{lines_of_rows, mark_line}
use Rattle.yq_row_table.specs.Exchange.{allows_first, asked_after, row_front, with_content}
use Rattle.yq_row_table.specs.Grammar.{Limit, unlimited, AreRows, IsContent, IsMark, IsRow, limit_after, may_be_alone, no_rows}
use Rattle.yq_row_table.specs.Rows.{Bare, Content, Row, following_gap, content_text, dashes_text, mark_column, mark_text, parent_indent}
use Rattle.yq_row_table.{specs.Rows.{rows_text, Part, part_text, Cut, cut_text}, specs.View.content_cut, proofs.NothingLaws.gap_other}
use Rattle.yq_row_table.{proofs.PlaceLaws.row_front-append, proofs.seams.FrontSeams.after_row_some, proofs.seams.SeamLaws.rows_text-append}
use Rattle.yq_row_table.{proofs.splices.PartPlaces.part_ends, proofs.splices.SpliceTexts.{own_gap, own_end}}
use Rattle.yq_documents.{specs.Documents.{document_parts, lead_of}, specs.Reading.{part_outline, read_at, root_of}}
use Rattle.yq_documents.{specs.TreeEdits.replaced_node, proofs.PartRows.each, proofs.ReadLaws.text_takes, specs.PartNumbers.part_number}
use Rattle.yq_places.{specs.RowPaths.IsReadable, proofs.RemovalLines.front_some, proofs.RowPathLaws.document_fine}
use Rattle.yq_places.{proofs.RunSpans.rows_then, proofs.HeadSpanLaws.may_follow}
use Rattle.yq_edit_rules.{specs.Changed.{IsChanged, put_document}, specs.Contents.{TakesContent, recontent}}
use Rattle.yq_edit_rules.{specs.DocumentRows.{IsDocumentPart, after_document}, specs.InlineRows.{IsValueNode, LeadsToLone}}
use Rattle.yq_edit_rules.{specs.Rooms.is_block_root, specs.SoundRoots.MayReplace}
use Rattle.yq_edit_rules.{proofs.ContentLaws.{lower_content_replaced, root_content_replaced}, proofs.CoreLaws.{put_core, recore}}
use Rattle.yq_edit_rules.{proofs.InlineReplaceLaws.{next_is_there, own_rows, tail_ends_plain}, proofs.LineLaws.above_mark}
use Rattle.yq_edit_rules.{proofs.MarkFirst.no_node_first, proofs.PartLaws.document_known, proofs.CommentPutLaws.last_lines}
use Rattle.yq_edit_rules.proofs.RowCommentLaws.{lead_content}
use Rattle.yq_edit_rules.proofs.ValueContentLaws.{content_alone, content_head, content_is, content_keys, content_named, content_short}
use Rattle.yq_edit_rules.proofs.ValueContentLaws.{content_tail, content_unmarked}
use Rattle.yq_edit_laws.proofs.LoneHeads.{IsLoneHead, before_head, lone_head}
use Rattle.yq_core.specs.Nodes as inline

module _ (c : Cut) (n : ℕ) (p : Part) (old : IsDocumentPart (cut_text c) c n p) (front : List Row) (r : Row) (back : List Row) (rows_are : p.rows ≡ front ++ (r ∷ back)) (mark : r.mark ≡ Bare) (no_dashes : r.dashes ≡ [])
    (steps : List Step) (leads : LeadsToLone p steps front r) (v : Node) (node : inline.FlowNode) (is : IsValueNode v node) where
  abbrev rest : List ℕ
  rest = rows_text back (p.end ++ after_document n c)

  abbrev limit : Limit
  limit = asked_after unlimited front

  abbrev new : Content
  new = put_core node r.content

  abbrev pub q : Part
  q = recontent front r back (put_core node r.content) p

  own : AreRows limit (r ∷ back) p.end (after_document n c)
  own = own_rows (cut_text c) c n p front r back old rows_are

  alone : may_be_alone r.content ≡ true
  alone = subst (λ m. IsMark m r.content rest) mark own.0.mark

  pub head : IsLoneHead r.content
  head = lone_head (parent_indent r) r.content rest own.0.content alone

  fine : is_fine (group (lines_of_rows p.rows)) ≡ true
  unfolding read_at
  fine = document_fine p (each (document_parts c) (text_takes (cut_text c) c (guard_then (is_utf8 (cut_text c)) old.read).1).1 n p old.there)

  near : allows_first (record { column = Some (deeper (parent_indent r)) }) back ≡ true
  near = next_is_there p front r back rows_are (document_known (cut_text c) c n p old).even fine steps leads

  -- ---- the row

  content_new : IsContent (parent_indent r) new rest
  content_new =
      content_is v node is (parent_indent r) r.content rest head.block own.0.content
      (λ tail end. tail_ends_plain (parent_indent r) tail (limit_after r) back p.end (after_document n c) end own.1 near (part_ends c (part_number n c) true (document_known (cut_text c) c n p old).cut.parts))

  row_new : IsRow limit (with_content new r) rest
  row_new = record {
    gap = gap_other r.gap (following_gap r rest) (following_gap (with_content new r) rest) (after_row_some limit r rest own.0) own.0.gap;
    allowed = own.0.allowed;
    unmarked = and_right (eqb r.column 0) _
        (ap is_marker (λ i. dashes_text (no_dashes i) (mark_text (mark i) (content_text new rest))) ∙ content_unmarked v node is (parent_indent r) r.content rest alone own.0.content);
    dashes = own.0.dashes;
    mark = subst (λ m. IsMark m new rest) (sym mark) (content_alone v node is r.content alone);
    content = content_new;
  }

  pub there : q.rows ≡ front ++ (with_content new r ∷ back)
  there = ap (λ (rs : List Row). front ++ (with_content new r ∷ rs)) (own_gap back p.end)

  pub same_end : q.end ≡ p.end
  same_end = own_end back p.end

  -- ---- the text

  pub text : (start : List ℕ) → ((x : Part) → cut_text (put_document n x c) ≡ start ++ part_text x (after_document n c)) →
      cut_text (put_document n q c) ≡ ((start ++ rows_text front []) ++ (row_front r ++ before_head r.content)) ++ node_text node ((content_cut r.content).4 ++ rest)
  text start put = search (rules, append_assoc, there, same_end, rows_text-append, rows_then, row_front-append, head, before_head)

  -- ---- the document

  takes : IsReadable (cut_text (put_document n q c)) → TakesContent (cut_text c) c n p front r back v new
  takes readable = record {
    old = old;
    rows_are = rows_are;
    row = record { gap = refl; column = refl; row = row_new; next = (search (rules, may_follow, near, recore, false≢true, head.block)) };
    head_is = content_head v node is r.content head.block;
    anchor_is = content_named v node is r.content;
    comment_is = content_tail v node is r.content;
    keys = content_keys v node is r.content;
    short = content_short v node is (parent_indent r) r.mark r.content rest own.0.content;
    text = readable;
  }

  pub lone_changed : IsReadable (cut_text (put_document n q c)) → (m : Node) → node_at steps (root_of p) ≡ Some m →
      MayReplace v m (root_of p) (length steps) → IsChanged c (put_document n q c) n (lead_of p) (changed_at steps (replaced_node v))
  lone_changed readable = go steps leads
    where
      go : (ss : List Step) → LeadsToLone p ss front r → (m : Node) → node_at ss (root_of p) ≡ Some m → MayReplace v m (root_of p) (length ss) → IsChanged c (put_document n q c) n (lead_of p) (changed_at ss (replaced_node v))
      go [] h m at may = root_content_replaced (cut_text c) c n p front back r v new (takes readable) h.count h.mark (subst (λ x. MayReplace v x (root_of p) 0) (sym (same_Some _ _ at)) may)
      go (s ∷ ss) h m at may =
          let f : FoundLine = h.found in
          let own : node_at (s ∷ ss) (root_of p) ≡ Some (content_under f.line f.under) = path_node s ss (part_outline p) ∙ ap FoundNode h.is in
          lower_content_replaced (cut_text c) c n p front back r v new s ss f (takes readable) h.is h.open' h.count h.mark h.number (subst (λ x. MayReplace v x (root_of p) (length (s ∷ ss))) (same_Some _ _ (sym at ∙ own)) may)

  pub same_lead : lead_of q ≡ lead_of p
  same_lead = lead_content front r new back p q rows_are there

  pub some_rows : no_rows q.rows ≡ false
  some_rows = ap no_rows there ∙ front_some front (with_content new r) back

  abbrev line : Content → Line
  line x = mark_line (above_mark (head_comment r.gap) r.dashes) (mark_column r) r.mark x

  pub same_block : is_block_root q ≡ is_block_root p
  same_block = search (rules, there, last_lines, no_node_first)

  pub rooted : steps ≡ [] → is_block_root p ≡ false
  rooted e = grind (arith, common_steps, last_lines)
