-- A value in the place of a node alone on its line.
use Rattle.std.proofs.Common.{◌≡◌, ◌⊎◌, inl, inr, ℕ, ◌≤◌, cond, List, [], ◌∷◌, ◌++◌, length, replicate, Some, refl, sym, ap, ◌∙◌, subst}
use Rattle.std.proofs.Common.{append_assoc, append-nil, arith, length-append, rules}
use Rattle.yq_text.{specs.Limit.text_limit, specs.Script.{Segment, new_text, old_text}}
use Rattle.yq_core.{specs.Paths.{Step, changed_at}, specs.Tree.Node, specs.declared.style.Place.TheVariants.Block as InBlock}
use Rattle.yq_core.{specs.Nodes.node_text, proofs.NodesWrittenLaws.node_then}
use Rattle.yq_flow_edits.specs.Valued.{IsValueTree}
use Rattle.yq_row_table.{specs.Exchange.{asked_after, row_front, with_content}, specs.Grammar.{IsMark, IsRow, IsTail, unlimited}}
use Rattle.yq_row_table.specs.Rows.{Bare, Row, following_gap, parent_indent, print_row, rows_text, Cut, cut_text, Part, part_text}
use Rattle.yq_row_table.{specs.View.slices, proofs.CharacterLaws.ends_after, proofs.NodePieces.following_ends}
use Rattle.yq_row_table.proofs.seams.SeamLaws.{rows_text-append}
use Rattle.yq_documents.{specs.Documents.lead_of, specs.Reading.{documents, read_at, root_of}, specs.TreeEdits.replaced_node}
use Rattle.yq_documents.specs.Pieces.{TextPiece}
use Rattle.yq_places.{specs.PlacedRows.{PlacedPart, PlacedRow, placed_document}, specs.Placements.{RowsOfEntry, lone}}
use Rattle.yq_places.{proofs.CommentEndLaws.row_text_parts, proofs.CommentPieceLaws.gap_end, proofs.LineEndLaws.line_tail}
use Rattle.yq_places.{proofs.RemovalLines.{LiesIn, LineSeam, lies_in, seam_join}, proofs.RunSpans.rows_then}
use Rattle.yq_edit_rules.{specs.DocumentRows.{IsDocumentPart, after_document}, specs.InlineRows.LeadsToLone, specs.PlacedParts.IsDocumentAt}
use Rattle.yq_edit_rules.{specs.Rooms.{is_block_root, row_shape}, proofs.ValueContentLaws.content_head, specs.TextPieces.IsPiece}
use Rattle.yq_edit_rules.{proofs.CoreLaws.put_core, proofs.InlineReplaceLaws.own_rows, proofs.LeadLaws.same_lead_goes}
use Rattle.yq_edit_rules.{proofs.PartLaws.document_known, proofs.PlacedPartLaws.document_is_there_at}
use Rattle.yq_edit_rules.proofs.RemovalPieceLaws.{seam_pieces, spaces_piece}
use Rattle.yq_edit_rules.{proofs.TextPieceLaws.{cut_after, pieces_joined, text_is_piece}, specs.EditLaws.{CarriedOut, IsEdit}}
use Rattle.yq_edit_rules.{specs.ReplaceEdits.{spaced_text, lone_put}, specs.WrittenValues.value_text}
use Rattle.yq_edit_rules.{proofs.EditsFitLaws.{FitsReplace, fits_replace}, proofs.KeptLaws.led_same}
use Rattle.yq_edit_rules.{proofs.TailPieces.{HasTailPieces, pieces}, proofs.ValueTexts.{IsWrittenFor, value_for}}
use Rattle.yq_edit_rules.specs.RowChanges.{ChangesRow}
use Rattle.yq_semantics.{specs.Fits.Fits, specs.Operations.{Operation, replace}, specs.Rooms.room_of}
use Rattle.yq_edit_laws.{proofs.LoneHeads.{EndsLow, IsLoneHead, before_head, lone_head}, proofs.MarkHeads.no_raw}
use Rattle.yq_edit_laws.{proofs.HeldRows.head_there, proofs.OneRows.{MakesRow, PutsRow, RowIn, row_carried, row_changes}}
use Rattle.yq_edit_laws.proofs.LoneContents as contents

-- A row that is alone on its line, among the rows of a document, to whose content steps lead; the rows before it end in an LF.
module _ (n : ℕ) (steps : List Step) (v : Node) (c : Cut) (read : read_at (cut_text c) ≡ Some c) (d : PlacedPart)
    (placed : placed_document n c ≡ Some d) (front : List Row) (r : Row) (back : List Row) (rows_are : d.part.rows ≡ front ++ (r ∷ back))
    (mark : r.mark ≡ Bare) (no_dashes : r.dashes ≡ []) (leads : LeadsToLone d.part steps front r) (ended : LineSeam (rows_text front []) (rows_text (r ∷ back) (d.part.end ++ d.after))) where
  abbrev z : List ℕ
  z = rows_text back (d.part.end ++ d.after)

  abbrev base : List ℕ
  base = d.before ++ rows_text front []

  abbrev w : TextPiece
  w = lone (d.before ++ rows_text front []) r (rows_text back (d.part.end ++ d.after))

  abbrev us : List Segment
  us = lone_put w v

  abbrev t : List ℕ
  t = value_text InBlock (slices r).head v

  is_located : IsDocumentAt c n d
  is_located = document_is_there_at c n d placed

  old : IsDocumentPart (cut_text c) c n d.part
  old = record { read = read; there = is_located.there }

  row : IsRow (asked_after unlimited front) r z
  row = subst (λ u. IsRow (asked_after unlimited front) r (rows_text back (d.part.end ++ u))) is_located.after (own_rows (cut_text c) c n d.part front r back old rows_are).0

  -- a head is there
  pub place : IsLoneHead r.content
  place = lone_head (parent_indent r) r.content z row.content (subst (λ m. IsMark m r.content z) mark row.mark)

  raw : (slices r).raw ≡ []
  raw = no_raw r.content place.block

  -- ---- the text

  rows_there : part_text d.part d.after ≡ rows_text front [] ++ print_row r z
  rows_there = ap (λ xs. rows_text xs (d.part.end ++ d.after)) rows_are ∙ (rows_text-append front (r ∷ back) (d.part.end ++ d.after) ∙ rows_then front (print_row r z))

  text : cut_text c ≡ base ++ print_row r z
  text = is_located.text ∙ (ap (λ u. d.before ++ u) rows_there ∙ sym (append_assoc d.before (rows_text front []) (print_row r z)))

  whole : cut_text c ≡ w.before ++ (w.text ++ w.after)
  whole = simp (append_assoc, text, row_text_parts, raw)

  old_is : old_text us ≡ cut_text c
  old_is = ap (λ u. w.before ++ (w.text ++ u)) (append-nil w.after) ∙ sym whole

  -- ---- its pieces

  lies : LiesIn d
  lies = lies_in n c d (document_known (cut_text c) c n d.part old).cut.parts placed

  abbrev indent : List ℕ
  indent = (base ++ r.gap) ++ replicate r.column 32

  seam : LineSeam (base ++ r.gap) (following_gap r z)
  seam =
      seam_join base r.gap (following_gap r z) (seam_join d.before (rows_text front []) (print_row r z) (subst (LineSeam d.before) rows_there lies.seam) ended)
      (gap_end r.gap (following_gap r z) row.gap)

  indent_piece : IsPiece indent
  indent_piece =
      pieces_joined (base ++ r.gap) (replicate r.column 32)
      (seam_pieces (base ++ r.gap) (following_gap r z) seam (subst IsPiece (text ∙ sym (append_assoc base r.gap (following_gap r z))) (text_is_piece c read))).0
      (spaces_piece r.column)

  before_is : w.before ≡ indent ++ before_head r.content
  before_is = search (rules, append_assoc, append-nil)

  before_piece : IsPiece w.before
  before_piece = subst IsPiece (sym before_is) (go place.front)
    where
      go : (before_head r.content ≡ []) ⊎ EndsLow (before_head r.content) → IsPiece (indent ++ before_head r.content)
      go (inl e) = subst IsPiece (sym (ap (λ u. indent ++ u) e ∙ append-nil indent)) indent_piece
      go (inr e) =
          (cut_after (indent ++ before_head r.content) (w.text ++ w.after) (subst IsPiece (whole ∙ ap (λ u. u ++ (w.text ++ w.after)) before_is) (text_is_piece c read)) (following_ends indent (before_head r.content) e.0)
          (ends_after indent (before_head r.content) e.1)).0

  tail : IsTail (slices r).tail ((slices r).raw ++ z)
  tail = line_tail (parent_indent r) r.content z row.content

  after_piece : IsPiece w.after
  after_piece =
      let at : PlacedRow = record { before = base; row = r; line = 0; after = z } in
      let k : HasTailPieces at (slices r).tail ((slices r).raw ++ z) tail = pieces at (asked_after unlimited front) row (subst IsPiece text (text_is_piece c read)) tail in
      let parts : (tail.white ++ tail.comment) ++ (tail.line.break ++ ((slices r).raw ++ z)) ≡ (tail.white ++ (tail.comment ++ tail.line.break)) ++ ((slices r).raw ++ z) = simp append_assoc refl in
      subst IsPiece (parts ∙ (ap (λ u. u ++ ((slices r).raw ++ z)) (sym tail.line.spelled) ∙ ap (λ u. (slices r).tail ++ (u ++ z)) raw))
      (pieces_joined (tail.white ++ tail.comment) (tail.line.break ++ ((slices r).raw ++ z)) k.line k.after)

  -- ---- the new text

  some_head : spaced_text w.text t ≡ t
  some_head = ap (λ b. cond b (32 ∷ t) t) place.some

  new_is : new_text us ≡ w.before ++ (t ++ w.after)
  new_is = λ i. w.before ++ (some_head i ++ append-nil w.after i)

  abbrev here : RowIn n c
  here = record { part = d.part; old = old; start = d.before; put = λ x. is_located.put x ∙ ap (λ u. d.before ++ part_text x u) (sym is_located.after); front = front; row = r; back = back; rows_are = rows_are }

  module _ (tree : IsValueTree v) (fits : Fits (room_of (cut_text c)) (replace n steps v) (documents c)) where
    abbrev p : Part
    p = d.part

    abbrev op : Operation
    op = replace n steps v

    f : FitsReplace n steps v c p
    f = fits_replace n steps v c p is_located.there tree fits

    -- its node is written so
    pub x : IsWrittenFor v t
    x = value_for (slices r).head v tree f.deep f.long

    -- the row with the value's node
    abbrev pub new : Row
    new = with_content (put_core x.node r.content) r

    abbrev q : Part
    q = contents.q c n p old front r back rows_are mark no_dashes steps leads v x.node x.is

    spelled : node_text x.node ((slices r).tail ++ rows_text back (p.end ++ after_document n c)) ≡ t ++ w.after
    spelled = search (rules, node_then, x, p)

    block : is_block_root q ≡ is_block_root p
    block = contents.same_block c n p old front r back rows_are mark no_dashes steps leads v x.node x.is

    puts : PutsRow op c here new us
    puts = record {
      old = old_is;
      text = new_is ∙ sym (contents.text c n p old front r back rows_are mark no_dashes steps leads v x.node x.is d.before here.put ∙ ap (λ u. w.before ++ u) spelled);
      puts = refl;
      front = omega (arith, length-append w.before [], length-append base (row_front r ++ before_head r.content));
      after = omega (arith, ap (λ u. length (rows_text back (d.part.end ++ u))) is_located.after, length-append w.after [], length-append (slices r).tail z);
      pieces = (before_piece, (subst IsPiece (sym some_head) x.piece, (after_piece, tt)));
    }

    makes : MakesRow op c here new (changed_at steps (replaced_node v))
    makes = record {
      lead = lead_of p;
      changed = λ readable. contents.lone_changed c n p old front r back rows_are mark no_dashes steps leads v x.node x.is readable f.node f.there f.may;
      root = ap (λ m. changed_at steps (replaced_node m) (root_of p)) (sym (led_same (is_block_root p) (lead_of p) steps v (contents.rooted c n p old front r back rows_are mark no_dashes steps leads v x.node x.is)));
      keeps = record { block = block; lead = same_lead_goes p q (contents.same_lead c n p old front r back rows_are mark no_dashes steps leads v x.node x.is) block; room = λ sets. absurd sets };
    }

    carried : length (new_text us) ≤ text_limit → CarriedOut (replace n steps v) c us
    carried = row_carried op c here new us puts (changed_at steps (replaced_node v)) makes

    -- the row is of the same shape after it
    shape : row_shape new ≡ row_shape r
    shape = search (rules, content_head, x, place, head_there, row)

    pub lone_changes : (e : RowsOfEntry) → length front ≡ length e.front → length (new_text us) ≤ text_limit → ChangesRow n c e us
    lone_changes e same size = row_changes op c here new us puts (changed_at steps (replaced_node v)) makes size e same shape

  pub lone_carried : IsEdit (replace n steps v) c us
  lone_carried = record { old = old_is; carried = carried }
