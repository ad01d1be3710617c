-- Where the block collection is that is the root of a document.
use Rattle.std.proofs.Common.{rules, ◌≡◌, ◌⊎◌, inl, inr, ℕ, List, [], ◌∷◌, ◌++◌, replicate, Some, None, true, false, refl, sym, ap, ◌∙◌}
use Rattle.std.{proofs.Common.{subst, append_assoc, append-nil, arith, length, ◌<◌}, proofs.lemmas.Bool.false≢true}
use Rattle.yq_core.{specs.Text.{separates, is_empty}, proofs.BlockPieceLaws.{IsLf, append_lf}}
use Rattle.yq_outline.{specs.Comments.line_comment, specs.Lines.lines_of_rows}
use Rattle.yq_row_table.{specs.Gap.IsGap, specs.Grammar.{IsCut, IsTail, unlimited, AreRows, ends_part, IsMark}}
use Rattle.yq_row_table.specs.Rows.{Row, following_gap, after_indent, rows_text, Cut, cut_text}
use Rattle.yq_row_table.{proofs.NothingLaws.{gap_other, some_after}, proofs.seams.FrontSeams.after_row_some}
use Rattle.yq_row_table.{proofs.splices.PartPlaces.part_ends, proofs.PlaceLaws.content_then, proofs.GapLaws.some_more}
use Rattle.yq_documents.{specs.Reading.read_at, specs.Ready.begins_no_node, specs.PartNumbers.part_number}
use Rattle.yq_places.{specs.PlacedRows.{PlacedPart, placed_document}, specs.PrintedLines.{last_break, less_break}}
use Rattle.yq_places.{specs.Placements.{LinesIn, is_alone}, proofs.CommentPieceLaws.{Ended, gap_end}, proofs.PrintedTexts.less_is}
use Rattle.yq_places.{proofs.RemovalLines.{LineSeam, LiesIn, lies_in, seam_join}, proofs.LastBreakLaws.lf_last, proofs.RunSpans.rows_then}
use Rattle.yq_edit_rules.{proofs.HeldCuts.break_is_piece, specs.DocumentRows.IsDocumentPart, specs.PlacedParts.IsDocumentAt}
use Rattle.yq_edit_rules.{specs.TextPieces.IsPiece, proofs.FirstReplaceLaws.rows_after, proofs.EndedRowLaws.rows_ended}
use Rattle.yq_edit_rules.{proofs.FirstBreakLaws.{IsOneBreak, break_tail, break_apart, break_bare}, proofs.PartLaws.document_known}
use Rattle.yq_edit_rules.{proofs.PlacedPartLaws.document_is_there_at, proofs.TextPieceLaws.{pieces_joined, text_is_piece, nothing}}
use Rattle.yq_edit_rules.{proofs.RemovalPieceLaws.{spaces_piece, seam_pieces}, proofs.AppendAtEnd.nothing_tail}
use Rattle.yq_edit_rules.{proofs.AppendEntryLaws.none_uncommented, proofs.LastRows.lf_end, proofs.BreakLaws.last_is}
use Rattle.yq_edit_laws.{proofs.RootReadLaws.TakesValue, proofs.RootRows.HasRoom, proofs.PlacementRoots.HasRoot, proofs.HeldRows.no_line}

-- ---- the first row of a block collection, the line that it begins, and the break that ends a text

pub some_length : (t : List ℕ) → is_empty t ≡ false → 0 < length t
some_length [] h = absurd (false≢true (sym h))
some_length (b ∷ t) h = omega arith

pub row_some : (r : Row) (rest t : List ℕ) → IsMark r.mark r.content rest → is_alone r ≡ false → is_empty (after_indent r t) ≡ false
row_some r rest t h alone = search (rules, some_more, false≢true, some_after, content_then, append_assoc)

-- its line is that of a key or dash
pub row_entry : (r : Row) (rs : List Row) → is_alone r ≡ false → begins_no_node (lines_of_rows (r ∷ rs)) ≡ true
row_entry r rs alone = search (rules, false≢true)

-- the last break of a text that ends so
pub ends_with : (t more : List ℕ) → Ended t more → (IsOneBreak (last_break t)) ⊎ ((last_break t ≡ []) × (more ≡ []))
ends_with t more h1 = search (rules, last_is, false≢true, no_line, lf_last)

pub empty_cases : (t : List ℕ) → (t ≡ []) ⊎ (is_empty t ≡ false)
empty_cases t = search rules

-- ---- the rows of the root

-- A block collection as the root of document n: its part, its first row, and the text round it.
pub record IsBlockRoot (n : ℕ) (c : Cut) (column : ℕ) (w : LinesIn) : Type 0 where
  pub d : PlacedPart
  pub placed : placed_document n c ≡ Some d
  pub row : Row
  pub others : List Row
  pub rows_are : d.part.rows ≡ row ∷ others
  pub block : begins_no_node (lines_of_rows d.part.rows) ≡ true
  pub ends : (IsOneBreak w.last) ⊎ ((w.last ≡ []) × (d.part.end ++ d.after ≡ []))
  pub before_is : w.before ≡ d.before ++ (row.gap ++ replicate row.column 32)
  pub following_is : w.after ≡ d.part.end ++ d.after
  pub column_is : column ≡ row.column
  pub whole : w.before ++ (w.lines ++ (w.last ++ w.after)) ≡ cut_text c

-- the last of rows
last_row : (r : Row) (rs : List Row) → (front : List Row) × (z : Row) × (r ∷ rs ≡ front ++ (z ∷ []))
last_row r [] = ([], r, refl)
last_row r (q ∷ rs) = let x = last_row q rs in (r ∷ x.0, x.1, ap (λ xs. r ∷ xs) x.2)

module _ (d : PlacedPart) (r : Row) (rs : List Row) (are : AreRows unlimited (r ∷ rs) d.part.end d.after) where
  abbrev own : List ℕ
  own = after_indent r (rows_text rs [])

  rows_split : (more : List ℕ) → rows_text (r ∷ rs) more ≡ (r.gap ++ replicate r.column 32) ++ (after_indent r (rows_text rs []) ++ more)
  rows_split more =
      rows_then (r ∷ rs) more
      ∙ (ap (λ t. t ++ more) (sym (append_assoc r.gap (replicate r.column 32) (after_indent r (rows_text rs [])))) ∙ append_assoc (r.gap ++ replicate r.column 32) (after_indent r (rows_text rs [])) more)

  all_ended : Ended (rows_text (r ∷ rs) []) (d.part.end ++ d.after)
  all_ended =
      let z = last_row r rs in
      subst (λ xs. Ended (rows_text xs []) (d.part.end ++ d.after)) (sym z.2) (rows_ended unlimited z.0 z.1 [] d.part.end d.after (subst (λ xs. AreRows unlimited xs d.part.end d.after) z.2 are))

  own_ended : is_alone r ≡ false → Ended (after_indent r (rows_text rs [])) (d.part.end ++ d.after)
  own_ended alone = go all_ended
    where
      go : Ended (rows_text (r ∷ rs) []) (d.part.end ++ d.after) → Ended (after_indent r (rows_text rs [])) (d.part.end ++ d.after)
      go (inl lf) =
          inl (lf_end (r.gap ++ replicate r.column 32) own (subst IsLf (sym (append_assoc r.gap (replicate r.column 32) (after_indent r (rows_text rs [])))) lf) (some_length own (row_some r _ (rows_text rs []) are.0.mark alone)))
      go (inr none) = inr none

pub block_root_at : (n : ℕ) (c : Cut) (column : ℕ) (w : LinesIn) → read_at (cut_text c) ≡ Some c → HasRoot n c column w → IsBlockRoot n c column w
block_root_at n c column w read h =
    let t : List ℕ = after_indent h.row (rows_text h.others []) in
    let more : List ℕ = h.d.part.end ++ h.d.after in
    let front : List ℕ = h.row.gap ++ replicate h.row.column 32 in
    let is_located : IsDocumentAt c n h.d = document_is_there_at c n h.d h.placed in
    let cut : IsCut (cut_text c) c = (document_known (cut_text c) c n h.d.part (record { read = read; there = is_located.there })).cut in
    let lies : LiesIn h.d = lies_in n c h.d cut.parts h.placed in
    let are : AreRows unlimited (h.row ∷ h.others) h.d.part.end h.d.after = subst (λ xs. AreRows unlimited xs h.d.part.end h.d.after) h.rows_are lies.rows in
    subst (IsBlockRoot n c column) h.is (record {
      d = h.d;
      placed = h.placed;
      row = h.row;
      others = h.others;
      rows_are = h.rows_are;
      block = ap (λ xs. begins_no_node (lines_of_rows xs)) h.rows_are ∙ row_entry h.row h.others h.block;
      ends = ends_with t more (own_ended h.d h.row h.others are h.block);
      before_is = refl;
      following_is = refl;
      column_is = sym h.column_is;
      whole = ap (λ u. (h.d.before ++ front) ++ u) (sym (append_assoc (less_break t) (last_break t) more) ∙ ap (λ u. u ++ more) (less_is t))
          ∙ (append_assoc h.d.before front (t ++ more)
          ∙ (ap (λ u. h.d.before ++ u) (sym (rows_split h.d h.row h.others are more)) ∙ (ap (λ xs. h.d.before ++ rows_text xs more) (sym h.rows_are) ∙ sym is_located.text)));
    })

-- ---- a value may come there

end_seam : (a b c : List ℕ) → Ended b c → LineSeam (a ++ b) c
end_seam a b c (inl lf) = inr (inl (append_lf a b lf))
end_seam a b c (inr e) = inr (inr e)

module _ (n : ℕ) (c : Cut) (column : ℕ) (w : LinesIn) (read : read_at (cut_text c) ≡ Some c) (h : IsBlockRoot n c column w) where
  is_located : IsDocumentAt c n h.d
  is_located = document_is_there_at c n h.d h.placed

  there : IsDocumentPart (cut_text c) c n h.d.part
  there = record { read = read; there = is_located.there }

  cut : IsCut (cut_text c) c
  cut = (document_known (cut_text c) c n h.d.part there).cut

  lies : LiesIn h.d
  lies = lies_in n c h.d cut.parts h.placed

  abbrev more : List ℕ
  more = h.d.part.end ++ h.d.after

  abbrev after_row : List ℕ
  after_row = following_gap h.row (rows_text h.others (h.d.part.end ++ h.d.after))

  all : AreRows unlimited (h.row ∷ h.others) h.d.part.end h.d.after
  all = subst (λ xs. AreRows unlimited xs h.d.part.end h.d.after) h.rows_are lies.rows

  gap_is : IsGap h.d.part.end h.d.after
  gap_is = rows_after unlimited (h.row ∷ h.others) [] h.d.part.end h.d.after
      (subst (λ xs. AreRows unlimited xs h.d.part.end h.d.after) (sym (append-nil (h.row ∷ h.others))) all)

  room : HasRoom h.row.gap w.last h.d.part.end h.d.after
  room = record {
    front = λ x some. gap_other h.row.gap after_row x (after_row_some unlimited h.row (rows_text h.others more) all.0) all.0.gap;
    tail = tail h.ends;
    apart = apart h.ends;
    uncommented = uncommented h.ends;
    back_is = gap_is;
    ends = subst (λ t. ends_part t ≡ true) is_located.after (part_ends c (part_number n c) true cut.parts);
  }
    where
      tail : (IsOneBreak w.last) ⊎ ((w.last ≡ []) × (h.d.part.end ++ h.d.after ≡ [])) → IsTail w.last (h.d.part.end ++ h.d.after)
      tail (inl b) = break_tail w.last more b
      tail (inr e) = subst (λ x. IsTail x more) (sym e.0) (subst (IsTail []) (sym e.1) nothing_tail)

      apart : (IsOneBreak w.last) ⊎ ((w.last ≡ []) × (h.d.part.end ++ h.d.after ≡ [])) → separates (w.last ++ (h.d.part.end ++ h.d.after)) ≡ true
      apart (inl b) = break_apart w.last more b
      apart (inr e) = (λ i. separates (e.0 i ++ e.1 i))

      uncommented : (IsOneBreak w.last) ⊎ ((w.last ≡ []) × (h.d.part.end ++ h.d.after ≡ [])) → line_comment w.last ≡ None
      uncommented (inl b) = break_bare w.last b
      uncommented (inr e) = ap line_comment e.0 ∙ none_uncommented

  pub takes_value : TakesValue n c h.d h.row.gap w.last h.d.part.end
  takes_value = search (rules, is_located, there, room, false≢true)

  -- the text round it is made of pieces
  whole_rows : cut_text c ≡ (h.d.before ++ h.row.gap) ++ after_row
  whole_rows = is_located.text ∙ (ap (λ xs. h.d.before ++ rows_text xs more) h.rows_are ∙ sym (append_assoc h.d.before h.row.gap after_row))

  pub before_piece : IsPiece w.before
  before_piece =
      let seam : LineSeam h.d.before (h.row.gap ++ after_row) = subst (λ xs. LineSeam h.d.before (rows_text xs more)) h.rows_are lies.seam in
      let both = seam_pieces (h.d.before ++ h.row.gap) after_row (seam_join h.d.before h.row.gap after_row seam (gap_end h.row.gap after_row all.0.gap)) (subst IsPiece whole_rows (text_is_piece c read)) in
      subst IsPiece (sym (h.before_is ∙ sym (append_assoc h.d.before h.row.gap (replicate h.row.column 32)))) (pieces_joined (h.d.before ++ h.row.gap) (replicate h.row.column 32) both.0 (spaces_piece h.row.column))

  pub last_piece : IsPiece w.last
  last_piece = go h.ends
    where
      go : (IsOneBreak w.last) ⊎ ((w.last ≡ []) × (h.d.part.end ++ h.d.after ≡ [])) → IsPiece w.last
      go (inl b) = break_is_piece w.last (inr b)
      go (inr e) = subst IsPiece (sym e.0) nothing

  more_piece : IsPiece (h.d.part.end ++ h.d.after)
  more_piece =
      let own : List ℕ = rows_text (h.row ∷ h.others) [] in
      let text : cut_text c ≡ h.d.before ++ (own ++ more) = is_located.text ∙ (ap (λ xs. h.d.before ++ rows_text xs more) h.rows_are ∙ ap (λ t. h.d.before ++ t) (rows_then (h.row ∷ h.others) more)) in
      (seam_pieces (h.d.before ++ own) more (end_seam h.d.before own more (all_ended h.d h.row h.others all)) (subst IsPiece (text ∙ sym (append_assoc h.d.before own more)) (text_is_piece c read))).1

  pub after_piece : IsPiece w.after
  after_piece = subst IsPiece (sym h.following_is) more_piece
