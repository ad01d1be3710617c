-- Line comments that operations put in rows, wherever their items and entries are still.
use Rattle.std.proofs.Common.{◌≡◌, ℕ, ◌+◌, ◌≤◌, Bool, true, false, cond, List, [], ◌∷◌, ◌++◌, length, Some, refl, sym, ap, ◌∙◌, subst}
use Rattle.std.{proofs.Common.{arith, append_assoc, string_bytes, length-append}, proofs.lemmas.Str.IsCharBoundary-at_seam}
use Rattle.std.specs.Str.{IsCharBoundary}
use Rattle.yq_text.specs.Limit.{text_limit}
use Rattle.yq_core.specs.Paths.{Step}
use Rattle.yq_row_table.{specs.Rows.{Cut, cut_text}, specs.View.slices}
use Rattle.yq_documents.specs.Reading.{cut_of, read_at}
use Rattle.yq_places.{specs.CommentPlaces.{LineEnd, end_in_line}, specs.PlacementViews.IsHeldRow}
use Rattle.yq_places.{specs.declared.places.held_row.HeldRow.HeldRow, specs.Placements.{Held, RowsOfEntry, held, rows_of_entry}}
use Rattle.yq_places.proofs.HeldRowLaws.{no_root_rows}
use Rattle.yq_edit_rules.{specs.RowStays.StaysInRows, specs.PlacementLaws.{HoldsPieces, HasItsRows}, specs.TextPieces.IsPiece}
use Rattle.yq_edit_rules.{proofs.PlacementRows.rows_located, proofs.TextPieceLaws.{piece_back, pieces_joined}}
use Rattle.yq_edit_rules.{specs.CommentEdits.{comment_put, comment_written}, specs.Operands.HasOperand}
use Rattle.yq_edit_rules.{specs.RowChanges.{comment_front, comment_old, takes_white}, proofs.HeldPieces.held_spells}
use Rattle.yq_edit_rules.proofs.TailPieces.{white_piece}
use Rattle.yq_semantics.specs.Operations.{line_comment}
use Rattle.yq_edit_laws.{proofs.LineCommentLaws.line_comments_change_rows, proofs.RowEditLaws.row_edits}
use Rattle.yq_edit_laws.{proofs.CutLaws.{cut_read, text_read}, proofs.HeldRows.{mark_end, mark_tail}, proofs.EditsHold.edit_is}
use Rattle.yq_batch.specs.RowRuns.{PutsInRow, PutsSo, PutsText, bytes_in, of_entry, rows_still, white_left}
use Rattle.yq_batch.{specs.declared.row_put.RowPut.RowPut, proofs.ExchangedRows.exchanges_row}

module _ (n : ℕ) (s : Step) (ss : List Step) (text : List ℕ) (c : Cut) (e : RowsOfEntry) (read : read_at (cut_text c) ≡ Some c) (at : rows_of_entry n (s ∷ ss) c ≡ Some e) (last : e.line ≡ length e.row.dashes) where
  abbrev lower : List ℕ
  lower = (held e).break ++ ((held e).lines ++ ((held e).last ++ (held e).after))

  pub comment_comes : (d : Cut) → read_at (cut_text d) ≡ Some d → (still : StaysInRows e n (s ∷ ss) d) →
      PutsText (line_comment n (s ∷ ss) text) d (rows_still e still) (comment_old text (held e)) (comment_written text (held e).comment)
      ((held e).break ++ ((held e).lines ++ ((held e).last ++ (held e).after)))
  comment_comes d read_d still =
      let now : RowsOfEntry = rows_still e still in
      let edited = row_edits.comment n (s ∷ ss) text d now still.found last in
      record {
        segments = comment_put text (held now);
        front = comment_front text (held now);
        edited = edited;
        whole = (edit_is (line_comment n (s ∷ ss) text) d (comment_put text (held now)) read_d edited).old;
        puts = row_edits.comment_puts text (held now);
        changes = λ operand fit size. exchanges_row n d now (comment_put text (held now)) (line_comments_change_rows n (s ∷ ss) text d now read_d still.found last operand fit size);
      }

  own : StaysInRows e n (s ∷ ss) c
  own = record { start = e.start; front = e.front; found = at; size = refl }

  pub comment_text_is : cut_text c ≡ comment_front text (held e) ++ (comment_old text (held e) ++ lower)
  unfolding comment_comes own
  comment_text_is = sym (comment_comes c read own).whole ∙ (comment_comes c read own).puts.old_is

  pieces_of : HoldsPieces (held e)
  pieces_of = (held_spells n s ss c e read at last).1

  below : IsPiece lower
  below = pieces_joined (held e).break _ pieces_of.break (pieces_joined (held e).lines _ pieces_of.lines (pieces_joined (held e).last (held e).after pieces_of.last pieces_of.after))

  is_located : HasItsRows n s ss c e
  is_located = rows_located n s ss c e read at

  white : IsPiece (held e).white
  white =
      let tail = mark_tail n s ss c e is_located last in
      subst (λ (x : LineEnd). IsPiece x.white) (sym (mark_end n s ss c e is_located last)) (white_piece tail.white tail.line.blank)

  gone : (b : Bool) → IsPiece (cond b (held e).white [] ++ (held e).comment)
  gone true = pieces_of.line
  gone false = piece_back (held e).white (held e).comment white.utf8 pieces_of.line

  pub comment_starts : IsCharBoundary (cut_text c) (length (comment_front text (held e)))
  comment_starts = IsCharBoundary-at_seam (cut_text c) (comment_front text (held e)) _ comment_text_is (pieces_joined (comment_old text (held e)) lower (gone (takes_white text (held e))) below).utf8

  pub comment_ends : IsCharBoundary (cut_text c) (length (comment_front text (held e)) + length (comment_old text (held e)))
  comment_ends =
      let apart : cut_text c ≡ (comment_front text (held e) ++ comment_old text (held e)) ++ lower = comment_text_is ∙ sym (append_assoc (comment_front text (held e)) (comment_old text (held e)) lower) in
      subst (IsCharBoundary (cut_text c)) (length-append (comment_front text (held e)) (comment_old text (held e))) (IsCharBoundary-at_seam (cut_text c) (comment_front text (held e) ++ comment_old text (held e)) _ apart below.utf8)

-- the end of the line of a key or dash whose line is the last one of its row
end_there : (e : RowsOfEntry) (x : HeldRow) → x.tail.now ≡ (slices e.row).tail → end_in_line [] x.tail.now ≡ end_in_line [] (slices e.row).tail
end_there e x same = ap (end_in_line []) same

-- what the code tells of a line comment that is put in a row
pub comment_puts_there : (t : List ℕ) (n : ℕ) (steps : List Step) (text white comment : List ℕ) (x : HeldRow) (put : RowPut) → read_at t ≡ Some (cut_of t) → IsHeldRow n steps (cut_of t) x → HasOperand (line_comment n steps text) →
    white ≡ (end_in_line [] x.tail.now).white → comment ≡ (end_in_line [] x.tail.now).comment → put.doc ≡ n → put.first ≡ x.row → put.row ≡ x.row → put.start ≡ (x.start + length x.head.now) + length (white_left text white comment) →
    put.end ≡ (x.start + length x.head.now) + (length white + length comment) → bytes_in string_bytes put.written ≡ Some (comment_written text comment) → PutsInRow (line_comment n steps text) (cut_of t) put
comment_puts_there t n [] text white comment x put read is operand whites comments doc first row start finish written = absurd (no_root_rows n (cut_of t) is.entry is.found)
comment_puts_there t n (s ∷ ss) text white comment x put read is operand whites comments doc first row start finish written =
    let c : Cut = cut_of t in
    let again : read_at (cut_text c) ≡ Some c = ap read_at (text_read t c read) ∙ read in
    let e : RowsOfEntry = is.entry in
    let w : Held = held e in
    let a : white ≡ w.white = whites ∙ ap (λ (y : LineEnd). y.white) (end_there e x is.tail) in
    let b : comment ≡ w.comment = comments ∙ ap (λ (y : LineEnd). y.comment) (end_there e x is.tail) in
    let left : length (white_left text white comment) ≡ length (cond (takes_white text w) [] w.white) = λ i. length (white_left text (a i) (b i)) in
    let place : put.start ≡ length (comment_front text w) =
    omega (
      arith,
      start,
      left,
      is.start,
      ap length is.head,
      length-append w.before (w.space ++ (w.head ++ cond (takes_white text w) [] w.white)),
      length-append w.space (w.head ++ cond (takes_white text w) [] w.white),
      length-append w.head (cond (takes_white text w) [] w.white),
    ) in
    let whole : length (cond (takes_white text w) [] w.white) + length (cond (takes_white text w) w.white [] ++ w.comment) ≡ length w.white + length w.comment = taken (takes_white text w) w.white w.comment in
    let stop : put.end ≡ length (comment_front text w) + length (comment_old text w) = omega (arith, finish, start, left, place, whole, ap length a, ap length b) in
    let new : bytes_in string_bytes put.written ≡ Some (comment_written text w.comment) = written ∙ ap (λ (y : List ℕ). Some (comment_written text y)) b in
    record {
      place = of_entry (s ∷ ss) e;
      found = is.found;
      document = doc;
      first = first ∙ (is.row);
      row = row ∙ is.row;
      valid = operand;
      before = comment_front text w;
      old = comment_old text w;
      after = w.break ++ (w.lines ++ (w.last ++ w.after));
      text = comment_text_is n s ss text c e again is.found is.last;
      start = place;
      finish = stop;
      starts = subst (IsCharBoundary (cut_text c)) (sym place) (comment_starts n s ss text c e again is.found is.last);
      ends = subst (IsCharBoundary (cut_text c)) (sym stop) (comment_ends n s ss text c e again is.found is.last);
      there = λ d there breaks still. subst
          (PutsSo (line_comment n (s ∷ ss) text) d (rows_still e still) (comment_old text w) (w.break ++ (w.lines ++ (w.last ++ w.after))))
          (sym new) (comment_comes n s ss text c e again is.found is.last d there still);
    }
  where
    taken : (b : Bool) (u v : List ℕ) → length (cond b [] u) + length (cond b u [] ++ v) ≡ length u + length v
    taken true u v = omega (arith, length-append u v)
    taken false u v = omega (arith)

-- the text up to the end of a line comment is no longer than a text may be
pub comment_fits : (t : List ℕ) (n : ℕ) (steps : List Step) (white comment : List ℕ) (x : HeldRow) → read_at t ≡ Some (cut_of t) →
    IsHeldRow n steps (cut_of t) x → white ≡ (end_in_line [] x.tail.now).white → comment ≡ (end_in_line [] x.tail.now).comment →
    (x.start + length x.head.now) + (length white + length comment) ≤ text_limit
comment_fits t n [] white comment x read is whites comments = absurd (no_root_rows n (cut_of t) is.entry is.found)
comment_fits t n (s ∷ ss) white comment x read is whites comments =
    let c : Cut = cut_of t in
    let again : read_at (cut_text c) ≡ Some c = ap read_at (text_read t c read) ∙ read in
    let e : RowsOfEntry = is.entry in
    let w : Held = held e in
    let lower : List ℕ = w.break ++ (w.lines ++ (w.last ++ w.after)) in
    let text = ap length (held_spells n s ss c e again is.found is.last).0 in
    let size = (cut_read (cut_text c) c again).size in
    let a : white ≡ w.white = whites ∙ ap (λ (y : LineEnd). y.white) (end_there e x is.tail) in
    let b : comment ≡ w.comment = comments ∙ ap (λ (y : LineEnd). y.comment) (end_there e x is.tail) in
    omega (
      arith,
      size,
      text,
      is.start,
      ap length is.head,
      ap length a,
      ap length b,
      length-append w.before (w.space ++ (w.head ++ (w.white ++ (w.comment ++ lower)))),
      length-append w.space (w.head ++ (w.white ++ (w.comment ++ lower))),
      length-append w.head (w.white ++ (w.comment ++ lower)),
      length-append w.white (w.comment ++ lower),
      length-append w.comment lower,
    )
