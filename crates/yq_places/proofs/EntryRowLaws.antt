-- Rows that are in a text, with those in front of them and after: where they begin and end there.
use Rattle.std.proofs.Common.{rules, ◌≡◌, inr, ℕ, suc, ◌+◌, ◌-◌, ◌<◌, ◌≤◌, List, [], ◌∷◌, ◌++◌, length, length-append, take, drop, Some}
use Rattle.std.{proofs.Common.{option_map, true, refl, sym, ap, ◌∙◌, subst, arith, append_assoc}, proofs.Math.Seq.take-append_seam}
use Rattle.std.{proofs.lemmas.Option.{slice_get-map, slice_get_within}, specs.List.slice_get, specs.Str.{IsUtf8, IsCharBoundary}}
use Rattle.yq_text.specs.Limit.{text_limit}
use Rattle.yq_row_table.{specs.Exchange.following_rows, specs.Offsets.row_length}
use Rattle.yq_row_table.specs.Rows.{Row, parent_indent, print_row, rows_text, part_text, Cut}
use Rattle.yq_row_table.{specs.View.{Slices, slices, rows_of, RowsView, rows_view}, proofs.PlaceLaws.{RowIn, row_in}}
use Rattle.yq_row_table.{proofs.seams.SeamLaws.rows_text-append, proofs.splices.SpliceTexts.first_text}
use Rattle.yq_documents.{specs.Reading.cut_of, specs.LinesInRows.document_row}
use Rattle.yq_places.{specs.CommentPlaces.text_to_line_end, specs.RemovalPlaces.{OwnRows, rows_out}}
use Rattle.yq_places.{specs.Placements.{RowsOfEntry, before_entry, after_entry}, specs.PlacementReading.AreRowsOf}
use Rattle.yq_places.{proofs.CommentEndLaws.row_text_parts, proofs.CommentPieceLaws.{Ended, content_end, row_place}}
use Rattle.yq_places.{proofs.PlacedRowLaws.{IsAt, part_at}, proofs.RemovalLines.{LineSeam, lies_in, rows_seam, seam_join}}
use Rattle.yq_places.{proofs.RemovalTexts.texts_then, proofs.RemovalViewLaws.{OutAgrees, line_boundary, out_agrees, slice_seam}}
use Rattle.yq_places.{proofs.SeamLaws.ended_after, proofs.StartLaws.front_in}
use Rattle.yq_outline.{specs.Extents.{IsRowsView, head_place, row_start}, proofs.LengthLaws.{row_fits, view_small}}

drop_seam : (front : List Row) (r : Row) (rest : List Row) → drop (suc (length front)) (front ++ (r ∷ rest)) ≡ rest
drop_seam [] r rest = refl
drop_seam (x ∷ front) r rest = drop_seam front r rest

module _ (t : List ℕ) (s : RowsView) (e : RowsOfEntry) (row end : ℕ) (h : AreRowsOf t s e row end) where
  abbrev c : Cut
  c = cut_of t

  -- the text up to the end of the rows
  abbrev through : List ℕ
  through = before_entry e ++ print_row e.row (rows_text e.under [])

  pub first_at : IsAt (cut_of t) row (before_entry e) e.row (rows_text e.under (after_entry e))
  first_at =
      let j : ℕ = length e.front in
      let there : slice_get h.part.part.rows j ≡ Some e.row = ap (λ (z : List Row). slice_get z j) h.rows_are ∙ slice_seam e.front e.row (e.under ++ e.back) in
      let at = part_at h.document c h.part h.placed j e.row there in
      let front : take j h.part.part.rows ≡ e.front = ap (take j) h.rows_are ∙ take-append_seam e.front (e.row ∷ (e.under ++ e.back)) in
      let rest : drop (suc j) h.part.part.rows ≡ e.under ++ e.back = ap (drop (suc j)) h.rows_are ∙ drop_seam e.front e.row (e.under ++ e.back) in
      let before : h.part.before ++ rows_text (take j h.part.part.rows) [] ≡ before_entry e = (λ i. sym h.start_is i ++ rows_text (front i) []) in
      let after : rows_text (drop (suc j) h.part.part.rows) (h.part.part.end ++ h.part.after) ≡ rows_text e.under (after_entry e) =
      (λ i. rows_text (rest i) (sym h.end_is i ++ sym h.following_is i)) ∙ rows_text-append e.under e.back (e.end ++ e.after) in
      search (rules, h.row_is, at.there, at.before_is, before, at.following_is, after)

  pub pieces_at : slice_get s.rows row ≡ Some (slices e.row)
  pieces_at = ap (λ (y : RowsView). slice_get y.rows row) h.rows_view_is ∙ (slice_get-map slices (rows_of c) row ∙ ap (option_map slices) first_at.there)

  pub row_within : row < length s.rows
  row_within = slice_get_within s.rows row (slices e.row) pieces_at

  pub is_view : IsRowsView s
  is_view = record { cut = c; is = h.rows_view_is; size = omega (arith, ap length h.cut.text, h.cut.size) }

  pub column_fits : (y : Slices) → slice_get s.rows row ≡ Some y → y.column + length y.dashes ≤ text_limit
  column_fits y there = omega (arith, row_fits s row y there, view_small s is_view)

  pub text : t ≡ before_entry e ++ print_row e.row (rows_text e.under (after_entry e))
  text = h.cut.text ∙ (row_place c row e.row first_at.there ∙ (λ i. first_at.before_is i ++ print_row e.row (first_at.following_is i)))

  pub row_valid : RowIn e.row (rows_text e.under (after_entry e)) (following_rows row (cut_of t))
  row_valid = subst (λ (x : List ℕ). RowIn e.row x (following_rows row c)) first_at.following_is (row_in c row true e.row h.cut.parts first_at.there)

  -- ---- where the rows end

  pub cut_in_two : t ≡ through ++ after_entry e
  cut_in_two =
      text
      ∙ (ap (λ (x : List ℕ). before_entry e ++ x) (texts_then (e.row ∷ e.under) [] (after_entry e))
      ∙ sym (append_assoc (before_entry e) (print_row e.row (rows_text e.under [])) (after_entry e)))

  own : OutAgrees t s h.part (record { front = e.front; own = e.row ∷ e.under; back = e.back }) (document_row h.document (cut_of t)) row end
  own = out_agrees t s h.part (record { front = e.front; own = e.row ∷ e.under; back = e.back }) (document_row h.document c, row, end) (record {
    cut = h.cut;
    rows_view_is = h.rows_view_is;
    document = h.document;
    placed = h.placed;
    rows_are = h.rows_are;
    some = refl;
    marks_are = (λ i. (document_row h.document c, h.row_is i, ends i));
  })
    where
      ends : end ≡ document_row h.document c + length e.front + length (e.row ∷ e.under)
      ends = omega (arith, h.last_is, h.row_is)

  pub last_within : end - 1 < length s.rows
  last_within = own.last_within

  pub stop_is : (stop : ℕ) → ((x : Slices) → slice_get s.rows (end - 1) ≡ Some x → stop ≡ row_start (end - 1) s + row_length x) → stop ≡ length through
  stop_is stop agrees =
      let x : OwnRows = record { front = e.front; own = e.row ∷ e.under; back = e.back } in
      let out = rows_out h.part x in
      let rest : after_entry e ≡ out.gap ++ out.after = (λ i. rows_text e.back (h.end_is i ++ h.following_is i)) ∙ first_text e.back h.part.part.end h.part.after in
      omega (arith, agrees own.final own.final_is, own.stop, ap length own.text, ap length cut_in_two, ap length rest, length-append {A = ℕ})

  stop_seam : LineSeam through (after_entry e)
  stop_seam =
      let lies = lies_in h.document c h.part h.cut.parts h.placed in
      let rows : List Row = e.front ++ (e.row ∷ e.under) in
      let whole : h.part.part.rows ≡ rows ++ e.back = h.rows_are ∙ sym (append_assoc e.front (e.row ∷ e.under) e.back) in
      let inner : LineSeam (rows_text rows []) (after_entry e) = search (rules, rows_seam) in
      let text_is : part_text h.part.part h.part.after ≡ rows_text rows [] ++ after_entry e =
      (λ i. rows_text (whole i) (sym h.end_is i ++ sym h.following_is i)) ∙ (rows_text-append rows e.back (e.end ++ e.after) ∙ texts_then rows [] (after_entry e)) in
      let outer = seam_join h.part.before (rows_text rows []) (after_entry e) (subst (LineSeam h.part.before) text_is lies.seam) inner in
      let same : h.part.before ++ rows_text rows [] ≡ through =
      (λ i. sym h.start_is i ++ (rows_text-append e.front (e.row ∷ e.under) [] ∙ texts_then e.front [] (print_row e.row (rows_text e.under []))) i)
      ∙ sym (append_assoc e.start (rows_text e.front []) (print_row e.row (rows_text e.under []))) in
      subst (λ (x : List ℕ). LineSeam x (after_entry e)) same outer

  pub stop_boundary : IsUtf8 t → IsCharBoundary t (length through)
  stop_boundary u = subst (λ (x : List ℕ). IsCharBoundary x (length through)) (sym cut_in_two) (line_boundary through (after_entry e) stop_seam (subst IsUtf8 cut_in_two u))

  -- ---- the line of the first row's mark

  pub head_ends : (place : ℕ × ℕ) → ((c : Cut) → s ≡ rows_view c → (r : Row) → slice_get (rows_of c) row ≡ Some r → place ≡ head_place row c r) → place.1 ≡ length (before_entry e ++ text_to_line_end e.row)
  head_ends place agrees =
      let x : Slices = slices e.row in
      let at : place.1 ≡ (head_place row c e.row).1 = ap (λ (p : ℕ × ℕ). p.1) (agrees c h.rows_view_is e.row first_at.there) in
      omega (arith, at, length-append {A = ℕ}, front_in row c e.row first_at.there, ap length first_at.before_is)

  -- the text up to the end of that line, with what is below it, up to the end of the rows
  abbrev line : List ℕ
  line = (before_entry e ++ text_to_line_end e.row) ++ (slices e.row).tail

  abbrev lower : List ℕ
  lower = (slices e.row).raw ++ rows_text e.under []

  pub line_cut : t ≡ line ++ (lower ++ after_entry e)
  line_cut =
      let x : Slices = slices e.row in
      let parts : before_entry e ++ (text_to_line_end e.row ++ (x.tail ++ (x.raw ++ (rows_text e.under [] ++ after_entry e)))) ≡ line ++ (lower ++ after_entry e) = simp append_assoc refl in
      text
      ∙ (ap (λ (u : List ℕ). before_entry e ++ print_row e.row u) (texts_then e.under [] (after_entry e))
      ∙ (ap (λ (u : List ℕ). before_entry e ++ u) (row_text_parts e.row (rows_text e.under [] ++ after_entry e)) ∙ parts))

  pub through_is : through ≡ line ++ lower
  through_is = simp (append_assoc, row_text_parts) refl

  pub line_boundary_at : IsUtf8 t → IsCharBoundary t (length line)
  line_boundary_at u =
      let x : Slices = slices e.row in
      let ended = content_end (parent_indent e.row) e.row.content (rows_text e.under (after_entry e)) row_valid.row.content in
      let rest : x.raw ++ rows_text e.under (after_entry e) ≡ lower ++ after_entry e = ap (λ (y : List ℕ). x.raw ++ y) (texts_then e.under [] (after_entry e)) ∙ sym (append_assoc x.raw (rows_text e.under []) (after_entry e)) in
      let seam : LineSeam line (lower ++ after_entry e) = inr (ended_after (before_entry e ++ text_to_line_end e.row) x.tail (lower ++ after_entry e) (subst (Ended x.tail) rest ended)) in
      subst (λ (y : List ℕ). IsCharBoundary y (length line)) (sym line_cut) (line_boundary line (lower ++ after_entry e) seam (subst IsUtf8 line_cut u))
