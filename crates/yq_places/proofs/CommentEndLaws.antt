-- Where comments are or would be, by the row that the code has found.
use Rattle.std.proofs.Common.{◌≡◌, ℕ, ◌+◌, ◌-◌, ◌≤◌, eqb, List, [], ◌∷◌, ◌++◌, length, take, drop, Option, Some, None, option_map, true}
use Rattle.std.proofs.Common.{cond, refl, sym, ap, ◌∙◌, subst, arith, append_assoc, append-nil, length-append, rules}
use Rattle.std.{proofs.Math.Seq.{take-append_seam, drop-append_seam}, proofs.lemmas.Bool.eq-eqb, proofs.lemmas.Option.slice_get-map}
use Rattle.std.{specs.List.slice_get, specs.Str.{IsUtf8, IsCharBoundary}}
use Rattle.yq_core.{specs.Answers.◌>>=◌, specs.Text.{joined, text_lines}, proofs.LineLaws.joined_lines}
use Rattle.yq_row_table.{specs.Gap.IsGap, specs.Rows.{Row, following_gap, print_row, Cut}, specs.View.{Slices, slices, rows_of, RowsView}}
use Rattle.yq_row_table.{proofs.NodePieces.{BeginsAscii, before_ascii}, proofs.PlaceLaws.{row_front-append, row_in}}
use Rattle.yq_row_table.proofs.SliceLaws.{content_slices}
use Rattle.yq_documents.{specs.declared.path.Path.Path, specs.Located.steps_of, specs.Pieces.{TextPiece, before_run, last_run}}
use Rattle.yq_documents.{specs.Reading.cut_of, specs.LinesInRows.{row_line_at, document_row}, proofs.RunLaws.run_split}
use Rattle.yq_outline.{specs.declared.line_position.Position.Position, specs.Extents.row_start}
use Rattle.yq_places.{specs.CommentPlaces.{text_to_line_end, gap_above, above_row, lines_above}, specs.LineReading.GapIsThere}
use Rattle.yq_places.{specs.PlacedRows.PlacedRow, specs.RowLineReading.position_in, specs.RowWalk.HasCut}
use Rattle.yq_places.{proofs.CommentPieceLaws.{row_place, run_begins}, proofs.PlacedRowLaws.{row_line_placed, no_row_line_placed}}
use Rattle.yq_places.{proofs.SeamLaws.{IsSeam, seam_boundary, seam_then, gap_seam, row_seam}, proofs.StartLaws.start_agrees}

-- a row up to the end of the line of its mark, and after that
pub row_text_parts : (r : Row) (rest : List ℕ) → print_row r rest ≡ text_to_line_end r ++ ((slices r).tail ++ ((slices r).raw ++ rest))
row_text_parts r rest = search (rules, row_front-append, content_slices, r.content, append_assoc)

pub no_lines_above : (path : Path) (c : Cut) (k : ℕ) → None ≡ option_map (position_in k) (row_line_at path c) → None ≡ lines_above path.doc (steps_of path) c
no_lines_above path c k e = sym (ap (λ (o : Option PlacedRow). o >>= λ w. cond (eqb w.line 0) (Some (above_row w)) None) (no_row_line_placed path c k e))

-- another line of a row
module _ (path : Path) (c : Cut) (n : Position) (row_line_is : Some n ≡ option_map (position_in (document_row path.doc c)) (row_line_at path c)) where
  abbrev printed_line : PlacedRow
  printed_line = (row_line_placed path c n row_line_is).0

  pub other_lines_above : (n.line ≡ 0 → ⊥) → None ≡ lines_above path.doc (steps_of path) c
  other_lines_above differ = search (rules, row_line_placed)

-- a run begins in ASCII, or is empty
pub run_ascii : (ls : List (List ℕ)) → BeginsAscii (joined (last_run ls))
run_ascii ls = go (joined (last_run ls)) refl
  where
    go : (x : List ℕ) → joined (last_run ls) ≡ x → BeginsAscii x
    go [] is = tt
    go (b ∷ x) is =
        let size : length (joined (last_run ls)) ≡ length (b ∷ x) = ap length is in
        subst BeginsAscii (append-nil (joined (last_run ls)) ∙ is) (run_begins ls [] (omega (arith, size)))

pub gap_split : (gap : List ℕ) → gap ≡ joined (before_run (text_lines gap)) ++ joined (last_run (text_lines gap))
gap_split gap = sym (run_split (text_lines gap) ∙ joined_lines gap)

-- the lines above a row, by the length of their run
module _ (t : List ℕ) (start : ℕ) (gap run : List ℕ) (h : GapIsThere t start gap) (is : text_lines run ≡ last_run (text_lines gap)) where
  abbrev kept : List ℕ
  kept = joined (before_run (text_lines gap))

  run_is : run ≡ joined (last_run (text_lines gap))
  run_is = sym (joined_lines run) ∙ ap joined is

  gap_is : gap ≡ kept ++ run
  gap_is = gap_split gap ∙ ap (λ x. kept ++ x) (sym run_is)

  pub above_fits : length run ≤ start + length gap
  above_fits = omega (arith, ap length gap_is, length-append kept run)

  front_is : take (start + length gap) t ≡ h.before ++ gap
  front_is = search (rules, length-append, append_assoc, take-append_seam)

  parts : take (start + length gap) t ≡ (h.before ++ kept) ++ run
  parts = front_is ∙ (ap (λ x. h.before ++ x) gap_is ∙ sym (append_assoc h.before kept run))

  size : start + length gap - length run ≡ length (h.before ++ kept)
  size = omega (arith, h.start_is, ap length gap_is, length-append kept run, length-append h.before kept)

  pub above_boundary : (front : List ℕ) → front ≡ take (start + length gap) t → IsCharBoundary front (start + length gap - length run)
  above_boundary front e = search (rules, size, e, parts, before_ascii, run_is, run_ascii)

  pub above_is : (front before after : List ℕ) → front ≡ take (start + length gap) t → after ≡ drop (start + length gap) t → before ≡ take (start + length gap - length run) front →
      (k : GapIsThere t start gap) → ◌≡◌ {A = TextPiece} (record { before = before; text = run; after = after }) (gap_above k.before gap k.rest)
  above_is front before after e d b k =
      let whole : front ≡ (h.before ++ kept) ++ run = e ∙ parts in
      let first : before ≡ h.before ++ kept = b ∙ ((λ i. take (size i) (whole i)) ∙ take-append_seam (h.before ++ kept) run) in
      let ends : h.before ≡ k.before =
      sym (ap (λ n. take n t) (h.start_is) ∙ (ap (take (length h.before)) h.text ∙ take-append_seam h.before (gap ++ h.rest)))
      ∙ (ap (λ n. take n t) k.start_is ∙ (ap (take (length k.before)) k.text ∙ take-append_seam k.before (gap ++ k.rest))) in
      let n : start + length gap ≡ length (k.before ++ gap) = omega (arith, k.start_is, length-append k.before gap) in
      search (rules, append_assoc, drop-append_seam, run_is, first, ends, n)

-- the row of a line that the code tells, in a text that is held
module _ (t : List ℕ) (x : RowsView) (held : HasCut t x) (path : Path) (n : Position) (row_line_is : Some n ≡ option_map (position_in (document_row path.doc (cut_of t))) (row_line_at path (cut_of t))) where
  abbrev w : PlacedRow
  w = (row_line_placed path (cut_of t) n row_line_is).0

  whole : t ≡ w.before ++ print_row w.row w.after
  whole = search (rules, row_line_placed, row_place)

  -- the lines above
  pub gap_is_there : (start : ℕ) (gap text : List ℕ) → start ≡ row_start n.row x → ((y : Slices) → slice_get x.rows n.row ≡ Some y → gap ≡ y.gap) →
      text ≡ t → IsUtf8 t → (h : GapIsThere text start gap) × (h.before ≡ w.before) × (h.rest ≡ following_gap w.row w.after) × (gap ≡ w.row.gap)
  gap_is_there start gap text begins has e u =
      let at = (row_line_placed path (cut_of t) n row_line_is).1.at in
      let view_row : slice_get x.rows n.row ≡ Some (slices w.row) = ap (λ (y : RowsView). slice_get y.rows n.row) held.rows ∙ (slice_get-map slices (rows_of (cut_of t)) n.row ∙ ap (option_map slices) at.there) in
      let gap_is : gap ≡ w.row.gap = has (slices w.row) view_row in
      let start_is : start ≡ length w.before = begins ∙ (ap (row_start n.row) held.rows ∙ (start_agrees (cut_of t) n.row w.row at.there ∙ ap length at.before_is)) in
      let rest : List ℕ = following_gap w.row w.after in
      let row = (row_in (cut_of t) n.row true w.row held.cut.parts at.there).row in
      let front : IsSeam w.before (w.row.gap ++ rest) = subst (λ (q : List ℕ × List ℕ). IsSeam q.0 (print_row w.row q.1)) (λ i. (at.before_is i, at.following_is i)) (row_seam (cut_of t) n.row true w.row held.cut.parts at.there) in
      let inner : IsSeam w.row.gap rest = gap_seam w.row.gap rest (subst (λ q. IsGap w.row.gap (following_gap w.row q)) at.following_is row.gap) in
      let seam : IsSeam (w.before ++ w.row.gap) rest = seam_then w.before w.row.gap rest front inner in
      let parts : t ≡ (w.before ++ w.row.gap) ++ rest = whole ∙ sym (append_assoc w.before w.row.gap rest) in
      let bound : IsCharBoundary t (length (w.before ++ w.row.gap)) = subst (λ q. IsCharBoundary q (length (w.before ++ w.row.gap))) (sym parts) (seam_boundary (w.before ++ w.row.gap) rest (subst IsUtf8 parts u) seam) in
      let size : length (w.before ++ w.row.gap) ≡ start + length gap = omega (arith, start_is, ap length gap_is, length-append w.before w.row.gap) in (
        record {
          before = w.before;
          rest = rest;
          text = e ∙ (whole ∙ ap (λ g. w.before ++ (g ++ rest)) (sym gap_is));
          start_is = start_is;
          end = subst (λ q. IsCharBoundary q (start + length gap)) (sym e) (subst (λ m. IsCharBoundary t m) size bound);
        },
        refl,
        refl,
        gap_is,
      )

  pub lines_above_is : (start : ℕ) (gap text : List ℕ) (column : ℕ) (above : TextPiece) (begins : start ≡ row_start n.row x) (has : (y : Slices) → slice_get x.rows n.row ≡ Some y → gap ≡ y.gap) (e : text ≡ t) (u : IsUtf8 t) →
      ((y : Slices) → slice_get x.rows n.row ≡ Some y → column ≡ y.column) → n.line ≡ 0 → ((h : GapIsThere text start gap) → above ≡ gap_above h.before gap h.rest) → Some (column, above) ≡ lines_above path.doc (steps_of path) (cut_of t)
  lines_above_is start gap text column above begins has e u columns first agrees =
      let k = (row_line_placed path (cut_of t) n row_line_is).1 in
      let g = gap_is_there start gap text begins has e u in
      let view_row : slice_get x.rows n.row ≡ Some (slices w.row) = ap (λ (y : RowsView). slice_get y.rows n.row) held.rows ∙ (slice_get-map slices (rows_of (cut_of t)) n.row ∙ ap (option_map slices) k.at.there) in
      search (rules, eq-eqb, k, g, view_row)
