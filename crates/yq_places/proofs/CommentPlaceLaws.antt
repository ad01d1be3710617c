-- Where the comments of a row are, by its pieces.
use Rattle.std.proofs.Common.{◌≡◌, ℕ, ◌+◌, ◌-◌, ◌<◌, ◌≤◌, List, [], ◌++◌, length, Option, Some, None, option_map, Bool, true, false, cond}
use Rattle.std.proofs.Common.{refl, sym, ap, ◌∙◌, arith, length-append, length-drop, length-take, rules}
use Rattle.std.{proofs.lemmas.Option.slice_get-map, specs.List.slice_get}
use Rattle.yq_text.specs.Limit.{text_limit}
use Rattle.yq_core.{specs.Text.{cut, ends_line, no_white, is_empty, joined, text_lines}, proofs.LineLaws.joined_lines}
use Rattle.yq_row_table.{specs.Rows.{Row, Cut}, specs.View.{Slices, slices, rows_of, rows_view}}
use Rattle.yq_documents.{specs.Pieces.{tail_comment, before_run, last_run, gap_comment, piece_span}, specs.LinesInRows.RowLine}
use Rattle.yq_documents.proofs.RunLaws.{run_split}
use Rattle.yq_places.specs.CommentReading.{before_tail, line_comment_in, head_comment_in, tail_span, line_comment_span, gap_span}
use Rattle.yq_places.{specs.CommentReading.head_comment_span, specs.RowLineReading.position_in, proofs.StartLaws.start_agrees}
use Rattle.yq_outline.{specs.Extents.{row_start, front_length, lines_before_mark}, proofs.LengthLaws.head_agrees}

-- the comment in a tail
pair : (a b c d : ℕ) → a ≡ b → c ≡ d → ◌≡◌ {A = ℕ × ℕ} (a, c) (b, d)
pair a b c d e f = λ i. (e i, f i)

pub tail_view : (before tail after : List ℕ) (start : ℕ) → start ≡ length before → tail_span start tail ≡ option_map piece_span (tail_comment before tail after)
tail_view before tail after start e = search (rules, pair, length-append)

pub tail_fits : (start : ℕ) (tail white comment text rest : List ℕ) → (white, comment) ≡ cut no_white tail → (text, rest) ≡ cut ends_line comment → start + length tail ≤ text_limit → start + length white + length text ≤ text_limit
tail_fits start tail white comment text rest e1 e2 h = search (rules, arith, length-take, length-drop)

-- where a row's tail begins
before_length : (c : Cut) (i : ℕ) (r : Row) → slice_get (rows_of c) i ≡ Some r → row_start i (rows_view c) + front_length (slices r) + length (slices r).head ≡ length (before_tail i r c)
before_length c i r is =
    let s : Slices = slices r in
    let there : slice_get (rows_view c).rows i ≡ Some s = slice_get-map slices (rows_of c) i ∙ ap (option_map slices) is in
    let agrees = head_agrees (rows_view c) i (row_start i (rows_view c)) (front_length s) (length s.head) s there refl refl refl c refl r is in
    search (rules, length-append, s, agrees)

pub beside_agrees : (c : Cut) (i : ℕ) (s : RowLine) (k : ℕ) → slice_get (rows_of c) i ≡ Some s.row →
    lines_before_mark (slices s.row) ≡ length s.row.dashes →
    line_comment_span (row_start i (rows_view c)) (slices s.row) (position_in k s) ≡ option_map piece_span (line_comment_in i s c)
beside_agrees c i s k is count = search (rules, count, tail_view, before_length)

-- the run in a gap
run_length : (gap : List ℕ) → length gap ≡ length (joined (before_run (text_lines gap))) + length (joined (last_run (text_lines gap)))
run_length gap =
    let ls : List (List ℕ) = text_lines gap in
    ap length (sym (run_split ls ∙ joined_lines gap)) ∙ length-append (joined (before_run ls)) (joined (last_run ls))

pub run_within : (gap run : List ℕ) → text_lines run ≡ last_run (text_lines gap) → length run ≤ length gap
run_within gap run e = let same : run ≡ joined (last_run (text_lines gap)) = sym (joined_lines run) ∙ ap joined e in omega (arith, run_length gap, ap length same)

pub run_is : (gap run : List ℕ) → text_lines run ≡ last_run (text_lines gap) → joined (last_run (text_lines gap)) ≡ run
run_is gap run e = ap joined (sym e) ∙ joined_lines run

-- where a run is in a gap, by its length
abbrev span_of : ℕ → List ℕ → List ℕ → Option (ℕ × ℕ)
span_of start gap run = cond (is_empty run) None (Some (start + length gap - length run, start + length gap))

pub no_run : (start : ℕ) (gap run : List ℕ) → text_lines run ≡ last_run (text_lines gap) → run ≡ [] → None ≡ gap_span start gap
no_run start gap run e none = ap (span_of start gap) (sym (run_is gap run e ∙ none))

some_span : (start : ℕ) (gap run : List ℕ) → 0 < length run → Some (start + length gap - length run, start + length gap) ≡ span_of start gap run
some_span start gap run h1 = search rules

pub some_run : (start : ℕ) (gap run : List ℕ) → text_lines run ≡ last_run (text_lines gap) → 0 < length run → Some (start + length gap - length run, start + length gap) ≡ gap_span start gap
some_run start gap run e some = some_span start gap run some ∙ ap (span_of start gap) (sym (run_is gap run e))

pub gap_agrees : (before gap after : List ℕ) (start : ℕ) → start ≡ length before → gap_span start gap ≡ option_map piece_span (gap_comment before gap after)
gap_agrees before gap after start e = go (is_empty (joined (last_run (text_lines gap))))
  where
    run : List ℕ
    run = joined (last_run (text_lines gap))

    other : List ℕ
    other = joined (before_run (text_lines gap))

    go : (b : Bool) → cond b None (Some (start + length gap - length run, start + length gap)) ≡ option_map piece_span (cond b None (Some (record { before = before ++ other; text = run; after = after })))
    go true = refl
    go false = ap Some (pair _ _ _ _ (omega (arith, e, run_length gap, length-append before other)) (omega (arith, e, run_length gap, length-append before other)))

pub above_view : (c : Cut) (i : ℕ) (s : RowLine) (k : ℕ) → slice_get (rows_of c) i ≡ Some s.row →
    lines_before_mark (slices s.row) ≡ length s.row.dashes →
    head_comment_span (row_start i (rows_view c)) (slices s.row) (position_in k s) ≡ option_map piece_span (head_comment_in i s c)
above_view c i s k is count = search (rules, gap_agrees, start_agrees)
