-- The lines of rows with their texts, by the row lines of lines.
use Rattle.std.proofs.Common.{◌≡◌, ◌⊎◌, inl, inr, ℕ, zero, suc, ◌+◌, ◌-◌, ◌<◌, ◌≤◌, List, [], ◌∷◌, ◌++◌, length, take, Some, None, refl}
use Rattle.std.{proofs.Common.{sym, ap, ◌∙◌, subst, arith, append_assoc, append-nil, replicate, rules}, proofs.Math.Seq.take-append-add}
use Rattle.std.{proofs.lemmas.Bool.{cases_lt, lt-ltb, le-ltb, cond-true, cond-false}, proofs.lemmas.List.take-append-le}
use Rattle.std.{proofs.lemmas.Option.{none-some, same_Some}, specs.List.slice_get}
use Rattle.yq_outline.{specs.Comments.head_comment, specs.Lines.{line_mark, dash_line}, specs.Outline.level, proofs.Values.rank_small}
use Rattle.yq_row_table.specs.Rows.{Content, Nothing, Row, dashes_text, mark_text, rows_text, Part, Cut}
use Rattle.yq_documents.{specs.Documents.document_parts, specs.LinesInRows.{RowLine, one_row_later, row_line, document_row}}
use Rattle.yq_places.{specs.CommentReading.before_row, specs.PlacedRows.placed_document, proofs.PlacedPartLaws.{part_is_there, text_before}}
use Rattle.yq_places.specs.PrintedLines.{PrintedLine, line_front, print_lines, printed_from, printed_row, printed_lines}
use Rattle.yq_places.{specs.PathPieces.{PrintedDocument, printed_document}, proofs.PrintedTexts.{map_some, lines_append, row_is}}
use Rattle.yq_row_table.specs.Rows as rows

-- Line n of those of a row.
pub record IsInRow (ls : List PrintedLine) (gap spaces : List ℕ) (ns : List ℕ) (m : rows.RowMark) (c : Content) (n : ℕ) : Type 0 where
  pub line : PrintedLine
  pub there : slice_get ls n ≡ Some line
  pub start : print_lines (take n ls) (line_front line) ≡ (gap ++ spaces) ++ dashes_text (take n ns) []
  pub first : n ≡ 0 → (line.gap ≡ gap) × (line.spaces ≡ spaces)
  pub later : 0 < n → line.gap ≡ []
  pub last : n ≡ length ns → (line.content ≡ c) × (line.mark ≡ mark_text m [])
  pub deeper : n < length ns → (next : PrintedLine) × (slice_get ls (suc n) ≡ Some next) × (level line.line < level next.line) × (line.line.head ≡ None)
  pub dash : n < length ns → line.content ≡ Nothing []

-- the first line after a dash is deeper
first_deeper : (above : List (List ℕ)) (column k : ℕ) (ns : List ℕ) (m : rows.RowMark) (c : Content) →
    (next : PrintedLine) × (slice_get (printed_from [] [] (suc (column + k)) ns m c) 0 ≡ Some next) × (level (dash_line above column) < level next.line)
unfolding level
first_deeper above column k [] m c = (_, refl, omega (arith, (rank_small (line_mark m)).0))
first_deeper above column k (n ∷ ns) m c = (_, refl, omega arith)

in_row : (gap spaces : List ℕ) (column : ℕ) (ns : List ℕ) (m : rows.RowMark) (c : Content) (n : ℕ) → n ≤ length ns → IsInRow (printed_from gap spaces column ns m c) gap spaces ns m c n
in_row gap spaces column [] m c zero h =
    record {
      line = _;
      there = refl;
      start = sym (append-nil (gap ++ spaces));
      first = λ e. (refl, refl);
      later = λ p. absurd (omega (arith, p));
      last = λ e. (refl, refl);
      deeper = λ d. absurd (omega (arith, d));
      dash = λ d. absurd (omega (arith, d));
    }
in_row gap spaces column [] m c (suc n) h = absurd (omega (arith, h))
in_row gap spaces column (k ∷ ns) m c zero h =
    let d = first_deeper (head_comment gap) column k ns m c in
    record { line = _; there = refl; start = sym (append-nil (gap ++ spaces)); first = λ e. (refl, refl); later = λ p. absurd (omega (arith, p)); last = λ e. absurd (omega (arith, e)); deeper = λ p. (d.0, d.1, d.2, refl); dash = λ p. refl }
in_row gap spaces column (k ∷ ns) m c (suc n) h = search (rules, in_row [] [] (suc (column + k)) ns m c n (omega (arith, h)), cases_lt)

-- the text of a row before line k of it
abbrev pub row_begin : RowLine → List ℕ
row_begin q = q.row.gap ++ (replicate q.row.column 32 ++ dashes_text (take q.line q.row.dashes) [])

-- Line n of rows, by its row line.
pub record IsPrintedLine (rs : List Row) (n : ℕ) (q : RowLine) : Type 0 where
  pub line : PrintedLine
  pub there : slice_get (printed_lines rs) n ≡ Some line
  pub start : print_lines (take n (printed_lines rs)) (line_front line) ≡ rows_text (take q.before rs) (row_begin q)
  pub within : q.line ≤ length q.row.dashes
  pub row : slice_get rs q.before ≡ Some q.row
  pub last : q.line ≡ length q.row.dashes → (line.content ≡ q.row.content) × (line.mark ≡ mark_text q.row.mark [])
  pub deeper : q.line < length q.row.dashes → (next : PrintedLine) × (slice_get (printed_lines rs) (suc n) ≡ Some next) × (level line.line < level next.line) × (line.line.head ≡ None)
  pub first : q.line ≡ 0 → (line.gap ≡ q.row.gap) × (line.spaces ≡ replicate q.row.column 32)
  pub later : 0 < q.line → line.gap ≡ []
  pub dash : q.line < length q.row.dashes → line.content ≡ Nothing []

get_front : {A : Type 0} (xs ys : List A) (n : ℕ) → n < length xs → slice_get (xs ++ ys) n ≡ slice_get xs n
get_front (x ∷ xs) ys (suc n) h = get_front xs ys n (omega (arith, h))
get_front xs ys n h = search (rules, arith)

get_after : {A : Type 0} (xs ys : List A) (n : ℕ) → slice_get (xs ++ ys) (length xs + n) ≡ slice_get ys n
get_after [] ys n = ap (slice_get ys) (omega arith)
get_after (x ∷ xs) ys n = let more : suc (length xs) + n ≡ suc (length xs + n) = omega arith in ap (slice_get (x ∷ (xs ++ ys))) more ∙ get_after xs ys n

pub row_count : (gap spaces : List ℕ) (column : ℕ) (ns : List ℕ) (m : rows.RowMark) (c : Content) → length (printed_from gap spaces column ns m c) ≡ suc (length ns)
row_count gap spaces column [] m c = refl
row_count gap spaces column (n ∷ ns) m c = ap suc (row_count [] [] (suc (column + n)) ns m c)

pub printed_line : (rs : List Row) (n : ℕ) (q : RowLine) → row_line n rs ≡ Some q → IsPrintedLine rs n q
printed_line [] n q e = absurd (none-some _ e)
printed_line (r ∷ rs) n q e = go (cases_lt (length r.dashes) n) (λ p h. printed_line rs (n - suc (length r.dashes)) p h)
  where
    count : length (printed_row r) ≡ suc (length r.dashes)
    count = row_count r.gap (replicate r.column 32) r.column r.dashes r.mark r.content

    here : n ≤ length r.dashes → IsPrintedLine (r ∷ rs) n (record { before = 0; row = r; line = n })
    here h =
        let d = in_row r.gap (replicate r.column 32) r.column r.dashes r.mark r.content n h in
        record {
          line = d.line;
          there = get_front (printed_row r) (printed_lines rs) n (omega (arith, h, count)) ∙ d.there;
          start = ap (λ x. print_lines x (line_front d.line)) (take-append-le n (printed_row r) (printed_lines rs) (omega (arith, h, count))) ∙ (d.start ∙ append_assoc r.gap (replicate r.column 32) (dashes_text (take n r.dashes) []));
          within = h;
          row = refl;
          last = d.last;
          first = d.first;
          later = d.later;
          dash = d.dash;
          deeper = λ p. let k = d.deeper p in (k.0, get_front (printed_row r) (printed_lines rs) (suc n) (omega (arith, p, count)) ∙ k.1, k.2, k.3);
        }

    past : length r.dashes < n → (p : RowLine) → IsPrintedLine rs (n - suc (length r.dashes)) p → IsPrintedLine (r ∷ rs) n (one_row_later p)
    past h p d =
        let at : n ≡ length (printed_row r) + (n - suc (length r.dashes)) = omega (arith, h, count) in
        search (rules, get_after, take-append-add, lines_append, row_is, at)

    go : (length r.dashes < n) ⊎ (n ≤ length r.dashes) → ((p : RowLine) → row_line (n - suc (length r.dashes)) rs ≡ Some p → IsPrintedLine rs (n - suc (length r.dashes)) p) → IsPrintedLine (r ∷ rs) n q
    go (inl h) again = search (rules, map_some, r.dashes, cond-true, lt-ltb, past)
    go (inr h) again = subst (IsPrintedLine (r ∷ rs) n) (same_Some _ _ (sym (cond-false _ _ _ (le-ltb (length r.dashes) n h)) ∙ e)) (here h)

-- A document's rows in the text of a cut, after k others.
pub record IsPlaced (c : Cut) (k : ℕ) (p : Part) (s : PrintedDocument) : Type 0 where
  pub row : (i : ℕ) → i < length p.rows → before_row (k + i) c ≡ s.before ++ rows_text (take i p.rows) []

pub document_placed : (n : ℕ) (c : Cut) (p : Part) (s : PrintedDocument) → slice_get (document_parts c) n ≡ Some p → printed_document n c ≡ Some s → IsPlaced c (document_row n c) p s
document_placed n c p s at e =
    let d = map_some (placed_document n c) e in
    let same : d.0.part ≡ p = same_Some _ _ (sym (part_is_there n c d.0 d.1).there ∙ at) in
    record { row = λ i less. text_before n c d.0 d.1 i (omega (arith, less, ap (λ (x : Part). length x.rows) same)) ∙ (λ j. (d.2 j).before ++ rows_text (take i (same j).rows) []) }
