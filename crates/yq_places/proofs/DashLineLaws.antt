-- What is known of the line that is in a row line.
use Rattle.std.proofs.Common.{rules, ◌≡◌, ◌⊎◌, inl, inr, ℕ, zero, suc, ◌+◌, ◌-◌, ◌<◌, ◌≤◌, List, [], ◌∷◌, ◌++◌, length, Some, None}
use Rattle.std.proofs.Common.{option_map, refl, sym, ap, ◌∙◌, subst, arith}
use Rattle.std.{proofs.lemmas.Bool.{cases_lt, lt-ltb, le-ltb, cond-true, cond-false}, proofs.lemmas.Option.same_Some, specs.List.slice_get}
use Rattle.yq_row_table.specs.Rows.{Content, Row}
use Rattle.yq_outline.{specs.Lines.{lines_from, row_lines, lines_of_rows}, specs.Outline.{Dash, Line}, proofs.RowLaws.lines_count}
use Rattle.yq_documents.specs.LinesInRows.{RowLine, one_row_later, row_line}
use Rattle.yq_outline.specs.Comments as comments
use Rattle.yq_row_table.specs.Rows as rows

-- Line n of a row, before whose mark so many dashes are: before the mark it is that of a dash.
pub record IsDashLine (dashes n : ℕ) (l : Line) : Type 0 where
  pub within : n ≤ dashes
  pub dash : n < dashes → (l.mark ≡ Dash) × (l.head ≡ None)

line_from : (above : List (List ℕ)) (column : ℕ) (ns : List ℕ) (m : rows.RowMark) (c : Content) (n : ℕ) (l : Line) → slice_get (lines_from above column ns m c) n ≡ Some l → IsDashLine (length ns) n l
line_from above column [] m c zero l e = record { within = omega arith; dash = λ p. absurd (omega (arith, p)) }
line_from above column [] m c (suc n) l e = absurd (cc)
line_from above column (k ∷ ns) m c zero l e = subst (IsDashLine (suc (length ns)) 0) (same_Some _ _ e) (record { within = omega arith; dash = λ p. (refl, refl) })
line_from above column (k ∷ ns) m c (suc n) l e = search (rules, arith, line_from [] (suc (column + k)) ns m c n l e)

get_front : (xs ys : List Line) (n : ℕ) (l : Line) → n < length xs → slice_get (xs ++ ys) n ≡ Some l → slice_get xs n ≡ Some l
get_front (x ∷ xs) ys (suc n) l h e = get_front xs ys n l (omega (arith, h)) e
get_front xs ys n l h e = search (rules, arith)

get_back : (xs ys : List Line) (n : ℕ) (l : Line) → length xs ≤ n → slice_get (xs ++ ys) n ≡ Some l → slice_get ys (n - length xs) ≡ Some l
get_back (x ∷ xs) ys (suc n) l h e = let same : suc n - suc (length xs) ≡ n - length xs = omega arith in ap (slice_get ys) same ∙ get_back xs ys n l (omega (arith, h)) e
get_back xs ys n l h e = search (rules, arith)

-- the same of a row line
abbrev pub OnDashLine : RowLine → Line → Type 0
OnDashLine s l = IsDashLine (length s.row.dashes) s.line l

pub row_line_found : (rs : List Row) (n : ℕ) (l : Line) → slice_get (lines_of_rows rs) n ≡ Some l → (s : RowLine) × (row_line n rs ≡ Some s) × OnDashLine s l
row_line_found [] n l e = absurd (cc)
row_line_found (r ∷ rs) n l e = go (cases_lt (length r.dashes) n) (λ k there. row_line_found rs k l there)
  where
    count : length (row_lines r) ≡ suc (length r.dashes)
    count = lines_count (comments.head_comment r.gap) r.column r.dashes r.mark r.content

    go : (length r.dashes < n) ⊎ (n ≤ length r.dashes) → ((k : ℕ) → slice_get (lines_of_rows rs) k ≡ Some l → (s : RowLine) × (row_line k rs ≡ Some s) × OnDashLine s l) → (s : RowLine) × (row_line n (r ∷ rs) ≡ Some s) × OnDashLine s l
    go (inl past) again =
        let at : n - length (row_lines r) ≡ n - suc (length r.dashes) = ap (λ (k : ℕ). n - k) count in
        let q = again (n - suc (length r.dashes)) (ap (slice_get (lines_of_rows rs)) (sym at) ∙ get_back (row_lines r) (lines_of_rows rs) n l (omega (arith, past, count)) e) in
        (one_row_later q.0, cond-true _ _ _ (lt-ltb (length r.dashes) n past) ∙ ap (option_map one_row_later) q.1, q.2)
    go (inr here) again = (
      record { before = 0; row = r; line = n },
      cond-false _ _ _ (le-ltb (length r.dashes) n here),
      line_from (comments.head_comment r.gap) r.column r.dashes r.mark r.content n l (get_front (row_lines r) (lines_of_rows rs) n l (omega (arith, here, count)) e),
    )
