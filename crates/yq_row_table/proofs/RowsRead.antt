-- The rows of a part, read and spelled.
use Rattle.std.proofs.Common.{◌≡◌, ℕ, zero, suc, ◌<◌, true, false, List, [], ◌∷◌, ◌++◌, length, Some, refl, sym, ⊎_elim, subst, arith}
use Rattle.std.{proofs.Common.rules, proofs.lemmas.Bool.false≢true, proofs.lemmas.List.take-append-drop, proofs.lemmas.Option.same_Some}
use Rattle.yq_core.{specs.Text.is_marker, proofs.Bools.{at_byte, bind_some, chosen}}
use Rattle.yq_row_table.{specs.Gap.IsGap, specs.Grammar.{Limit, limit_after, AreRows, ends_part}}
use Rattle.yq_row_table.specs.Reading.{gap_len, cut_gap, begins_gap, row_at, rows_at}
use Rattle.yq_row_table.{specs.Rows.{Row, Part, part_text, following_gap, print_row, rows_text}, proofs.Fronts.{Starts, starts_by}}
use Rattle.yq_row_table.{proofs.GapLaws.{gap_takes, gap_again}, proofs.RowAgain.{no_gap_line, row_no_gap, row_no_end, row_again}}
use Rattle.yq_row_table.{proofs.RowLaws.{row_takes, row_longer, suffix_le}, proofs.RowsLaws.no_more}

-- what a marker begins with
pub marker_starts : (t : List ℕ) → is_marker t ≡ true → Starts t
marker_starts t h1 = search (rules, false≢true, starts_by, at_byte)

pub end_no_gap : (t : List ℕ) → ends_part t ≡ true → begins_gap t ≡ false
end_no_gap [] h = refl
end_no_gap (b ∷ t) h = no_gap_line zero (b ∷ t) (marker_starts (b ∷ t) h)

-- a gap and what comes after it
gap_law : (t : List ℕ) → IsGap (cut_gap t).0 (cut_gap t).1
gap_law t = (gap_takes t).0

gap_join : (t : List ℕ) → (cut_gap t).0 ++ (cut_gap t).1 ≡ t
gap_join t = take-append-drop (gap_len t) t

-- Rows, the gap after them, and what follows.
pub record RowsCut (limit : Limit) (t : List ℕ) (x : Part × List ℕ) : Type 0 where
  pub text : t ≡ part_text x.0 x.1
  pub rows : AreRows limit x.0.rows x.0.end x.1
  pub ends : ends_part x.1 ≡ true

one_more : (limit : Limit) (t : List ℕ) (row : Row × List ℕ) (x : Part × List ℕ) → row_at limit (cut_gap t).0 (cut_gap t).1 ≡ Some row →
    RowsCut (limit_after row.0) row.1 x → RowsCut limit t (record { rows = row.0 ∷ x.0.rows; end = x.0.end }, x.1)
one_more limit t row x e more =
    let one = row_takes limit (cut_gap t).0 (cut_gap t).1 row e in
    search (rules, gap_law, gap_join)

pub rows_takes : (n : ℕ) (limit : Limit) (t : List ℕ) (x : Part × List ℕ) → rows_at n limit t ≡ Some x → RowsCut limit t x
unfolding rows_at
rows_takes zero limit t x h = cc
rows_takes (suc n) limit t x h = ⊎_elim {0, 0, 0}
    (λ (e : (ends_part (cut_gap t).1 ≡ true) × (no_more (cut_gap t) ≡ Some x)).
    subst (RowsCut limit t) (same_Some _ _ e.1) (record { text = sym (gap_join t); rows = gap_law t; ends = e.0 }))
    (λ e.
    let row = bind_some (row_at limit (cut_gap t).0 (cut_gap t).1) e.1 in
    let rest = bind_some (rows_at n (limit_after row.0.0) row.0.1) row.2 in
    subst (RowsCut limit t) (same_Some _ _ rest.2) (one_more limit t row.0 rest.0 row.1 (rows_takes n (limit_after row.0.0) row.0.1 rest.0 rest.1)))
    (chosen (ends_part (cut_gap t).1) h)

pub rows_again : (rs : List Row) (limit : Limit) (end rest : List ℕ) (n : ℕ) → AreRows limit rs end rest → ends_part rest ≡ true →
    length (rows_text rs (end ++ rest)) < n → rows_at n limit (rows_text rs (end ++ rest)) ≡ Some (record { rows = rs; end = end }, rest)
unfolding rows_at
rows_again rs limit end rest zero h ends short = absurd (omega arith)
rows_again [] limit end rest (suc n) h ends short = search (rules, gap_again, end_no_gap, row_no_gap, row_longer, suffix_le, row_no_end, row_again)
rows_again (r ∷ rs) limit end rest (suc n) h ends short =
    let t = rows_text rs (end ++ rest) in
    let gap : cut_gap (print_row r t) ≡ (r.gap, following_gap r t) = gap_again r.gap (following_gap r t) (h.0.gap, row_no_gap limit r t h.0) in
    let longer = row_longer r t h.0.mark h.0.content in
    let less = suffix_le r.gap (following_gap r t) in
    search (rules, row_no_end, row_again, rows_again rs (limit_after r) end rest n h.1 ends (omega arith))
