-- What rows in front ask of a text that comes after them in the place of another one.
use Rattle.std.proofs.Common.{◌≡◌, ℕ, ℤ, true, false, ◌||◌, List, [], ◌∷◌, ◌++◌, refl, sym, ap, ◌∙◌, ⊎_elim, replicate, Some, rules}
use Rattle.std.proofs.lemmas.Bool.{false≢true, or_right}
use Rattle.yq_core.{specs.Text.{is_empty, is_line, text_lines}, specs.Alike.Alike, proofs.Alikes.alike_empty}
use Rattle.yq_row_table.specs.Grammar.{IsTail, IsContent, IsRow, Limit, limit_after, AreRows, no_rows}
use Rattle.yq_row_table.specs.Rows.{Content, Row, after_indent, following_gap, parent_indent, print_row, rows_text}
use Rattle.yq_row_table.specs.Seams.{is_closed, is_seam, are_seamed, is_block, ends_in_block, ends_in_line}
use Rattle.yq_row_table.{proofs.AlikeBlocks.{LinesAlike, lines_after, lines_alike, starts_alike, ends_alike}, proofs.NothingLaws.some_after}
use Rattle.yq_row_table.{proofs.RowAgain.row_starts, proofs.seams.SeamLaws.tail_line, proofs.EmptyTexts.none_is}

-- the text of a row isn't empty
pub after_row_some : (limit : Limit) (r : Row) (rest : List ℕ) → IsRow limit r rest → is_empty (following_gap r rest) ≡ false
after_row_some limit r rest h = some_after (replicate r.column 32) (after_indent r rest) (row_starts limit r rest h).some

pub row_some : (limit : Limit) (r : Row) (rest : List ℕ) → IsRow limit r rest → is_empty (print_row r rest) ≡ false
row_some limit r rest h = some_after r.gap (following_gap r rest) (after_row_some limit r rest h)

pub rows_some : (limit : Limit) (rs : List Row) (end rest : List ℕ) → no_rows rs ≡ false → AreRows limit rs end rest → is_empty (rows_text rs (end ++ rest)) ≡ false
rows_some limit rs end rest n h = search (rules, false≢true, row_some)

-- what comes after a content
pub closed_line : (tail u : List ℕ) → is_line tail ≡ true → is_closed tail u ≡ true
closed_line tail u h = rw h refl

tail_was : (tail t : List ℕ) → IsTail tail t → is_closed tail t ≡ true
tail_was tail t h = ⊎_elim {0, 0, 0} (λ e. closed_line tail t e) (λ e. rw e (or_right (is_line tail) true refl)) (tail_line tail t h)

pub tail_any : (tail t u : List ℕ) → is_empty t ≡ false → IsTail tail t → is_closed tail u ≡ true
tail_any tail t u some h = ⊎_elim {0, 0, 0} (λ e. closed_line tail u e) (λ e. absurd (none_is t some e)) (tail_line tail t h)

-- where text is after it, and it is no block scalar, any other text may be
content_any : (n : ℤ) (c : Content) (t u : List ℕ) → is_block c ≡ false → is_empty t ≡ false → IsContent n c t → is_seam c u ≡ true
content_any n c t u h1 h2 h3 = search (rules, tail_any, false≢true)

closed_same : (tail t u : List ℕ) → is_empty t ≡ is_empty u → is_closed tail t ≡ true → is_closed tail u ≡ true
closed_same tail t u e h = ap (λ x. is_line tail || x) (sym e) ∙ h

-- the same of rows
pub seams_were : (front rows : List Row) (limit : Limit) (end rest : List ℕ) → AreRows limit (front ++ rows) end rest → are_seamed front (rows_text rows (end ++ rest)) ≡ true
seams_were [] rows limit end rest h = refl
seams_were (r ∷ []) rows limit end rest h = search (rules, tail_was)
seams_were (r ∷ (q ∷ front)) rows limit end rest h = seams_were (q ∷ front) rows (limit_after r) end rest h.1

pub seams_any : (front rows : List Row) (limit : Limit) (end rest u : List ℕ) → AreRows limit (front ++ rows) end rest → no_rows rows ≡ false → ends_in_block front ≡ false → are_seamed front u ≡ true
seams_any [] rows limit end rest u h some b = refl
seams_any (r ∷ []) rows limit end rest u h some b = content_any (parent_indent r) r.content (rows_text rows (end ++ rest)) u b (rows_some (limit_after r) rows end rest some h.1) h.0.content
seams_any (r ∷ (q ∷ front)) rows limit end rest u h some b = seams_any (q ∷ front) rows (limit_after r) end rest u h.1 some b

seams_same : (front : List Row) (t u : List ℕ) → is_empty t ≡ is_empty u → LinesAlike (text_lines t) (text_lines u) → are_seamed front t ≡ true → are_seamed front u ≡ true
seams_same [] t u e a h = refl
seams_same (r ∷ []) t u e a h = search (rules, closed_same, ends_alike)
seams_same (r ∷ (q ∷ front)) t u e a h = seams_same (q ∷ front) t u e a h

pub seams_alike : (front : List Row) (t u : List ℕ) → Alike (Some false) t u → are_seamed front t ≡ true → are_seamed front u ≡ true
seams_alike front t u a h = seams_same front t u (alike_empty (Some false) t u a) (lines_alike t u a) h

-- Of a row they ask for its gap and its column alone.
pub seams_row : (front : List Row) (limit other : Limit) (r s : Row) (t u : List ℕ) → IsRow limit r t → IsRow other s u → s.gap ≡ r.gap →
    s.column ≡ r.column → are_seamed front (print_row r t) ≡ true → are_seamed front (print_row s u) ≡ true
seams_row front limit other r s t u h k gap column was = search (rules, starts_alike, row_starts, lines_after, seams_same, row_some)

-- After rows of which the last one ends in a break and holds no block scalar, any text may be.
pub seams_line : (front : List Row) (u : List ℕ) → ends_in_line front ≡ true → ends_in_block front ≡ false → are_seamed front u ≡ true
seams_line [] u e b = refl
seams_line (r ∷ []) u e b = search (rules, closed_line, false≢true)
seams_line (r ∷ (q ∷ front)) u e b = seams_line (q ∷ front) u e b
