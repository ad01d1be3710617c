-- A row is read again, and where its gap ends.
use Rattle.std.proofs.Common.{◌≡◌, ℕ, ℤ, zero, suc, true, false, cond, not, ◌&&◌, eqb, List, [], ◌∷◌, ◌++◌, length, Some, None, refl, ap}
use Rattle.std.{proofs.Common.{◌∙◌, replicate, rules}, proofs.Math.Bool.and-false, proofs.lemmas.List.length-replicate}
use Rattle.yq_core.specs.Text.{past_white, is_empty, is_marker}
use Rattle.yq_row_table.{specs.Gap.IsWhite, specs.Grammar.{IsRow, IsContent, IsMark, Limit, allows, ends_part}}
use Rattle.yq_row_table.specs.Reading.{begins_gap, read_marks, fits, marked_row_at, row_at}
use Rattle.yq_row_table.specs.Rows.{RowMark, Bare, Dash, Key, Content, dashes_text, mark_text, content_text, Row, after_indent}
use Rattle.yq_row_table.{specs.Rows.{following_gap, parent_indent}, proofs.ContentEnds.{alone_no_entry, mark_ended}}
use Rattle.yq_row_table.{proofs.ContentLaws.content_again, proofs.Fronts.{Starts, starts_by, node_starts}, proofs.LineEnds.white_again}
use Rattle.yq_row_table.{proofs.MarkAgain.{scalar_node, key_starts, marks_again}, proofs.MarkLaws.spaces_again}

-- what a row begins with
dash_starts : (t : List ℕ) → Starts (45 ∷ t)
dash_starts t = starts_by 45 t refl refl refl refl

mark_starts : (ns : List ℕ) (mark : RowMark) (n : ℤ) (c : Content) (rest : List ℕ) → IsMark mark c rest → IsContent n c rest → Starts (dashes_text ns (mark_text mark (content_text c rest)))
mark_starts [] Bare n c rest m h = node_starts (content_text c rest) (alone_no_entry n c rest m h).1
mark_starts [] Dash n c rest m h = dash_starts (content_text c rest)
mark_starts [] (Key key colon) n c rest m h = node_starts (key ++ (colon ++ content_text c rest)) (scalar_node (key ++ (colon ++ content_text c rest)) (key_starts key colon (content_text c rest) m))
mark_starts (k ∷ ns) mark n c rest m h = dash_starts (replicate k 32 ++ dashes_text ns (mark_text mark (content_text c rest)))

pub row_starts : (limit : Limit) (r : Row) (rest : List ℕ) → IsRow limit r rest → Starts (after_indent r rest)
row_starts limit r rest h = mark_starts r.dashes r.mark (parent_indent r) r.content rest h.mark h.content

pub white_spaces : (n : ℕ) → IsWhite (replicate n 32)
white_spaces zero = tt
white_spaces (suc n) = (refl, white_spaces n)

-- a row is in no gap
pub no_gap_line : (n : ℕ) (t : List ℕ) → Starts t → begins_gap (replicate n 32 ++ t) ≡ false
no_gap_line n t h =
    let after : past_white (replicate n 32 ++ t) ≡ t = ap (λ (y : List ℕ × List ℕ). y.1) (white_again (replicate n 32) t (white_spaces n) h.no_white) in
    rw (after, h.no_end, h.no_hash) (and-false _)

pub row_no_gap : (limit : Limit) (r : Row) (rest : List ℕ) → IsRow limit r rest → begins_gap (following_gap r rest) ≡ false
row_no_gap limit r rest h = no_gap_line r.column (after_indent r rest) (row_starts limit r rest h)

-- and no marker
space_no_marker : (t : List ℕ) → is_marker (32 ∷ t) ≡ false
space_no_marker t = search rules

no_end : (n : ℕ) (t : List ℕ) → (eqb n 0 && is_marker t) ≡ false → is_empty t ≡ false → ends_part (replicate n 32 ++ t) ≡ false
no_end n t h some = search (rules, space_no_marker)

pub row_no_end : (limit : Limit) (r : Row) (rest : List ℕ) → IsRow limit r rest → ends_part (following_gap r rest) ≡ false
row_no_end limit r rest h = no_end r.column (after_indent r rest) h.unmarked (row_starts limit r rest h).some

-- the row again
mark_fits : (mark : RowMark) (c : Content) (rest : List ℕ) → IsMark mark c rest → fits mark c ≡ true
mark_fits mark c rest h1 = search rules

pub row_again : (limit : Limit) (r : Row) (rest : List ℕ) → IsRow limit r rest → row_at limit r.gap (following_gap r rest) ≡ Some (r, rest)
unfolding row_at marked_row_at
row_again limit r rest h =
    let t : List ℕ = after_indent r rest in
    let indent = spaces_again r.column t (row_starts limit r rest h).no_space in
    ap (λ (i : List ℕ × List ℕ). cond (allows limit (length i.0) && not (eqb (length i.0) 0 && is_marker i.1)) (marked_row_at r.gap (length i.0) (read_marks i.1)) None) indent
    ∙ rw (length-replicate {A = ℕ} r.column 32) (rw (h.allowed, h.unmarked) (search (rules, marks_again, mark_ended, content_again, mark_fits)))
