-- What is taken out with an item or entry, by the pieces of rows.
use Rattle.std.proofs.Common.{rules, ◌≡◌, ℕ, zero, suc, ◌+◌, ◌-◌, ◌<◌, ◌≤◌, ltb, List, [], ◌∷◌, ◌++◌, length, take, drop, Some, None}
use Rattle.std.proofs.Common.{option_map, Bool, true, false, cond, refl, sym, ap, ◌∙◌, subst, arith, length-append, length-take-le}
use Rattle.std.{proofs.Math.Seq.{drop-append_seam, take-append_seam}, proofs.lemmas.Bool.{cond-false, ne_eqb, eqb-true, ltb-true}}
use Rattle.std.{proofs.lemmas.List.{length-drop, take-append-drop}, proofs.lemmas.Option.{cond_some, same_Some}}
use Rattle.std.{proofs.lemmas.Str.IsCharBoundary-at_seam, specs.List.slice_get, specs.Str.{IsUtf8, IsCharBoundary}}
use Rattle.yq_core.{specs.Paths.Step, specs.Text.{joined, text_lines}, proofs.Bools.bind_some}
use Rattle.yq_outline.{specs.Comments.head_comment, specs.Ends.{line_at_steps, lines_end}, specs.Outline.Line}
use Rattle.yq_outline.{specs.Lines.{lines_from, row_lines, lines_of_rows}, specs.RowWalk.line_number}
use Rattle.yq_outline.{specs.declared.line_position.Position.Position, specs.declared.line_position.Stretch.Stretch}
use Rattle.yq_row_table.{specs.Grammar.no_rows, specs.Removal.hold_comment, specs.Rows.{RowMark, Content, Row}}
use Rattle.yq_documents.{specs.Pieces.{before_run, last_run}, specs.LinesInRows.{RowLine, one_row_later, row_line}}
use Rattle.yq_places.{proofs.CommentPlaceLaws.run_is, specs.RemovalPlaces.{OwnRows, row_count, in_three, own_rows}}
use Rattle.yq_places.{specs.RemovalReading.marks, proofs.PlacedPartLaws.map_some, proofs.RemovalTexts.gap_parts}
use Rattle.yq_places.proofs.WalkDocuments.{row_line_number}

-- ---- a gap cut before its comment

gap_is : (gap run : List ℕ) → text_lines run ≡ last_run (text_lines gap) → gap ≡ joined (before_run (text_lines gap)) ++ run
gap_is gap run e = sym (gap_parts gap) ∙ ap (λ (x : List ℕ). joined (before_run (text_lines gap)) ++ x) (run_is gap run e)

kept_length : (gap run : List ℕ) → text_lines run ≡ last_run (text_lines gap) → length gap - length run ≡ length (joined (before_run (text_lines gap)))
kept_length gap run e = let size = ap length (gap_is gap run e) in omega (arith, size, length-append (joined (before_run (text_lines gap))) run)

pub run_boundary : (gap run : List ℕ) → text_lines run ≡ last_run (text_lines gap) → IsUtf8 run → IsCharBoundary gap (length gap - length run)
run_boundary gap run e u = subst (IsCharBoundary gap) (sym (kept_length gap run e)) (IsCharBoundary-at_seam gap (joined (before_run (text_lines gap))) run (gap_is gap run e) u)

pub kept_is : (gap run : List ℕ) → text_lines run ≡ last_run (text_lines gap) → take (length gap - length run) gap ≡ joined (before_run (text_lines gap))
kept_is gap run e = (λ i. take (kept_length gap run e i) (gap_is gap run e i)) ∙ take-append_seam (joined (before_run (text_lines gap))) run

pub rest_is : (gap run : List ℕ) → text_lines run ≡ last_run (text_lines gap) → drop (length gap - length run) gap ≡ joined (last_run (text_lines gap))
rest_is gap run e = (λ i. drop (kept_length gap run e i) (gap_is gap run e i)) ∙ (drop-append_seam (joined (before_run (text_lines gap))) run ∙ sym (run_is gap run e))

-- ---- lists cut in two

-- ---- the row of a line

from_count : (above : List (List ℕ)) (column : ℕ) (ns : List ℕ) (m : RowMark) (x : Content) → length (lines_from above column ns m x) ≡ suc (length ns)
from_count above column [] m x = refl
from_count above column (n ∷ ns) m x = ap suc (from_count [] (suc (column + n)) ns m x)

more_lines : (r : Row) (rs : List Row) → length (lines_of_rows (r ∷ rs)) ≡ suc (length r.dashes) + length (lines_of_rows rs)
more_lines r rs = omega (arith, length-append (row_lines r) (lines_of_rows rs), from_count (head_comment r.gap) r.column r.dashes r.mark r.content)

-- A line's row is among the rows, and so many lines are from it on.
abbrev RowLineIn : ℕ → List Row → RowLine → Type 0
RowLineIn n rs s = (s.before < length rs) × (n + length (lines_of_rows (drop s.before rs)) ≡ length (lines_of_rows rs) + s.line)

row_line_in : (n : ℕ) (rs : List Row) (s : RowLine) → row_line n rs ≡ Some s → RowLineIn n rs s
row_line_in n [] s e = absurd (cc)
row_line_in n (r ∷ rs) s e = go (ltb (length r.dashes) n) refl e (λ q h. row_line_in (n - suc (length r.dashes)) rs q h)
  where
    go : (b : Bool) → ltb (length r.dashes) n ≡ b → cond b (option_map one_row_later (row_line (n - suc (length r.dashes)) rs)) (Some (record { before = 0; row = r; line = n })) ≡ Some s →
        ((q : RowLine) → row_line (n - suc (length r.dashes)) rs ≡ Some q → RowLineIn (n - suc (length r.dashes)) rs q) → RowLineIn n (r ∷ rs) s
    go false less e again = subst (RowLineIn n (r ∷ rs)) (same_Some _ _ e) (omega arith, omega arith)
    go true less e again =
        let x = map_some one_row_later (row_line (n - suc (length r.dashes)) rs) s e in
        let h = again x.0 x.1 in
        subst (RowLineIn n (r ∷ rs)) x.2 (omega (arith, h.0), omega (arith, h.1, more_lines r rs, ltb-true (length r.dashes) n less))

end_past : (n : ℕ) (ls : List Line) → n < length ls → n < lines_end n ls
end_past n [] h = absurd (omega (arith, h))
end_past zero (l ∷ ls) h = omega arith
end_past (suc n) (l ∷ ls) h = omega (arith, end_past n ls (omega (arith, h)))

some_lines : (rs : List Row) → 0 < length rs → 0 < length (lines_of_rows rs)
some_lines [] h = absurd (omega (arith, h))
some_lines (r ∷ rs) h = omega (arith, more_lines r rs)

-- so many rows have the lines of the first of them
count_rows : (j : ℕ) (rs : List Row) → j ≤ length rs → row_count (length (lines_of_rows (take j rs))) rs ≡ j
count_rows (suc j) (r ∷ rs) h =
    let m : ℕ = length (lines_of_rows (take j rs)) in
    let size : length (lines_of_rows (r ∷ take j rs)) ≡ suc (length r.dashes + m) = omega (arith, more_lines r (take j rs)) in
    let less : length r.dashes + m - length r.dashes ≡ m = omega arith in
    ap (λ (k : ℕ). row_count k (r ∷ rs)) size ∙ ap suc (ap (λ (k : ℕ). row_count k rs) less ∙ count_rows j rs (omega (arith, h)))
count_rows j rs h = search (rules, arith)

-- the lines of rows between others
lines_between : (i e : ℕ) (rs : List Row) → i ≤ e → length (lines_of_rows (take e rs)) ≡ length (lines_of_rows (take i rs)) + length (lines_of_rows (take (e - i) (drop i rs)))
lines_between zero e rs h = let same : e ≡ e - 0 = omega arith in omega (arith, ap (λ (k : ℕ). length (lines_of_rows (take k rs))) same)
lines_between (suc i) zero rs h = absurd (omega (arith, h))
lines_between (suc i) (suc e) [] h = omega (arith, none (suc e - suc i))
  where
    none : (k : ℕ) → length (lines_of_rows (take k [])) ≡ 0
    none k = search rules
lines_between (suc i) (suc e) (r ∷ rs) h = search (rules, arith, more_lines, lines_between i e rs (omega (arith, h)))

-- ---- the rows of an item or entry

-- A line of a path is that of an own row.
pub record OwnLine (steps : List Step) (rs : List Row) (n : ℕ) (q : RowLine) : Type 0 where
  pub line : line_at_steps steps (lines_of_rows rs) ≡ Some n
  pub row : row_line n rs ≡ Some q
  pub first : q.line ≡ 0

own_is : (steps : List Step) (rs : List Row) (n : ℕ) (q : RowLine) → OwnLine steps rs n q → own_rows steps rs ≡ Some (in_three q.before (row_count (lines_end n (lines_of_rows rs) - n) (drop q.before rs)) rs)
own_is steps rs n q h = search (rules, h.row, h.first)

-- what is own is the rows, and there are some
pub record OwnRowsAre (rs : List Row) (x : OwnRows) : Type 0 where
  pub rows_are : rs ≡ x.front ++ (x.own ++ x.back)
  pub some : no_rows x.own ≡ false

own_line : (steps : List Step) (rs : List Row) (x : OwnRows) → own_rows steps rs ≡ Some x → (n : ℕ) × (q : RowLine) × OwnLine steps rs n q
own_line steps rs x e = search (rules, bind_some, cond_some, eqb-true)

pub own_is_there : (steps : List Step) (rs : List Row) (x : OwnRows) → own_rows steps rs ≡ Some x → OwnRowsAre rs x
own_is_there steps rs x e =
    let l = own_line steps rs x e in
    let n : ℕ = l.0 in
    let q : RowLine = l.1 in
    let at = row_line_in n rs q l.2.row in
    let left : length (drop q.before rs) ≡ length rs - q.before = length-drop q.before rs in
    let lines : 0 < length (lines_of_rows (drop q.before rs)) = some_lines (drop q.before rs) (omega (arith, left, at.0)) in
    search (rules, end_past, same_Some, own_is, take-append-drop, arith)

-- what the code counts
pub own_agrees : (d : Stretch) (rs : List Row) (steps : List Step) (q e : Position) (r : Row) →
    Some (line_number d rs q) ≡ line_at_steps steps (lines_of_rows rs) → slice_get rs (q.row - d.first) ≡ Some r → d.first ≤ q.row → q.line ≡ 0 →
    e.line ≡ 0 → q.row < e.row →
    e.row - d.first ≤ length rs → line_number d rs e ≡ lines_end (line_number d rs q) (lines_of_rows rs) → Some (d.first, q.row, e.row) ≡ option_map (marks d.first) (own_rows steps rs)
own_agrees d rs steps q e r line there from none last less within end =
    let i : ℕ = q.row - d.first in
    let j : ℕ = e.row - d.first in
    let n : ℕ = line_number d rs q in
    let k : ℕ = lines_end n (lines_of_rows rs) - n in
    let h : OwnLine steps rs n (record { before = i; row = r; line = q.line }) = record { line = sym line; row = row_line_number rs i q.line r there (omega (arith, none)); first = none } in
    let left : length (drop i rs) ≡ length rs - i = length-drop i rs in
    let size : k ≡ length (lines_of_rows (take (j - i) (drop i rs))) = omega (arith, end, none, last, lines_between i j rs (omega (arith, less))) in
    let count : row_count k (drop i rs) ≡ j - i = ap (λ (m : ℕ). row_count m (drop i rs)) size ∙ count_rows (j - i) (drop i rs) (omega (arith, left, within)) in
    let own : length (take (row_count k (drop i rs)) (drop i rs)) ≡ j - i = ap (λ (m : ℕ). length (take m (drop i rs))) count ∙ length-take-le (j - i) (drop i rs) (omega (arith, left, within)) in
    search (rules, own_is, arith)

-- no line, or none that begins a row
pub no_own : (first : ℕ) (rs : List Row) (steps : List Step) → None ≡ line_at_steps steps (lines_of_rows rs) → None ≡ option_map (marks first) (own_rows steps rs)
no_own first rs steps e = search rules

pub not_own : (first n : ℕ) (rs : List Row) (steps : List Step) (q : RowLine) → Some n ≡ line_at_steps steps (lines_of_rows rs) → row_line n rs ≡ Some q → (q.line ≡ 0 → ⊥) → None ≡ option_map (marks first) (own_rows steps rs)
not_own first n rs steps q line is some = search (rules, cond-false, ne_eqb)

-- ---- the loops

pub none_held : (t : List ℕ) → t ≡ [] → hold_comment (text_lines t) ≡ false
unfolding Rattle.yq_core.specs.Text.text_lines
none_held t e = ap (λ (x : List ℕ). hold_comment (text_lines x)) e
