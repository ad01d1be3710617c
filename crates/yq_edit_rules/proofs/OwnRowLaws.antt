-- The rows of an item or entry, by its lines.
use Rattle.std.proofs.Common.{◌≡◌, ℕ, suc, ◌+◌, ◌-◌, eqb, ltb, List, [], ◌∷◌, ◌++◌, length, drop, Some, refl, sym, ap, ◌∙◌, subst, arith}
use Rattle.std.{proofs.Common.{length-append, rules}, proofs.Math.Seq.{take-append_seam, drop-append_seam}}
use Rattle.std.{proofs.lemmas.Bool.{eqb-true, le-ltb, cond-false}, proofs.lemmas.Option.cond_some}
use Rattle.yq_core.{specs.Paths.Step, proofs.Bools.bind_some}
use Rattle.yq_outline.{proofs.LineEnds.following_end, specs.Ends.{deeper_count, line_at_steps, lines_end}, specs.Group.level_or}
use Rattle.yq_outline.{specs.Outline.{Line, level, flatten, IsEven, row}, specs.Places.{lines_before, lines_after, FoundLine}}
use Rattle.yq_outline.{proofs.Decides.flatten-group, specs.Lines.lines_of_rows, proofs.RowLaws.lines_count}
use Rattle.yq_row_table.specs.Rows.{Row, Part}
use Rattle.yq_documents.{specs.Reading.part_outline, specs.LinesInRows.{RowLine, row_line}}
use Rattle.yq_places.{specs.RemovalPlaces.{OwnRows, row_count}, proofs.UnderCounts.count_under}
use Rattle.yq_edit_rules.{specs.EntryRows.HasWholeRows, specs.LineRows.{Begins, following_lines}, specs.RemovalChanges.OwnRowsAreThere}
use Rattle.yq_edit_rules.{specs.Siblings.{IsEntryAt, NodeLines, append_outline}, proofs.ApartLaws.entries_apart}
use Rattle.yq_edit_rules.{proofs.CollectionLaws.{relabelled, some_at}, proofs.NodeLineLaws.lines_even, proofs.PartLaws.document_known}
use Rattle.yq_edit_rules.{proofs.PathLaws.path_is_entry, proofs.PlacedLaws.around, proofs.RowsLaws.entry_rows}
use Rattle.yq_edit_rules.proofs.SiblingLaws.{even_right}

-- rows that have so many lines
row_more : (n : ℕ) (r : Row) (rs : List Row) → row_count (suc (length r.dashes) + n) (r ∷ rs) ≡ suc (row_count n rs)
row_more n r rs =
    let more : suc (length r.dashes) + n ≡ suc (length r.dashes + n) = omega arith in
    let less : length r.dashes + n - length r.dashes ≡ n = omega arith in
    ap (λ (k : ℕ). row_count k (r ∷ rs)) more ∙ ap (λ (k : ℕ). suc (row_count k rs)) less

pub count_rows : (a b : List Row) → row_count (length (lines_of_rows a)) (a ++ b) ≡ length a
count_rows [] b = refl
count_rows (r ∷ a) b = search (rules, arith, lines_count, length-append, row_more, count_rows a b)

begins_none : (n : ℕ) (ls : List Line) → Begins n ls → deeper_count n ls ≡ 0
begins_none n [] h = refl
begins_none n (l ∷ ls) h = cond-false (ltb n (level l)) (suc (deeper_count n ls)) 0 (le-ltb n (level l) h)

-- the lines of an item or entry among those of a part
pub lines_are : (p : Part) (n : ℕ) (steps : List Step) (s : Step) (h : NodeLines) (f : FoundLine) → IsEven n (part_outline p) → IsEntryAt steps s (part_outline p) h f →
    lines_of_rows p.rows ≡ (lines_before h.place ++ lines_before f.place) ++ (f.line ∷ (flatten f.under ++ following_lines h f))
lines_are p n steps s h f even at =
    sym (flatten-group (lines_of_rows p.rows))
    ∙ ((relabelled n (part_outline p) steps h s f (λ y. y) f.line even at (record { level_is = refl; head_is = refl; anchor_is = refl; label_is = refl })).0
    ∙ around (lines_before h.place) (lines_before f.place) (f.line ∷ flatten f.under) (flatten f.after ++ lines_after f.place) (lines_after h.place))

-- how many there are
pub lines_counted : (p : Part) (n : ℕ) (steps : List Step) (s : Step) (h : NodeLines) (f : FoundLine) → IsEven n (part_outline p) → IsEntryAt steps s (part_outline p) h f →
    (k : ℕ) → k ≡ length (lines_before h.place) + length (lines_before f.place) → lines_end k (lines_of_rows p.rows) - k ≡ length (f.line ∷ flatten f.under)
lines_counted p n steps s h f even at k number =
    let b : List Line = lines_before h.place ++ lines_before f.place in
    let w = some_at s h.lines f at.found in
    let deep = lines_even n (part_outline p) steps h even at.place_is at.block in
    let m = level_or 0 h.lines in
    let whole : IsEven m (append_outline w.front (row f.line f.under f.after)) = subst (IsEven m) (sym w.whole) deep.1 in
    let here = even_right m w.front (row f.line f.under f.after) whole in
    let next : Begins (level f.line) (following_lines h f) = (entries_apart n (part_outline p) steps s h f even at).next in
    let size : length b ≡ k = omega (arith, number, length-append (lines_before h.place) (lines_before f.place)) in
    let count : deeper_count (level f.line) (flatten f.under ++ following_lines h f) ≡ length (flatten f.under) + deeper_count (level f.line) (following_lines h f) =
    count_under (level f.line) here.3.0 f.under (following_lines h f) (omega (arith, here.0, here.3.1)) here.3.2 in
    let end : lines_end k (lines_of_rows p.rows) ≡ suc (length b) + deeper_count (level f.line) (flatten f.under ++ following_lines h f) =
    (λ i. lines_end (sym size i) (lines_are p n steps s h f even at i)) ∙ following_end b (flatten f.under ++ following_lines h f) f.line in
    omega (arith, size, count, end, begins_none (level f.line) (following_lines h f) next)

pub own_rows_are_there : OwnRowsAreThere
own_rows_are_there t c k p steps s x old is =
    let ls : List Line = lines_of_rows p.rows in
    let known = document_known t c k p old in
    let m = level_or 0 (part_outline p) in
    let line = bind_some (line_at_steps (steps ++ (s ∷ [])) ls) is in
    let n : ℕ = line.0 in
    let at = bind_some (row_line n p.rows) line.2 in
    let q : RowLine = at.0 in
    let guard = cond_some (eqb q.line 0) _ _ at.2 in
    let first : q.line ≡ 0 = eqb-true q.line 0 guard.0 in
    let w = path_is_entry p m steps s n known.even line.1 in
    let r = entry_rows p m steps s w.h w.f q known.even w.entry (subst (λ (j : ℕ). row_line j p.rows ≡ Some q) w.number at.1) first in
    let lines : lines_end n ls - n ≡ length (lines_of_rows r.gone) = lines_counted p m steps s w.h w.f known.even w.entry n w.number ∙ sym r.has.count in
    let after : drop q.before p.rows ≡ r.gone ++ r.back = (λ j. drop (sym r.number j) (r.has.rows_are j)) ∙ drop-append_seam r.front (r.gone ++ r.back) in
    let count : row_count (lines_end n ls - n) (drop q.before p.rows) ≡ length r.gone = (λ j. row_count (lines j) (after j)) ∙ count_rows r.gone r.back in
    let same : record { front = r.front; own = r.gone; back = r.back } ≡ x = search (rules, take-append_seam, drop-append_seam, n, q, r, count, guard, ls) in
    record { h = w.h; f = w.f; entry = w.entry; rows = subst (λ (y : OwnRows). HasWholeRows p w.h w.f y.front y.own y.back) same r.has }
