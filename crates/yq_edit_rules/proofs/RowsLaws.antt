-- The rows of a collection's items or entries, and of one of them.
use Rattle.std.proofs.Common.{rules, ◌≡◌, List, [], ◌∷◌, ◌++◌, length, refl, sym, ap, ◌∙◌, arith, length-append}
use Rattle.yq_outline.{specs.Lines.lines_of_rows, specs.Outline.{Line, flatten}, specs.Places.{lines_before, lines_after}}
use Rattle.yq_outline.proofs.Decides.{flatten-group}
use Rattle.yq_documents.specs.Reading.{part_outline}
use Rattle.yq_places.proofs.UnderExchange.{lines_append}
use Rattle.yq_edit_rules.{proofs.CollectionLaws.relabelled, proofs.PlacedLaws.{around, same_parts}, specs.LineRows.following_lines}
use Rattle.yq_edit_rules.{specs.EntryRows.EntryRows, proofs.ApartLaws.{entries_apart, row_begins}, proofs.ColumnLaws.apart_later}
use Rattle.yq_edit_rules.proofs.LineLaws.{row_line_splits}

pub entry_rows : EntryRows
entry_rows p n steps s h f x even at is first =
    let w = row_line_splits _ p.rows x is in
    let e : List Line = f.line ∷ flatten f.under in
    let b : List Line = lines_before h.place ++ lines_before f.place in
    let olds = (relabelled n (part_outline p) steps h s f (λ y. y) f.line even at (record { level_is = refl; head_is = refl; anchor_is = refl; label_is = refl })).0 in
    let lines = w.lines in
    let size : length (lines_of_rows w.front) ≡ length b = omega (arith, lines, first, length-append (lines_before h.place) (lines_before f.place)) in
    let whole : lines_of_rows w.front ++ ([] ++ lines_of_rows (x.row ∷ w.back)) ≡ b ++ ([] ++ (e ++ following_lines h f)) =
    sym (lines_append w.front (x.row ∷ w.back)) ∙ (ap lines_of_rows (sym w.rows_are) ∙
    (sym (flatten-group (lines_of_rows p.rows)) ∙ (olds ∙ around (lines_before h.place) (lines_before f.place) e (flatten f.after ++ Rattle.yq_outline.specs.Places.lines_after f.place) (lines_after h.place)))) in
    let parts = same_parts (lines_of_rows w.front) [] (lines_of_rows (x.row ∷ w.back)) b [] (e ++ following_lines h f) whole size refl in
    let apart = apart_later b e (following_lines h f) (λ none. cc) (entries_apart n (part_outline p) steps s h f even at).end in
    let cut = row_begins (x.row ∷ w.back) e (following_lines h f) parts.2 apart in
    search (rules, length-append)
