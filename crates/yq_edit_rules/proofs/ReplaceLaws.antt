-- Rows of a document in the place of others, and a node below the root replaced by them.
use Rattle.std.proofs.Common.{◌≡◌, ℕ, List, [], ◌∷◌, ◌++◌, Some, false, refl, sym, ap, ◌∙◌, subst, length-append, rules}
use Rattle.std.{proofs.lemmas.Bool.false≢true, proofs.lemmas.Option.same_Some}
use Rattle.yq_core.specs.Paths.{Step}
use Rattle.yq_outline.{specs.Group.level_or, specs.Laws.with_lines, specs.Outline.{Line, Outline, flatten}, specs.Places.{FoundLine, find}}
use Rattle.yq_outline.{proofs.Decides.flatten-group, proofs.Values.{same_rank, same_entry}, specs.Lines.lines_of_rows}
use Rattle.yq_row_table.{specs.Exchange.asked_after, specs.Grammar.{unlimited, AreRows, no_rows}, specs.Rows.{Row, Part}}
use Rattle.yq_row_table.{specs.Splices.first_gap, proofs.seams.FrontSeams.{seams_alike, seams_were}, proofs.splices.SpliceTexts.own_gap}
use Rattle.yq_documents.{specs.Documents.{HaveFitKeys, HasShortRoot}, specs.Reading.part_outline}
use Rattle.yq_edit_rules.{specs.Appends.inserted, specs.Conditions.BeginsEntry, specs.DocumentRows.{RowsFit, after_document}}
use Rattle.yq_edit_rules.{specs.Replaces.{DocumentReplaced, NodeRowsReplaced}, specs.Siblings.{IsEntry, HasEntries}}
use Rattle.yq_edit_rules.{proofs.AnchorLaws.{fit_parts, fit_from}, proofs.AppendLaws.{around, following_rows_some, rows_with}}
use Rattle.yq_edit_rules.{proofs.BlockChangeLaws.node_replaced, proofs.PartLaws.{document_known, document_spliced, is_put, part_rows}}
use Rattle.yq_edit_rules.{proofs.PlacedLaws.{found_is_entry, line_placed, rows_in_parts}, proofs.RemoveLaws.entry_short}
use Rattle.yq_edit_rules.proofs.SiblingLaws.{entry_in, entry_out}

pub rows_before_some : (a b : List Row) → no_rows b ≡ false → no_rows (a ++ b) ≡ false
rows_before_some [] b n = n
rows_before_some (r ∷ a) b n = refl

pub document_replaced : DocumentReplaced
document_replaced t c k p front gone back new gap old r text =
    let known = document_known t c k p old in
    let rest : List ℕ = after_document k c in
    let rows : AreRows unlimited (front ++ (gone ++ back)) p.end rest = subst (λ (rs : List Row). AreRows unlimited rs p.end rest) r.rows_are (part_rows t c k p old known.cut) in
    let fits : RowsFit front new back gap p rest = search (rules, seams_alike, seams_were) in
    document_spliced t c k p front gone back new gap old known.cut r.rows_are (ap no_rows r.rows_are ∙ rows_before_some front (gone ++ back) (following_rows_some gone back r.some)) fits text

pub found_entries : (s : Step) (ss : List Step) (o : Outline) (f : FoundLine) → find s ss o ≡ Some (f, []) → HasEntries o
found_entries s ss o f h1 = search (rules, same_Some)

outline_begins : (o : Outline) → HasEntries o → BeginsEntry (flatten o)
outline_begins o h = search rules

-- lines that begin as others do, or with an entry
begin_stays : (x y z : List Line) (l : Line) (ls : List Line) → IsEntry l.mark → BeginsEntry (x ++ (y ++ z)) → BeginsEntry ((x ++ (l ∷ ls)) ++ z)
begin_stays [] y z l ls e h = e
begin_stays (k ∷ x) y z l ls e h = h

-- the root is as short as it was after the same first row, and where the new rows begin with an entry
pub short_new : (front old new back : List Row) (gap rest : List ℕ) → HasShortRoot (front ++ old) → AreRows (asked_after unlimited front) new gap rest → no_rows new ≡ false →
    (front ≡ [] → BeginsEntry (lines_of_rows (new ++ back))) → HasShortRoot (front ++ (new ++ back))
short_new (r ∷ front) old new back gap rest h rows some begins = h
short_new [] old [] back gap rest h rows some begins = absurd (false≢true (sym some))
short_new [] old (q ∷ new) back gap rest h rows some begins = entry_short q (lines_of_rows (new ++ back)) rows.0.dashes (begins refl)

pub node_rows_replaced : NodeRowsReplaced
node_rows_replaced t c k p s ss f v front gone new back x y m l u old found r w fits may text =
    let known = document_known t c k p old in
    let o : Outline = part_outline p in
    let q : Part = inserted front new back p in
    let z : List Line = lines_of_rows back in
    let a : List Line = lines_of_rows front ++ x in
    let d : List Line = l ∷ flatten u in
    let there : q.rows ≡ front ++ (new ++ back) = ap (λ (rs : List Row). front ++ (new ++ rs)) (own_gap back p.end) in
    let olds : lines_of_rows p.rows ≡ a ++ (y ++ z) = search (rules, rows_in_parts, around, z) in
    let placed = line_placed (level_or 0 o) p s ss [] f a y z known.even found (record { parts_are = olds; before_are = length-append (lines_of_rows front) x ∙ w.before_are; size_is = w.size_is }) in
    let news : lines_of_rows (front ++ (new ++ back)) ≡ a ++ (d ++ z) = search (rules, rows_in_parts, around, d, z) in
    let lines : lines_of_rows q.rows ≡ with_lines f d = ap lines_of_rows there ∙ (news ∙ sym (placed.1 d)) in
    let cut = document_replaced t c k p front gone back new (first_gap back p.end) old r text in
    let some : no_rows new ≡ false = rows_with new x d w.new_lines (λ none. cc) in
    let keys = fit_parts front (gone ++ back) (subst HaveFitKeys r.rows_are known.document.keys) in
    let fit : HaveFitKeys (front ++ (new ++ back)) = fit_from front (new ++ back) keys.0 (fit_from new back w.keys (fit_parts gone back keys.1).1) in
    let entry : IsEntry l.mark = entry_out l.mark (same_entry f.line.mark l.mark (entry_in f.line.mark (found_is_entry (level_or 0 o) p s ss f known.even found)) (same_rank f.line l (sym fits.level_is))) in
    let begins : front ≡ [] → BeginsEntry (lines_of_rows (new ++ back)) =
    search (rules, rows_in_parts, begin_stays, flatten-group, outline_begins, found_entries) in
    let short : HasShortRoot (front ++ (new ++ back)) = search (rules, short_new) in
    let put = is_put t c k p q old (ap no_rows there ∙ rows_before_some front (new ++ back) (following_rows_some new back some)) text cut (subst HaveFitKeys (sym there) fit) (subst HasShortRoot (sym there) short) in
    node_replaced t c k p q s ss f v m l u put found fits w.anchors lines may
