-- One of several items or entries of a block collection taken out.
use Rattle.std.proofs.Common.{◌≡◌, ℕ, ◌+◌, ◌≤◌, List, [], ◌∷◌, ◌++◌, length, take, drop, true, false, refl, sym, ap, ◌∙◌, subst}
use Rattle.std.{proofs.Common.{length-append, rules}, proofs.lemmas.Bool.false≢true}
use Rattle.yq_core.{specs.Characters.is_text, specs.Paths.{Step, changed_at, remove_child, within}}
use Rattle.yq_core.{specs.Text.{is_empty, joined, text_lines}, specs.Anchors.names_of}
use Rattle.yq_text.specs.Limit.{text_limit}
use Rattle.yq_outline.{specs.Comments.head_comment, specs.Group.level_or, specs.Laws.with_lines, specs.Lines.{row_lines, lines_of_rows}}
use Rattle.yq_outline.specs.Outline.{Line, level, Outline, flatten, row}
use Rattle.yq_outline.specs.Places.{lines_before, lines_after, plug, FoundLine, content_under}
use Rattle.yq_row_table.{specs.Exchange.{allows_first, asked_after}, specs.Gap.AreGapLines}
use Rattle.yq_row_table.{specs.Grammar.{Limit, unlimited, AreDashes, AreRows, IsCut, no_rows}, specs.Rows.{Row, Part, Cut, cut_text}}
use Rattle.yq_row_table.specs.Splices.{after_first, first_gap, with_first_gap, nth_part, splice}
use Rattle.yq_row_table.specs.Removal.{RepairFits, last_block, next_column, removed_gap, seam_gap, IsLessDeep, without_rows}
use Rattle.yq_row_table.{proofs.splices.SpliceTexts.first_is, proofs.seams.BlockFronts.gap_front}
use Rattle.yq_row_table.{proofs.splices.RemoveLaws.{removed_repaired, past_some}, proofs.NothingLaws.some_after}
use Rattle.yq_row_table.{proofs.seams.SeamLaws.rows_drop, proofs.splices.PartPlaces.part_in}
use Rattle.yq_documents.{specs.Pieces.{before_run, last_run}, specs.Documents.{HaveFitKeys, HasShortRoot, is_long_plain, lead_of}}
use Rattle.yq_documents.{specs.Reading.{part_outline, root_of}, specs.PartNumbers.part_number}
use Rattle.yq_places.{proofs.RemovalTexts.run_parts, specs.RowPaths.IsReadable, proofs.UnderExchange.lines_append}
use Rattle.yq_edit_rules.{specs.Changed.{IsChanged, put_document}, specs.Conditions.{AreSpared, BeginsEntry}, specs.EntryRows.HasWholeRows}
use Rattle.yq_edit_rules.specs.Siblings.{IsEntryAt, HasEntries, NodeLines, put_lines}
use Rattle.yq_edit_rules.proofs.AnchorLaws.{both_anew, collection_anew, fit_parts, fit_from, lines_among}
use Rattle.yq_edit_rules.{proofs.CollectionLaws.{Splits, some_at}, proofs.NodeLineLaws.lines_even, proofs.BlockChangeLaws.entry_removed}
use Rattle.yq_edit_rules.proofs.PlacedLaws.{around, entry_placed, same_parts}
use Rattle.yq_edit_rules.proofs.SiblingLaws.{entries, even_right, flatten-append, next, rest_entries}
use Rattle.yq_edit_rules.{specs.LineRows.{following_lines, Begins, AreClosed}, specs.DocumentRows.{IsDocumentPart, after_document}}
use Rattle.yq_edit_rules.{specs.Removes.{left_gap, without}, proofs.ApartLaws.{entries_apart, even_closed, block_some}}
use Rattle.yq_edit_rules.{proofs.AppendLaws.{following_rows_some, rows_with}, proofs.ColumnLaws.{closed_is_there_less, next_stays}}
use Rattle.yq_edit_rules.proofs.GapLaws.{head_left, none_before}
use Rattle.yq_edit_rules.proofs.PartLaws.{part_numbered, rows_put, document_known, is_put, take_front, drop_front, drop_gone}
use Rattle.yq_row_table.specs.Rows as rows

-- rows with another gap before them
gap_lines : (gap : List ℕ) (back : List Row) (last : List ℕ) → (no_rows back ≡ false → head_comment gap ≡ head_comment (first_gap back last)) → lines_of_rows (with_first_gap gap back) ≡ lines_of_rows back
gap_lines gap back last h = search rules

gap_fit : (gap : List ℕ) (back : List Row) → HaveFitKeys back → HaveFitKeys (with_first_gap gap back)
gap_fit gap back h = search rules

-- a first row that begins with an entry is no plain scalar alone
pub entry_short : (r : Row) (rest : List Line) → AreDashes r.dashes r.mark → BeginsEntry (row_lines r ++ rest) → is_long_plain r.mark r.content ≡ false
entry_short r rest d h = go r.mark refl r.dashes refl
  where
    go : (m : rows.RowMark) → r.mark ≡ m → (ns : List ℕ) → r.dashes ≡ ns → is_long_plain r.mark r.content ≡ false
    go rows.Dash e ns f = ap (λ (m : rows.RowMark). is_long_plain m r.content) e
    go (rows.Key key colon) e ns f = ap (λ (m : rows.RowMark). is_long_plain m r.content) e
    go rows.Bare e [] f = search rules
    go rows.Bare e (n ∷ ns) f = absurd (false≢true ((subst (λ (m : rows.RowMark). AreDashes (n ∷ ns) m) e (subst (λ (x : List ℕ). AreDashes x r.mark) f d)).1))

short_left : (front gone back : List Row) (gap : List ℕ) (limit : Limit) (last rest : List ℕ) → HasShortRoot (front ++ (gone ++ back)) → AreRows limit back last rest → BeginsEntry (lines_of_rows back) →
    HasShortRoot (front ++ with_first_gap gap back)
short_left (r ∷ front) gone back gap limit last rest h is b = h
short_left [] gone [] gap limit last rest h is b = tt
short_left [] gone (r ∷ back) gap limit last rest h is b = entry_short r (lines_of_rows back) is.0.dashes b

-- the lines after an item or entry begin with an entry
after_entry : (n : ℕ) (o : Outline) (steps : List Step) (s : Step) (h : NodeLines) (f : FoundLine) → Rattle.yq_outline.specs.Outline.IsEven n o → IsEntryAt steps s o h f → BeginsEntry (following_lines h f)
after_entry n o steps s h f even e =
    let w = some_at s h.lines f e.found in
    let deep = lines_even n o steps h even e.place_is e.block in
    let m = level_or 0 h.lines in
    let whole : Rattle.yq_outline.specs.Outline.IsEven m (Rattle.yq_edit_rules.specs.Siblings.append_outline w.front (row f.line f.under f.after)) =
    subst (Rattle.yq_outline.specs.Outline.IsEven m) (sym w.whole) deep.1 in
    let here = even_right m w.front (row f.line f.under f.after) whole in
    let mark = rest_entries m w.front (row f.line f.under f.after) (entries _ (subst HasEntries (sym w.whole) e.block)) whole in
    let after : BeginsEntry (flatten f.after) = collection_anew f.after (next m f.line f.after mark here.0 here.4) in
    let stood =
    Rattle.yq_outline.proofs.PlaceLaws.at (Rattle.yq_edit_rules.proofs.ApartLaws.Stood m) (Rattle.yq_outline.specs.Places.find_row s h.lines) f e.found (Rattle.yq_edit_rules.proofs.ApartLaws.row_stood s m h.lines deep.1) in
    both_anew (flatten f.after ++ lines_after f.place) (lines_after h.place) (both_anew (flatten f.after) (lines_after f.place) after (subst BeginsEntry (sym stood.after) tt)) (lines_among n o steps h even e.place_is).0

-- what is left has lines
left_lines : (s : Step) (h : NodeLines) (f : FoundLine) → Splits s h.lines f → HasEntries (plug f.place f.after) → with_lines f [] ≡ [] → ⊥
left_lines s h f w left e = block_some (plug f.place f.after) left (ap flatten (w.plugs f.after) ∙ (flatten-append w.front f.after ∙ (sym (w.lines []) ∙ e)))

rows_inside : (rs : List Row) (a x b : List Line) → lines_of_rows rs ≡ a ++ (x ++ b) → (x ≡ [] → ⊥) → no_rows rs ≡ false
rows_inside rs a x b e some = search (rules, rows_with)

first_same : (gone back : List Row) (last : List ℕ) → no_rows gone ≡ false → first_gap (gone ++ back) last ≡ first_gap gone last
first_same [] back last n = absurd (false≢true (sym n))
first_same (r ∷ gone) back last n = refl

next_more : (limit : Limit) (gone back more : List Row) (last rest : List ℕ) (l : Line) (ls : List Line) → AreRows limit (gone ++ more) last rest → lines_of_rows gone ≡ l ∷ ls →
    Begins (level l) (lines_of_rows back) → allows_first limit back ≡ true
next_more limit [] back more last rest l ls h e b = absurd (cc)
next_more limit (r ∷ gone) back more last rest l ls h e b = next_stays limit (r ∷ (gone ++ more)) back last rest l (ls ++ lines_of_rows more) h (lines_append (r ∷ gone) more ∙ ap (λ (x : List Line). x ++ lines_of_rows more) e) b

-- the law of rows taken away, in a document
removed_cut : (t : List ℕ) (c : Cut) (k : ℕ) (p : Part) (front gone back : List Row) → IsDocumentPart t c k p → IsCut t c → p.rows ≡ front ++ (gone ++ back) → no_rows gone ≡ false →
    allows_first (asked_after unlimited front) back ≡ true → IsLessDeep (last_block front) (next_column back) →
    IsReadable (cut_text (put_document k (without front gone back p) c)) → IsCut (cut_text (put_document k (without front gone back p) c)) (put_document k (without front gone back p) c)
removed_cut t c k p front gone back old cut rows some next less text =
    let n = part_number k c in
    let i : ℕ = length front in
    let j : ℕ = length front + length gone in
    let is : nth_part n c ≡ p = (part_numbered c k p old.there).0 in
    let ls = text_lines (first_gap gone p.end) in
    let ks = before_run ls in
    let here : drop i p.rows ≡ gone ++ back = drop_front p front (gone ++ back) rows in
    let before : front ≡ take i p.rows = sym (take_front p front (gone ++ back) rows) in
    let after : back ≡ drop j p.rows = sym (drop_gone p front gone back rows) in
    let fits : RepairFits n i j ks (last_run ls) c = search (rules, following_rows_some, first_same, run_parts) in
    let same : without_rows n i j ks c ≡ put_document k (without front gone back p) c =
    ap (λ (x : Part). splice n i j [] (removed_gap i j ks x) c) is
    ∙ ((λ v. splice n i j [] (seam_gap (last_block (sym before v)) (next_column (sym after v)) (joined ks) (first_gap (sym after v) p.end)) c)
    ∙ rows_put c k p front gone back [] (left_gap front gone back p) old.there rows) in
    subst (λ (x : Cut). IsCut (cut_text x) x) same
    (removed_repaired t c n i j ks (last_run ls) cut fits
    (ap (λ (x : Cut). is_text (cut_text x)) same ∙ text.characters) (subst (λ (x : Cut). length (cut_text x) ≤ text_limit) (sym same) text.size))

-- One of several items or entries taken out, and the lines that are left.
pub block_gone : (t : List ℕ) (c : Cut) (k : ℕ) (p : Part) (steps : List Step) (s : Step) (h : NodeLines) (f : FoundLine) (front gone back : List Row) → IsDocumentPart t c k p →
    IsEntryAt steps s (part_outline p) h f → HasEntries (plug f.place f.after) → HasWholeRows p h f front gone back →
    AreSpared (names_of (content_under f.line f.under)) [] (names_of (root_of p)) → IsReadable (cut_text (put_document k (without front gone back p) c)) →
    IsChanged c (put_document k (without front gone back p) c) k (lead_of (without front gone back p)) (changed_at steps (within (remove_child s))) ×
    (lines_of_rows (without front gone back p).rows ≡ put_lines h (with_lines f []))
block_gone t c k p steps s h f front gone back old at left has spared text =
    let known = document_known t c k p old in
    let o : Outline = part_outline p in
    let q : Part = without front gone back p in
    let rest : List ℕ = after_document k c in
    let gap : List ℕ = left_gap front gone back p in
    let apart = entries_apart (level_or 0 o) o steps s h f known.even at in
    let b : List Line = lines_before h.place ++ lines_before f.place in
    let e : List Line = f.line ∷ flatten f.under in
    let old_lines : lines_of_rows p.rows ≡ lines_of_rows front ++ (lines_of_rows gone ++ lines_of_rows back) = search (rules, lines_append) in
    let place =
    entry_placed (level_or 0 o) p steps h s f (lines_of_rows front) (lines_of_rows gone) (lines_of_rows back) known.even at (record { parts_are = old_lines; before_are = has.number; size_is = has.count }) in
    let whole : lines_of_rows front ++ (lines_of_rows gone ++ lines_of_rows back) ≡ b ++ (e ++ following_lines h f) = search (rules, around) in
    let parts = same_parts (lines_of_rows front) (lines_of_rows gone) (lines_of_rows back) b e (following_lines h f) whole (has.number ∙ sym (length-append (lines_before h.place) (lines_before f.place))) has.count in
    let some : no_rows gone ≡ false = rows_with gone [] e place.0 (λ none. cc) in
    let part : AreRows unlimited (front ++ (gone ++ back)) p.end rest =
    subst (λ (rs : List Row). AreRows unlimited rs p.end rest) has.rows_are (subst (λ (x : Part). AreRows unlimited x.rows x.end rest) (part_numbered c k p old.there).0 (part_in c (part_number k c) true known.cut.parts).rows) in
    let asked : Limit = asked_after unlimited (take (length front) p.rows) in
    let own : AreRows asked (gone ++ back) p.end rest =
    subst (λ (rs : List Row). AreRows asked rs p.end rest) (drop_front p front (gone ++ back) has.rows_are)
    (rows_drop (length front) p.rows unlimited p.end rest (subst (λ (rs : List Row). AreRows unlimited rs p.end rest) (sym has.rows_are) part)) in
    let limit : Limit = asked_after unlimited (take (length front + length gone) p.rows) in
    let further : AreRows limit back p.end rest =
    subst (λ (rs : List Row). AreRows limit rs p.end rest) (drop_gone p front gone back has.rows_are)
    (rows_drop (length front + length gone) p.rows unlimited p.end rest (subst (λ (rs : List Row). AreRows unlimited rs p.end rest) (sym has.rows_are) part)) in
    let begins : Begins (level f.line) (lines_of_rows back) = subst (Begins (level f.line)) (sym parts.2) apart.next in
    let allowed : allows_first (asked_after unlimited front) back ≡ true =
    subst (λ (a : List Row). allows_first (asked_after unlimited a) back ≡ true) (take_front p front (gone ++ back) has.rows_are) (next_more asked gone back back p.end rest f.line (flatten f.under) own place.0 begins) in
    let closed : AreClosed (lines_of_rows front ++ (f.line ∷ (flatten f.under ++ lines_of_rows back))) =
    subst AreClosed (Rattle.yq_outline.proofs.Decides.flatten-group (lines_of_rows p.rows) ∙ (old_lines ∙ ap (λ (x : List Line). lines_of_rows front ++ (x ++ lines_of_rows back)) place.0)) (even_closed (level_or 0 o) o known.even) in
    let less : IsLessDeep (last_block front) (next_column back) = closed_is_there_less unlimited front (gone ++ back) back p.end rest f.line (flatten f.under ++ lines_of_rows back) part closed begins in
    let cut = removed_cut t c k p front gone back old known.cut has.rows_are some allowed less text in
    let ls = text_lines (first_gap gone p.end) in
    let x : List ℕ = joined (last_run ls) ++ after_first (gone ++ back) p.end rest in
    let kept : AreGapLines (before_run ls) x = search (rules, gap_front, first_is, first_same, run_parts) in
    let x_some : is_empty x ≡ false = some_after (joined (last_run ls)) (after_first (gone ++ back) p.end rest) (past_some asked (gone ++ back) p.end rest (following_rows_some gone back some) own) in
    let head : no_rows back ≡ false → head_comment gap ≡ head_comment (first_gap back p.end) =
    search (rules, head_left, none_before, first_is, past_some) in
    let lines : lines_of_rows q.rows ≡ put_lines h (with_lines f []) =
    lines_append front (with_first_gap gap back) ∙ (ap (λ (y : List Line). lines_of_rows front ++ y) (gap_lines gap back p.end head) ∙ sym (place.1 [])) in
    let keys = fit_parts front (gone ++ back) (subst HaveFitKeys has.rows_are known.document.keys) in
    let put = is_put t c k p q old (rows_inside q.rows (lines_before h.place) (with_lines f []) (lines_after h.place) lines (left_lines s h f (some_at s h.lines f at.found) left)) text cut
    (fit_from front (with_first_gap gap back) keys.0 (gap_fit gap back (fit_parts gone back keys.1).1))
    (short_left front gone back gap limit p.end rest (subst HasShortRoot has.rows_are known.document.short) further (subst BeginsEntry (sym parts.2) (after_entry (level_or 0 o) o steps s h f known.even at))) in
    (entry_removed t c k p q steps h s f put at left lines spared, lines)
