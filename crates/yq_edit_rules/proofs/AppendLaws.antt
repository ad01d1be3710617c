-- One item or entry more in a block collection that has some.
use Rattle.std.proofs.Common.{◌≡◌, ℕ, ◌<◌, List, [], ◌∷◌, ◌++◌, Option, Some, None, true, false, refl, sym, ap, ◌∙◌, subst, arith}
use Rattle.std.{proofs.Common.{append_assoc, length-append, rules}, proofs.lemmas.Bool.false≢true}
use mathlib.Core.List.{head-eq_of_cons-eq}
use Rattle.yq_core.{specs.Block.{BlockText, ends_block, keeps}, specs.Text.text_lines, proofs.BlockRepairLaws.following_ends}
use Rattle.yq_row_table.{specs.Exchange.asked_after, specs.Grammar.{Limit, unlimited, AreRows, no_rows}}
use Rattle.yq_row_table.{specs.Rows.{Content, Row, rows_text, Part}, specs.Seams.{are_seamed, ends_in_block, ends_in_line}}
use Rattle.yq_row_table.{specs.Splices.{after_first, first_gap}, specs.Removal.last_block, proofs.seams.LessLaws.starts_less}
use Rattle.yq_row_table.{proofs.RowAgain.row_starts, proofs.splices.PartPlaces.part_in, proofs.seams.FrontSeams.{seams_any, seams_line}}
use Rattle.yq_row_table.{proofs.splices.SpliceTexts.own_gap, proofs.seams.BlockFronts.last_none}
use Rattle.yq_documents.{specs.Documents.{HaveFitKeys, HasShortRoot}, specs.Reading.part_outline, specs.PartNumbers.part_number}
use Rattle.yq_outline.{specs.Group.level_or, specs.Lines.{lines_from, lines_of_rows}, specs.Outline.{Line, Outline, flatten}}
use Rattle.yq_outline.{specs.Places.{lines_before, lines_after}, proofs.Decides.flatten-group}
use Rattle.yq_places.proofs.UnderExchange.{lines_append}
use Rattle.yq_edit_rules.{specs.Siblings.put_lines, proofs.AnchorLaws.{fit_parts, fit_from}, proofs.CollectionLaws.appended}
use Rattle.yq_edit_rules.{proofs.NodeLineLaws.lines_even, proofs.BlockChangeLaws.entry_appended, proofs.PlacedLaws.same_parts}
use Rattle.yq_edit_rules.{specs.Appends.{inserted, BlockAppended}, specs.LineRows.{Begins, AreApartLines, AreDeep}}
use Rattle.yq_edit_rules.specs.DocumentRows.{after_document, RowsFit}
use Rattle.yq_edit_rules.proofs.ApartLaws.{apart_skip, apart_deep, deep_less, even_deep, lines_apart, block_some}
use Rattle.yq_edit_rules.proofs.ColumnLaws.{block_is_deeper, next_allowed}
use Rattle.yq_edit_rules.proofs.PartLaws.{part_numbered, document_known, document_spliced, is_put, short_stays}
use Rattle.yq_row_table.specs.Rows as rows

pub block_seam : (front : List Row) (b : BlockText) (u : List ℕ) → last_block front ≡ Some b → ends_block (keeps b.chomping) b.indent (text_lines u) ≡ true → are_seamed front u ≡ true
block_seam [] b u e h = refl
block_seam (r ∷ []) b u e h = search (rules, e)
block_seam (r ∷ (q ∷ front)) b u e h = block_seam (q ∷ front) b u e h

-- rows begin in the column of their first line
pub first_column : (above : List (List ℕ)) (column : ℕ) (ns : List ℕ) (m : rows.RowMark) (c : Content) (rest : List Line) (l : Line) (ls : List Line) → lines_from above column ns m c ++ rest ≡ l ∷ ls →
    l.column ≡ column
first_column above column [] m c rest l ls e = ap (λ (x : Line). x.column) (sym (head-eq_of_cons-eq e))
first_column above column (n ∷ ns) m c rest l ls e = ap (λ (x : Line). x.column) (sym (head-eq_of_cons-eq e))

-- the text of rows without a gap before them, after a block scalar
less_rows : (new : List Row) (limit : Limit) (gap rest : List ℕ) (b : BlockText) (l : Line) (ls : List Line) → AreRows limit new gap rest → first_gap new [] ≡ [] → lines_of_rows new ≡ l ∷ ls →
    l.column < b.indent.columns → ends_block (keeps b.chomping) b.indent (text_lines (rows_text new (gap ++ rest))) ≡ true
less_rows [] limit gap rest b l ls h bare e less = absurd (cc)
less_rows (r ∷ more) limit gap rest b l ls h bare e less = search (rules, first_column, starts_less, row_starts, following_ends)

pub append_seam : (front back new : List Row) (end rest gap after : List ℕ) (l : Line) (ls : List Line) → AreRows unlimited (front ++ back) end rest →
    AreRows (asked_after unlimited front) new gap after → first_gap new [] ≡ [] → lines_of_rows new ≡ l ∷ ls →
    AreApartLines (lines_of_rows front) (l ∷ []) → (no_rows back ≡ true → ends_in_block front ≡ false → ends_in_line front ≡ true) → are_seamed front (rows_text new (gap ++ after)) ≡ true
append_seam front back new tail rest gap after l ls old is bare lines apart ends = go (last_block front) refl
  where
    u : List ℕ
    u = rows_text new (gap ++ after)

    plain : (bs : List Row) → back ≡ bs → ends_in_block front ≡ false → are_seamed front u ≡ true
    plain [] e n = seams_line front u (ends (ap no_rows e) n) n
    plain (b ∷ bs) e n = seams_any front back unlimited tail rest u old (ap no_rows e) n

    go : (o : Option BlockText) → last_block front ≡ o → are_seamed front u ≡ true
    go None e = plain back refl (last_none front e)
    go (Some b) e = block_seam front b u e (less_rows new (asked_after unlimited front) gap after b l ls is bare lines (block_is_deeper unlimited front back tail rest b l old e apart))

-- rows with lines
pub rows_with : (front : List Row) (a b : List Line) → lines_of_rows front ≡ a ++ b → (b ≡ [] → ⊥) → no_rows front ≡ false
rows_with [] a b e some = absurd (some (none a b e))
  where
    none : (a b : List Line) → [] ≡ a ++ b → b ≡ []
    none [] b e = sym e
    none (x ∷ a) b e = absurd (cc)
rows_with (r ∷ front) a b e some = refl

pub following_rows_some : (a b : List Row) → no_rows a ≡ false → no_rows (a ++ b) ≡ false
following_rows_some [] b n = absurd (false≢true (sym n))
following_rows_some (x ∷ a) b n = refl

pub around : (a x y z : List Line) → (a ++ x) ++ (y ++ z) ≡ a ++ ((x ++ y) ++ z)
around a x y z = append_assoc a x (y ++ z) ∙ ap (λ (v : List Line). a ++ v) (sym (append_assoc x y z))

pub block_appended : BlockAppended
block_appended t c k p steps h front back new m l u old there_is size w takes text =
    let known = document_known t c k p old in
    let o : Outline = part_outline p in
    let n : ℕ = level_or 0 h.lines in
    let q : Part = inserted front new back p in
    let rest : List ℕ = after_document k c in
    let deep = lines_even (level_or 0 o) o steps h known.even there_is.place_is there_is.block in
    let apart = lines_apart (level_or 0 o) o steps h known.even there_is.place_is there_is.block in
    let olds : flatten o ≡ put_lines h (flatten h.lines) = (appended (level_or 0 o) m o u l steps h known.even there_is w.fits).0 in
    let whole : lines_of_rows front ++ ([] ++ lines_of_rows back) ≡ (lines_before h.place ++ flatten h.lines) ++ ([] ++ lines_after h.place) =
    sym (lines_append front back) ∙ (ap lines_of_rows (sym takes.rows_are) ∙ (sym (flatten-group (lines_of_rows p.rows)) ∙ (olds ∙ sym (append_assoc (lines_before h.place) (flatten h.lines) (lines_after h.place))))) in
    let parts =
    same_parts (lines_of_rows front) [] (lines_of_rows back) (lines_before h.place ++ flatten h.lines) [] (lines_after h.place) whole (size ∙ sym (length-append (lines_before h.place) (flatten h.lines))) refl in
    let some : no_rows front ≡ false = rows_with front (lines_before h.place) (flatten h.lines) parts.0 (block_some h.lines there_is.block) in
    let there : q.rows ≡ front ++ (new ++ back) = ap (λ (rs : List Row). front ++ (new ++ rs)) (own_gap back p.end) in
    let level_is = w.fits.level_is in
    let less = w.fits.deep in
    let above : h.above < n = deep.0 in
    let new_deep : AreDeep n (lines_of_rows new) = subst (AreDeep n) (sym w.lines) (omega (arith, level_is), deep_less n m (flatten u) (omega (arith, level_is, less)) (even_deep m u w.fits.even)) in
    let first : AreApartLines (lines_of_rows front) (l ∷ []) = search (rules, arith, apart_skip, block_some, apart_deep, even_deep) in
    let part : AreRows unlimited (front ++ back) p.end rest =
    subst (λ (rs : List Row). AreRows unlimited rs p.end rest) takes.rows_are (subst (λ (x : Part). AreRows unlimited x.rows x.end rest) (part_numbered c k p old.there).0 (part_in c (part_number k c) true known.cut.parts).rows) in
    let gap : List ℕ = first_gap back p.end in
    let after : List ℕ = after_first back p.end rest in
    let fits : RowsFit front new back gap p rest = record {
      rows = takes.new_are;
      next = next_allowed n (asked_after unlimited front) new back gap after takes.new_are (rows_with new [] (l ∷ flatten u) w.lines (λ none. cc)) new_deep h.above above (subst (Begins h.above) (sym parts.2) apart.1);
      seam = append_seam front back new p.end rest gap after l (flatten u) part takes.new_are w.bare w.lines first takes.closed;
    } in
    let has : no_rows p.rows ≡ false = ap no_rows takes.rows_are ∙ following_rows_some front back some in
    let cut = document_spliced t c k p front [] back new gap old known.cut takes.rows_are has fits text in
    let keys = fit_parts front back (subst HaveFitKeys takes.rows_are known.document.keys) in
    let put =
    is_put t c k p q old (ap no_rows there ∙ following_rows_some front (new ++ back) some) text cut (subst HaveFitKeys (sym there) (fit_from front (new ++ back) keys.0 (fit_from new back w.keys keys.1)))
    (subst HasShortRoot (sym there) (short_stays front back (new ++ back) some (subst HasShortRoot takes.rows_are known.document.short))) in
    let lines : lines_of_rows q.rows ≡ put_lines h (flatten h.lines ++ (l ∷ flatten u)) = search (rules, lines_append, around, there, parts) in
    entry_appended t c k p q steps h m l u put there_is w.fits w.anchors lines w.value_is w.key
