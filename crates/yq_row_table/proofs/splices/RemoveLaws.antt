-- Rows taken away, with the gap after them repaired.
use Rattle.std.proofs.Common.{rules, ◌≡◌, ℕ, ◌<◌, true, false, List, ◌++◌, Option, Some, None, take, refl, sym, ap, ◌∙◌, append_assoc}
use Rattle.std.proofs.lemmas.Bool.{cond_both, false≢true}
use Rattle.yq_row_table.{proofs.seams.GapFronts.{gap_joined, gap_repaired}, specs.Exchange.asked_after, specs.Gap.{AreGapLines, IsGap}}
use Rattle.yq_row_table.{specs.Grammar.{Limit, unlimited, AreRows, no_rows, IsCut}, specs.Rows.{Row, rows_text, Cut}}
use Rattle.yq_row_table.specs.Removal.{last_block, seam_gap, next_column, IsLessDeep, removed_gap, without_rows, RepairFits}
use Rattle.yq_row_table.specs.Seams.{are_seamed, ends_in_block}
use Rattle.yq_row_table.specs.Splices.{first_gap, after_first, nth_part, after_part, after_rows, front_rows, back_rows, CutsItsText}
use Rattle.yq_row_table.{proofs.seams.BlockFronts.{gap_front, block_seam, last_is_block, last_none}, proofs.seams.LessLaws.after_less}
use Rattle.yq_row_table.{proofs.NothingLaws.some_after, proofs.seams.SeamLaws.{rows_drop, rows_parted}}
use Rattle.yq_row_table.{proofs.seams.FrontSeams.after_row_some, proofs.splices.PartPlaces.{part_in, part_ends}}
use Rattle.yq_row_table.{proofs.splices.SpliceCases.removed, proofs.splices.SpliceTexts.{first_text, first_is}}
use Rattle.yq_core.{specs.Block.{RawLines, BlockText}, specs.BlockRepair.comes_later, specs.Text.{is_empty, text_lines, joined}}
use Rattle.yq_core.{proofs.LineLaws.{joined-append, joined_lines}, specs.declared.block_lines.TextIndent.TextIndent}

-- what is where rows are taken away
pub past_some : (limit : Limit) (rs : List Row) (end rest : List ℕ) → no_rows rs ≡ false → AreRows limit rs end rest → is_empty (after_first rs end rest) ≡ false
past_some limit rs end rest n h = search (rules, false≢true, after_row_some)

kept_text : (gap : List ℕ) (ks run : RawLines) → text_lines gap ≡ ks ++ run → gap ≡ joined ks ++ joined run
kept_text gap ks run h = sym (joined_lines gap) ∙ (ap joined h ∙ joined-append ks run)

by_block : (front back : List Row) (end rest : List ℕ) (column : ℕ) (ks : RawLines) (x next u : List ℕ) (o : Option BlockText) → last_block front ≡ o → ends_in_block front ≡ true → IsLessDeep o column →
    ((m : TextIndent) → column < m.columns → comes_later m (text_lines u) ≡ true) → AreRows unlimited (front ++ back) end rest → rows_text back (end ++ rest) ≡ joined ks ++ x → AreGapLines ks x → is_empty x ≡ false → IsGap next u →
    are_seamed front (seam_gap o column (joined ks) next ++ u) ≡ true
by_block front back end rest column ks x next u None is e less lower whole old kept some follows = absurd (false≢true (sym (last_none front is) ∙ e))
by_block front back end rest column ks x next u (Some b) is e less lower whole old kept some follows =
    let last = last_is_block front back unlimited end rest b whole is in
    search (rules, block_seam)

-- Rows are taken away, and the gap in their place is repaired after a block scalar.
pub removed_repaired : (t : List ℕ) (c : Cut) (k i j : ℕ) (ks run : RawLines) → IsCut t c → RepairFits k i j ks run c → CutsItsText (without_rows k i j ks c)
removed_repaired t c k i j ks run h f =
    let p = nth_part k c in
    let rest = after_part k c in
    let front = front_rows k i c in
    let back = back_rows k i c in
    let more = back_rows k j c in
    let gap = removed_gap i j ks p in
    let next = first_gap more p.end in
    let u = after_rows k j c in
    let column = next_column more in
    let part = part_in c k true h.parts in
    let whole = rows_parted i p.rows unlimited p.end rest part.rows in
    let own = rows_drop i p.rows unlimited p.end rest part.rows in
    let other = rows_drop j p.rows unlimited p.end rest part.rows in
    let x : List ℕ = joined run ++ after_first back p.end rest in
    let x_some : is_empty x ≡ false = some_after (joined run) (after_first back p.end rest) (past_some (asked_after unlimited front) back p.end rest f.some own) in
    let kept : AreGapLines ks x = gap_front (first_gap back p.end) (after_first back p.end rest) ks run (first_is (asked_after unlimited front) back p.end rest own) f.lines in
    let follows : IsGap next u = first_is (asked_after unlimited (take j p.rows)) more p.end rest other in
    let new : IsGap gap u = search (rules, gap_joined, gap_repaired, cond_both) in
    let lines = kept_text (first_gap back p.end) ks run f.lines in
    let old : rows_text back (p.end ++ rest) ≡ joined ks ++ x = first_text back p.end rest ∙ (ap (λ g. g ++ after_first back p.end rest) lines ∙ append_assoc (joined ks) (joined run) (after_first back p.end rest)) in
    let lower : (m : TextIndent) → column < m.columns → comes_later m (text_lines u) ≡ true = λ m l. after_less m (asked_after unlimited (take j p.rows)) more p.end rest other (part_ends c k true h.parts) l in
    let seam : ends_in_block front ≡ true → are_seamed front (gap ++ u) ≡ true = λ e. by_block front back p.end rest column ks x next u (last_block front) refl e f.less lower whole old kept x_some follows in
    removed t c k i j gap h (record { some = f.some; is_gap = new; next = f.next; seam = seam })
