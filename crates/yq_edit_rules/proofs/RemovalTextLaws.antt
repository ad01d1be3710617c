-- The text of a document, of which rows are taken out.
use Rattle.std.proofs.Common.{rules, ◌≡◌, Bool, cond, ℕ, List, ◌++◌, Option, Some, None, refl, append_assoc}
use Rattle.yq_core.{specs.Block.{BlockText, keeps}, specs.BlockRepair.repair, specs.Text.{joined, text_lines}}
use Rattle.yq_row_table.{specs.Removal.{hold_comment, seam_gap}, specs.Rows.part_text, proofs.seams.SeamLaws.{gap_text, rows_text-append}}
use Rattle.yq_places.{specs.PlacedRows.PlacedPart, specs.RemovalPlaces.{OwnRows, Seam, seam_after, rows_out}}
use Rattle.yq_places.proofs.RemovalTexts.{texts_then}
use Rattle.yq_edit_rules.{specs.RemovalChanges.mended, specs.Removes.without}

-- the gap that is left
mended_if : (b : Bool) (x : Seam) (kept gap : List ℕ) → cond b (kept ++ gap) (kept ++ joined (repair x.keeps x.indent x.column (text_lines gap))) ≡ kept ++ mended (cond b None (Some x)) gap
mended_if b x kept gap = search rules

pub gap_mended : (o : Option BlockText) (column : ℕ) (kept gap : List ℕ) → seam_gap o column kept gap ≡ kept ++ mended (seam_after o column kept) gap
gap_mended None column kept gap = refl
gap_mended (Some b) column kept gap = mended_if (hold_comment (text_lines kept)) (record { keeps = keeps b.chomping; indent = b.indent.columns; column = column }) kept gap

pub new_text : (d : PlacedPart) (x : OwnRows) →
    d.before ++ part_text (without x.front x.own x.back d.part) d.after ≡ (rows_out d x).before ++ (mended (rows_out d x).seam (rows_out d x).gap ++ (rows_out d x).after)
new_text d x = simp (rows_text-append, gap_text, gap_mended, append_assoc, texts_then)
