-- Rows cut after a dash, and the lines of items and entries in their rows.
use Rattle.std.proofs.Common.{◌≡◌, ℕ, zero, suc, ◌<◌, ◌≤◌, List, [], ◌∷◌, ◌++◌, length, take, drop, replicate, Some, refl, ap, ◌∙◌, subst}
use Rattle.std.proofs.Common.{arith, append_assoc}
use Rattle.yq_core.{specs.Paths.Step, proofs.Bools.bind_some}
use Rattle.yq_outline.{specs.Ends.line_at_steps, specs.Lines.lines_of_rows}
use Rattle.yq_row_table.{specs.Exchange.row_front, specs.Rows.{Row, after_dashes, dashes_text, print_row, Cut}}
use Rattle.yq_row_table.proofs.PlaceLaws.{dashes_then}
use Rattle.yq_places.{specs.RowPieces.{past_dash, upto_dash}, specs.PlacedRows.{PlacedRow, placed_document, row_of_path}}
use Rattle.yq_places.{proofs.EntryPlaceLaws.row_line_is, proofs.PrintedTexts.map_some, proofs.SeamLaws.dashes_split}
use Rattle.yq_documents.specs.LinesInRows.{row_line_of}

-- ---- a row, cut after a dash

from_dash : (k : ℕ) (ns t : List ℕ) → k < length ns → dashes_text (drop k ns) t ≡ 45 ∷ past_dash (drop k ns) t
from_dash k [] t h = absurd (omega (arith, h))
from_dash zero (n ∷ ns) t h = refl
from_dash (suc k) (n ∷ ns) t h = from_dash k ns t (omega (arith, h))

pub front_is : (k : ℕ) (r : Row) → row_front (upto_dash k r) ≡ (r.gap ++ (replicate r.column 32 ++ dashes_text (take k r.dashes) [])) ++ 45 ∷ []
front_is k r =
    let f : List ℕ = dashes_text (take k r.dashes) [] in
    let parts : r.gap ++ (replicate r.column 32 ++ (f ++ 45 ∷ [])) ≡ (r.gap ++ (replicate r.column 32 ++ f)) ++ 45 ∷ [] = simp append_assoc refl in
    ap (λ l. r.gap ++ (replicate r.column 32 ++ l)) (dashes_then (take k r.dashes) [] (45 ∷ [])) ∙ parts

pub row_cut : (k : ℕ) (r : Row) (t : List ℕ) → k < length r.dashes → print_row r t ≡ row_front (upto_dash k r) ++ past_dash (drop k r.dashes) (after_dashes r t)
row_cut k r t h =
    let f : List ℕ = dashes_text (take k r.dashes) [] in
    let b : List ℕ = past_dash (drop k r.dashes) (after_dashes r t) in
    let parts : r.gap ++ (replicate r.column 32 ++ (f ++ (45 ∷ b))) ≡ ((r.gap ++ (replicate r.column 32 ++ f)) ++ 45 ∷ []) ++ b = simp append_assoc refl in
    cc (dashes_split k r.dashes (after_dashes r t), from_dash k r.dashes (after_dashes r t) h, front_is k r)

-- ---- the row of a path

pub line_within : (n : ℕ) (steps : List Step) (c : Cut) (w : PlacedRow) → row_of_path n steps c ≡ Some w → w.line ≤ length w.row.dashes
line_within n steps c w e =
    let s = bind_some (placed_document n c) e in
    let x = map_some (row_line_of steps s.0.part.rows) s.2 in
    let l = bind_some (line_at_steps steps (lines_of_rows s.0.part.rows)) x.1 in
    subst (λ (q : PlacedRow). q.line ≤ length q.row.dashes) x.2 (row_line_is l.0 s.0.part.rows x.0 l.2).1
