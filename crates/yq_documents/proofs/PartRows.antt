-- The rows of a document among those of a text.
use Rattle.std.proofs.Common.{rules, ◌≡◌, ℕ, zero, suc, ◌+◌, ◌-◌, ◌<◌, ◌≤◌, List, [], ◌∷◌, ◌++◌, length, map, take, drop, Some, true, refl}
use Rattle.std.{proofs.Common.{sym, ap, ◌∙◌, subst, arith, length-append}, proofs.lemmas.Bool.and_parts}
use Rattle.std.{proofs.lemmas.List.{drop-map, length-map, length-drop, take_at, map-append}, specs.List.{list_all, slice_get}}
use Rattle.yq_core.specs.Inline.{depth_limit}
use Rattle.yq_outline.{specs.Group.group, specs.Sound.is_sound_outline, specs.Lines.lines_of_rows, specs.RowWalk.{HasDocument, HasRows}}
use Rattle.yq_outline.specs.declared.line_position.Stretch.{Stretch}
use Rattle.yq_row_table.{specs.Grammar.{IsCut, unlimited, AreRows}, specs.Rows.{Row, Part, Cut}, specs.Splices.{nth_part, after_part}}
use Rattle.yq_row_table.{specs.View.{slices, rows_of, RowsView, rows_view}, proofs.splices.PartPlaces.part_in}
use Rattle.yq_documents.{specs.Documents.document_parts, specs.Reading.{all_documents, is_document}, specs.PartNumbers.part_number}
use Rattle.yq_documents.{specs.LinesInRows.document_row, proofs.PartNumberLaws.{part_there, rows_there, rows_within}}

-- a document's rows are among those of a cut, after so many others
pub part_begins : (c : Cut) (n : ℕ) (p : Part) → slice_get (document_parts c) n ≡ Some p → (more : List Row) × (drop (document_row n c) (rows_of c) ≡ p.rows ++ more)
part_begins c n p at = let b = rows_there (part_number n c) c in (b.0, b.1 ∙ ap (λ (x : Part). x.rows ++ b.0) (part_there c n p at))

-- a document's lines are sound
sound_part : (p : Part) → is_document p ≡ true → is_sound_outline depth_limit (group (lines_of_rows p.rows)) ≡ true
sound_part p e = search (rules, and_parts)

-- each part is a document
pub each : (ps : List Part) → list_all is_document ps ≡ true → (i : ℕ) (p : Part) → slice_get ps i ≡ Some p → is_document p ≡ true
each [] all i p e = absurd (cc)
each (q ∷ ps) all zero p e = let same : q ≡ p = cc in ap is_document (sym same) ∙ (and_parts (is_document q) (list_all is_document ps) all).0
each (q ∷ ps) all (suc i) p e = each ps (and_parts (is_document q) (list_all is_document ps) all).1 i p e

pub has_part : (ps : List Part) (i : ℕ) → i < length ps → (p : Part) × (slice_get ps i ≡ Some p)
has_part [] i h = absurd (omega (arith, h))
has_part (x ∷ ps) zero h = (x, refl)
has_part (x ∷ ps) (suc i) h = has_part ps i (omega (arith, h))

-- the rows of a document are among those of its cut
pub rows_located : (t : List ℕ) (s : RowsView) (c : Cut) (n : ℕ) (p : Part) (d : Stretch) → IsCut t c → s ≡ rows_view c → slice_get (document_parts c) n ≡ Some p → d.first ≡ document_row n c → d.end ≡ document_row n c + length p.rows →
    (h : HasRows s d) × ((h.rows ≡ p.rows) × (h.rows ≡ take (d.end - d.first) (drop d.first (rows_of c))))
rows_located t s c n p d cut is at first end =
    let b = part_begins c n p at in
    let valid : AreRows unlimited p.rows p.end (after_part (part_number n c) c) =
    subst (λ (x : Part). AreRows unlimited x.rows x.end (after_part (part_number n c) c)) (part_there c n p at) (part_in c (part_number n c) true cut.parts).rows in
    let k : ℕ = document_row n c in
    let size : d.end - d.first ≡ length p.rows = omega (arith, first, end) in
    let here : drop d.first (rows_of c) ≡ p.rows ++ b.0 = ap (λ (j : ℕ). drop j (rows_of c)) first ∙ b.1 in
    let there : drop d.first s.rows ≡ map slices p.rows ++ map slices b.0 =
    (λ i. drop (first i) (is i).rows) ∙ (drop-map slices k (rows_of c) ∙ (ap (map slices) b.1 ∙ map-append slices p.rows b.0)) in
    let pieces : take (d.end - d.first) (drop d.first s.rows) ≡ map slices p.rows =
    (λ i. take (size i) (there i)) ∙ take_at (map slices p.rows) (map slices b.0) (length p.rows) (length-map p.rows slices) in
    let long : length s.rows - d.first ≡ length p.rows + length b.0 = sym (length-drop d.first s.rows)
    ∙ (ap length there ∙ (length-append (map slices p.rows) (map slices b.0) ∙ (λ i. length-map p.rows slices i + length-map b.0 slices i))) in
    let all : length s.rows ≡ length (rows_of c) = ap (λ (x : RowsView). length x.rows) is ∙ length-map (rows_of c) slices in
    let upto : k + length (nth_part (part_number n c) c).rows ≤ length (rows_of c) = rows_within (part_number n c) c in (
      record {
        rows = p.rows;
        limit = unlimited;
        end = p.end;
        rest = after_part (part_number n c) c;
        order = omega (arith, first, end);
        within = omega (arith, first, end, long, all, upto);
        pieces = pieces;
        valid = valid;
      },
      (refl, sym ((λ i. take (size i) (here i)) ∙ take_at p.rows b.0 (length p.rows) refl)),
    )

-- the document of a text with its cut
pub document_has : (t : List ℕ) (s : RowsView) (c : Cut) (n : ℕ) (p : Part) (d : Stretch) → IsCut t c → s ≡ rows_view c →
    slice_get (document_parts c) n ≡ Some p → d.first ≡ document_row n c → d.end ≡ document_row n c + length p.rows → all_documents c ≡ true →
    (h : HasDocument s d) × (h.are_there.rows ≡ p.rows)
document_has t s c n p d cut is at first end walk =
    let h = rows_located t s c n p d cut is at first end in
    (record { are_there = h.0; sound = ap (λ (rs : List Row). is_sound_outline depth_limit (group (lines_of_rows rs))) h.1.0 ∙ sound_part p (each (document_parts c) walk n p at) }, h.1.0)
