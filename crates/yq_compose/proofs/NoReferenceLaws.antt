-- Where no alias is in the heads of rows, none is in their lines.
use Rattle.std.proofs.Common.{◌≡◌, ℕ, suc, ◌+◌, false, ◌||◌, List, [], ◌∷◌, ◌++◌, length, Option, Some, None, refl, ap, ◌∙◌, subst}
use Rattle.std.{proofs.lemmas.List.Folds.list_any-append, specs.List.{list_any, slice_get}}
use Rattle.yq_core.specs.Anchors.{Name, anchor_names}
use Rattle.yq_outline.{specs.Extents.head_place, specs.Names.{head_names, is_reference, line_names}}
use Rattle.yq_outline.{specs.Lines.{content_anchor, head_of, lines_of_rows}, specs.declared.line_position.Stretch.Stretch}
use Rattle.yq_outline.proofs.WalkLevels.{names_row}
use Rattle.yq_row_table.{specs.Exchange.after_row, specs.Rows.{Cut, Row}, specs.View.{RowsView, rows_of, slices}}
use Rattle.yq_documents.{proofs.ReadLaws.cut_is, specs.Decoded.{decoded_at, owned_head}, specs.FlowReading.row_flow}
use Rattle.yq_documents.specs.declared.decoded.Decoded.{Decoded}
use Rattle.yq_compose.{specs.Checking.IsCheckable, specs.Decoding.AreAliasFree, specs.Named.flow_names}
use Rattle.yq_compose.proofs.HeadViewLaws.{given_means, means_named, row_in_cut}

anchor_refers_not : (a : Option (List ℕ)) (xs : List Name) → list_any is_reference (anchor_names a xs) ≡ list_any is_reference xs
anchor_refers_not None xs = refl
anchor_refers_not (Some a) xs = refl

rows_refer_not : (rs : List Row) → ((i : ℕ) (r : Row) → slice_get rs i ≡ Some r → list_any is_reference (head_names (head_of r.content)) ≡ false) → list_any is_reference (line_names (lines_of_rows rs)) ≡ false
rows_refer_not [] each = refl
rows_refer_not (r ∷ rs) each =
    let here : list_any is_reference (head_names (head_of r.content)) ≡ false = each 0 r refl in
    let rest : list_any is_reference (line_names (lines_of_rows rs)) ≡ false = rows_refer_not rs (λ i x e. each (suc i) x e) in
    ap (list_any is_reference) (names_row r (lines_of_rows rs))
    ∙ (anchor_refers_not (content_anchor r.content) (head_names (head_of r.content) ++ line_names (lines_of_rows rs))
    ∙ (list_any-append is_reference (head_names (head_of r.content)) (line_names (lines_of_rows rs)) ∙ (λ i. here i || rest i)))

pub ready_refers_not : (t : List ℕ) (s : RowsView) (ms : List Decoded) (d : Stretch) (k : IsCheckable t s ms d) → AreAliasFree t → list_any is_reference (line_names (lines_of_rows k.document.rows)) ≡ false
ready_refers_not t s ms d k free =
    let none = subst (λ (c : Cut). (i : ℕ) (r : Row) → slice_get (rows_of c) i ≡ Some r → list_any is_reference (flow_names (row_flow (length t) r (after_row i c))) ≡ false) (cut_is t k.cut k.is_cut) free in
    rows_refer_not k.document.rows
    (λ i r e.
    let there = row_in_cut t s ms d k i r e in
    ap (list_any is_reference)
    (means_named (head_of r.content) (row_flow (length t) r (after_row (d.first + i) k.cut))
    (given_means t (slices r).head (head_place (d.first + i) k.cut r).0 (owned_head (decoded_at (d.first + i) ms)) _ _
    (k.agrees (d.first + i) r there).head))
    ∙ none (d.first + i) r there)
