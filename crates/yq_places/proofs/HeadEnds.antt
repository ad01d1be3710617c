-- Where the head of a row ends, by its pieces.
use Rattle.yq_documents.{proofs.HeadLaws.{opens, block_marks}, specs.RowReading.is_block_head}
use Rattle.std.proofs.Common.{◌≡◌, ℕ, ℤ, ◌+◌, true, false, cond, List, length, Some, option_map, ◌≤◌, sym, ap, ◌∙◌, arith, append-nil}
use Rattle.std.{proofs.Common.rules, proofs.lemmas.Option.{slice_get-map, same_Some}, proofs.lemmas.Bool.{false≢true, cond-false}}
use Rattle.std.specs.List.{slice_get}
use Rattle.yq_text.specs.Limit.{text_limit}
use Rattle.yq_core.{specs.Piece.deeper, specs.Inline.depth_limit, specs.Nodes.{FlowNode, node_text, IsFlowNode}, specs.Scalars.IsScalarAt}
use Rattle.yq_core.proofs.NodesPieceLaws.{front_not, scalar_begins}
use Rattle.yq_row_table.{specs.Exchange.after_row, specs.Grammar.{IsContent, IsCut}, specs.Rows.{Content, Row, parent_indent, Cut}}
use Rattle.yq_row_table.{specs.View.{Slices, slices, anchor_cut, content_cut, rows_of, RowsView, rows_view}, proofs.PlaceLaws.row_in}
use Rattle.yq_outline.{specs.Extents.{row_start, front_length, head_place, IsRowsView}, proofs.LengthLaws.{row_fits, view_small}}
use Rattle.yq_places.specs.EntryReading.{row_ending, head_end, head_extent, through_row, head_finish}
use Rattle.yq_places.proofs.StartLaws.{head_is, row_ends}

-- ---- a row by its pieces

pub get_row : (rs : List Row) (i : ℕ) (x : Slices) → option_map slices (slice_get rs i) ≡ Some x → (r : Row) × (slice_get rs i ≡ Some r) × (slices r ≡ x)
get_row rs i x e = search rules

-- ---- where the head of a row ends, by its pieces

-- no inline node begins as a block scalar does
scalar_begins_none : (n : ℤ) (p rest : List ℕ) → IsScalarAt false (Some (deeper n)) p rest → is_block_head p ≡ false
scalar_begins_none n p rest h1 = search (rules, scalar_begins, front_not)

pub node_begins : (n : ℤ) (node : FlowNode) (rest : List ℕ) → IsFlowNode false (Some (deeper n)) depth_limit node rest → is_block_head (anchor_cut node).2 ≡ false
unfolding node_text IsFlowNode
node_begins n node rest h1 = search (rules, append-nil, scalar_begins_none, opens, false≢true)

content_ends : (n : ℤ) (end : ℕ) (x : Content) (rest : List ℕ) → IsContent n x rest → cond (is_block_head (content_cut x).3) (end + length (content_cut x).4 + length (content_cut x).5) end ≡ head_end end x
content_ends n end x rest h1 = search (rules, cond-false, node_begins, block_marks)

head_ends : (t : List ℕ) (c : Cut) (i : ℕ) (r : Row) (end : ℕ) → IsCut t c → slice_get (rows_of c) i ≡ Some r → head_finish end (slices r) ≡ head_end end r.content
head_ends t c i r end cut is = content_ends (parent_indent r) end r.content (after_row i c) (row_in c i true r cut.parts is).row.content

-- what comes after a head is within the text
pub head_fits : (s : RowsView) (i : ℕ) (x : Slices) (place : ℕ × ℕ) → IsRowsView s → slice_get s.rows i ≡ Some x → ((c : Cut) → s ≡ rows_view c → (r : Row) → slice_get (rows_of c) i ≡ Some r → place ≡ head_place i c r) →
    place.1 + (length x.tail + length x.raw) ≤ text_limit
head_fits s i x place h there at =
    let got = get_row (rows_of h.cut) i x (sym (slice_get-map slices (rows_of h.cut) i) ∙ (sym (ap (λ (y : RowsView). slice_get y.rows i) h.is) ∙ there)) in
    let end : place.1 ≡ row_start i (rows_view h.cut) + front_length (slices got.0) + length (slices got.0).head = ap (λ (p : ℕ × ℕ). p.1) (at h.cut h.is got.0 got.1 ∙ head_is h.cut i got.0 got.1) in
    omega (arith, end, ap (row_start i) h.is, ap front_length got.2, ap (λ (y : Slices). length y.head) got.2, row_fits s i x there, view_small s h)

-- the place of what the head of a row spells
pub head_agrees : (t : List ℕ) (c : Cut) (s : RowsView) (i : ℕ) (x : Slices) (r : Row) (place : ℕ × ℕ) (end : ℕ) → IsCut t c → s ≡ rows_view c →
    slice_get s.rows i ≡ Some x → slice_get (rows_of c) i ≡ Some r → place ≡ head_place i c r → end ≡ head_finish place.1 x →
    ◌≡◌ {A = ℕ × ℕ} (place.0, end) (head_extent i r c)
head_agrees t c s i x r place end cut is there row at e = search (rules, slice_get-map, same_Some, head_ends)

-- the end of a row
pub end_agrees : (c : Cut) (s : RowsView) (i : ℕ) (x : Slices) (r : Row) (place : ℕ × ℕ) (n : ℕ) → s ≡ rows_view c → slice_get s.rows i ≡ Some x →
    slice_get (rows_of c) i ≡ Some r → place ≡ head_place i c r → n ≡ length (row_ending x) → place.1 + n ≡ length (through_row i r c)
end_agrees c s i x r place n is there row at e = search (rules, slice_get-map, same_Some, row_ends)
