-- What is known of the rows of a document that is checked.
use Rattle.std.{proofs.Common.{◌≡◌, ℕ, ◌<◌, ◌≤◌, List, length, Some, sym, ap, ◌∙◌, arith}, specs.List.slice_get}
use Rattle.yq_core.specs.Scalars.{scalar_content}
use Rattle.yq_row_table.{specs.Rows.Row, specs.View.{Slices, slices, RowsView, rows_of}}
use Rattle.yq_outline.{specs.RowWalk.IsLine, specs.declared.line_position.Position.Position, specs.declared.line_position.Stretch.Stretch}
use Rattle.yq_documents.{specs.Decoded.{IsDecodedBy, decoded_at, decoded_key}, specs.declared.decoded.Decoded.Decoded}
use Rattle.yq_compose.{specs.Checking.IsCheckable, proofs.LineLevelLaws.row_there}

-- the row of a line is there
pub row_within : (t : List ℕ) (s : RowsView) (ms : List Decoded) (d : Stretch) (q : Position) → IsCheckable t s ms d → IsLine s d q → q.row < length s.rows
row_within t s ms d q ready at = omega (arith, at.upto, ready.document.within)

-- what is known of a row of the cut, by its pieces
pub row_known : (t : List ℕ) (s : RowsView) (ms : List Decoded) (d : Stretch) (ready : IsCheckable t s ms d) (i : ℕ) (x : Slices) → slice_get s.rows i ≡ Some x →
    (r : Row) × (slices r ≡ x) × IsDecodedBy t ready.cut (decoded_at i ms) i r
row_known t s ms d ready i x there =
    let r = row_there (rows_of ready.cut) i x (ap (λ (y : RowsView). slice_get y.rows i) (sym ready.rows) ∙ there) in
    (r.0, r.2, ready.agrees i r.0 r.1)

-- the key of a row
pub key_agrees : (t : List ℕ) (s : RowsView) (ms : List Decoded) (d : Stretch) → IsCheckable t s ms d → (i : ℕ) (x : Slices) → slice_get s.rows i ≡ Some x → decoded_key (decoded_at i ms) x.key ≡ scalar_content x.key
key_agrees t s ms d ready i x there =
    let k = row_known t s ms d ready i x there in
    ap (λ (y : Slices). decoded_key (decoded_at i ms) y.key) (sym k.1) ∙ (k.2.key ∙ ap (λ (y : Slices). scalar_content y.key) k.1)

-- the first line of a row is a line
pub row_first_line : (s : RowsView) (d : Stretch) (row : ℕ) → d.first ≤ row → row < d.end → IsLine s d (record { row = row; line = 0 })
row_first_line s d row from upto = record { from = from; upto = upto; line = λ x e. omega arith }
