-- The item or entry of a flow collection at a path, by what is made of its row.
use Rattle.std.proofs.Common.{◌≡◌, ℕ, ◌+◌, ◌-◌, ◌<◌, eqb, List, [], ◌∷◌, length, Option, Some, None, true, false, refl, sym, ◌∙◌, arith}
use Rattle.std.specs.List.{slice_get}
use Rattle.yq_core.{specs.Answers.◌>>=◌, specs.Paths.Step, specs.Entries.PlacedEntry, specs.Places.Placed}
use Rattle.yq_outline.{specs.Ends.reached, specs.Lines.lines_of_rows, specs.RowWalk.{HasDocument, IsLine, line_number, stretch_view}}
use Rattle.yq_outline.{specs.declared.line_position.Position.Position, specs.declared.line_position.Stretch.Stretch}
use Rattle.yq_row_table.{specs.Exchange.after_row, specs.Grammar.IsCut, specs.Rows.{Row, cut_text}}
use Rattle.yq_row_table.specs.View.{rows_of, RowsView, rows_view}
use Rattle.yq_documents.{specs.Decoded.alias_from, specs.Documents.document_parts, specs.FlowReading.row_flow}
use Rattle.yq_documents.{specs.Reading.{all_documents, cut_of}, specs.LinesInRows.{RowLine, document_row}}
use Rattle.yq_places.{specs.EntryReading.{entry_within, flow_entry_of}, specs.RowWalk.document_row_range, proofs.EntryPlaceLaws.flow_left}
use Rattle.yq_places.{proofs.WalkDocuments.place_found, proofs.WalkNodes.{before_is, row_in_cut, row_is, row_line_is}}

-- an alias has no items and no entries
pub alias_within : (steps : List Step) (n : List ℕ) (start : ℕ) → 0 < length steps → None ≡ entry_within steps (Some (alias_from n start))
alias_within [] n start some = absurd (omega (arith, some))
alias_within (s ∷ ss) n start some = refl

pub flow_found : (t : List ℕ) (s : RowsView) (i : ℕ) (d : Stretch) (q : Position) (steps left : List Step) (flow : Option Placed) (found : Option PlacedEntry) → IsCut t (cut_of t) → s ≡ rows_view (cut_of t) →
    Some (stretch_view d) ≡ document_row_range i (cut_of t) → all_documents (cut_of t) ≡ true → IsLine s d q → ((h : HasDocument s d) → Some (line_number d h.are_there.rows q, left) ≡ reached steps (lines_of_rows h.are_there.rows)) →
    ((r : Row) → slice_get (rows_of (cut_of t)) q.row ≡ Some r → flow ≡ row_flow (length t) r (after_row q.row (cut_of t))) → found ≡ entry_within left flow → false ≡ eqb (length left) 0 →
    found ≡ (slice_get (document_parts (cut_of t)) i >>= λ p. flow_entry_of (document_row i (cut_of t)) (cut_of t) p.rows steps)
flow_found t s i d q steps left flow found cut is place sound line leads decoded agrees some =
    place_found t s (cut_of t) i d found (λ k c rows. flow_entry_of k c rows steps) cut is place sound
    (λ k.
    let row_line' : RowLine = record { before = q.row - d.first; row = row_is s d (cut_of t) k q line; line = q.line } in
    let own : row_flow (length t) row_line'.row (after_row q.row (cut_of t)) ≡ row_flow (length (cut_text (cut_of t))) row_line'.row (after_row (d.first + row_line'.before) (cut_of t)) =
    λ j. row_flow (length (cut.text j)) row_line'.row (after_row (sym (before_is s d (cut_of t) k q line) j) (cut_of t)) in
    flow_left d.first (cut_of t) k.document.are_there.rows steps left (line_number d k.document.are_there.rows q) row_line' flow found
    (row_line_is s d (cut_of t) k q line) (decoded row_line'.row (row_in_cut s d (cut_of t) k q line) ∙ own) agrees (leads k.document) some)
