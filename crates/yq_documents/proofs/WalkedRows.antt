-- What walks over the rows of a text tell of the lines of a document.
use Rattle.std.proofs.Common.{rules, ◌≡◌, ℕ, ◌+◌, ◌-◌, ◌<◌, List, length, Option, Some, option_map, sym, ap, ◌∙◌, subst, arith}
use Rattle.std.{proofs.lemmas.List.length-map, proofs.lemmas.Option.{same_Some, slice_get-map}, specs.List.slice_get}
use Rattle.yq_outline.{specs.Group.group, specs.Outline.{Line, value}, specs.Lines.lines_of_rows}
use Rattle.yq_outline.specs.RowWalk.{HasDocument, HasRows, IsLine, IsPosition, OfLine, line_number}
use Rattle.yq_outline.{specs.declared.line_position.Position.Position, specs.declared.line_position.Stretch.Stretch}
use Rattle.yq_outline.{proofs.KnownLaws.{get_dropped, get_front}, proofs.WalkPositions.{Located, first_number, located}}
use Rattle.yq_row_table.{specs.Rows.{Row, Part, Cut}, specs.View.{rows_of, RowsView}}
use Rattle.yq_documents.{specs.Documents.{Document, document_parts}, specs.Reading.{cut_of, part_document, documents_of}}
use Rattle.yq_documents.specs.LinesInRows.{document_row}
use Rattle.yq_documents.specs.Stretches.{HasText, IsLineIn, IsPositionIn, OfLineIn, document_lines, rows_of_document, number_of, part_rows}
use Rattle.yq_documents.proofs.PartRows.{document_has, has_part, part_begins}

pub document_in : {t : List ℕ} {n : ℕ} {s : RowsView} {d : Stretch} → HasText t n s d → (h : HasDocument s d) × (h.are_there.rows ≡ rows_of_document n t)
document_in {t} {n} {s} {d} x =
    let c : Cut = cut_of t in
    let p = has_part (document_parts c) n (omega (arith, x.there, length-map (document_parts c) part_document)) in
    let is : rows_of_document n t ≡ p.0.rows = ap part_rows p.1 in
    let h = document_has t s c n p.0 d x.cut x.rows p.1 (ap (λ (e : Stretch). e.first) x.place) (ap (λ (e : Stretch). e.end) x.place ∙ ap (λ (rs : List Row). document_row n c + length rs) is) x.sound in
    (h.0, h.1 ∙ sym is)

module _ {t : List ℕ} {n : ℕ} {s : RowsView} {d : Stretch} (x : HasText t n s d) where
  abbrev pub is_located : HasRows s d
  is_located = (document_in x).0.are_there

  -- what is known of the lines of the rows that were walked is so of those of the document
  agrees_lines : (P : List Line → (Position → ℕ) → Type 0) → P (lines_of_rows is_located.rows) (line_number d is_located.rows) → P (document_lines n t) (number_of n t)
  agrees_lines P p = subst (λ (y : List Row × Stretch). P (lines_of_rows y.0) (line_number y.1 y.0)) (λ i. ((document_in x).1 i, x.place i)) p

  pub agrees_rows : (P : List Line → (Position → ℕ) → Type 0) → ((h : HasRows s d) → P (lines_of_rows h.rows) (line_number d h.rows)) → P (document_lines n t) (number_of n t)
  agrees_rows P f = agrees_lines P (f is_located)

  pub agrees_document : (P : List Line → (Position → ℕ) → Type 0) → ((h : HasDocument s d) → P (lines_of_rows h.are_there.rows) (line_number d h.are_there.rows)) → P (document_lines n t) (number_of n t)
  agrees_document P f = agrees_lines P (f (document_in x).0)

  pub of_line : (q : Position) (said : Line → Type 0) → OfLine s d q said → OfLineIn t n q said
  of_line q said = agrees_rows (λ ls num. (l : Line) → slice_get ls (num q) ≡ Some l → said l)

  pub line_here : {q : Position} → IsLineIn t n q → IsLine s d q
  line_here {q} at = subst (λ (y : RowsView × Stretch). IsLine y.0 y.1 q) (λ i. (sym x.rows i, sym x.place i)) at.place

  pub position_here : {q : Position} → IsPositionIn t n q → IsPosition s d q
  position_here {q} at = subst (λ (y : RowsView × Stretch). IsPosition y.0 y.1 q) (λ i. (sym x.rows i, sym x.place i)) at

  -- a line with its row
  abbrev pub located_in : {q : Position} → IsLineIn t n q → Located s d is_located q
  located_in {q} at = located s d is_located q (line_here at)

  pub line_back : {q : Position} → IsLine s d q → IsLineIn t n q
  line_back {q} at =
      let k = located s d is_located q at in
      search (rules, agrees_lines, x.rows, x.place)

  -- the line of that number is that of the row
  pub own_line : {q : Position} (at : IsLineIn t n q) (l : Line) → slice_get (document_lines n t) (number_of n t q) ≡ Some l → (located_in at).line ≡ l
  own_line at l e = search (rules, same_Some, agrees_lines)

  -- a row of the document is one of the text
  pub row_in : {q : Position} → IsLineIn t n q → q.row < length s.rows
  row_in {q} at = omega (arith, (line_here at).upto, is_located.within)

  -- and that of its cut
  pub row_there : {q : Position} (at : IsLineIn t n q) → slice_get (rows_of (cut_of t)) q.row ≡ Some (located_in at).row
  row_there {q} at =
      let c : Cut = cut_of t in
      let k = located_in at in
      let p = has_part (document_parts c) n (omega (arith, x.there, length-map (document_parts c) part_document)) in
      let is : rows_of_document n t ≡ p.0.rows = ap part_rows p.1 in
      let b = part_begins c n p.0 p.1 in
      let first : d.first ≡ document_row n c = ap (λ (e : Stretch). e.first) x.place in
      let mine : slice_get p.0.rows (q.row - d.first) ≡ Some k.row = ap (λ (rs : List Row). slice_get rs (q.row - d.first)) (sym ((document_in x).1 ∙ is)) ∙ k.there in
      let whole : document_row n c + (q.row - d.first) ≡ q.row = omega (arith, first, (line_here at).from) in
      search (rules, get_dropped, get_front)

  -- the first line of a document
  pub first_is : number_of n t (record { row = d.first; line = 0 }) ≡ 0
  first_is = agrees_rows (λ ls num. num (record { row = d.first; line = 0 }) ≡ 0) (λ h. sym (first_number d h.rows))

-- the root of a document
part_root : (o : Option Part) (d : Document) → option_map part_document o ≡ Some d → value (group (lines_of_rows (part_rows o))) ≡ d.root
part_root o d e = search (rules, same_Some)

pub root_is : (t : List ℕ) (n : ℕ) (d : Document) → slice_get (documents_of t) n ≡ Some d → value (group (document_lines n t)) ≡ d.root
root_is t n d e = part_root (slice_get (document_parts (cut_of t)) n) d (sym (slice_get-map part_document (document_parts (cut_of t)) n) ∙ e)
