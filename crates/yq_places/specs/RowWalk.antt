-- Reading (own; you may skip it): the rows of documents among those of a cut, and items that stay known in other cuts.
use Rattle.std.specs.Prelude.{◌≡◌, ℕ, true, ◌+◌, List, ◌++◌, length, drop, slice_get, Option, option_map, All}
use Rattle.yq_row_table.{specs.Grammar.IsCut, specs.Rows.{Row, Cut}, specs.Touched.TouchesOnly, specs.View.{rows_of, RowsView, rows_view}}
use Rattle.yq_documents.{specs.Documents.document_parts, specs.Reading.{all_documents, cut_of}, specs.LinesInRows.document_row}
use Rattle.yq_outline.{specs.RowWalk.{IsKnown, HasDocument, line_number}, specs.declared.line_position.KnownItem.KnownItem}
use Rattle.yq_outline.{specs.declared.line_position.Position.Position, specs.declared.line_position.Stretch.Stretch}
use Rattle.yq_row_walk.specs.declared.walk.Walk.{Walk}

-- An item stays known in each text in which the items of its cut stay that end in front of so many bytes.
abbrev pub StaysKnown : ℕ → Cut → KnownItem → Type 0
StaysKnown front c k = (new : Cut) (back : ℕ) → TouchesOnly front back c new → IsKnown (rows_view new).rows k

-- The same of several items.
abbrev pub StayKnown : ℕ → Cut → List KnownItem → Type 0
StayKnown front c ks = All (StaysKnown front c) ks

-- how many rows come before document n of a cut, and up to its end
abbrev pub document_row_range : ℕ → Cut → Option (ℕ × ℕ)
document_row_range n c = option_map (λ p. (document_row n c, document_row n c + length p.rows)) (slice_get (document_parts c) n)

-- A text with its cut: these are the pieces of the cut, and its parts mean documents.
pub record HasCut (t : List ℕ) (s : RowsView) : Type 0 where
  pub cut : IsCut t (cut_of t)
  pub rows : s ≡ rows_view (cut_of t)
  pub sound : all_documents (cut_of t) ≡ true

-- The rows of a document among those of a cut.
pub record InCut (s : RowsView) (d : Stretch) (c : Cut) : Type 0 where
  pub text : List ℕ
  pub cut : IsCut text c
  pub rows : s ≡ rows_view c
  pub document : HasDocument s d
  pub more : List Row
  pub there : drop d.first (rows_of c) ≡ document.are_there.rows ++ more

-- What is said of the document that is walked is so of its rows, with the numbers of its lines, in each cut in which these are.
abbrev pub InEach : Walk → (ℕ → Cut → List Row → (Position → ℕ) → Type 0) → Type 0
InEach w said = (c : Cut) (k : InCut w.rows.now w.document c) → said w.document.first c k.document.are_there.rows (line_number w.document k.document.are_there.rows)
