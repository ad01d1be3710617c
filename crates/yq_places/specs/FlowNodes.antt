-- The flow collections of documents, by paths (YAML 1.2.2, 7.4; own).
use Rattle.std.specs.Prelude.{ℕ, ◌+◌, List, [], ◌∷◌, ◌++◌, length, slice_get, Option, Some, None, option_map, if◌then◌else◌}
use Rattle.yq_core.{specs.Answers.◌>>=◌, specs.Paths.Step, specs.Collections.{CollPieces, coll_along}}
use Rattle.yq_row_table.{specs.Exchange.after_row, specs.Rows.{Content, Nothing, Inline, Block, Row, Part, Cut}}
use Rattle.yq_outline.{specs.Outline.{Outline, end, row}, specs.Places.{here, lines_before, FoundLine, find, in_head, place_inside}}
use Rattle.yq_outline.specs.Positions.{has_no_mark}
use Rattle.yq_documents.{specs.Documents.document_parts, specs.Reading.part_outline, specs.LinesInRows.{row_line, document_row}}

-- the first line, if it is a node itself (8.2)
abbrev pub bare_line : Outline → Option FoundLine
bare_line end = None
bare_line (row l under after) = if has_no_mark l.mark then Some (record { place = here; line = l; under = under; after = after }) else None

-- the line in whose head the node of an entry is: its own, or the one under it that is a node itself; where steps go on in the head, its own (8.2)
abbrev pub head_line : FoundLine → List Step → Option (FoundLine × List Step)
head_line f [] = in_head f.line.head (Some (f, [])) (option_map (λ g. (place_inside f g, [])) (bare_line f.under))
head_line f (s ∷ ss) = Some (f, s ∷ ss)

-- the line in whose head the node at a path is, and the steps that go on in the head
abbrev pub find_head : List Step → Outline → Option (FoundLine × List Step)
find_head [] o = option_map (λ f. (f, [])) (bare_line o)
find_head (s ∷ ss) o = find s ss o >>= λ x. head_line x.0 x.1

-- the flow collection to which steps lead in a content before a rest (7.4)
abbrev pub content_flow : List Step → Content → List ℕ → Option CollPieces
content_flow steps (Nothing tail) rest = None
content_flow steps (Inline space node tail) rest = coll_along steps node (tail ++ rest)
content_flow steps (Block space anchor block) rest = None

-- the same in the head of line n of rows, before which k rows of a cut are (7.4)
abbrev pub line_collection : ℕ → Cut → List Row → ℕ → List Step → Option CollPieces
line_collection k c rs n steps = row_line n rs >>= λ s. content_flow steps s.row.content (after_row (k + s.before) c)

-- the same at a path of a document, before which k rows are (7.4)
abbrev pub part_collection : ℕ → Cut → List Step → Part → Option CollPieces
part_collection k c steps p = find_head steps (part_outline p) >>= λ x. line_collection k c p.rows (length (lines_before x.0.place)) x.1

-- the flow collection at a path of document n, with all text after it (7.4)
abbrev pub flow_collection : ℕ → List Step → Cut → Option CollPieces
flow_collection n steps c = slice_get (document_parts c) n >>= part_collection (document_row n c) c steps
