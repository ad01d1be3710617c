-- Reading (own; you may skip it): where lines, entries and contents begin and end, by the rows of a text and their pieces, as the code counts.
use Rattle.yq_outline.{specs.Extents.{dash_at, head_place}, specs.Lines.{tail_of, lines_of_rows}}
use Rattle.yq_outline.{specs.Ends.{line_at_steps, reached, lines_end}, specs.Positions.has_no_mark}
use Rattle.std.specs.Prelude.{ℕ, suc, ◌+◌, ◌-◌, ◌==◌, List, [], ◌∷◌, ◌++◌, length, replicate, slice_get, take, Option, Some, None, is_some}
use Rattle.std.specs.Prelude.{option_map, option_and_then, if◌then◌else◌}
use Rattle.yq_core.{specs.Answers.◌>>=◌, specs.Paths.Step, specs.Text.{is_empty, joined}}
use Rattle.yq_core.{specs.Entries.{PlacedEntry, placed_entry_at, entry_place, content_place}, specs.Nodes.{FlowNode, empty}}
use Rattle.yq_core.specs.Places.{Placed, locate}
use Rattle.yq_row_table.{specs.Exchange.after_row, specs.Rows.{Content, Nothing, Inline, Block, Row, dashes_text, Cut, cut_text}}
use Rattle.yq_row_table.specs.View.{Slices, slices}
use Rattle.yq_documents.{specs.declared.path.Path.Path, specs.Documents.document_parts, specs.Located.steps_of}
use Rattle.yq_documents.{specs.LinesInRows.{row_line, document_row}, specs.RowReading.is_block_head}
use Rattle.yq_places.{specs.CommentReading.{before_tail, before_row}, specs.PrintedLines.less_break}

-- the text of a cut before line k of row i: before its dash, its key or the node itself (8.2.1, 8.2.2)
abbrev pub before_line : ℕ → ℕ → Row → Cut → List ℕ
before_line i k r c = before_row i c ++ (r.gap ++ (replicate r.column 32 ++ dashes_text (take k r.dashes) []))

-- the tail of a row and its raw lines, less the break of the last of these lines
abbrev pub row_ending : Slices → List ℕ
row_ending s = if is_empty s.raw then less_break s.tail else s.tail ++ less_break s.raw

-- the text of a cut up to the end of the last line of row i, before its break
abbrev pub through_row : ℕ → Row → Cut → List ℕ
through_row i r c = before_tail i r c ++ row_ending (slices r)

-- the place of lines of rows, before which k rows of a cut are: from the beginning of one line to the end of another one's row, before its break
abbrev pub lines_place : ℕ → Cut → List Row → ℕ → ℕ → Option (ℕ × ℕ)
lines_place k c rs from to =
    row_line from rs >>= λ a. row_line to rs >>= λ b. Some (length (before_line (k + a.before) a.line a.row c), length (through_row (k + b.before) b.row c))

-- the place of the entry or item of line n: from its key or dash to the end of its last line, before its break
abbrev pub line_entry : ℕ → Cut → List Row → ℕ → Option (ℕ × ℕ)
line_entry k c rs n = lines_place k c rs n (lines_end n (lines_of_rows rs) - 1)

-- where a head ends, by where it ends on its first line: the lines of a block scalar and the tail before them belong to it (8.1)
abbrev pub head_end : ℕ → Content → ℕ
head_end e (Nothing tail) = e
head_end e (Inline space node tail) = e
head_end e (Block space anchor block) = e + length block.tail + length (joined block.raw)

-- the place of the head of row i, without its anchor
abbrev pub head_extent : ℕ → Row → Cut → ℕ × ℕ
head_extent i r c = ((head_place i c r).0, head_end (head_place i c r).1 r.content)

-- the same of the head of line n of rows, before which k rows of a cut are
abbrev pub line_head : ℕ → Cut → List Row → ℕ → Option (ℕ × ℕ)
line_head k c rs n = row_line n rs >>= λ s. Some (head_extent (k + s.before) s.row c)

-- the place of the node that the lines from one up to another one mean: a node on a line of its own, or a block collection; without
-- lines there is none (8.2)
abbrev pub lines_content : ℕ → Cut → List Row → ℕ → ℕ → Option (ℕ × ℕ)
lines_content k c rs from to =
    if from == to then None
    else (slice_get (lines_of_rows rs) from >>= λ l. if has_no_mark l.mark then line_head k c rs from else lines_place k c rs from (to - 1))

-- the place of the node of line n: its head, or what the lines under it mean (8.2)
abbrev pub line_content : ℕ → Cut → List Row → ℕ → Option (ℕ × ℕ)
line_content k c rs n =
    slice_get (lines_of_rows rs) n >>= λ l. if is_some l.head then line_head k c rs n else lines_content k c rs (suc n) (lines_end n (lines_of_rows rs))

-- the inline node after a row's mark, or nothing where there is none (7, 8.2)
abbrev pub inline_node : Content → FlowNode
inline_node (Nothing tail) = empty
inline_node (Inline space node tail) = node
inline_node (Block space anchor block) = empty

-- the same of row i of a cut, with the places of its parts in the cut's text
abbrev pub placed_inline : ℕ → Row → Cut → Placed
placed_inline i r c = locate (length (cut_text c)) (inline_node r.content) (tail_of r.content ++ after_row i c)

-- the item or entry to which steps lead in the head of line n of rows, before which k rows of a cut are (7.4)
abbrev pub flow_entry : ℕ → Cut → List Row → ℕ → List Step → Option PlacedEntry
flow_entry k c rs n steps = row_line n rs >>= λ s. placed_entry_at steps (None, placed_inline (k + s.before) s.row c)

-- the place of the entry or item of line n, or where steps are left, of the one to which they lead in the line's head
abbrev pub entry_from : ℕ → Cut → List Row → ℕ → List Step → Option (ℕ × ℕ)
entry_from k c rs n [] = line_entry k c rs n
entry_from k c rs n (s ∷ ss) = option_map entry_place (flow_entry k c rs n (s ∷ ss))

-- the place of the node of line n, or where steps are left, of the one to which they lead in the line's head
abbrev pub content_from : ℕ → Cut → List Row → ℕ → List Step → Option (ℕ × ℕ)
content_from k c rs n [] = line_content k c rs n
content_from k c rs n (s ∷ ss) = option_and_then (λ e. content_place e.1) (flow_entry k c rs n (s ∷ ss))

-- the place of the entry or item to which steps lead among rows; the root is none
abbrev pub entry_of : ℕ → Cut → List Row → List Step → Option (ℕ × ℕ)
entry_of k c rs steps = reached steps (lines_of_rows rs) >>= λ x. entry_from k c rs x.0 x.1

-- the place of the node to which steps lead among rows
abbrev pub node_place_of : ℕ → Cut → List Row → List Step → Option (ℕ × ℕ)
node_place_of k c rs [] = lines_content k c rs 0 (length (lines_of_rows rs))
node_place_of k c rs (s ∷ ss) = reached (s ∷ ss) (lines_of_rows rs) >>= λ x. content_from k c rs x.0 x.1

-- the place of the entry or item at a path
abbrev pub entry_at : Path → Cut → Option (ℕ × ℕ)
entry_at p c = slice_get (document_parts c) p.doc >>= λ d. entry_of (document_row p.doc c) c d.rows (steps_of p)

-- the place of the content of the node at a path
abbrev pub content_row_place : Path → Cut → Option (ℕ × ℕ)
content_row_place p c = slice_get (document_parts c) p.doc >>= λ d. node_place_of (document_row p.doc c) c d.rows (steps_of p)

-- the place of the entry or item of the line to which steps lead among rows
abbrev pub line_entry_of : ℕ → Cut → List Row → List Step → Option (ℕ × ℕ)
line_entry_of k c rs steps = line_at_steps steps (lines_of_rows rs) >>= line_entry k c rs

-- the place of the node of rows, or of the line to which steps lead among them
abbrev pub line_content_of : ℕ → Cut → List Row → List Step → Option (ℕ × ℕ)
line_content_of k c rs [] = lines_content k c rs 0 (length (lines_of_rows rs))
line_content_of k c rs (s ∷ ss) = line_at_steps (s ∷ ss) (lines_of_rows rs) >>= line_content k c rs

-- the item or entry to which steps lead in the head of line n, if any are left (7.4)
abbrev pub flow_entry_from : ℕ → Cut → List Row → ℕ → List Step → Option PlacedEntry
flow_entry_from k c rs n [] = None
flow_entry_from k c rs n (s ∷ ss) = flow_entry k c rs n (s ∷ ss)

-- the item or entry of a flow collection to which steps lead among rows (7.4)
abbrev pub flow_entry_of : ℕ → Cut → List Row → List Step → Option PlacedEntry
flow_entry_of k c rs steps = reached steps (lines_of_rows rs) >>= λ x. flow_entry_from k c rs x.0 x.1

-- the place of the entry or item at a path, unless it is in flow
abbrev pub line_entry_at : Path → Cut → Option (ℕ × ℕ)
line_entry_at p c = slice_get (document_parts c) p.doc >>= λ d. line_entry_of (document_row p.doc c) c d.rows (steps_of p)

-- the place of the content of the node at a path, unless it is in flow
abbrev pub line_content_at : Path → Cut → Option (ℕ × ℕ)
line_content_at p c = slice_get (document_parts c) p.doc >>= λ d. line_content_of (document_row p.doc c) c d.rows (steps_of p)

-- the item or entry of a flow collection at a path (7.4)
abbrev pub flow_entry_at : Path → Cut → Option PlacedEntry
flow_entry_at p c = slice_get (document_parts c) p.doc >>= λ d. flow_entry_of (document_row p.doc c) c d.rows (steps_of p)

-- where line k of a row begins, by where the row begins
abbrev pub line_begin : ℕ → Slices → ℕ → ℕ
line_begin start s k = start + length s.gap + s.column + dash_at k s.dashes

-- where what a head spells ends, by where it ends on its first line
abbrev pub head_finish : ℕ → Slices → ℕ
head_finish end s = if is_block_head s.head then end + length s.tail + length s.raw else end

-- the item or entry to which steps lead in an alias or flow collection, if there is one
abbrev pub entry_within : List Step → Option Placed → Option PlacedEntry
entry_within steps flow = flow >>= λ p. placed_entry_at steps (None, p)
