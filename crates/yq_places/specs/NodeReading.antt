-- Reading (own; you may skip it): where the node at a path is written among lines, as the code finds it.
use Rattle.std.specs.Prelude.{ℕ, ◌+◌, List, [], ◌∷◌, slice_get, map, Option, Some, None, is_some, option_map, if◌then◌else◌}
use Rattle.yq_core.{specs.Entries.tree_step, specs.Answers.◌>>=◌, specs.Paths.{Step, node_at}}
use Rattle.yq_outline.{specs.Ends.{part, reached}, specs.Outline.{Line, level, value}, specs.Positions.begins_with_node}
use Rattle.yq_outline.{specs.RowWalk.{IsLine, IsPosition, line_number, lines_stop}, specs.declared.line_position.Stretch.Stretch}
use Rattle.yq_outline.specs.declared.line_position.Position.{Position}
use Rattle.yq_row_table.{specs.Rows.Row, specs.View.RowsView}
use Rattle.yq_places.specs.NodesAt.{NodeAt, node_summary}
use denote.Bor.{Bor}
use Rattle.yq_core.specs.declared.path.Step as steps
use Rattle.yq_core.specs.Tree as tree
use Rattle.yq_places.specs.declared.places.node_place.NodePlace as declared

-- Where a node is written: in the head of a line, or on the lines from one on that are deeper than a level (8.2).
pub data NodePlace : Type 0 where
  at_head : ℕ → NodePlace
  at_lines : ℕ → (floor : ℕ) → NodePlace

-- where the node of a line is written: in its head, if it has one or steps go on there, else on the lines under it (8.2)
abbrev pub line_place : ℕ → List Step → Line → NodePlace
line_place n (s ∷ ss) l = at_head n
line_place n [] l = if is_some l.head then at_head n else at_lines (n + 1) (level l)

-- the same with the steps that go on there, if there is such a line
abbrev pub line_with_steps : ℕ → List Step → Option Line → Option (NodePlace × List Step)
line_with_steps n ss l = option_map (λ l. (line_place n ss l, ss)) l

-- where the node at a path is written, and the steps that go on there
abbrev pub node_place : List Step → List Line → Option (NodePlace × List Step)
node_place [] ls = Some (at_lines 0 0, [])
node_place (s ∷ ss) ls = reached (s ∷ ss) ls >>= λ x. line_with_steps x.0 x.1 (slice_get ls x.0)

-- what is said of the node that is written there, where no steps go on: of the head of a line, or of the lines from one up to another one
abbrev pub said_at : {A : Type 0} → (ℕ → Option A) → (ℕ → ℕ → Option A) → List Line → NodePlace × List Step → Option A
said_at head lines ls (p, s ∷ ss) = None
said_at head lines ls (at_head n, []) = head n
said_at head lines ls (at_lines n floor, []) = lines n (lines_stop n floor ls)

-- the line in whose head a node is written, if it is in one: that line, or the first one, if that is a node itself
abbrev pub place_line : List Line → NodePlace → Option ℕ
place_line ls (at_head n) = Some n
place_line ls (at_lines n floor) = if begins_with_node (part ls n floor) then Some n else None

-- a line with the steps that go on in its head, if there is one
abbrev pub with_steps : List Step → Option ℕ → Option (ℕ × List Step)
with_steps ss n = option_map (λ n. (n, ss)) n

-- the line in whose head the node at a path is written, if it is in one, and the steps that go on there
abbrev pub head_line_of : List Step → List Line → Option (ℕ × List Step)
head_line_of steps ls = node_place steps ls >>= λ x. with_steps x.1 (place_line ls x.0)

-- where a place of the code is, with lines by their numbers
abbrev pub place_by : (Position → ℕ) → declared.NodePlace → NodePlace
place_by n (declared.TheVariants.Head q) = at_head (n q)
place_by n (declared.TheVariants.Lines q floor) = at_lines (n q) floor

-- the same by the numbers of lines among those of a document's rows
abbrev pub place_view : Stretch → List Row → declared.NodePlace → NodePlace
place_view d rs p = place_by (line_number d rs) p

-- the same with the steps that go on there
abbrev pub node_place_view : Stretch → List Row → declared.NodePlace × Bor (List steps.Step) → NodePlace × List Step
node_place_view d rs x = (place_view d rs x.0, map tree_step x.1.now)

-- A place is that of lines of a document.
abbrev pub IsPlace : RowsView → Stretch → declared.NodePlace → Type 0
IsPlace s d (declared.TheVariants.Head q) = IsLine s d q
IsPlace s d (declared.TheVariants.Lines q floor) = IsPosition s d q

-- what is known of the node to which steps lead in a head, if there is one
abbrev pub summary_in_head : List Step → Option tree.Node → Option NodeAt
summary_in_head ss head = head >>= λ n. option_map node_summary (node_at ss n)

-- what is known of the node in the head of a line
abbrev pub summary_in_line : List Line → List Step → ℕ → Option NodeAt
summary_in_line ls ss n = slice_get ls n >>= λ l. summary_in_head ss l.head

-- what is known of the node that an outline means whose first line is no node itself
abbrev pub summary_of_lines : List Line → NodePlace → Option NodeAt
summary_of_lines ls (at_head n) = None
summary_of_lines ls (at_lines n floor) = Some (node_summary (value (part ls n floor)))

-- the first of two answers, if there is one
abbrev pub line_or : {A : Type 0} → Option ℕ → (ℕ → Option A) → Option A → Option A
line_or None f x = x
line_or (Some n) f x = f n

-- what is known of the node that is written there, where steps go on
abbrev pub place_node : List Line → NodePlace → List Step → Option NodeAt
place_node ls p ss = line_or (place_line ls p) (summary_in_line ls ss) (summary_of_lines ls p)
