-- Reading (own; you may skip it): what is walked, the rows of a document with what is known of them.
use Rattle.std.specs.Prelude.{◌≡◌, ◌<◌, ◌≤◌, [], ◌∷◌, ℕ, List, map, Option, option_map, slice_get, Some, IfSome, ◌++◌}
use Rattle.yq_core.{specs.Entries.tree_step, specs.Paths.Step}
use Rattle.yq_outline.{specs.Ends.reached, specs.Extents.{IsRowsView, lines_before_mark}, specs.Lines.lines_of_rows, specs.Outline.Line}
use Rattle.yq_outline.specs.Positions.{reach_from}
use Rattle.yq_outline.specs.RowWalk.{AreKnown, Finds, HasDocument, HaveKeys, IsKnownIn, IsLine, IsPosition, LeadsTo, OfLines, line_level}
use Rattle.yq_outline.{specs.RowWalk.{line_number, rows_end, stretch_view}, specs.declared.line_position.KnownItem.KnownItem}
use Rattle.yq_outline.{specs.declared.line_position.Next.Next, specs.declared.line_position.Position.Position}
use Rattle.yq_outline.specs.declared.line_position.Stretch.{Stretch}
use Rattle.yq_row_table.{specs.Rows.Row, specs.View.{RowsView, Slices}}
use Rattle.yq_row_walk.{specs.declared.walk.KnownLine.KnownLine, specs.declared.walk.Walk.Walk}
use Rattle.yq_core.specs.declared.path.Step as declared

-- The line of a document to which all of these steps lead.
pub record IsLineAt (s : RowsView) (d : Stretch) (steps : List Step) (q : Position) : Type 0 where
  pub line : IsLine s d q
  pub leads : (h : HasDocument s d) → reached steps (lines_of_rows h.are_there.rows) ≡ Some (line_number d h.are_there.rows q, [])

-- It is known to which line the steps of a path lead.
abbrev pub IsKnownLine : RowsView → KnownLine → Type 0
IsKnownLine s k = IsLineAt s k.document (map tree_step k.steps.now) k.at

-- Where steps lead, those of them that are left lead from a line, or from the root; and so with more steps after them.
pub record LeadOnBy (s : RowsView) (d : Stretch) (steps left : List Step) (from : Option Position) : Type 0 where
  pub line : IfSome from (IsLine s d)
  pub leads : (h : HasDocument s d) (more : List Step) →
      reach_from (lines_of_rows h.are_there.rows) (option_map (line_number d h.are_there.rows) from) (left ++ more) ≡ reached (steps ++ more) (lines_of_rows h.are_there.rows)

-- Steps lead to a line, or to the root, and others that begin with them lead on from there.
abbrev pub ArriveAt : RowsView → Stretch → List declared.Step → Option Position → Type 0
ArriveAt s d steps at = LeadOnBy s d (map tree_step steps) [] at

-- It is known to which line these steps lead, so that others lead on from there.
abbrev pub IsLineAbove : RowsView → KnownLine → Type 0
IsLineAbove s k = ArriveAt s k.document k.steps.now (Some k.at)

-- Steps are others and those that come after them.
abbrev pub ComeAfter : (front steps left : List declared.Step) → Type 0
ComeAfter front steps left = map tree_step steps ≡ map tree_step front ++ map tree_step left

-- Rows of a text are walked that are those of a document, and items and lines are known.
pub record IsWalk (w : Walk) : Type 0 where
  pub rows_view : IsRowsView w.rows.now
  pub document : HasDocument w.rows.now w.document
  pub known : AreKnown w.rows.now.rows w.known.now
  pub line : IfSome w.line (λ k. IsKnownLine w.rows.now k.now)
  pub above : IfSome w.above (IsLineAbove w.rows.now)

-- So many lines of a row come before the last one.
abbrev pub AreMarks : RowsView → ℕ → ℕ → Type 0
AreMarks s row n = (x : Slices) → slice_get s.rows row ≡ Some x → n ≡ lines_before_mark x

-- A line is so deep (8.2.3).
abbrev pub IsLevel : RowsView → Position → ℕ → Type 0
IsLevel s q n = (x : Slices) → slice_get s.rows q.row ≡ Some x → n ≡ line_level q.line x

-- A line of a document is so deep; the end after its rows is at level 0.
pub record IsLevelAt (s : RowsView) (d : Stretch) (q : Position) (n : ℕ) : Type 0 where
  pub line : q.row < d.end → IsLevel s q n
  pub end : d.end ≤ q.row → n ≡ 0

-- ---- the words of yq_outline, of what is walked

-- A line of the document.
abbrev pub IsWalkLine : Walk → Position → Type 0
IsWalkLine w q = IsLine w.rows.now w.document q

-- A line of it, or the end after its rows.
abbrev pub IsWalkPosition : Walk → Position → Type 0
IsWalkPosition w q = IsPosition w.rows.now w.document q

-- The line of it to which these steps lead.
abbrev pub IsWalkLineAt : Walk → List declared.Step → Position → Type 0
IsWalkLineAt w steps q = IsLineAt w.rows.now w.document (map tree_step steps) q

-- Where steps lead, those of them that are left lead from a line of it, or from the root.
abbrev pub WalksOn : Walk → (steps left : List declared.Step) → Option Position → Type 0
WalksOn w steps left from = LeadOnBy w.rows.now w.document (map tree_step steps) (map tree_step left) from

-- An item is known among the lines of it from one on that are deeper than a level.
abbrev pub IsWalkItem : Walk → Position → ℕ → KnownItem → Type 0
IsWalkItem w under floor k = IsKnownIn w.rows.now.rows under floor w.document.end k

-- The entries among those lines have different keys.
abbrev pub HaveWalkKeys : Walk → Position → ℕ → Type 0
HaveWalkKeys w under floor = HaveKeys w.rows.now w.document under floor

-- A step leads to that line, if to any, among those lines.
abbrev pub WalkFinds : Walk → Position → ℕ → Step → Option Position → Type 0
WalkFinds w under floor step found = Finds w.rows.now w.document under floor step found

-- A step leads there from a line, or from the root.
abbrev pub WalkLeads : Walk → Option Position → declared.Step → Option Next → Type 0
WalkLeads w from step found = LeadsTo w.rows.now w.document (λ ls n ss. reach_from ls (option_map n from) (tree_step step ∷ ss)) (tree_step step) found

-- the first row of the document from one on that doesn't begin deeper than a level, or the document's end
abbrev pub walk_end : Walk → ℕ → ℕ → ℕ
walk_end w floor from = rows_end w.rows.now w.document floor from

-- What is said of the lines of the document, with their numbers.
abbrev pub OfWalkLines : Walk → (List Line → (Position → ℕ) → Type 0) → Type 0
OfWalkLines w said = OfLines w.rows.now w.document said

-- What is said of its rows.
abbrev pub OfWalkRows : Walk → (Stretch → List Row → Type 0) → Type 0
OfWalkRows w said = (h : HasDocument w.rows.now w.document) → said w.document h.are_there.rows

-- its rows as two numbers: how many rows of the text come before them, and before what is after them
abbrev pub walked_rows : Walk → ℕ × ℕ
walked_rows w = stretch_view w.document
