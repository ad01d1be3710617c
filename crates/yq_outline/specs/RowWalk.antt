-- Reading (own; you may skip it): where steps lead in a document, row by row, by the pieces of rows, as the code goes.
use Rattle.std.specs.Prelude.{◌≡◌, ℕ, suc, true, ◌+◌, ◌-◌, ◌*◌, ◌==◌, ◌<◌, ◌≤◌, nat_lt, List, [], ◌∷◌, length, map, take, drop, All}
use Rattle.std.specs.Prelude.{slice_get, Option, Some, option_and_then, option_map, if◌then◌else◌}
use denote.Bor.{Bor}
use Rattle.yq_core.{specs.Entries.tree_step, specs.Inline.depth_limit, specs.Keys.{are_distinct, keys_of}, specs.Paths.{Step, Nth, key_is}}
use Rattle.yq_core.specs.Text.{is_empty}
use Rattle.yq_outline.{specs.Ends.{deeper_count, part}, specs.Group.group, specs.Outline.{Line, Outline, children, key_of}}
use Rattle.yq_outline.{specs.Places.find_row, specs.Sound.is_sound_outline, specs.Positions.{reach_from, line_here, position}}
use Rattle.yq_outline.{specs.Lines.lines_of_rows, specs.Extents.{dash_at, lines_before_mark}}
use Rattle.yq_outline.{specs.declared.line_position.KnownItem.KnownItem, specs.declared.line_position.Position.Position}
use Rattle.yq_outline.specs.declared.line_position.Stretch.{Stretch}
use Rattle.yq_row_table.{specs.Grammar.{Limit, AreRows}, specs.Rows.Row, specs.View.{Slices, slices, RowsView}}
use Rattle.yq_core.specs.declared.path.Step as declared
use Rattle.yq_outline.specs.declared.line_position.Next as nexts

-- the rank of line k of a row: that of a dash, of a key, or of a node itself (8.2.3)
abbrev pub line_rank : ℕ → Slices → ℕ
line_rank k s = if nat_lt (dash_at k s.dashes) (length s.dashes) then 3 else (if is_empty s.colon then 1 else 2)

-- the column of line k of a row (8.2.3)
abbrev pub line_column : ℕ → Slices → ℕ
line_column k s = s.column + dash_at k s.dashes

-- how deep line k of a row is (8.2.3)
abbrev pub line_level : ℕ → Slices → ℕ
line_level k s = 3 * line_column k s + line_rank k s

-- how many rows in front begin deeper than a level (8.2)
abbrev pub deeper_rows : ℕ → List Slices → ℕ
deeper_rows n [] = 0
deeper_rows n (s ∷ ss) = if nat_lt n (line_level 0 s) then suc (deeper_rows n ss) else 0

-- the first row of a document from one on that doesn't begin deeper than a level, or the document's end (8.2)
abbrev pub rows_end : RowsView → Stretch → ℕ → ℕ → ℕ
rows_end s d n from = from + deeper_rows n (take (d.end - from) (drop from s.rows))

-- how many rows begin at a level (8.2)
abbrev pub level_count : ℕ → List Slices → ℕ
level_count n [] = 0
level_count n (s ∷ ss) = if line_level 0 s == n then suc (level_count n ss) else level_count n ss

-- no rows begin less deep than a level (8.2)
abbrev pub AreRowsDeep : ℕ → List Slices → Type 0
AreRowsDeep n [] = Unit {0}
AreRowsDeep n (s ∷ ss) = (n ≤ line_level 0 s) × AreRowsDeep n ss

-- After the line of a first item, which is deeper than a level, no row in front begins less deep. So many items begin as deep, it among them (8.2).
pub record ArePassed (front : List Slices) (k : KnownItem) : Type 0 where
  pub piece : Slices
  pub there : slice_get front k.under.row ≡ Some piece
  pub level : k.level ≡ line_level k.under.line piece
  pub deeper : k.floor < k.level
  pub deep : AreRowsDeep k.level (drop (k.under.row + 1) front)
  pub index : k.index ≡ suc (level_count k.level (drop (k.under.row + 1) front))

-- The items before one that is known are those in front of its row.
abbrev pub IsKnown : List Slices → KnownItem → Type 0
IsKnown ss k = ArePassed (take k.row ss) k

-- Items are known.
abbrev pub AreKnown : List Slices → List KnownItem → Type 0
AreKnown ss ks = All (IsKnown ss) ks

-- An item is known that begins before a row, among the lines from one on that are deeper than a level (own).
pub record IsKnownIn (ss : List Slices) (under : Position) (floor end : ℕ) (k : KnownItem) : Type 0 where
  pub known : IsKnown ss k
  pub under_is : k.under ≡ under
  pub floor_is : k.floor ≡ floor
  pub within : k.row < end

-- The rows of a text from one up to another one are in it as those of a document.
pub record HasRows (s : RowsView) (d : Stretch) : Type 0 where
  pub rows : List Row
  pub limit : Limit
  pub end : List ℕ
  pub rest : List ℕ
  pub order : d.first ≤ d.end
  pub within : d.end ≤ length s.rows
  pub pieces : take (d.end - d.first) (drop d.first s.rows) ≡ map slices rows
  pub valid : AreRows limit rows end rest

-- The lines of such rows are sound.
pub record HasDocument (s : RowsView) (d : Stretch) : Type 0 where
  pub are_there : HasRows s d
  pub sound : is_sound_outline depth_limit (group (lines_of_rows are_there.rows)) ≡ true

-- A line of a document, or the end after its rows.
pub record IsPosition (s : RowsView) (d : Stretch) (q : Position) : Type 0 where
  pub from : d.first ≤ q.row
  pub upto : q.row ≤ d.end
  pub line : (x : Slices) → slice_get s.rows q.row ≡ Some x → q.line ≤ lines_before_mark x
  pub last : q.row ≡ d.end → q.line ≡ 0

-- A line of a document.
pub record IsLine (s : RowsView) (d : Stretch) (q : Position) : Type 0 where
  pub from : d.first ≤ q.row
  pub upto : q.row < d.end
  pub line : (x : Slices) → slice_get s.rows q.row ≡ Some x → q.line ≤ lines_before_mark x

-- the number of a line among those of a document's rows
abbrev pub line_number : Stretch → List Row → Position → ℕ
line_number d rs q = length (lines_of_rows (take (q.row - d.first) rs)) + q.line

-- Lines of a document from one up to another one, which is the first line of its row or the end.
pub record AreLinesTo (s : RowsView) (d : Stretch) (p q : Position) : Type 0 where
  pub begin : IsPosition s d p
  pub stop : IsPosition s d q
  pub first : q.line ≡ 0
  pub order : (h : HasRows s d) → line_number d h.rows p ≤ line_number d h.rows q

-- the number of the line after those from one on that are deeper than a level (8.2)
abbrev pub lines_stop : ℕ → ℕ → List Line → ℕ
lines_stop n floor ls = n + deeper_count floor (drop n ls)

-- What is said of the line of a document that is there.
abbrev pub OfLine : RowsView → Stretch → Position → (Line → Type 0) → Type 0
OfLine s d q said = (h : HasRows s d) (l : Line) → slice_get (lines_of_rows h.rows) (line_number d h.rows q) ≡ Some l → said l

-- What is said of the lines of a document, with their numbers.
abbrev pub OfLines : RowsView → Stretch → (List Line → (Position → ℕ) → Type 0) → Type 0
OfLines s d said = (h : HasRows s d) → said (lines_of_rows h.rows) (line_number d h.rows)

-- A step leads to that line, if to any, among the lines from one on that are deeper than a level.
abbrev pub Finds : RowsView → Stretch → Position → ℕ → Step → Option Position → Type 0
Finds s d under floor step found =
    (h : HasDocument s d) → position (line_number d h.are_there.rows under)
    (find_row step (part (lines_of_rows h.are_there.rows) (line_number d h.are_there.rows under) floor)) ≡ line_here (lines_of_rows h.are_there.rows)
    (option_map (line_number d h.are_there.rows) found)

-- where a step leads among the lines from one on that are deeper than a level
abbrev pub found_from : Stretch → List Row → ℕ → Position → Step → Option (ℕ × Line × Outline)
found_from d rs floor q step = position (line_number d rs q) (find_row step (part (lines_of_rows rs) (line_number d rs q) floor))

-- Among the lines from one on that are deeper than a level, a walk to an item goes on from another line, by the item's index from there on.
abbrev pub GoesOn : RowsView → Stretch → ℕ → Position → ℕ → Position → ℕ → Type 0
GoesOn s d floor under index at left =
    (h : HasDocument s d) → found_from d h.are_there.rows floor under (Nth index) ≡ found_from d h.are_there.rows floor at (Nth left)

-- The entries among the lines from one on that are deeper than a level have different keys (3.2.1.3).
abbrev pub HaveKeys : RowsView → Stretch → Position → ℕ → Type 0
HaveKeys s d under floor =
    (h : HasDocument s d) → are_distinct (keys_of (children (part (lines_of_rows h.are_there.rows) (line_number d h.are_there.rows under) floor))) ≡ true

-- An entry that is known has a key.
abbrev pub IsKeyed : RowsView → Stretch → KnownItem → List ℕ → Type 0
IsKeyed s d k key = OfLine s d (record { row = k.row; line = 0 }) (λ l. key_is key (key_of l.mark) ≡ true)

-- where steps lead whose first one leads there, with a line by its number
abbrev pub next_reached : Stretch → List Row → Step → List Step → nexts.Next → Option (ℕ × List Step)
next_reached d rs s ss (nexts.TheVariants.Line q) = reach_from (lines_of_rows rs) (Some (line_number d rs q)) ss
next_reached d rs s ss (nexts.TheVariants.Head q) = Some (line_number d rs q, s ∷ ss)

-- the line to which steps lead and those that are left, by lines and the numbers of positions
abbrev pub LeadsOfSteps : Type 0
LeadsOfSteps = List Line → (Position → ℕ) → List Step → Option (ℕ × List Step)

-- Where steps lead, by lines and their numbers, is where the code finds that the first of them leads.
abbrev pub LeadsTo : RowsView → Stretch → LeadsOfSteps → Step → Option nexts.Next → Type 0
LeadsTo s d leads step found =
    (h : HasDocument s d) (ss : List Step) →
    leads (lines_of_rows h.are_there.rows) (line_number d h.are_there.rows) ss ≡ option_and_then (next_reached d h.are_there.rows step ss) found

-- the line where a step leads
abbrev pub next_position : nexts.Next → Position
next_position (nexts.TheVariants.Line q) = q
next_position (nexts.TheVariants.Head q) = q

-- where the code's steps lead, with a line by its number, and on
abbrev pub reached_view : Stretch → List Row → Position × Bor (List declared.Step) → ℕ × List Step
reached_view d rs x = (line_number d rs x.0, map tree_step x.1.now)

-- the rows of a document as two numbers: how many rows of the text come before them, and before what is after them
abbrev pub stretch_view : Stretch → ℕ × ℕ
stretch_view d = (d.first, d.end)
