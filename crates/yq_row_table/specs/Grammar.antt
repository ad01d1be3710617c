-- What a row is, and how a text is cut into rows and markers.
use Rattle.std.specs.Prelude.{◌≡◌, ℕ, ◌+◌, ◌≤◌, ℤ, Bool, true, false, nat_lt, ◌==◌, ◌&&◌, ◌||◌, not, List, [], ◌∷◌, ◌++◌, length, drop}
use Rattle.std.{specs.Prelude.{Option, Some, None, if◌then◌else◌}, specs.Str.chars}
use Rattle.yq_core.{specs.declared.style.Place.TheVariants.Block, specs.Block.{IsBlock, block_text}, specs.Characters.is_text}
use Rattle.yq_core.{specs.FitKeys.key_limit, specs.Piece.deeper, specs.Text.{is_empty, separates, front, is_marker}, specs.Inline.IsInline}
use Rattle.yq_core.specs.Nodes.{FlowNode, empty, alias, scalar, coll, anchored, is_empty_node, IsName}
use Rattle.yq_core.specs.Scalars.{IsScalarAt, is_quoted}
use Rattle.yq_text.specs.Limit.{text_limit}
use Rattle.yq_row_table.specs.Gap.{IsWhite, IsLineEnd, IsGap}
use Rattle.yq_row_table.specs.Rows.{RowMark, Bare, Dash, Key, Anchor, Content, Nothing, Inline, content_text, Row, after_indent}
use Rattle.yq_row_table.specs.Rows.{following_gap, parent_indent, rows_text, Part, Cut, last, marked, cut_text}
use Rattle.yq_row_table.specs.Rows as rows

-- white space and the `:` of a key, before white space, a break or the end (YAML 1.2.2, section 8.2.2)
pub record IsColon (p rest : List ℕ) : Type 0 where
  pub white : List ℕ
  pub spelled : p ≡ white ++ 58 ∷ []
  pub blank : IsWhite white
  pub separated : separates rest ≡ true

-- A key and its `:`, before a rest: a plain or quoted scalar on one line, and the `:` not too far after its beginning (YAML 1.2.2, section 8.2.2).
pub record IsKey (key colon rest : List ℕ) : Type 0 where
  pub scalar : IsScalarAt false None key (colon ++ rest)
  pub colon_is : IsColon colon rest
  pub near : length (chars key) + length (chars colon) ≤ key_limit + 1

-- a tail: white space, an optional comment after white space, and a break (YAML 1.2.2, section 6.6)
pub record IsTail (p rest : List ℕ) : Type 0 where
  pub white : List ℕ
  pub comment : List ℕ
  pub line : IsLineEnd white comment p rest
  pub apart : (is_empty comment || not (is_empty white)) ≡ true

-- an anchor before a block scalar, if there is one: a name, and white space after it (YAML 1.2.2, section 6.9.2)
abbrev pub IsAnchor : Option Anchor → List ℕ → Type 0
IsAnchor None rest = Unit {0}
IsAnchor (Some a) rest = IsName a.name (a.gap ++ rest) × IsWhite a.gap × (is_empty a.gap ≡ false)

-- What comes after a mark, below a parent of this indentation, before a rest: a tail; white space, an inline node and a tail; or white space, an
-- anchor, if there is one, and a block scalar (YAML 1.2.2, sections 6.9.2, 7 and 8.1).
abbrev pub IsContent : ℤ → Content → List ℕ → Type 0
IsContent n (Nothing tail) rest = IsTail tail rest
IsContent n (Inline space node tail) rest = IsWhite space × IsInline Block n 0 node (tail ++ rest) × IsTail tail rest
IsContent n (rows.Block space anchor block) rest = IsWhite space × IsAnchor anchor (block_text block rest) × IsBlock (deeper n) block rest

-- more than an anchor (own)
abbrev pub is_more : FlowNode → Bool
is_more empty = false
is_more (alias name) = true
is_more (scalar p) = true
is_more (coll close gap items) = true
is_more (anchored name gap node) = not (is_empty_node node)

-- an inline node may be on a line of its own, where it is more than an anchor; nothing else may (own)
abbrev pub may_be_alone : Content → Bool
may_be_alone (Nothing tail) = false
may_be_alone (Inline space node tail) = is_empty space && is_more node
may_be_alone (rows.Block space anchor block) = false

-- A mark before what comes after it and a rest: a node on a line of its own; a dash before white space, a break or the end; or a key (YAML 1.2.2,
-- sections 8.2.1 and 8.2.2).
abbrev pub IsMark : RowMark → Content → List ℕ → Type 0
IsMark Bare content rest = may_be_alone content ≡ true
IsMark Dash content rest = separates (content_text content rest) ≡ true
IsMark (Key key colon) content rest = IsKey key colon (content_text content rest)

-- a dash or a key (own)
abbrev pub is_entry : RowMark → Bool
is_entry Bare = false
is_entry Dash = true
is_entry (Key key colon) = true

-- Dashes before a mark: after each are spaces, and after the last a dash or a key (YAML 1.2.2, section 8.2.1).
abbrev pub AreDashes : List ℕ → RowMark → Type 0
AreDashes [] mark = Unit {0}
AreDashes (n ∷ ns) mark = (1 ≤ n) × (is_entry mark ≡ true) × AreDashes ns mark

-- What a row asks of the next one: below which column it is, if the row asks that (own).
pub record Limit : Type 0 where
  pub column : Option ℕ

-- what is asked of the first row: nothing (own)
abbrev pub unlimited : Limit
unlimited = record { column = None }

-- a column is below another one, if there is that (own)
abbrev pub is_within : Option ℕ → ℕ → Bool
is_within None column = true
is_within (Some bound) column = nat_lt column bound

-- a row may be at a column (own)
abbrev pub allows : Limit → ℕ → Bool
allows limit column = is_within limit.column column

-- a plain scalar, perhaps after an anchor (YAML 1.2.2, section 7.3.3)
abbrev pub is_plain_content : FlowNode → Bool
is_plain_content empty = false
is_plain_content (alias name) = false
is_plain_content (scalar p) = not (is_quoted p)
is_plain_content (coll close gap items) = false
is_plain_content (anchored name gap node) = is_plain_content node

-- after a plain scalar the next row is indented by no more than the scalar's parent (YAML 1.2.2, section 7.3.3; own)
abbrev pub limit_after_content : ℤ → Content → Limit
limit_after_content n (Nothing tail) = unlimited
limit_after_content n (Inline space node tail) = if is_plain_content node then record { column = Some (deeper n) } else unlimited
limit_after_content n (rows.Block space anchor block) = unlimited

-- what a row asks of the next one (own)
abbrev pub limit_after : Row → Limit
limit_after r = limit_after_content (parent_indent r) r.content

-- A row, of which a limit was asked, before a rest; it doesn't begin with a document marker in column 0 (YAML 1.2.2, sections 8.2 and 9.1.2; own).
pub record IsRow (limit : Limit) (r : Row) (rest : List ℕ) : Type 0 where
  pub gap : IsGap r.gap (following_gap r rest)
  pub allowed : allows limit r.column ≡ true
  pub unmarked : (r.column == 0 && is_marker (after_indent r rest)) ≡ false
  pub dashes : AreDashes r.dashes r.mark
  pub mark : IsMark r.mark r.content rest
  pub content : IsContent (parent_indent r) r.content rest

-- rows one after the other, and the gap after the last one, before a rest (own)
abbrev pub AreRows : Limit → List Row → List ℕ → List ℕ → Type 0
AreRows limit [] end rest = IsGap end rest
AreRows limit (r ∷ rs) end rest = IsRow limit r (rows_text rs (end ++ rest)) × AreRows (limit_after r) rs end rest

-- no rows (own)
abbrev pub no_rows : List Row → Bool
no_rows [] = true
no_rows (r ∷ rs) = false

-- A part before a rest: its rows, of which there are none where no document is open (YAML 1.2.2, section 9.1.3; own).
pub record IsPart (started : Bool) (p : Part) (rest : List ℕ) : Type 0 where
  pub rows : AreRows unlimited p.rows p.end rest
  pub inside : (started || no_rows p.rows) ≡ true

-- The line of a marker: `---` or `...` and a tail (YAML 1.2.2, sections 9.1.2 and 9.1.3).
pub record IsMarkerLine (p rest : List ℕ) : Type 0 where
  pub marker : is_marker (p ++ rest) ≡ true
  pub long : 3 ≤ length p
  pub tail : IsTail (drop 3 p) rest

-- the end of the text is in front, or a marker (YAML 1.2.2, section 9.1.2)
abbrev pub ends_part : List ℕ → Bool
ends_part t = is_empty t || is_marker t

-- the marker `---`, which begins a document (YAML 1.2.2, section 9.1.2)
abbrev pub begins_document : List ℕ → Bool
begins_document marker = front (λ b. b == 45) marker

-- the parts of a text in order; after `...` no document is open up to the next `---` (YAML 1.2.2, section 9.1)
abbrev pub AreParts : Bool → Cut → Type 0
AreParts started (last p) = IsPart started p []
AreParts started (marked p marker c) = IsPart started p (marker ++ cut_text c) × IsMarkerLine marker (cut_text c) × AreParts (begins_document marker) c

-- A text and the rows and markers into which it is cut (own).
pub record IsCut (t : List ℕ) (c : Cut) : Type 0 where
  pub text : t ≡ cut_text c
  pub parts : AreParts true c
  pub characters : is_text t ≡ true
  pub size : length t ≤ text_limit
