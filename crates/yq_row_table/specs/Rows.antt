-- The pieces of a row, the parts of a text, and what they spell.
use Rattle.std.specs.Prelude.{ℕ, zero, suc, ◌+◌, ℤ, pos, negsuc, List, [], ◌∷◌, ◌++◌, replicate, Option, Some, None}
use Rattle.yq_core.{specs.Block.{BlockText, block_text}, specs.Nodes.{FlowNode, node_text}}

-- what a row begins with after the dashes before it: the content itself, a dash, or a key with the white space and `:` after it (YAML 1.2.2,
-- sections 8.2.1 and 8.2.2)
pub data RowMark : Type 0 where
  Bare : RowMark
  Dash : RowMark
  Key : (key colon : List ℕ) → RowMark

-- An anchor before a block scalar, by its name and the white space after it (YAML 1.2.2, section 6.9.2).
pub record Anchor : Type 0 where
  pub name : List ℕ
  pub gap : List ℕ

-- what comes after a row's mark: nothing or an inline node, with the tail that ends the line, or a block scalar with its lines (YAML 1.2.2,
-- sections 7 and 8.1)
pub data Content : Type 0 where
  Nothing : (tail : List ℕ) → Content
  Inline : (space : List ℕ) → FlowNode → (tail : List ℕ) → Content
  Block : (space : List ℕ) → Option Anchor → BlockText → Content

-- A row, by its pieces in order: its gap, how many spaces come after that, the dashes before its mark, each by how many spaces come after it,
-- the mark, and what comes after the mark (YAML 1.2.2, section 8.2; own).
pub record Row : Type 0 where
  pub gap : List ℕ
  pub column : ℕ
  pub dashes : List ℕ
  pub mark : RowMark
  pub content : Content

-- the text of dashes, before a rest (YAML 1.2.2, section 8.2.1)
abbrev pub dashes_text : List ℕ → List ℕ → List ℕ
dashes_text [] rest = rest
dashes_text (n ∷ ns) rest = 45 ∷ (replicate n 32 ++ dashes_text ns rest)

-- the text of a mark, before a rest (YAML 1.2.2, sections 8.2.1 and 8.2.2)
abbrev pub mark_text : RowMark → List ℕ → List ℕ
mark_text Bare rest = rest
mark_text Dash rest = 45 ∷ rest
mark_text (Key key colon) rest = key ++ (colon ++ rest)

-- the text of an anchor, if there is one, before a rest (YAML 1.2.2, section 6.9.2)
abbrev pub anchor_text : Option Anchor → List ℕ → List ℕ
anchor_text None rest = rest
anchor_text (Some a) rest = 38 ∷ (a.name ++ (a.gap ++ rest))

-- the text of what comes after a mark, before a rest (own)
abbrev pub content_text : Content → List ℕ → List ℕ
content_text (Nothing tail) rest = tail ++ rest
content_text (Inline space node tail) rest = space ++ node_text node (tail ++ rest)
content_text (Block space anchor block) rest = space ++ anchor_text anchor (block_text block rest)

-- what comes after a row's dashes, before a rest (own)
abbrev pub after_dashes : Row → List ℕ → List ℕ
after_dashes r rest = mark_text r.mark (content_text r.content rest)

-- what comes after a row's indentation, before a rest (own)
abbrev pub after_indent : Row → List ℕ → List ℕ
after_indent r rest = dashes_text r.dashes (after_dashes r rest)

-- what comes after a row's gap, before a rest (own)
abbrev pub following_gap : Row → List ℕ → List ℕ
following_gap r rest = replicate r.column 32 ++ after_indent r rest

-- the text of a row, before a rest (own)
abbrev pub print_row : Row → List ℕ → List ℕ
print_row r rest = r.gap ++ following_gap r rest

-- the text of rows, before a rest (own)
abbrev pub rows_text : List Row → List ℕ → List ℕ
rows_text [] rest = rest
rows_text (r ∷ rs) rest = print_row r (rows_text rs rest)

-- the column after dashes that begin at a column (own)
abbrev pub after_columns : ℕ → List ℕ → ℕ
after_columns column [] = column
after_columns column (n ∷ ns) = after_columns (suc (column + n)) ns

-- the column of a row's mark (own)
abbrev pub mark_column : Row → ℕ
mark_column r = after_columns r.column r.dashes

-- one column less, from -1 on (own)
abbrev pub before_column : ℕ → ℤ
before_column zero = negsuc 0
before_column (suc n) = pos n

-- the parent indentation of what comes after a mark in a column: that column, or, without a key or dash, one less (YAML 1.2.2, section 6.1; own)
abbrev pub parent_of : RowMark → ℕ → ℤ
parent_of Bare column = before_column column
parent_of Dash column = pos column
parent_of (Key key colon) column = pos column

-- the parent indentation of what comes after a row's mark (own)
abbrev pub parent_indent : Row → ℤ
parent_indent r = parent_of r.mark (mark_column r)

-- The rows between two markers or the ends of the text, and the gap after the last of them (YAML 1.2.2, section 9.1; own).
pub record Part : Type 0 where
  pub rows : List Row
  pub end : List ℕ

-- the text of a part, before a rest (own)
abbrev pub part_text : Part → List ℕ → List ℕ
part_text p rest = rows_text p.rows (p.end ++ rest)

-- a text as its parts: the last one, or one with the line of the marker after it, and the parts that follow (YAML 1.2.2, section 9.1)
pub data Cut : Type 0 where
  last : Part → Cut
  marked : Part → (marker : List ℕ) → Cut → Cut

-- the text of a cut (own)
abbrev pub cut_text : Cut → List ℕ
cut_text (last p) = part_text p []
cut_text (marked p marker c) = part_text p (marker ++ cut_text c)
