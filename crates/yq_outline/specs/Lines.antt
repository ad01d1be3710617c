-- The lines of block nodes that rows are.
use Rattle.std.specs.Prelude.{ℕ, suc, ◌+◌, List, [], ◌∷◌, ◌++◌, Option, Some, None}
use Rattle.yq_core.{specs.declared.kind.Kind.TheVariants.Text, specs.BlockContent.block_content, specs.Scalars.scalar_content}
use Rattle.yq_core.specs.Trees.{node_anchor, node_head}
use Rattle.yq_row_table.specs.Rows.{Content, Nothing, Inline, Block, Row}
use Rattle.yq_outline.specs.Outline.{LineMark, Bare, Key, Dash, Line}
use Rattle.yq_core.specs.Tree as tree
use Rattle.yq_outline.specs.Comments as comments
use Rattle.yq_row_table.specs.Rows as rows

-- the name of the anchor before a block scalar, if there is one (YAML 1.2.2, section 6.9.2)
abbrev pub block_anchor : Option rows.Anchor → Option (List ℕ)
block_anchor None = None
block_anchor (Some a) = Some a.name

-- the anchor in a row, if there is one (YAML 1.2.2, section 6.9.2)
abbrev pub content_anchor : Content → Option (List ℕ)
content_anchor (Nothing tail) = None
content_anchor (Inline space node tail) = node_anchor node
content_anchor (Block space anchor block) = block_anchor anchor

-- what a row's head spells, if it has one; a block scalar is a string (YAML 1.2.2, sections 3.2.1 and 8.1)
abbrev pub head_of : Content → Option tree.Node
head_of (Nothing tail) = None
head_of (Inline space node tail) = node_head node
head_of (Block space anchor block) = Some (tree.scalar None Text (block_content block))

-- the tail of a row's first line after its mark (YAML 1.2.2, section 6.6)
abbrev pub tail_of : Content → List ℕ
tail_of (Nothing tail) = tail
tail_of (Inline space node tail) = tail
tail_of (Block space anchor block) = block.tail

-- what a line begins with; a key is known by its content (YAML 1.2.2, sections 3.2.1.3 and 8.2)
abbrev pub line_mark : rows.RowMark → LineMark
line_mark rows.Bare = Bare
line_mark rows.Dash = Dash
line_mark (rows.Key key colon) = Key (scalar_content key)

-- the line of a mark in a column: in it are the row's anchor, head and line comment (YAML 1.2.2, section 8.2; own)
abbrev pub mark_line : List (List ℕ) → ℕ → rows.RowMark → Content → Line
mark_line above column mark c = record {
  column = column;
  mark = line_mark mark;
  anchor = content_anchor c;
  head = head_of c;
  head_comment = above;
  line_comment = comments.line_comment (tail_of c);
}

-- the line of a dash before the mark: a collection begins after it (YAML 1.2.2, section 8.2.1; own)
abbrev pub dash_line : List (List ℕ) → ℕ → Line
dash_line above column = record { column = column; mark = Dash; anchor = None; head = None; head_comment = above; line_comment = None }

-- a line for each dash and one for the mark, from a column on; the comments above the row are those of its first line (YAML 1.2.2, section 8.2; own)
abbrev pub lines_from : List (List ℕ) → ℕ → List ℕ → rows.RowMark → Content → List Line
lines_from above column [] mark c = mark_line above column mark c ∷ []
lines_from above column (n ∷ ns) mark c = dash_line above column ∷ lines_from [] (suc (column + n)) ns mark c

-- the lines of a row (YAML 1.2.2, section 8.2; own)
abbrev pub row_lines : Row → List Line
row_lines r = lines_from (comments.head_comment r.gap) r.column r.dashes r.mark r.content

-- the lines of rows, in order (own)
abbrev pub lines_of_rows : List Row → List Line
lines_of_rows [] = []
lines_of_rows (r ∷ rs) = row_lines r ++ lines_of_rows rs
