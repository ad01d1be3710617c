-- The rows of the code, as the pieces that they lend.
use Rattle.std.specs.Prelude.{ℕ, ℤ, ◌+◌, ◌==◌, List, [], ◌∷◌, ◌++◌, length, map, replicate, Option, Some, None, if◌then◌else◌}
use Rattle.yq_core.{specs.Block.style_indicator, specs.Text.joined, specs.Nodes.{FlowNode, empty, alias, scalar, coll, anchored, node_text}}
use Rattle.yq_row_table.specs.Rows.{RowMark, Bare, Dash, Key, Anchor, Content, Nothing, Inline, Block, Row, dashes_text, parent_indent, Cut}
use Rattle.yq_row_table.specs.Rows.{last, marked}
use Rattle.yq_row_table.specs.declared.row.Row as declared
use Rattle.yq_row_table.specs.declared.ends.Bound as ends

-- The pieces of a row as texts: its gap, its column, its dashes, its key and what comes after it up to the `:`, the white space after these, an
-- anchor, the white space after it, the head, the tail, and the raw lines of a block scalar; and the parent indentation of what comes after its
-- mark (own).
pub record Slices : Type 0 where
  pub gap : List ℕ
  pub column : ℕ
  pub dashes : List ℕ
  pub key : List ℕ
  pub colon : List ℕ
  pub space : List ℕ
  pub anchor : List ℕ
  pub apart : List ℕ
  pub head : List ℕ
  pub tail : List ℕ
  pub raw : List ℕ
  pub parent : ℤ

-- the dash of a mark, if it is one (own)
abbrev pub last_dash : RowMark → List ℕ
last_dash Bare = []
last_dash Dash = 45 ∷ []
last_dash (Key key colon) = []

-- the key of a mark, if it has one (own)
abbrev pub key_of_mark : RowMark → List ℕ
key_of_mark Bare = []
key_of_mark Dash = []
key_of_mark (Key key colon) = key

-- what comes after the key of a mark up to the `:` (own)
abbrev pub colon_of : RowMark → List ℕ
colon_of Bare = []
colon_of Dash = []
colon_of (Key key colon) = colon

-- an anchor, the white space after it, and what is after that (own)
abbrev pub anchor_cut : FlowNode → List ℕ × List ℕ × List ℕ
anchor_cut empty = ([], [], [])
anchor_cut (alias name) = ([], [], node_text (alias name) [])
anchor_cut (scalar p) = ([], [], node_text (scalar p) [])
anchor_cut (coll close gap items) = ([], [], node_text (coll close gap items) [])
anchor_cut (anchored name gap node) = (38 ∷ name, gap, node_text node [])

-- an anchor with its `&` (own)
abbrev pub anchor_with_sign : Option Anchor → List ℕ
anchor_with_sign None = []
anchor_with_sign (Some a) = 38 ∷ a.name

-- the white space after an anchor (own)
abbrev pub apart_of : Option Anchor → List ℕ
apart_of None = []
apart_of (Some a) = a.gap

-- the white space, the anchor, the white space after it, the head, the tail and the raw lines (own)
abbrev pub content_cut : Content → List ℕ × List ℕ × List ℕ × List ℕ × List ℕ × List ℕ
content_cut (Nothing tail) = ([], [], [], [], tail, [])
content_cut (Inline space node tail) = (space, (anchor_cut node).0, (anchor_cut node).1, (anchor_cut node).2, tail, [])
content_cut (Block space anchor block) =
    (space, anchor_with_sign anchor, apart_of anchor, style_indicator block.style ∷ block.indicators, block.tail, joined block.raw)

-- the pieces of a row as texts (own)
abbrev pub slices : Row → Slices
slices r = let c = content_cut r.content in record {
  gap = r.gap;
  column = r.column;
  dashes = dashes_text r.dashes (last_dash r.mark);
  key = key_of_mark r.mark;
  colon = colon_of r.mark;
  space = c.0;
  anchor = c.1;
  apart = c.2;
  head = c.3;
  tail = c.4;
  raw = c.5;
  parent = parent_indent r;
}

-- the rows of a cut in order (own)
abbrev pub rows_of : Cut → List Row
rows_of (last p) = p.rows
rows_of (marked p marker c) = p.rows ++ rows_of c

-- The gap after the rows of a part, and the line of the marker after that, which the last part has not; and how many rows come before the next
-- part (own).
pub record Bound : Type 0 where
  pub rows : ℕ
  pub end : List ℕ
  pub marker : List ℕ

-- the bounds of the parts of a cut, before which so many rows are (own)
abbrev pub bounds_from : ℕ → Cut → List Bound
bounds_from n (last p) = record { rows = n + length p.rows; end = p.end; marker = [] } ∷ []
bounds_from n (marked p marker c) = record { rows = n + length p.rows; end = p.end; marker = marker } ∷ bounds_from (n + length p.rows) c

-- the bounds of the parts of a cut (own)
abbrev pub bounds_of : Cut → List Bound
bounds_of c = bounds_from 0 c

-- those bounds before which i rows are (own)
abbrev pub bounds_at : ℕ → List Bound → List Bound
bounds_at i [] = []
bounds_at i (b ∷ bs) = if i == b.rows then b ∷ bounds_at i bs else bounds_at i bs

-- the pieces that a row of the code lends (own)
abbrev pub row_view : declared.Row → Slices
row_view r = record {
  gap = r.gap.now;
  column = r.column;
  dashes = r.dashes.now;
  key = r.key.now;
  colon = r.colon.now;
  space = r.space.now;
  anchor = r.anchor.now;
  apart = r.apart.now;
  head = r.head.now;
  tail = r.tail.now;
  raw = r.raw.now;
  parent = r.parent;
}

-- where a part ends, as the code lends it (own)
abbrev pub bound_view : ends.Bound → Bound
bound_view b = record { rows = b.rows; end = b.end.now; marker = b.marker.now }

-- the text of a row by its pieces, before a rest (own)
abbrev pub slices_text : Slices → List ℕ → List ℕ
slices_text s rest =
    s.gap ++ (replicate s.column 32 ++ (s.dashes ++ (s.key ++ (s.colon ++ (s.space ++ (s.anchor ++ (s.apart ++ (s.head ++ (s.tail ++ (s.raw ++ rest))))))))))

-- The rows of a cut, each by its pieces, and the bounds of its parts (own).
pub record RowsView : Type 0 where
  pub rows : List Slices
  pub bounds : List Bound

-- a cut, as the code lends it (own)
abbrev pub rows_view : Cut → RowsView
rows_view c = record { rows = map slices (rows_of c); bounds = bounds_of c }
