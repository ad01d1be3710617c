-- What reading gives, as the code lends it (own; you may skip it).
use Rattle.std.specs.Prelude.{ℕ, suc, ◌+◌, Bool, true, false, ◌||◌, ◌==◌, List, [], ◌++◌, length, map, take, drop, Option, Some, None}
use Rattle.std.specs.Prelude.{if◌then◌else◌, ℤ}
use Rattle.yq_core.{specs.Answers.◌>>=◌, specs.Piece.deeper, specs.Text.{upto, cut, front, unless, no_white}}
use Rattle.yq_core.{specs.declared.style.Style.Style, specs.Nodes.{begins_with, in_name}}
use Rattle.yq_core.specs.Places.{Placed, placed, nothing, name, text, sequence, mapping, bare_in, CoreNode as PlacedNode}
use Rattle.yq_row_table.specs.Grammar.{Limit, unlimited, limit_after, is_entry, is_plain_content, may_be_alone}
use Rattle.yq_row_table.specs.Reading.{Marks, block_content_at, inline_content_at, read_content, row_at}
use Rattle.yq_row_table.specs.Rows.{RowMark, Content, Nothing, Inline, Block, Row, dashes_text, after_columns, parent_of, Part, Cut}
use Rattle.yq_row_table.specs.View.{Slices, Bound, RowsView, last_dash, key_of_mark, colon_of, content_cut, slices, rows_of, bounds_from}
use Rattle.yq_row_table.specs.View.{rows_view}
use Rattle.yq_core.specs.declared.style.Style.TheVariants as styles

-- The dashes in front with a last one that is the mark, how many columns come before the mark, the mark, and what follows (own).
pub record Begun : Type 0 where
  pub dashes : List ℕ
  pub columns : ℕ
  pub mark : RowMark
  pub rest : List ℕ

-- dashes and the mark that were read, as the code lends them (own)
abbrev pub begun : Marks → Begun
begun m = record { dashes = dashes_text m.0 (last_dash m.1); columns = after_columns 0 m.0; mark = m.1; rest = m.2 }

-- dashes before those that are read (own)
abbrev pub with_dashes : List ℕ → Begun → Begun
with_dashes p b = record { dashes = p ++ b.dashes; columns = length p + b.columns; mark = b.mark; rest = b.rest }

-- What comes after a mark, by its pieces; whether it is a plain scalar, whether it may be on a line of its own, and what follows (own).
pub record Filled : Type 0 where
  pub space : List ℕ
  pub anchor : List ℕ
  pub apart : List ℕ
  pub head : List ℕ
  pub tail : List ℕ
  pub raw : List ℕ
  pub plain : Bool
  pub alone : Bool
  pub rest : List ℕ

-- a plain scalar comes after a mark (own)
abbrev pub holds_plain : Content → Bool
holds_plain (Nothing tail) = false
holds_plain (Inline space node tail) = is_plain_content node
holds_plain (Block space anchor block) = false

-- what comes after a mark and what follows, as the code lends them (own)
abbrev pub borrowed_content : Content × List ℕ → Filled
borrowed_content x = let c = content_cut x.0 in record {
  space = c.0;
  anchor = c.1;
  apart = c.2;
  head = c.3;
  tail = c.4;
  raw = c.5;
  plain = holds_plain x.0;
  alone = may_be_alone x.0;
  rest = x.1;
}

-- what comes after a mark, as the code lends it (own)
abbrev pub filled_at : ℤ → List ℕ → Option Filled
filled_at n t = read_content n t >>= λ x. Some (borrowed_content x)

-- what a row asks of the next one, below a parent of this indentation (own)
abbrev pub limit_by : ℤ → Bool → Limit
limit_by n plain = if plain then record { column = Some (deeper n) } else unlimited

-- the pieces of a row, what it asks of the next one, and what follows (own)
abbrev pub SlicedRow : Type 0
SlicedRow = Slices × Limit × List ℕ

-- a row of these pieces (own)
abbrev pub row_of : List ℕ → ℕ → Begun → Filled → SlicedRow
row_of gap column b f = let n = parent_of b.mark (column + b.columns) in (
  record {
    gap = gap;
    column = column;
    dashes = b.dashes;
    key = key_of_mark b.mark;
    colon = colon_of b.mark;
    space = f.space;
    anchor = f.anchor;
    apart = f.apart;
    head = f.head;
    tail = f.tail;
    raw = f.raw;
    parent = n;
  },
  limit_by n f.plain,
  f.rest,
)

-- a row after its gap and indentation, whose marks were read (own)
abbrev pub marked_sliced : List ℕ → ℕ → Begun → Option SlicedRow
marked_sliced gap column b =
    filled_at (parent_of b.mark (column + b.columns)) b.rest >>= λ f. if is_entry b.mark || f.alone then Some (row_of gap column b f) else None

-- a row that was read, as the code lends it (own)
abbrev pub sliced : Row × List ℕ → SlicedRow
sliced x = (slices x.0, limit_after x.0, x.1)

-- a row after its gap, as the code lends it (own)
abbrev pub row_sliced : Limit → List ℕ → List ℕ → Option SlicedRow
row_sliced limit gap t = row_at limit gap t >>= λ x. Some (sliced x)

-- rows, a gap, and what follows (own)
abbrev pub SlicedPart : Type 0
SlicedPart = List Slices × List ℕ × List ℕ

-- the rows of a part after others, its gap, and what follows (own)
abbrev pub following_part : List Slices → Part × List ℕ → SlicedPart
following_part rows x = (rows ++ map slices x.0.rows, x.0.end, x.1)

-- the same, if there is one (own)
abbrev pub rows_sliced : List Slices → Option (Part × List ℕ) → Option SlicedPart
rows_sliced rows read = read >>= λ x. Some (following_part rows x)

-- how long an anchor in front is with its `&` (own)
abbrev pub anchor_len : List ℕ → ℕ
anchor_len t = if begins_with 38 t then suc (upto (unless in_name) (drop 1 t)) else 0

-- the text cut after an anchor in front (own)
abbrev pub cut_anchor : List ℕ → List ℕ × List ℕ
cut_anchor t = (take (anchor_len t) t, drop (anchor_len t) t)

-- a cut that was read, as the code lends it (own)
abbrev pub read_view : Option Cut → Option RowsView
read_view read = read >>= λ c. Some (rows_view c)

-- an anchor in front, the white space after it, and what follows (own)
abbrev pub cut_apart : List ℕ → List ℕ × List ℕ × List ℕ
cut_apart t = if begins_with 38 t then ((cut_anchor t).0, (cut no_white (cut_anchor t).1).0, (cut no_white (cut_anchor t).1).1) else ([], [], t)

-- the white space between an anchor and its node, if that is something, and what follows (own)
abbrev pub cut_lead : Bool → List ℕ → List ℕ × List ℕ
cut_lead bare t = if bare then ([], t) else cut no_white t

-- nothing, perhaps after an anchor (own)
abbrev pub nothing_placed : Placed → Bool
nothing_placed (placed a s c e f) = bare_in None f

-- the style is plain (own)
abbrev pub is_plain_style : Style → Bool
is_plain_style styles.Plain = true
is_plain_style styles.Single = false
is_plain_style styles.Double = false
is_plain_style styles.Literal = false
is_plain_style styles.Folded = false

-- a plain scalar (own)
abbrev pub plain_in : PlacedNode → Bool
plain_in nothing = false
plain_in (name n) = false
plain_in (text s p) = is_plain_style p.style
plain_in (sequence s) = false
plain_in (mapping s) = false

-- a plain scalar, perhaps after an anchor (own)
abbrev pub plain_placed : Placed → Bool
plain_placed (placed a s c e f) = plain_in f

-- an anchor, an alias or a flow collection begins here (YAML 1.2.2, section 7.5)
abbrev pub begins_other : List ℕ → Bool
begins_other t = front (λ b. b == 38 || b == 42 || b == 91 || b == 123) t

-- an inline node after white space, as the code lends it (own)
abbrev pub inline_sliced : ℤ → List ℕ → List ℕ → Option Filled
inline_sliced n space t = inline_content_at n space t >>= λ x. Some (borrowed_content x)

-- a block scalar after white space, as the code lends it (own)
abbrev pub block_sliced : ℤ → List ℕ → List ℕ → Option Filled
block_sliced n space t = block_content_at n space t >>= λ x. Some (borrowed_content x)

-- parts after rows and bounds (own)
abbrev pub after_parts : List Slices → List Bound → Cut → RowsView
after_parts rows bounds c = record { rows = rows ++ map slices (rows_of c); bounds = bounds ++ bounds_from (length rows) c }

-- the same, if there are any (own)
abbrev pub parts_sliced : List Slices → List Bound → Option Cut → Option RowsView
parts_sliced rows bounds read = read >>= λ c. Some (after_parts rows bounds c)
