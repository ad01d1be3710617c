-- Where an item or entry of a block collection, with whole rows, is taken out of a text (YAML 1.2.2, 8.2 and 9.1; own).
use Rattle.std.specs.Prelude.{ℕ, zero, suc, ◌-◌, ◌==◌, nat_lt, List, [], ◌∷◌, ◌++◌, length, slice_get, take, drop, Option, Some, None}
use Rattle.std.specs.Prelude.{option_map, Bool, false, if◌then◌else◌}
use Rattle.yq_core.{specs.Answers.◌>>=◌, specs.Block.{BlockText, keeps}, specs.Paths.{Step, node_at}, specs.Text.{joined, text_lines}}
use Rattle.yq_core.specs.Tree.{Node, children_of}
use Rattle.yq_row_table.{specs.Removal.{hold_comment, last_block, next_column}, specs.Rows.{Row, rows_text, Cut}}
use Rattle.yq_row_table.specs.Splices.{after_first, first_gap}
use Rattle.yq_outline.{specs.Counts.count, specs.Ends.{line_at_steps, lines_end}, specs.Lines.lines_of_rows}
use Rattle.yq_documents.{specs.Pieces.{before_run, last_run}, specs.Reading.documents, specs.LinesInRows.row_line}
use Rattle.yq_places.specs.PlacedRows.{PlacedPart, placed_document}

-- The rows of an item or entry, between those in front of it and those after it (8.2).
pub record OwnRows : Type 0 where
  pub front : List Row
  pub own : List Row
  pub back : List Row

-- how many rows in front have so many lines: a row has one for each dash before its mark, and one for the mark
abbrev pub row_count : ℕ → List Row → ℕ
row_count zero rs = 0
row_count (suc n) [] = 0
row_count (suc n) (r ∷ rs) = suc (row_count (n - length r.dashes) rs)

-- rows in three parts, by how many are in the first two
abbrev pub in_three : ℕ → ℕ → List Row → OwnRows
in_three i n rs = record { front = take i rs; own = take n (drop i rs); back = drop n (drop i rs) }

-- the rows of the item or entry to which steps lead, where its line is the first one of a row; their last one has the last line under its own
abbrev pub own_rows : List Step → List Row → Option OwnRows
own_rows steps rs =
    line_at_steps steps (lines_of_rows rs) >>= λ n. row_line n rs >>= λ s.
    if s.line == 0 then Some (in_three s.before (row_count (lines_end n (lines_of_rows rs) - n) (drop s.before rs)) rs) else None

-- What a gap that ends up after a block scalar has to fit: whether the scalar keeps the empty lines at its end, how far its text is
-- indented, and in which column the next row begins (8.1.1; own).
pub record Seam : Type 0 where
  pub keeps : Bool
  pub indent : ℕ
  pub column : ℕ

-- the seam after a block scalar, if there is one, where no comment line stays after it
abbrev pub seam_after : Option BlockText → (column : ℕ) → (kept : List ℕ) → Option Seam
seam_after None column kept = None
seam_after (Some b) column kept =
    if hold_comment (text_lines kept) then None else Some (record { keeps = keeps b.chomping; indent = b.indent.columns; column = column })

-- What is taken out of a text: the text before it, the lines that go, the gap after them, the text after that, and the seam of the gap,
-- if it ends up after a block scalar.
pub record Removal : Type 0 where
  pub before : List ℕ
  pub gone : List ℕ
  pub gap : List ℕ
  pub after : List ℕ
  pub seam : Option Seam

-- the lines that stay of the gap in front of rows: those before the comment that ends it
abbrev pub kept_gap : List Row → List ℕ → List ℕ
kept_gap rs end = joined (before_run (text_lines (first_gap rs end)))

-- the comment that ends the gap in front of rows
abbrev pub comment_above : List Row → List ℕ → List ℕ
comment_above rs end = joined (last_run (text_lines (first_gap rs end)))

-- rows of a document taken out: the lines of the comment above them, those of the first row without its gap, and the further rows with theirs
abbrev pub rows_out : PlacedPart → OwnRows → Removal
rows_out d x = record {
  before = d.before ++ rows_text x.front (kept_gap x.own d.part.end);
  gone = comment_above x.own d.part.end ++ after_first x.own [] [];
  gap = first_gap x.back d.part.end;
  after = after_first x.back d.part.end d.after;
  seam = seam_after (last_block x.front) (next_column x.back) (kept_gap x.own d.part.end);
}

-- what is taken out with the item or entry to which steps lead in document n, if its line is the first one of a row
abbrev pub removal_place : ℕ → List Step → Cut → Option Removal
removal_place n steps c = placed_document n c >>= λ d. option_map (rows_out d) (own_rows steps d.part.rows)

-- whether there is a node, and it has several items or entries
abbrev pub has_several : Option Node → Bool
has_several None = false
has_several (Some n) = nat_lt 1 (count (children_of n))

-- whether the collection in which steps end has others next to the item or entry to which they lead
abbrev pub has_others : List Step → Node → Bool
has_others steps root = has_several (node_at (take (length steps - 1) steps) root)

-- the same in document n of a cut
abbrev pub has_others_at : ℕ → List Step → Cut → Bool
has_others_at n steps c = has_several (slice_get (documents c) n >>= λ d. node_at (take (length steps - 1) steps) d.root)
