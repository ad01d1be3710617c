-- Reading (own; you may skip it: the clauses `found` and `only` show that it agrees with the grammar): what is asked of rows, by their pieces.
use Rattle.std.specs.Prelude.{Bool, ◌||◌, ◌&&◌, not, List, ℕ}
use Rattle.yq_core.{specs.Plain.holds_break, specs.Text.is_empty, specs.Nodes.begins_with, specs.Scalars.is_quoted}
use Rattle.yq_row_table.specs.View.{Slices}
use Rattle.yq_documents.specs.RowReading.{is_block_head}

-- a plain scalar, among heads (own)
abbrev pub is_plain_head : List ℕ → Bool
is_plain_head head = not (is_empty head) && (not (is_block_head head) && not (is_quoted head || (begins_with 42 head || (begins_with 91 head || begins_with 123 head))))

-- a break is in an anchor, after it or in its head (own)
abbrev pub has_break : Slices → Bool
has_break s = holds_break s.anchor || (holds_break s.apart || holds_break s.head)

-- the row is a plain scalar of several lines alone (own)
abbrev pub is_multiline_plain : Slices → Bool
is_multiline_plain s = is_empty s.dashes && (is_empty s.colon && (is_plain_head s.head && has_break s))
