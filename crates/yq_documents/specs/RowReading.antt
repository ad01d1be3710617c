-- Reading (own; you may skip it: the clauses `found` and `only` show that it agrees with the grammar): the lines of a row by its pieces.
use Rattle.std.specs.Prelude.{◌≡◌, ℕ, ◌-◌, ◌==◌, Bool, true, ◌||◌, ◌&&◌, not, List, ◌++◌, length, drop, Option, Some, None, if◌then◌else◌}
use Rattle.std.specs.Prelude.{ℤ}
use Rattle.yq_core.{specs.declared.kind.Kind.TheVariants.Text, specs.Answers.◌>>=◌, specs.BlockContent.block_content}
use Rattle.yq_core.{specs.BlockReading.block_at, specs.Piece.deeper, specs.Plain.holds_break, specs.Scalar.plain_of}
use Rattle.yq_core.{specs.Text.{front, is_empty}, specs.Inline.inline_at, specs.Nodes.begins_with}
use Rattle.yq_core.specs.Places.{Placed, placed, CoreNode, nothing, name, text, sequence, mapping}
use Rattle.yq_core.{specs.Scalars.{is_quoted, scalar_content}, specs.Trees.{scalar_node, placed_tree}}
use Rattle.yq_row_table.{specs.Grammar.{Limit, IsRow}, specs.Rows.Row, specs.View.{Slices, slices}}
use Rattle.yq_documents.{specs.KeyReading.node_fits, specs.Reading.{mark_is_fit, content_is_fit}}
use Rattle.yq_core.specs.declared.style.Place.TheVariants as places
use Rattle.yq_core.specs.Tree as tree

-- what a placed node is as a head, by its content (own)
abbrev pub form_head : Placed → CoreNode → Option tree.Node
form_head p nothing = None
form_head p (name n) = Some (placed_tree p)
form_head p (text s piece) = Some (scalar_node s)
form_head p (sequence parts) = Some (placed_tree p)
form_head p (mapping parts) = Some (placed_tree p)

-- the head that a node without an anchor is, if anything is written (own)
abbrev pub placed_head : Placed → Option tree.Node
placed_head (placed a s c e f) = form_head (placed a s c e f) f

-- a plain scalar on one line, among heads (own)
abbrev pub is_short_plain : List ℕ → Bool
is_short_plain head = not (is_quoted head || (begins_with 42 head || (begins_with 91 head || begins_with 123 head))) && not (holds_break head)

-- the mark of a block scalar is in front (own)
abbrev pub is_block_head : List ℕ → Bool
is_block_head head = front (λ b. b == 124 || b == 62) head

-- a string, as a head (own)
abbrev pub string_head : List ℕ → Option tree.Node
string_head t = Some (tree.scalar None Text t)

-- the head that a block scalar in front is (own)
abbrev pub block_head_at : ℤ → List ℕ → Option (Option tree.Node)
block_head_at n t = block_at (deeper n) t >>= λ x. Some (string_head (block_content x.0))

-- the head that an inline node is, whose keys are fit where they are in the text (own)
abbrev pub fit_head : List ℕ → Placed → Option (Option tree.Node)
fit_head whole p = if node_fits whole p then Some (placed_head p) else None

-- the head that an inline node in front is, at the end of a text (own)
abbrev pub node_head_at : List ℕ → ℤ → List ℕ → Option (Option tree.Node)
node_head_at whole n t = inline_at places.Block n 0 (length whole - length t) whole >>= fit_head whole

-- the head of a row that is written so, with what follows it, at the end of a text (own)
unfoldable pub read_head : List ℕ → ℤ → List ℕ → List ℕ → Option (Option tree.Node)
read_head whole n head t =
    if is_empty head then Some None
    else (if is_block_head head then block_head_at n t
    else (if is_quoted head then Some (string_head (scalar_content head))
    else (if is_short_plain head then Some (Some (scalar_node (plain_of head)))
    else node_head_at whole n t)))

-- the name of an anchor that is written with its `&`, if there is one (own)
abbrev pub name_in : List ℕ → Option (List ℕ)
name_in t = if begins_with 38 t then Some (drop 1 t) else None

-- the text of a row from its head on, before a rest (own)
abbrev pub from_head : Slices → List ℕ → List ℕ
from_head s rest = s.head ++ (s.tail ++ (s.raw ++ rest))

-- The pieces are those of a row whose head, in which keys are fit, is in front of a text (own).
pub record HasHead (s : Slices) (t : List ℕ) : Type 0 where
  pub row : Row
  pub limit : Limit
  pub rest : List ℕ
  pub pieces : s ≡ slices row
  pub text : t ≡ from_head (slices row) rest
  pub valid : IsRow limit row rest
  pub fit : content_is_fit row.content ≡ true

-- the keys in a row are fit (own)
abbrev pub row_fits : Row → Bool
row_fits r = mark_is_fit r.mark && content_is_fit r.content
