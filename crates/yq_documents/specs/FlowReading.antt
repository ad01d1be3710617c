-- Reading (own; you may skip it: the clauses `found` and `only` show that it agrees with the grammar): aliases and flow collections in heads.
use Rattle.std.specs.Prelude.{ℕ, ◌-◌, List, ◌++◌, length, Option, Some, None, if◌then◌else◌, ℤ}
use Rattle.yq_core.{specs.Answers.◌>>=◌, specs.Text.is_empty, specs.Inline.inline_at, specs.Nodes.{FlowNode, empty, without_anchor}}
use Rattle.yq_core.{specs.Places.{Placed, placed, CoreNode, nothing, name, text, sequence, mapping, locate}, specs.Scalars.is_quoted}
use Rattle.yq_row_table.specs.Rows.{Row}
use Rattle.yq_outline.specs.Lines.{tail_of}
use Rattle.yq_documents.specs.RowReading.{is_block_head, is_short_plain}
use Rattle.yq_core.specs.declared.style.Place.TheVariants as places
use Rattle.yq_row_table.specs.Rows as rows

-- a node by its content, if it is an alias or a flow collection (own)
abbrev pub kept_by : Placed → CoreNode → Option Placed
kept_by p nothing = None
kept_by p (name n) = Some p
kept_by p (text s piece) = None
kept_by p (sequence parts) = Some p
kept_by p (mapping parts) = Some p

-- a node, if it is an alias or a flow collection (own)
abbrev pub alias_or_collection : Placed → Option Placed
alias_or_collection (placed a s c e f) = kept_by (placed a s c e f) f

-- the alias or flow collection in front, at the end of a text (own)
abbrev pub node_flow_at : List ℕ → ℤ → List ℕ → Option Placed
node_flow_at whole n t = inline_at places.Block n 0 (length whole - length t) whole >>= alias_or_collection

-- the alias or flow collection that a head is that is written so, with what follows it, at the end of a text (own)
unfoldable pub head_flow_at : List ℕ → ℤ → List ℕ → List ℕ → Option Placed
head_flow_at whole n head t =
    if is_empty head then None
    else (if is_block_head head then None
    else (if is_quoted head then None
    else (if is_short_plain head then None
    else node_flow_at whole n t)))

-- the inline node of a row's content, without its anchor; where there is none, nothing (own)
abbrev pub content_core : rows.Content → FlowNode
content_core (rows.Nothing tail) = empty
content_core (rows.Inline space node tail) = without_anchor node
content_core (rows.Block space anchor block) = empty

-- the alias or flow collection in a row's head, with its places in a text so long, before a rest (own)
abbrev pub row_flow : ℕ → Row → List ℕ → Option Placed
row_flow total r rest = alias_or_collection (locate total (content_core r.content) (tail_of r.content ++ rest))
