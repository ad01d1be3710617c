-- What a row spells after its mark, the white space before what is put after an anchor, and texts that may be read (own).
use Rattle.std.{specs.Prelude.{◌≡◌, ℕ, ◌≤◌, true, List, [], ◌∷◌, length, if◌then◌else◌}, specs.Str.is_utf8}
use Rattle.yq_core.{specs.Characters.is_text, specs.Tree.Node}
use Rattle.yq_text.specs.Limit.{text_limit}
use Rattle.yq_row_table.specs.Rows.{Content}
use Rattle.yq_outline.{specs.Lines.{content_anchor, head_of}, specs.Outline.{anchored, head_or, null_node}}
use Rattle.yq_core.specs.Nodes as inline

-- the node that a row spells after its mark; where nothing is written but perhaps an anchor, a null (7.2)
abbrev pub spelled_node : Content → Node
spelled_node c = anchored (content_anchor c) (head_or (head_of c) null_node)

-- the white space before a scalar that is put after an anchor: what there was before a node, or one space where none was written
abbrev pub space_after_anchor : List ℕ → inline.FlowNode → List ℕ
space_after_anchor gap node = if inline.is_empty_node node then 32 ∷ [] else gap

-- A text that may be read: it is UTF-8, its characters are those of a text, and it is not too long (5.1, 5.2; own).
pub record IsReadable (t : List ℕ) : Type 0 where
  pub utf8 : is_utf8 t ≡ true
  pub characters : is_text t ≡ true
  pub size : length t ≤ text_limit
