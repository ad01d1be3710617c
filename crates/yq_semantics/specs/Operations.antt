-- Operations on documents.
use Rattle.std.specs.Prelude.{ℕ, List, map, Option, option_map, string_bytes}
use Rattle.yq_core.{specs.Tree.Node, specs.Paths.Step, specs.Values.value_node}
use Rattle.yq_documents.specs.Located.{steps_of}
use Rattle.yq_semantics.specs.declared.op.Op as declared

-- An operation, at the steps of a path in the document of a number: a node is exchanged, appended as an item or as the entry of a key, or removed; or the text
-- of its line comment or head comment is set (own).
pub data Operation : Type 0 where
  replace : ℕ → List Step → Node → Operation
  append : ℕ → List Step → Option (List ℕ) → Node → Operation
  remove : ℕ → List Step → Operation
  line_comment : ℕ → List Step → List ℕ → Operation
  head_comment : ℕ → List Step → List ℕ → Operation

-- the operation that one of the code means (own)
abbrev pub operation_of : declared.Op → Operation
operation_of (declared.TheVariants.Replace p v) = replace p.doc (steps_of p) (value_node v)
operation_of (declared.TheVariants.Append p k v) = append p.doc (steps_of p) (option_map string_bytes k) (value_node v)
operation_of (declared.TheVariants.Remove p) = remove p.doc (steps_of p)
operation_of (declared.TheVariants.LineComment p text) = line_comment p.doc (steps_of p) (string_bytes text)
operation_of (declared.TheVariants.HeadComment p text) = head_comment p.doc (steps_of p) (string_bytes text)

-- the operations that those of the code mean, in order (own)
abbrev pub operations_of : List declared.Op → List Operation
operations_of ops = map operation_of ops
