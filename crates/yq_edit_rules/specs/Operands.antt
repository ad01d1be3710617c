-- What is known of the operands of an operation, since the code holds no others.
use Rattle.std.{specs.Prelude.{ℕ, List, Option, Some, None, ⊤}, specs.Str.IsUtf8}
use Rattle.yq_flow_edits.specs.Valued.{IsValueTree}
use Rattle.yq_semantics.specs.Operations.{Operation, replace, append, remove, line_comment, head_comment}

-- a key is UTF-8, if there is one (own)
abbrev pub KeyIsUtf8 : Option (List ℕ) → Type 0
KeyIsUtf8 None = ⊤
KeyIsUtf8 (Some k) = IsUtf8 k

-- the value of an operation is the tree of one, and its texts are UTF-8 (own)
abbrev pub HasOperand : Operation → Type 0
HasOperand (replace doc steps v) = IsValueTree v
HasOperand (append doc steps key v) = KeyIsUtf8 key × IsValueTree v
HasOperand (remove doc steps) = ⊤
HasOperand (line_comment doc steps text) = IsUtf8 text
HasOperand (head_comment doc steps text) = IsUtf8 text
