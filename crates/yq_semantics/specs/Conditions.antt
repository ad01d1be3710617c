-- What `select` asks of a place (yq manual; own).
use Rattle.std.{specs.Prelude.{ℕ, ℤ, Bool, true, false, not, List, [], ◌∷◌, Option, Some, None, is_some}, specs.Str.bytes_eq}
use Rattle.std.{specs.Fmt.decimal, specs.Ordering.int_eq}
use Rattle.yq_core.{specs.declared.kind.Kind.Kind, specs.Paths.{To, child_at}, specs.SchemaReading.{int_value, is_true_word}}
use Rattle.yq_core.specs.Tree.{Node, alias, scalar, list, map}
use Rattle.yq_outline.specs.Outline.{null_node}
use Rattle.yq_semantics.{specs.declared.refusal.Refusal.TheVariants.ThroughAlias, specs.Judgement.{Judgement, and_then, gives, refuses}}
use Rattle.yq_semantics.specs.Places.{FoundPlace, traverse}
use Rattle.yq_semantics.specs.Program.{PathStep, Operand, value_at, document_index, Condition, compares, has}
use Rattle.yq_core.specs.declared.kind.Kind.TheVariants as kinds

-- whether two bools are the same (own)
abbrev pub same_bool : Bool → Bool → Bool
same_bool true b = b
same_bool false b = not b

-- whether two ints are the same: by their numbers, where both have one in 64 bits, and else by their texts (own)
abbrev pub same_int : Option ℤ → Option ℤ → List ℕ → List ℕ → Bool
same_int (Some m) (Some n) t u = int_eq m n
same_int (Some m) None t u = bytes_eq t u
same_int None n t u = bytes_eq t u

-- whether two scalars are of one kind and one value: floats and strings by their texts (own)
abbrev pub same_scalar : Kind → List ℕ → Kind → List ℕ → Bool
same_scalar kinds.Null t kinds.Null u = true
same_scalar kinds.Bool t kinds.Bool u = same_bool (is_true_word t) (is_true_word u)
same_scalar kinds.Int t kinds.Int u = same_int (int_value t) (int_value u) t u
same_scalar kinds.Float t kinds.Float u = bytes_eq t u
same_scalar kinds.Text t kinds.Text u = bytes_eq t u
same_scalar kind t other u = false

-- whether a node is that scalar (own)
abbrev pub is_scalar : Kind → List ℕ → Node → Judgement Bool
is_scalar kind text (alias name) = refuses ThroughAlias
is_scalar kind text (scalar anchor k t) = gives (same_scalar k t kind text)
is_scalar kind text (list anchor cs) = gives false
is_scalar kind text (map anchor cs) = gives false

-- the node at a place; at one that is missing it is null (own)
abbrev pub node_there : List PathStep → Node → Node
node_there [] n = n
node_there (s ∷ ss) n = null_node

-- the same of a place (own)
abbrev pub value_of : FoundPlace → Node
value_of p = node_there p.missing p.node

-- whether the first place has that scalar (own)
abbrev pub first_equals : Kind → List ℕ → List FoundPlace → Judgement Bool
first_equals kind text [] = gives false
first_equals kind text (p ∷ ps) = is_scalar kind text (value_of p)

-- whether what is compared is that scalar, at a place in the document of that number (own)
abbrev pub operand_is : ℕ → Operand → Kind → List ℕ → FoundPlace → Judgement Bool
operand_is doc (value_at steps) kind text p = and_then (first_equals kind text) (traverse steps (p ∷ []))
operand_is doc document_index kind text p = gives (same_scalar kinds.Int (decimal doc) kind text)

-- whether a node is a mapping with that key (own)
abbrev pub has_key : List ℕ → Node → Judgement Bool
has_key k (alias name) = refuses ThroughAlias
has_key k (scalar anchor kind text) = gives false
has_key k (list anchor cs) = gives false
has_key k (map anchor cs) = gives (is_some (child_at (To k) cs))

-- whether a condition holds at a place in the document of that number (own)
abbrev pub condition_holds : ℕ → Condition → FoundPlace → Judgement Bool
condition_holds doc (compares operand equal kind text) p = and_then (λ b. gives (same_bool equal b)) (operand_is doc operand kind text p)
condition_holds doc (has k) p = has_key k (value_of p)
