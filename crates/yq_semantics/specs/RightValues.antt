-- Right sides of updates: sums of values, which are nodes without anchors, comments and aliases (yq manual; own).
use Rattle.std.specs.Prelude.{ℕ, ℤ, ◌+ℤ◌, Bool, true, false, List, [], ◌∷◌, ◌++◌, Option, Some, None, is_some, if◌then◌else◌}
use Rattle.std.specs.Fmt.{signed_decimal}
use Rattle.yq_core.{specs.declared.kind.Kind.Kind, specs.Numbers.is_i64}
use Rattle.yq_core.{specs.Paths.{To, child_at, change_child, append_child, append_children}, specs.SchemaReading.int_value}
use Rattle.yq_core.specs.Tree.{Node, alias, scalar, list, map, Children, none, child, key_label}
use Rattle.yq_outline.specs.Outline.{null_node}
use Rattle.yq_semantics.specs.declared.refusal.Refusal.TheVariants.{NotOneValue, KindMismatch, IntegerRange, FloatArithmetic}
use Rattle.yq_semantics.{specs.Judgement.{Judgement, and_then, gives, refuses}, specs.Program.{Term, literal, found}, specs.Copies.copy_at}
use Rattle.yq_semantics.{specs.Pipes.pipe_on, specs.Places.FoundPlace}
use Rattle.yq_core.specs.declared.kind.Kind.TheVariants as kinds

-- whether a node is null (YAML 1.2.2, section 10.2.1.1)
abbrev pub is_null : Node → Bool
is_null (alias name) = false
is_null (scalar anchor kinds.Null text) = true
is_null (scalar anchor kind text) = false
is_null (list anchor cs) = false
is_null (map anchor cs) = false

-- the sum of two numbers of 64 bits, if it is one too (own)
abbrev pub int_sum : Option ℤ → Option ℤ → Judgement Node
int_sum (Some m) (Some n) = if is_i64 (m +ℤ n) then gives (scalar None kinds.Int (signed_decimal (m +ℤ n))) else refuses IntegerRange
int_sum (Some m) None = refuses IntegerRange
int_sum None n = refuses IntegerRange

-- the sum of two scalars, neither of which is null (own)
abbrev pub scalar_sum : Kind → List ℕ → Kind → List ℕ → Judgement Node
scalar_sum kinds.Int t kinds.Int u = int_sum (int_value t) (int_value u)
scalar_sum kinds.Int t kinds.Float u = refuses FloatArithmetic
scalar_sum kinds.Float t kinds.Int u = refuses FloatArithmetic
scalar_sum kinds.Float t kinds.Float u = refuses FloatArithmetic
scalar_sum kinds.Text t kinds.Text u = gives (scalar None kinds.Text (t ++ u))
scalar_sum kind t other u = refuses KindMismatch

-- what a list gets from a value: the items of a list, or the value as one item (own)
abbrev pub as_items : Node → Children
as_items (alias name) = child (key_label None) (alias name) none
as_items (scalar anchor kind text) = child (key_label None) (scalar anchor kind text) none
as_items (list anchor cs) = cs
as_items (map anchor cs) = child (key_label None) (map anchor cs) none

-- entries with a value for a key: a present key's value is replaced, a new key goes last (own)
abbrev pub with_entry : Option (List ℕ) → Node → Children → Children
with_entry None v cs = append_child (key_label None) v cs
with_entry (Some k) v cs = if is_some (child_at (To k) cs) then change_child (To k) (λ old. v) cs else append_child (key_label (Some k)) v cs

-- entries with those of others, one after the other (own)
abbrev pub with_entries : Children → Children → Children
with_entries cs none = cs
with_entries cs (child label v ds) = with_entries (with_entry label.key v cs) ds

-- the sum of two values, neither of which is null (own)
abbrev pub value_sum : Node → Node → Judgement Node
value_sum (list a cs) v = gives (list None (append_children cs (as_items v)))
value_sum (map a cs) (map b ds) = gives (map None (with_entries cs ds))
value_sum (scalar a kind t) (scalar b other u) = scalar_sum kind t other u
value_sum n v = refuses KindMismatch

-- the sum of two values (own)
abbrev pub sum : Node → Node → Judgement Node
sum n v = if is_null n then gives v else (if is_null v then gives n else value_sum n v)

-- a copy of the one place that there is (own)
abbrev pub only_copy : List FoundPlace → Judgement Node
only_copy [] = refuses NotOneValue
only_copy (p ∷ []) = copy_at p
only_copy (p ∷ (q ∷ qs)) = refuses NotOneValue

-- the value of a term, from a place in the document of that number (own)
abbrev pub term_value : ℕ → FoundPlace → Term → Judgement Node
term_value doc p (literal v) = gives v
term_value doc p (found pipe) = and_then only_copy (pipe_on doc pipe (p ∷ []))

-- a value and then terms, each evaluated and then added (own)
abbrev pub sum_from : ℕ → FoundPlace → Node → List Term → Judgement Node
sum_from doc p v [] = gives v
sum_from doc p v (t ∷ ts) = and_then (λ u. and_then (λ w. sum_from doc p w ts) (sum v u)) (term_value doc p t)

-- the value of a sum of terms (own)
abbrev pub right_value : ℕ → List Term → FoundPlace → Judgement Node
right_value doc [] p = gives null_node
right_value doc (t ∷ ts) p = and_then (λ v. sum_from doc p v ts) (term_value doc p t)
