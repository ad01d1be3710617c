-- Where a step to a key or an item leads from a node.
use Rattle.std.specs.Prelude.{ℕ, suc, ◌-◌, nat_lt, ℤ, pos, negsuc, List, Option, None, option_map, if◌then◌else◌}
use Rattle.yq_core.{specs.declared.kind.Kind.Kind, specs.Paths.{To, Nth, child_at}, specs.Tree.{Node, alias, scalar, list, map, Children}}
use Rattle.yq_outline.specs.Counts.{count}
use Rattle.yq_semantics.specs.declared.refusal.Refusal.{Refusal}
use Rattle.yq_semantics.specs.declared.refusal.Refusal.TheVariants.{NotAMap, NotASequence, IndexOutOfRange, ThroughAlias}
use Rattle.yq_semantics.specs.Judgement.{Judgement, and_then, gives, refuses}
use Rattle.yq_core.specs.declared.kind.Kind.TheVariants as kinds
use Rattle.yq_core.specs.Paths as paths

-- the item or entry to which a step of the tree leads, with that step, or none (own)
abbrev pub ChildFound : Type 0
ChildFound = Option (paths.Step × Node)

-- what a step of the tree leads to (own)
abbrev pub step_child : paths.Step → Children → ChildFound
step_child s cs = option_map (λ n. (s, n)) (child_at s cs)

-- where a step leads from a scalar: to none in a null; any other scalar refuses (own)
abbrev pub in_scalar : Refusal → Kind → Judgement ChildFound
in_scalar why kinds.Null = gives None
in_scalar why kinds.Bool = refuses why
in_scalar why kinds.Int = refuses why
in_scalar why kinds.Float = refuses why
in_scalar why kinds.Text = refuses why

-- where a key step leads from a node: in a mapping to the entry of that key (own)
abbrev pub key_step : List ℕ → Node → Judgement ChildFound
key_step k (alias name) = refuses ThroughAlias
key_step k (scalar anchor kind text) = in_scalar NotAMap kind
key_step k (list anchor cs) = refuses NotAMap
key_step k (map anchor cs) = gives (step_child (To k) cs)

-- the number from 0 of the item that is so many before the last one, of so many items; before the first one there is none (own)
abbrev pub before_last : ℕ → ℕ → Judgement ℕ
before_last n all = if nat_lt n all then gives (all - suc n) else refuses IndexOutOfRange

-- the number from 0 of the item of an index: from 0 on it counts from the first item, from -1 down from the last one (own)
abbrev pub item_number : ℤ → Children → Judgement ℕ
item_number (pos n) cs = gives n
item_number (negsuc n) cs = before_last n (count cs)

-- the item of an index, if there is one (own)
abbrev pub item_at_index : ℤ → Children → Judgement ChildFound
item_at_index i cs = and_then (λ n. gives (step_child (Nth n) cs)) (item_number i cs)

-- where an index step leads from a node: in a sequence to the item of that index (own)
abbrev pub index_step : ℤ → Node → Judgement ChildFound
index_step i (alias name) = refuses ThroughAlias
index_step i (scalar anchor kind text) = in_scalar NotASequence kind
index_step i (list anchor cs) = item_at_index i cs
index_step i (map anchor cs) = refuses NotASequence
