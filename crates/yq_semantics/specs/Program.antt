-- Programs: what an expression says, apart from how it is written.
use Rattle.std.{specs.Prelude.{◌≡◌, ℕ, ℤ, ◌≤◌, Bool, true, false, List, [], ◌∷◌, length, slice_get, Option, None, ⊤}, specs.List.list_all}
use Rattle.yq_core.{specs.declared.kind.Kind.Kind, specs.Keys.depth, specs.Shapes.IsTree, specs.Tree.Node, specs.Anchors.names_of}
use Rattle.yq_semantics.{specs.declared.program.Operator.Operator, specs.declared.program.CommentPlace.CommentPlace}

-- a step of a path: to the value of a key, to an item by its index, or to each item or value (own)
pub data PathStep : Type 0 where
  key : List ℕ → PathStep
  index : ℤ → PathStep
  each : PathStep

-- what is compared: the value that steps lead to, or the number of the document (own)
pub data Operand : Type 0 where
  value_at : List PathStep → Operand
  document_index : Operand

-- what `select` asks: a comparison, equal or not, with a scalar, or that there is a key (own)
pub data Condition : Type 0 where
  compares : Operand → Bool → Kind → List ℕ → Condition
  has : List ℕ → Condition

-- a stage of a pipe (own)
pub data Stage : Type 0 where
  path : List PathStep → Stage
  select : Condition → Stage

-- a term of a sum: a literal, which is a node without anchors and comments, or what a pipe finds (own)
pub data Term : Type 0 where
  literal : Node → Term
  found : List Stage → Term

-- an update: of what a pipe finds, by a sum; its removal; or the text of its comment (own)
pub data Update : Type 0 where
  assign : List Stage → Operator → List Term → Update
  delete : List Stage → Update
  comment : List Stage → CommentPlace → List ℕ → Update

-- a program: a pipe, which is a read, or updates (own)
pub data Program : Type 0 where
  read : List Stage → Program
  updates : List Update → Program

-- whether a program is a read (own)
abbrev pub is_read : Program → Bool
is_read (read stages) = true
is_read (updates us) = false

-- how many updates a program has (own)
abbrev pub update_count : Program → ℕ
update_count (read stages) = 0
update_count (updates us) = length us

-- update n of a program, counted from 0 (own)
abbrev pub update_at : ℕ → Program → Option Update
update_at n (read stages) = None
update_at n (updates us) = slice_get us n

-- whether a step leads to one item or value at most (own)
abbrev pub is_single : PathStep → Bool
is_single (key k) = true
is_single (index n) = true
is_single each = false

-- whether a step is an index (own)
abbrev pub is_index : PathStep → Bool
is_index (key k) = false
is_index (index n) = true
is_index each = false

-- whether a path has no `[]` (own)
abbrev pub is_simple : List PathStep → Bool
is_simple steps = list_all is_single steps

-- a value as it may be written: a tree, whose keys differ in each mapping, without anchors and aliases, in which 64 collections at most are nested (own)
pub record IsValue (n : Node) : Type 0 where
  pub tree : IsTree n
  pub unnamed : names_of n ≡ []
  pub nested : depth n ≤ 64

-- each literal of a sum is such (own)
abbrev pub SumHolds : List Term → Type 0
SumHolds [] = ⊤
SumHolds (literal n ∷ terms) = IsValue n × SumHolds terms
SumHolds (found stages ∷ terms) = SumHolds terms

-- each literal of updates is such (own)
abbrev pub UpdatesHold : List Update → Type 0
UpdatesHold [] = ⊤
UpdatesHold (assign left operator right ∷ us) = SumHolds right × UpdatesHold us
UpdatesHold (delete stages ∷ us) = UpdatesHold us
UpdatesHold (comment left place text ∷ us) = UpdatesHold us

-- each literal of a program is such (own)
abbrev pub LiteralsHold : Program → Type 0
LiteralsHold (read stages) = ⊤
LiteralsHold (updates us) = UpdatesHold us
