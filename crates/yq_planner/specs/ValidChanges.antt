-- Changes and operations whose values are the trees of values.
use Rattle.std.specs.Prelude.{List, [], ◌∷◌, IfOk, Result, ⊤}
use Rattle.yq_flow_edits.specs.Valued.{IsValueTree}
use Rattle.yq_semantics.{specs.Changes.{Addition, Change, replaces, adds, removes, sets_comment, value_in}, specs.declared.op.Op.Op}
use Rattle.yq_semantics.specs.Operations.{Operation, replace, append, remove, line_comment, head_comment, operations_of}
use Rattle.yq_planner.{specs.ChangeView.{addition_of, change_of}, specs.declared.updating.change.PlacedChange.PlacedChange}
use Rattle.yq_planner.specs.declared.updating.change.ChangesUnder.{ChangesUnder}
use Rattle.yq_planner.specs.declared.updating.change.Addition as addition

-- something is so of each (own)
abbrev pub Each : {X : Type 0} → (X → Type 0) → List X → Type 0
Each P [] = ⊤
Each P (x ∷ xs) = P x × Each P xs

-- the value of an addition is the tree of one (own)
abbrev pub AddsValid : Addition → Type 0
AddsValid x = IsValueTree (value_in x)

-- the values of a change are such (own)
abbrev pub IsValidChange : Change → Type 0
IsValidChange (replaces v) = IsValueTree v
IsValidChange (adds xs) = Each AddsValid xs
IsValidChange removes = ⊤
IsValidChange (sets_comment place text) = ⊤

-- those of additions of the code are (own)
abbrev pub AreAddedValid : List addition.Addition → Type 0
AreAddedValid xs = Each (λ x. AddsValid (addition_of x)) xs

-- those of changes of the code are (own)
abbrev pub AreValidChanges : List PlacedChange → Type 0
AreValidChanges cs = Each (λ c. IsValidChange (change_of c.change)) cs

-- those of an answer's changes are (own)
abbrev pub GivesValid : {E : Type 0} → Result ChangesUnder E → Type 0
GivesValid result = IfOk result (λ x. AreValidChanges x.changes.items)

-- those of changes before and after a call are, where those before it are (own)
abbrev pub StayValid : {X E : Type 0} → Result X E → (before after : List PlacedChange) → Type 0
StayValid result before after = AreValidChanges before → IfOk result (λ _. AreValidChanges after)

-- those of the changes of each document are (own)
abbrev pub AreAllValid : List ChangesUnder → Type 0
AreAllValid xs = Each (λ x. AreValidChanges x.changes.items) xs

-- the value of an operation is the tree of one (own)
abbrev pub HasValidValue : Operation → Type 0
HasValidValue (replace doc steps v) = IsValueTree v
HasValidValue (append doc steps key v) = IsValueTree v
HasValidValue (remove doc steps) = ⊤
HasValidValue (line_comment doc steps text) = ⊤
HasValidValue (head_comment doc steps text) = ⊤

-- the values of operations are such (own)
abbrev pub HaveValidValues : List Operation → Type 0
HaveValidValues ops = Each HasValidValue ops

-- those of operations of the code are (own)
abbrev pub HoldValidValues : List Op → Type 0
HoldValidValues ops = HaveValidValues (operations_of ops)

-- those of operations before and after a call are, where those before it are (own)
abbrev pub KeepValidValues : {X E : Type 0} → Result X E → (before after : List Op) → Type 0
KeepValidValues result before after = HoldValidValues before → IfOk result (λ _. HoldValidValues after)
