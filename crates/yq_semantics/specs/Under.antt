-- Changes and operations at and below a node, whose paths begin there.
use Rattle.std.{specs.Prelude.{◌≡◌, List, [], ◌∷◌, ◌++◌, map, IfOk, IfSome, OnOk, Option, Result}, specs.Global.Vec}
use Rattle.yq_core.{specs.Entries.tree_step, specs.Paths.Step}
use Rattle.yq_semantics.{specs.Changes.Changed, specs.declared.op.Op.Op, specs.declared.under.OpsUnder.OpsUnder}
use Rattle.yq_semantics.specs.Operations.{Operation, replace, append, remove, line_comment, head_comment, operation_of, operations_of}
use Rattle.yq_core.specs.declared.path.Step as declared

-- the change that one is whose path begins at the node to which these steps lead (own)
abbrev pub change_under : List Step → Changed → Changed
change_under front c = (front ++ c.0, c.1)

-- the same of an operation (own)
abbrev pub operation_under : List Step → Operation → Operation
operation_under front (replace doc steps v) = replace doc (front ++ steps) v
operation_under front (append doc steps key v) = append doc (front ++ steps) key v
operation_under front (remove doc steps) = remove doc (front ++ steps)
operation_under front (line_comment doc steps text) = line_comment doc (front ++ steps) text
operation_under front (head_comment doc steps text) = head_comment doc (front ++ steps) text

-- the same of one of the code (own)
abbrev pub op_under : List declared.Step → Op → Operation
op_under front op = operation_under (map tree_step front) (operation_of op)

-- and of several (own)
abbrev pub ops_under : List declared.Step → List Op → List Operation
ops_under front ops = map (operation_under (map tree_step front)) (operations_of ops)

-- the operations that those of a part mean (own)
abbrev pub part_ops : OpsUnder → List Operation
part_ops x = ops_under x.front.items x.ops.items

-- those of all parts, in order (own)
abbrev pub all_under : List OpsUnder → List Operation
all_under [] = []
all_under (x ∷ xs) = part_ops x ++ all_under xs

-- a success puts these steps after those that were there (own)
abbrev pub PutsSteps : {T E : Type 0} → Result T E → (old new : Vec declared.Step) → List declared.Step → Type 0
PutsSteps r old new steps = OnOk r (map tree_step new.items ≡ map tree_step old.items ++ map tree_step steps)

-- a success puts these operations after those that were there (own)
abbrev pub PutsOps : {T E : Type 0} → Result T E → (old new : Vec Op) → List Operation → Type 0
PutsOps r old new ops = OnOk r (operations_of new.items ≡ operations_of old.items ++ ops)

-- where an answer has operations, they are these (own)
abbrev pub MayGiveOps : {E : Type 0} → Result (Option (Vec Op)) E → List Operation → Type 0
MayGiveOps r ops = IfOk r (λ o. IfSome o (λ v. operations_of v.items ≡ ops))
