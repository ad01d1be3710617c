-- Operations of the code at and below a node, and at other paths than their own (own).
use Rattle.std.specs.Prelude.{◌≡◌, ℕ, List, ◌++◌, length, map, take, Option, option_map, IfSome, string_bytes}
use Rattle.yq_core.{specs.Entries.tree_step, specs.Values.value_node}
use Rattle.yq_documents.{specs.Located.steps_of, specs.declared.path.Path.Path}
use Rattle.yq_semantics.{specs.Operations.{Operation, append, head_comment, line_comment, remove, replace}, specs.Under.ops_under}
use Rattle.yq_semantics.specs.declared.op.Op.{Op}
use Rattle.yq_edit_laws.{specs.Carried.carry_all, specs.Edit.{Edit, edit_after}, specs.Valid.AreServed}
use Rattle.yq_batch.{specs.declared.together.Together.Together, specs.declared.under.OpAt.OpAt}
use Rattle.yq_core.specs.declared.path.Step as declared
use Rattle.yq_semantics.specs.declared.op.Op as op

-- the path of an operation
abbrev pub path_in : Op → Path
path_in (op.TheVariants.Replace p v) = p
path_in (op.TheVariants.Append p key v) = p
path_in (op.TheVariants.Remove p) = p
path_in (op.TheVariants.LineComment p text) = p
path_in (op.TheVariants.HeadComment p text) = p

-- what an operation means at another path
abbrev pub op_at : Path → Op → Operation
op_at p (op.TheVariants.Replace own v) = replace p.doc (steps_of p) (value_node v)
op_at p (op.TheVariants.Append own key v) = append p.doc (steps_of p) (option_map string_bytes key) (value_node v)
op_at p (op.TheVariants.Remove own) = remove p.doc (steps_of p)
op_at p (op.TheVariants.LineComment own text) = line_comment p.doc (steps_of p) (string_bytes text)
op_at p (op.TheVariants.HeadComment own text) = head_comment p.doc (steps_of p) (string_bytes text)

-- what one means with its path from the root on
abbrev pub op_meant : OpAt → Operation
op_meant x = op_at x.path.now x.op.now

-- a path is that of an operation, from the root on, where its own begins at the node to which these steps lead
abbrev pub IsPathUnder : List declared.Step → Op → Path → Type 0
IsPathUnder front o p = (p.doc ≡ (path_in o).doc) × (steps_of p ≡ map tree_step front ++ steps_of (path_in o))

-- the first steps of a path are these
abbrev pub BeginsWith : List declared.Step → Path → Type 0
BeginsWith front p = take (length front) (steps_of p) ≡ map tree_step front

-- what operations at and below a node give of which the first ones were carried out together, with those that are left
abbrev pub all_of_under : List declared.Step → Together → Edit
all_of_under front x = edit_after x.edited.splices.items (carry_all (ops_under front x.left.now) (string_bytes x.edited.text))

-- The first of some operations at and below a node were carried out on a text together, and the others then give what all give.
pub record CarriesUnder (front : List declared.Step) (ops : List Op) (t : List ℕ) (x : Together) : Type 0 where
  pub whole : all_of_under front x ≡ carry_all (ops_under front ops) t
  pub serves : AreServed (ops_under front x.left.now) (string_bytes x.edited.text)

-- the same of what the code made of them, if it did
abbrev pub MayCarryUnder : List declared.Step → List Op → List ℕ → Option Together → Type 0
MayCarryUnder front ops t o = IfSome o (CarriesUnder front ops t)
