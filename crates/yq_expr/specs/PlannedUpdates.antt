-- What an update means for the documents of a text, and its plan (own).
use Rattle.std.{specs.Prelude.{◌≡◌, ℕ, List, Result, Some}, specs.Global.Vec}
use Rattle.yq_documents.{specs.Documents.Document, specs.Reading.documents_of}
use Rattle.yq_semantics.{specs.After.all_after, specs.Fits.AllFit, specs.Judgement.{Judgement, Judges, ExprError}, specs.Meaning.meaning}
use Rattle.yq_semantics.{specs.Operations.{Operation, operations_of}, specs.Plans.plan, specs.Program.{Update, update_at}}
use Rattle.yq_semantics.{specs.Rooms.room_of, specs.View.{program_of, update_of}, specs.declared.op.Op.Op, specs.Under.all_under}
use Rattle.yq_semantics.{specs.declared.under.OpsUnder.OpsUnder, specs.declared.program.Syntax.Syntax}
use Rattle.yq_expr.{specs.Parts.{LeavesOps, document_ops, rest_ops}, specs.declared.plans.parts.PlanPart.PlanPart}
use Rattle.yq_expr.specs.declared.plans.document.DocumentRoot.{DocumentRoot}
use Rattle.yq_nodes.specs.Nodes.{node_of}
use Rattle.yq_semantics.specs.declared.program.Update as declared

-- a program has that update, counted from 0 (own)
abbrev pub IsUpdateAt : ℕ → Syntax → Update → Type 0
IsUpdateAt nth program u = update_at nth (program_of program) ≡ Some u

-- something is so of the update of that number of a program (own)
abbrev pub ForUpdate : ℕ → Syntax → (Update → Type 0) → Type 0
ForUpdate nth program P = (u : Update) → IsUpdateAt nth program u → P u

-- what an update makes of the documents of a text, or why it is refused, by the room that the text has (own)
abbrev pub meaning_in : Update → List ℕ → Judgement (List Document)
meaning_in u t = meaning u (room_of t) (documents_of t)

-- the plan of an update for the documents of a text (own)
abbrev pub plan_in : Update → List ℕ → Judgement (List Operation)
plan_in u t = plan u (room_of t) (documents_of t)

-- an answer's operations are the plan of an update for the documents of a text, or its refusal is the plan's (own)
abbrev pub JudgesPlan : Result (Vec Op) ExprError → Update → List ℕ → Type 0
JudgesPlan result u t = Judges (λ v. operations_of v.items) result (plan_in u t)

-- the same of operations at and below nodes (own)
abbrev pub JudgesParts : Result (Vec OpsUnder) ExprError → Update → List ℕ → Type 0
JudgesParts result u t = Judges (λ v. all_under v.items) result (plan_in u t)

-- the documents of a text after operations, one after the other (own)
abbrev pub documents_after : List Op → List ℕ → List Document
documents_after ops t = all_after (room_of t) (operations_of ops) (documents_of t)

-- operations fit the documents of a text, each at its turn (own)
abbrev pub AllFitIn : List Op → List ℕ → Type 0
AllFitIn ops t = AllFit (room_of t) (operations_of ops) (documents_of t)

-- what is left of the plan from a place of the document of that number on (own)
abbrev pub rest_in : Update → List ℕ → ℕ → ℕ → Judgement (List Operation)
rest_in u t doc place = rest_ops u (room_of t) (documents_of t) doc place

-- the operations of a part are what is left of the plan from a place on, but for what is left after the part (own)
abbrev pub IsPartOfPlan : Update → List ℕ → ℕ → ℕ → PlanPart → Type 0
IsPartOfPlan u t doc place p = LeavesOps u (room_of t) (documents_of t) doc place (operations_of p.ops.items) p.doc p.place

-- the operations of an update in a document, at its places from the one of an index on (own)
abbrev pub ops_inside : DocumentRoot → declared.Update → ℕ → Judgement (List Operation)
ops_inside d u place = document_ops (update_of u) d.doc (room_of d.documents.now d.doc) (node_of d.root) place
