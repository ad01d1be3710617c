-- What operations, updates and programs make of a text.
use Rattle.std.specs.Prelude.{ℕ, List}
use Rattle.yq_row_table.specs.Rows.{Cut}
use Rattle.yq_documents.specs.Reading.{documents, read_at}
use Rattle.yq_semantics.{specs.Judgement.Judgement, specs.Operations.Operation, specs.Plans.plan}
use Rattle.yq_semantics.{specs.Program.{Program, Update, read, updates}, specs.Rooms.room_of}
use Rattle.yq_semantics.specs.declared.refusal.Refusal.TheVariants.{NotAnUpdate}
use Rattle.yq_edit_rules.specs.Edits.{op_edits, or_stay}
use Rattle.yq_edit_laws.specs.Edit.{Edit, refuses, in_order, by_reading, edit_of_segments}
use Rattle.yq_semantics.specs.Judgement as judgement

-- an operation carried out on the text of a cut (own)
abbrev pub carry_one : Operation → Cut → Edit
carry_one op c = edit_of_segments (or_stay c (op_edits op c))

-- the same by the reading of a text (own)
abbrev pub carried : Operation → List ℕ → Edit
carried op t = by_reading (carry_one op) (read_at t)

-- operations carried out one after the other, each on the text as it then is (own)
abbrev pub carry_all : List Operation → List ℕ → Edit
carry_all = in_order carried

-- a plan carried out on a text (own)
abbrev pub carry_out : List ℕ → Judgement (List Operation) → Edit
carry_out t (judgement.gives ops) = carry_all ops t
carry_out t (judgement.refuses why) = refuses why

-- an update carried out on a text: the operations of its plan (own)
abbrev pub updated : Update → List ℕ → Edit
updated u t = by_reading (λ c. carry_out t (plan u (room_of t) (documents c))) (read_at t)

-- a program carried out on a text that has a reading, update after update (own)
abbrev pub program_done : Program → List ℕ → Edit
program_done (read stages) t = refuses NotAnUpdate
program_done (updates us) t = in_order updated us t

-- what a program makes of a text (own)
unfoldable pub edit_of : Program → List ℕ → Edit
edit_of p t = by_reading (λ c. program_done p t) (read_at t)
