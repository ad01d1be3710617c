-- The program that a value of the code means.
use Rattle.std.specs.Prelude.{map, string_bytes}
use Rattle.yq_semantics.specs.Program.{PathStep, key, index, each, Operand, value_at, document_index, Condition, compares, has, Stage, path}
use Rattle.yq_semantics.specs.Program.{select, Term, literal, found, Update, assign, delete, comment, Program, read, updates}
use Rattle.yq_core.specs.Values.{value_node}
use Rattle.yq_semantics.specs.declared.program.PathStep as step
use Rattle.yq_semantics.specs.declared.program.Operand as operand
use Rattle.yq_semantics.specs.declared.program.Condition as condition
use Rattle.yq_semantics.specs.declared.program.Stage as stage
use Rattle.yq_semantics.specs.declared.program.Term as term
use Rattle.yq_semantics.specs.declared.program.Update as update
use Rattle.yq_semantics.specs.declared.program.Syntax as syntax

-- the step that one of the code means (own)
abbrev pub program_step : step.PathStep → PathStep
program_step (step.TheVariants.Key k) = key (string_bytes k)
program_step (step.TheVariants.Index n) = index n
program_step step.TheVariants.Each = each

-- the operand that one of the code means (own)
abbrev pub operand_of : operand.Operand → Operand
operand_of (operand.TheVariants.Path steps) = value_at (map program_step steps.items)
operand_of operand.TheVariants.DocumentIndex = document_index

-- the condition that one of the code means (own)
abbrev pub condition_of : condition.Condition → Condition
condition_of (condition.TheVariants.Compare c) = compares (operand_of c.operand) c.equal c.scalar.kind c.scalar.text
condition_of (condition.TheVariants.Has k) = has (string_bytes k)

-- the stage that one of the code means (own)
abbrev pub stage_of : stage.Stage → Stage
stage_of (stage.TheVariants.Path steps) = path (map program_step steps.items)
stage_of (stage.TheVariants.Select c) = select (condition_of c)

-- the term that one of the code means (own)
abbrev pub term_of : term.Term → Term
term_of (term.TheVariants.Literal v) = literal (value_node v)
term_of (term.TheVariants.Pipe stages) = found (map stage_of stages.items)

-- the update that one of the code means (own)
abbrev pub update_of : update.Update → Update
update_of (update.TheVariants.Assign a) = assign (map stage_of a.left.items) a.operator (map term_of a.right.items)
update_of (update.TheVariants.Delete stages) = delete (map stage_of stages.items)
update_of (update.TheVariants.Comment c) = comment (map stage_of c.left.items) c.place (string_bytes c.text)

-- the program that a syntax tree of the code means (own)
abbrev pub program_of : syntax.Syntax → Program
program_of (syntax.TheVariants.Read stages) = read (map stage_of stages.items)
program_of (syntax.TheVariants.Updates us) = updates (map update_of us.items)
