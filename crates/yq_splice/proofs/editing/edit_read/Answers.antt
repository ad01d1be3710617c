use Rattle.std.proofs.Common.{◌<◌, sym, ◌∙◌, arith}
use Rattle.yq_documents.specs.Reading.{cut_of}
use Rattle.yq_semantics.{specs.Program.update_count, specs.View.program_of}
use Rattle.yq_edit_laws.specs.Edit.{gives}
use Rattle.yq_splice.proofs.AnswerLaws.{each_exact, each_edited, each_refused, none_done, none_edited, read_done, read_refused}
use Rattle.yq_splice.proofs.SessionLaws.{has_reading}
use Rattle.yq_splice.proofs.editing.edit_read.Goals as goal

pub returns-then-is_read-clause-exact : goal.returns-then-is_read-clause-exact
returns-then-is_read-clause-exact c = rw (c.unnamed.ensures, c.error.ensures) (read_done (program_of c.args.program.now) c.args.text.now (sym c.is_read.ensures ∙ c.if-is_read.true))

pub returns-then-is_read-clause-refused : goal.returns-then-is_read-clause-refused
returns-then-is_read-clause-refused c =
    rw (c.unnamed.ensures, c.error.ensures)
    (read_refused (program_of c.args.program.now) c.args.text.now (sym c.is_read.ensures ∙ c.if-is_read.true) (has_reading c.args.text.now (cut_of c.args.documents) c.requires.read))

pub returns-then-updates-eq0-clause-exact : goal.returns-then-updates-eq0-clause-exact
returns-then-updates-eq0-clause-exact c =
    none_done (program_of c.args.program.now) c.args.text.now (sym c.is_read.ensures ∙ c.if-is_read.false) (sym c.updates.ensures ∙ c.if-updates-eq0.true)
    ∙ (λ i. gives (sym c.in_ok-unchanged.ensures.0 i) (sym c.in_ok-unchanged.ensures.1 i))

pub returns-then-updates-eq0-clause-edited : goal.returns-then-updates-eq0-clause-edited
returns-then-updates-eq0-clause-edited c =
    none_edited (program_of c.args.program.now) c.args.text.now _ _ (sym c.is_read.ensures ∙ c.if-is_read.false) (sym c.updates.ensures ∙ c.if-updates-eq0.true) c.in_ok-unchanged.ensures.0 c.in_ok-unchanged.ensures.1

pub returns-clause-exact : goal.returns-clause-exact
returns-clause-exact c =
    let some : 0 < update_count (program_of c.args.program.now) = omega (arith, c.updates.ensures, c.if-updates-eq0.false) in
    each_exact c.update_each.result (program_of c.args.program.now) c.args.text.now some c.update_each.ensures.ok c.update_each.ensures.err

pub returns-clause-edited : goal.returns-clause-edited
returns-clause-edited c =
    let some : 0 < update_count (program_of c.args.program.now) = omega (arith, c.updates.ensures, c.if-updates-eq0.false) in
    each_edited c.update_each.result (program_of c.args.program.now) c.args.text.now some c.update_each.ensures.ok

pub returns-clause-refused : goal.returns-clause-refused
returns-clause-refused c =
    let some : 0 < update_count (program_of c.args.program.now) = omega (arith, c.updates.ensures, c.if-updates-eq0.false) in
    each_refused c.update_each.result (program_of c.args.program.now) c.args.text.now some c.update_each.ensures.err
