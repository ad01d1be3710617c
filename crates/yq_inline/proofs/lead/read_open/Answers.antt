use Rattle.std.proofs.Common.{rules}
use Rattle.yq_inline.proofs.FormLaws.{unopened_gap, unopened_deep, opened_gap}
use Rattle.yq_inline.proofs.lead.read_open.Goals as goal

pub returns-in_err-rest-clause-read : goal.returns-in_err-rest-clause-read
returns-in_err-rest-clause-read c = search (rules, unopened_gap)

pub returns-then-depth-eq0-clause-read : goal.returns-then-depth-eq0-clause-read
returns-then-depth-eq0-clause-read c = unopened_deep c.args.depth c.args.text.now c.if-depth-eq0.true

pub returns-clause-read : goal.returns-clause-read
returns-clause-read c = opened_gap c.args.depth c.args.text.now c.in_ok-rest.field-0-0.now c.in_ok-rest.rest.now c.if-depth-eq0.false c.in_ok-rest.ensures.read
