use Rattle.std.proofs.Common.{sym, ◌∙◌, rules}
use Rattle.yq_core.specs.PlainText.{needs_quotes}
use Rattle.yq_scalar_reader.proofs.LoopLaws.{rest_found, rest_next, rest_none}
use Rattle.yq_scalar_reader.proofs.plain_text.needs_no_quotes.Goals as goal

pub returns-then-needs_quotes : goal.returns-then-needs_quotes
returns-then-needs_quotes c = search (rules, rest_found)

pub each-preserved : goal.each-preserved
each-preserved c = search (rules, rest_next)

pub returns : goal.returns
returns c = sym (rest_none (needs_quotes c.args.flow) c.each.rest.now c.in_default.len_below) ∙ c.each.invariant
