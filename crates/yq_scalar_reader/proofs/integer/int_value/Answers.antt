use Rattle.std.proofs.Common.{◌∙◌, rules}
use Rattle.yq_scalar_reader.proofs.IntegerLaws.{value_takes, value_again}
use Rattle.yq_scalar_reader.proofs.integer.int_value.Goals as goal

pub returns-clause-found : goal.returns-clause-found
returns-clause-found c = search (rules, value_takes)

pub returns-clause-only : goal.returns-clause-only
returns-clause-only c = λ n is fits. c.number_of.ensures ∙ value_again c.args.text.now n is fits
