use Rattle.std.proofs.Common.{◌∙◌}
use Rattle.yq_scalar_reader.proofs.IntegerLaws.{decimal_parsed}
use Rattle.yq_scalar_reader.proofs.integer.decimal_value.Goals as goal

pub returns : goal.returns
returns c = c.ok.ensures.value ∙ decimal_parsed c.args.text.now _ c.from_str_radix.ensures.value
