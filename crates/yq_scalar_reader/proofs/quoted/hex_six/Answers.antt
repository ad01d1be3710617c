use Rattle.std.proofs.Common.{sym, ap, ◌∙◌}
use Rattle.yq_core.{specs.QuotedReading.hex, proofs.EscapeLaws.{hex_none, hex_some, hex_within}}
use Rattle.yq_scalar_reader.proofs.quoted.hex_six.Goals as goal

pub split_at-requires : goal.split_at-requires
split_at-requires c = hex_within 2 c.args.front c.in_ok-high.high c.args.text.now (sym c.in_ok-high.ensures.value)

pub returns-in_err-high : goal.returns-in_err-high
returns-in_err-high c = c.from_residual.ensures ∙ sym (hex_none 4 c.args.front c.args.text.now (sym c.in_err-high.ensures.value))

pub returns : goal.returns
returns c = c.hex_four.ensures ∙ (ap (hex 4 c.in_ok-high.high) c.split_at.ensures.back ∙ sym (hex_some 4 c.args.front c.in_ok-high.high c.args.text.now (sym c.in_ok-high.ensures.value)))
