use Rattle.std.proofs.Common.{arith, sym, ◌∙◌}
use Rattle.yq_semantics.specs.Tokens.{is_name_byte}
use Rattle.yq_core.proofs.Prefixes.{prefix_more, prefix_stop, prefix_end}
use Rattle.yq_expr_parser.proofs.token.measure.name_len.Goals as goal

pub name-preserved : goal.name-preserved
name-preserved c = record {
  within = omega (arith, c.name-test.true);
  so_far = prefix_more is_name_byte c.args.text.now c.name.n _ c.name-test.true (sym c.is_name_char.ensures ∙ c.if-is_name_char.true) c.name.invariant.so_far;
}

pub returns-else-is_name_char-clause-value : goal.returns-else-is_name_char-clause-value
returns-else-is_name_char-clause-value c = prefix_stop is_name_byte c.args.text.now c.name.n _ c.name-test.true (sym c.is_name_char.ensures ∙ c.if-is_name_char.false) c.name.invariant.so_far

pub returns-after-name-clause-value : goal.returns-after-name-clause-value
returns-after-name-clause-value c = prefix_end is_name_byte c.args.text.now c.name.n _ c.name-test.false c.name.invariant.so_far
