use Rattle.std.proofs.Common.{arith, sym, ◌∙◌}
use Rattle.yq_semantics.specs.Tokens.{is_token_blank}
use Rattle.yq_core.proofs.Prefixes.{prefix_more, prefix_stop, prefix_end}
use Rattle.yq_expr_parser.proofs.token.blanks_len.Goals as goal

pub blanks-preserved : goal.blanks-preserved
blanks-preserved c = record {
  within = omega (arith, c.blanks-test.true);
  so_far = prefix_more is_token_blank c.args.text.now c.blanks.n _ c.blanks-test.true (sym c.is_blank_byte.ensures ∙ c.if-is_blank_byte.true) c.blanks.invariant.so_far;
}

pub returns-else-is_blank_byte-clause-value : goal.returns-else-is_blank_byte-clause-value
returns-else-is_blank_byte-clause-value c = prefix_stop is_token_blank c.args.text.now c.blanks.n _ c.blanks-test.true (sym c.is_blank_byte.ensures ∙ c.if-is_blank_byte.false) c.blanks.invariant.so_far

pub returns-after-blanks-clause-value : goal.returns-after-blanks-clause-value
returns-after-blanks-clause-value c = prefix_end is_token_blank c.args.text.now c.blanks.n _ c.blanks-test.false c.blanks.invariant.so_far
