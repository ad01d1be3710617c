use Rattle.std.proofs.Common.{arith}
use Rattle.yq_core.{proofs.HeaderLaws.{head_length, tail_length}, proofs.BlockFound.{raw_within, piece_is}}
use Rattle.yq_scalar.proofs.block.read_at.Goals as goal

pub overflow_sub-head_end : goal.overflow_sub-head_end
overflow_sub-head_end c = omega (arith, head_length _ _ _ _ _ _ c.in_ok-style.ensures.read c.split_indicators-digit.ensures)

pub overflow_add-raw_start : goal.overflow_add-raw_start
overflow_add-raw_start c = omega (arith, c.requires.fits, head_length _ _ _ _ _ _ c.in_ok-style.ensures.read c.split_indicators-digit.ensures, tail_length _ _ _ c.in_ok-tail.ensures.read)

pub overflow_add-result : goal.overflow_add-result
overflow_add-result c = omega (arith, c.requires.fits, head_length _ _ _ _ _ _ c.in_ok-style.ensures.read c.split_indicators-digit.ensures, tail_length _ _ _ c.in_ok-tail.ensures.read, raw_within _ _ _ _ c.in_ok-len.ensures.read)

pub returns-clause-read : goal.returns-clause-read
returns-clause-read c =
    piece_is c.args.start c.args.least c.args.text.now _ _ _ _ _ _ _ _ _ _ _ c.in_ok-style.ensures.read c.split_indicators-digit.ensures
    c.in_ok-tail.ensures.read c.in_ok-indent.ensures.read c.keeps-keep.ensures c.in_ok-len.ensures.read c.style_of.ensures
