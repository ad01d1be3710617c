use Rattle.std.{proofs.Common.arith, proofs.lemmas.Bool.ltb-true}
use Rattle.yq_lookup.proofs.line_above.next_row_before.Goals as goal

pub returns-then-at-last-clause-within : goal.returns-then-at-last-clause-within
returns-then-at-last-clause-within c = λ less. omega (arith, c.if-at-last.true, c.saturating_sub-last.ensures, c.len.ensures)

pub returns-then-at-last-clause-before : goal.returns-then-at-last-clause-before
returns-then-at-last-clause-before c = λ less. omega (arith, c.start.ensures, ltb-true _ _ less)
