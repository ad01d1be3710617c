use Rattle.std.proofs.Common.{rules}
use Rattle.yq_text.proofs.SplitLaws.{moved_back, moved_on}
use Rattle.yq_text.proofs.text_gap_buffer.TextGapBuffer.move_split.Goals as goal

pub invariant_of-self : goal.invariant_of-self
invariant_of-self c = search (rules, moved_back)

pub invariant_of-self-else-at-self : goal.invariant_of-self-else-at-self
invariant_of-self-else-at-self c = search (rules, moved_on)

pub returns-then-at-self-clause-back : goal.returns-then-at-self-clause-back
returns-then-at-self-clause-back c = search (rules, moved_back)

pub returns-else-at-self-clause-front : goal.returns-else-at-self-clause-front
returns-else-at-self-clause-front c = search (rules, moved_on)

pub returns-else-at-self-clause-back : goal.returns-else-at-self-clause-back
returns-else-at-self-clause-back c = search (rules, moved_on)
