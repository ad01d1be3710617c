use Rattle.std.proofs.Common.{sym, ◌∙◌}
use Rattle.yq_journal.proofs.JoinLaws.{short_meet}
use Rattle.yq_journal.proofs.squash.meets.Goals as goal

pub returns : goal.returns
returns c = sym (short_meet c.pairs.rest.now c.in_default.len_below) ∙ c.pairs.invariant
