use Rattle.std.proofs.Common.{◌≡◌, ◌++◌, take}
use Rattle.yq_journal.proofs.squash.extend.Given as goal

abbrev pub invariant-more : goal.invariant-more
invariant-more l = l.splices.items ≡ l.fn.splices.items ++ take l.splice-index l.more
