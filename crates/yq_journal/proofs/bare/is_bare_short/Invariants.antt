use Rattle.yq_journal.specs.Bare.{IsBareBetween}
use Rattle.yq_journal.proofs.bare.is_bare_short.Given as goal

abbrev pub invariant-bytes : goal.invariant-bytes
invariant-bytes l = IsBareBetween l.limit l.text 0 l.i
