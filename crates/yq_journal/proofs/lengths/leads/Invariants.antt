use Rattle.std.proofs.Common.{◌≡◌, drop}
use Rattle.yq_text.specs.Splice.{lengths_done}
use Rattle.yq_journal.proofs.lengths.leads.Given as goal

abbrev pub invariant-splices : goal.invariant-splices
invariant-splices l = lengths_done (drop l.splice-index l.splices) l.length ≡ lengths_done l.splices l.before_len
