use Rattle.std.{proofs.Common.{◌≡◌, true, take}, specs.Prelude.is_some}
use Rattle.yq_text.specs.Splice.{all_done}
use Rattle.yq_journal.specs.Turned.{turned_splices}
use Rattle.yq_journal.proofs.applies.are_there.Given as goal

abbrev pub invariant-splices : goal.invariant-splices
invariant-splices l = is_some (all_done (take l.k (turned_splices l.turned)) l.text) ≡ true
