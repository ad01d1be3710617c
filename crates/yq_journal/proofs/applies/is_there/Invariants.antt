use Rattle.std.proofs.Common.{◌≡◌, ℕ, List, Some, take, drop}
use Rattle.yq_text.specs.Splice.{all_done}
use Rattle.yq_journal.specs.Turned.{turned_splices}
use Rattle.yq_journal.proofs.applies.is_there.Given as goal

abbrev pub invariant-bytes : goal.invariant-bytes
invariant-bytes l = (b : List ℕ) → all_done (take l.count (turned_splices l.turned)) l.text ≡ Some b → take l.j (drop l.at b) ≡ take l.j l.old
