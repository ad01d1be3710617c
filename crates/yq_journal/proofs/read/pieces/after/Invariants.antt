use Rattle.std.proofs.Common.{◌≡◌, take}
use Rattle.yq_journal.proofs.read.pieces.after.Given as goal

abbrev pub invariant-bytes : goal.invariant-bytes
invariant-bytes l = take l.i l.text ≡ take l.i l.bytes
