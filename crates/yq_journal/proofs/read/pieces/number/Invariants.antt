use Rattle.std.proofs.Common.{◌≡◌, ◌<◌, ◌^◌, decimal, take}
use Rattle.yq_journal.proofs.read.pieces.number.Given as goal

abbrev pub invariant-digits : goal.invariant-digits
invariant-digits l = (0 < l.number) × (l.number < 2 ^ 64) × (take l.i l.text ≡ decimal l.number)
