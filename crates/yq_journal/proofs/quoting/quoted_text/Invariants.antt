use Rattle.std.proofs.Common.{◌≡◌, ◌∷◌, take}
use Rattle.json.specs.Print.{escape}
use Rattle.yq_journal.proofs.quoting.quoted_text.Given as goal

abbrev pub invariant-bytes : goal.invariant-bytes
invariant-bytes l = l.found.items ≡ 34 ∷ escape (take l.i l.bytes)
