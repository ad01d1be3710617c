-- The line of a place, counted by the LFs before it.
use Rattle.std.{proofs.Common.{rules, ◌≡◌, ◌+◌, ◌-◌, ◌<◌, ◌^◌, ℕ, List, length, take, min}, proofs.lemmas.List.length-take}
use Rattle.std.proofs.lemmas.List.Sums.{count_by-le-length}
use Rattle.memchr.{specs.Find.{is_byte, places}, proofs.lemmas.CallerLemmas.length-places}
use Rattle.yq_core.specs.FaultPlace.{counted_line}

pub line_counted : (text before : List ℕ) (at feeds n : ℕ) → before ≡ take at text → feeds ≡ length (places (is_byte 10) before)
    → n ≡ min (1 + feeds) (2 ^ 64 - 1) → length text < 2 ^ 64 - 1 → n ≡ counted_line text at
line_counted text before at feeds n front counted sum small = search (rules, length-places, count_by-le-length, length-take)
