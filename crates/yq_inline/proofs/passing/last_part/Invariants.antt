use Rattle.std.proofs.Common.{◌≡◌, None, length, option_map}
use Rattle.yq_inline.specs.Neighbours.{last_read, passed_view}
use Rattle.yq_inline.proofs.passing.last_part.Given as goal

abbrev pub decreases-each : goal.decreases-each
decreases-each l = length l.rest.text.now

abbrev pub invariant-each : goal.invariant-each
invariant-each l = last_read (option_map passed_view l.last) l.rest ≡ last_read None l.fn.parts
