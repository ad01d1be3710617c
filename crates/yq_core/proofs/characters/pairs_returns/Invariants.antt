use Rattle.std.proofs.Common.{◌≡◌, ◌≤◌, length}
use Rattle.yq_core.specs.Characters.{pairs_returns}
use Rattle.yq_core.proofs.characters.pairs_returns.Given as goal

abbrev pub decreases-each : goal.decreases-each
decreases-each l = length l.rest

abbrev pub invariant-each : goal.invariant-each
invariant-each l = record { within : length l.rest ≤ length l.text; so_far : pairs_returns l.rest ≡ pairs_returns l.text }
