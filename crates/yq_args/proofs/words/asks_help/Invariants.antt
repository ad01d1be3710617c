use Rattle.std.proofs.Common.{◌≡◌, map, length}
use Rattle.yq_args.specs.Asked as spec
use Rattle.yq_args.proofs.words.asks_help.Given as goal

abbrev pub invariant-words : goal.invariant-words
invariant-words l = spec.asks_help (map (λ w. w.now) l.fn.words) ≡ spec.asks_help (map (λ w. w.now) l.rest)

abbrev pub decreases-words : goal.decreases-words
decreases-words l = length l.rest
