-- What lines of the code mean.
use Rattle.std.specs.Prelude.{ℕ, List, Option, option_map}
use denote.Bor.{Bor}

-- a text that the code lends, if there is one (own)
abbrev pub borrowed : Option (Bor (List ℕ)) → Option (List ℕ)
borrowed t = option_map (λ x. x.now) t
