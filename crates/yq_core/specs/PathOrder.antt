-- Paths of which neither leads into what the other leads to (own).
use Rattle.std.specs.Prelude.{◌≡◌, ◌≢◌, ◌<◌, ◌⊎◌, List, [], ◌∷◌, ⊤}
use Rattle.yq_core.specs.Paths.{Step, To, Nth}

-- two steps part: they are to entries of other keys, or to an item and a later one (own)
abbrev pub Diverge : Step → Step → Type 0
Diverge (To k) (To j) = k ≢ j
Diverge (To k) (Nth n) = ⊤
Diverge (Nth m) (To j) = ⊤
Diverge (Nth m) (Nth n) = m < n

-- two paths part at some step, so neither leads into the other; where they part at items, the first one's is the earlier (own)
abbrev pub Before : List Step → List Step → Type 0
Before [] q = ⊥
Before (s ∷ p) [] = ⊥
Before (s ∷ p) (t ∷ q) = Diverge s t ⊎ ((s ≡ t) × Before p q)

-- neither path leads into the other (own)
abbrev pub Apart : List Step → List Step → Type 0
Apart p q = Before p q ⊎ Before q p
