-- Places of which none lies in another (own).
use Rattle.std.specs.Prelude.{◌≡◌, ⊤, List, [], ◌∷◌, Some}
use Rattle.yq_core.{specs.PathOrder.Before, specs.Paths.node_at, specs.Tree.Node}
use Rattle.yq_semantics.specs.Places.{FoundPlace}
use Rattle.yq_core.specs.Paths as paths

-- a path comes before each of these places (own)
abbrev pub IsBeforeAll : List paths.Step → List FoundPlace → Type 0
IsBeforeAll x [] = ⊤
IsBeforeAll x (q ∷ qs) = Before x q.path × IsBeforeAll x qs

-- no two of these places are the same, and none lies in another; items are in order (own)
abbrev pub AreApart : List FoundPlace → Type 0
AreApart [] = ⊤
AreApart (p ∷ ps) = IsBeforeAll p.path ps × AreApart ps

-- the node of a place is that at its path (own)
abbrev pub IsIn : Node → FoundPlace → Type 0
IsIn root p = node_at p.path root ≡ Some p.node

-- the same of each (own)
abbrev pub AreIn : Node → List FoundPlace → Type 0
AreIn root [] = ⊤
AreIn root (p ∷ ps) = IsIn root p × AreIn root ps
