-- Texts that name the program (own).
use Rattle.std.specs.Prelude.{ℕ, ◌==◌, List, [], ◌∷◌, ◌++◌, if◌then◌else◌}

-- a text in which each `%`, the byte 37, means a name
abbrev pub named : List ℕ → List ℕ → List ℕ
named name [] = []
named name (b ∷ bs) = if b == 37 then name ++ named name bs else b ∷ named name bs
