-- A text in two halves (own).
use Rattle.std.specs.Prelude.{ℕ, List, ◌++◌}
use Rattle.yq_text.specs.declared.halves.Halves.{Halves}

-- the text of two halves, one after the other (own)
abbrev pub whole : Halves → List ℕ
whole h = h.front.now ++ h.back.now
