-- The matches that those of the code mean.
use Rattle.std.specs.Prelude.{ℕ, List, map}
use Rattle.yq_core.{specs.Tree.Node, specs.Values.value_node}
use Rattle.yq_eval.specs.declared.matched.Match.{Match}

-- the number of the document and the copy that a match of the code means (own)
abbrev pub match_of : Match → ℕ × Node
match_of m = (m.doc, value_node m.value)

-- the matches that those of the code mean (own)
abbrev pub matches_of : List Match → List (ℕ × Node)
matches_of ms = map match_of ms
