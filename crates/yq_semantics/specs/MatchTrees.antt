-- What each match is, of documents that are ready.
use Rattle.std.specs.Prelude.{ℕ, ◌≤◌, ⊤, List, [], ◌∷◌}
use Rattle.yq_core.{specs.Keys.depth, specs.Shapes.IsTree, specs.Tree.Node, specs.Inline.depth_limit}

-- A tree, in which the keys of each mapping differ, with no more collections nested than may be (YAML 1.2.2, section 3.2.1.3; own).
pub record IsMatch (n : Node) : Type 0 where
  pub tree : IsTree n
  pub nested : depth n ≤ depth_limit

-- each of several is one (own)
abbrev pub AreMatches : List (ℕ × Node) → Type 0
AreMatches [] = ⊤
AreMatches (m ∷ ms) = IsMatch m.1 × AreMatches ms
