-- The laws of shape: the node that lines mean is a tree, where what is written on them is (YAML 1.2.2, section 3.2.1).
use Rattle.std.specs.Prelude.{ℕ, List, [], ◌∷◌, Option, Some, None, ⊤}
use Rattle.yq_core.{specs.Keys.HasUniqueKeys, specs.Shapes.{IsShaped, IsTree}, specs.Tree.Node}
use Rattle.yq_outline.{specs.Grammar.IsNodeOutline, specs.Outline.Line}

-- what a head spells, if there is one, has items and keys where they belong (own)
abbrev pub HeadIsShaped : Option Node → Type 0
HeadIsShaped None = ⊤
HeadIsShaped (Some n) = IsShaped n

-- the same of the heads of lines (own)
abbrev pub HeadsAreShaped : List Line → Type 0
HeadsAreShaped [] = ⊤
HeadsAreShaped (l ∷ ls) = HeadIsShaped l.head × HeadsAreShaped ls

-- A node that lines mean by the rules has items and keys where they belong, if what is written on the lines has (own).
abbrev pub ShapedByLines : Type 0
ShapedByLines = (n : ℕ) (ls : List Line) (node : Node) → IsNodeOutline n ls node → HeadsAreShaped ls → IsShaped node

-- A node is a tree, if it has items and keys where they belong, and no key twice in a mapping (own).
abbrev pub ShapedIsTree : Type 0
ShapedIsTree = (n : Node) → IsShaped n → HasUniqueKeys n → IsTree n
