-- Anchors before lines (YAML 1.2.2, sections 3.2.2.2, 6.9.2 and 7.1).
use Rattle.std.specs.Prelude.{ℕ, List, [], ◌∷◌, Option, Some, None, ⊤}
use Rattle.yq_core.{specs.Anchors.IsNoAlias, specs.Tree.Node}
use Rattle.yq_outline.specs.Outline.{LineMark, Bare, Key, Dash, Line}

-- the node that begins with a line may take an anchor: one that is alone on its line has none and is no alias (6.9.2, 7.1)
abbrev pub MayTake : LineMark → Option (List ℕ) → Option Node → Type 0
MayTake Bare None head = IsNoAlias head
MayTake Bare (Some a) head = ⊥
MayTake (Key k) a head = ⊤
MayTake Dash a head = ⊤

-- an anchor before lines is the only one of their node (6.9.2)
abbrev pub IsFree : Option (List ℕ) → List Line → Type 0
IsFree None ls = ⊤
IsFree (Some a) [] = ⊤
IsFree (Some a) (l ∷ ls) = MayTake l.mark l.anchor l.head

-- no node has two anchors, and no alias has one (6.9.2, 7.1)
abbrev pub HaveOneAnchorEach : List Line → Type 0
HaveOneAnchorEach [] = ⊤
HaveOneAnchorEach (l ∷ ls) = IsFree l.anchor ls × HaveOneAnchorEach ls
