-- The law of places (own): what an exchange of lines does to the tree.
use Rattle.std.specs.Prelude.{◌≡◌, ℕ, ◌<◌, List, ◌∷◌, ◌++◌, Some}
use Rattle.yq_core.{specs.Tree.Node, specs.Paths.{Step, changed_at}}
use Rattle.yq_outline.specs.Outline.{Line, level, Outline, flatten, IsOpen, IsWhole, IsEven, label, value, IsLocatedAt}
use Rattle.yq_outline.specs.Places.{lines_before, lines_after, FoundLine, find, content_under}

-- the lines of an outline with these in the place of the line at a path and of those under it
abbrev pub with_lines : FoundLine → List Line → List Line
with_lines f ls = lines_before f.place ++ (ls ++ (flatten f.after ++ lines_after f.place))

-- Where the line of a node and the lines under it are replaced by others, at the same level, the lines mean the tree with that node exchanged.
abbrev pub NodeExchanged : Type 0
NodeExchanged =
    (n : ℕ) (o : Outline) (s : Step) (ss rest : List Step) (f : FoundLine) → IsEven n o → find s ss o ≡ Some (f, rest) →
    (g : Node → Node) (m : ℕ) (l : Line) (u : Outline) → label l ≡ label f.line → level l ≡ level f.line →
    IsOpen l.head u → IsWhole l.mark l.head f.after → level l < m → IsEven m u → content_under l u ≡ changed_at rest g (content_under f.line f.under) →
    (flatten o ≡ with_lines f (f.line ∷ flatten f.under)) × IsLocatedAt (with_lines f (l ∷ flatten u)) (changed_at (s ∷ ss) g (value o)) n
