-- Items or entries of a block collection exchanged, and the lines of a node at a path (own).
use Rattle.std.specs.Prelude.{◌≡◌, ℕ, ◌<◌, List, [], ◌∷◌, ◌++◌, Option, Some, None, option_and_then, ⊤}
use Rattle.yq_core.{specs.Paths.{Step, append_child, changed_at, relabel_child, remove_child, within}, specs.Tree.{Label, Node, Children}}
use Rattle.yq_outline.{specs.Group.level_or, specs.Laws.with_lines}
use Rattle.yq_outline.specs.Outline.{LineMark, Bare, Key, Dash, Line, level, Outline, end, row, flatten, IsOpen, IsEven, anchored, label}
use Rattle.yq_outline.specs.Outline.{children, value, IsLocatedAt}
use Rattle.yq_outline.specs.Places.{Context, here, below, plug, lines_before, lines_after, compose, FoundLine, find_row, find}
use Rattle.yq_outline.specs.Places.{content_under}

-- an outline with another one after it
abbrev pub append_outline : Outline → Outline → Outline
append_outline end b = b
append_outline (row l under after) b = row l under (append_outline after b)

-- a line begins with a key or a dash (8.2.1, 8.2.2)
abbrev pub IsEntry : LineMark → Type 0
IsEntry Bare = ⊥
IsEntry (Key k) = ⊤
IsEntry Dash = ⊤

-- an outline's first line is that of an item or entry
abbrev pub HasEntries : Outline → Type 0
HasEntries end = ⊥
HasEntries (row l under after) = IsEntry l.mark

-- The lines of a node: their place in an outline, the level that they are deeper than, the anchor in the line above, and their outline.
pub record NodeLines : Type 0 where
  pub place : Context
  pub above : ℕ
  pub anchor : Option (List ℕ)
  pub lines : Outline

-- the lines under a line that was found
abbrev pub under_line : FoundLine → NodeLines
under_line f = record { place = compose f.place (below f.line here f.after); above = level f.line; anchor = f.line.anchor; lines = f.under }

-- the same where that line has no head and no steps are left
abbrev pub lines_below : Option Node → List Step → FoundLine → Option NodeLines
lines_below None [] f = Some (under_line f)
lines_below None (s ∷ ss) f = None
lines_below (Some n) ss f = None

-- the lines of the node at a path, where it isn't written after a mark: all of them at the root
abbrev pub lines_at : List Step → Outline → Option NodeLines
lines_at [] o = Some (record { place = here; above = 0; anchor = None; lines = o })
lines_at (s ∷ ss) o = option_and_then (λ x. lines_below x.0.line.head x.1 x.0) (find s ss o)

-- the lines of an outline with these in the place of a node's
abbrev pub put_lines : NodeLines → List Line → List Line
put_lines h ls = lines_before h.place ++ (ls ++ lines_after h.place)

-- lines mean a node at some level
abbrev pub AreSomewhere : List Line → Node → Type 0
AreSomewhere ls node = (k : ℕ) × IsLocatedAt ls node k

-- The block collection at a path has these lines (8.2).
pub record IsCollectionAt (steps : List Step) (o : Outline) (h : NodeLines) : Type 0 where
  pub place_is : lines_at steps o ≡ Some h
  pub block : HasEntries h.lines

-- An item or entry of the block collection at a path, to which a step leads (8.2).
pub record IsEntryAt (steps : List Step) (s : Step) (o : Outline) (h : NodeLines) (f : FoundLine) : Type 0 where
  pub place_is : lines_at steps o ≡ Some h
  pub block : HasEntries h.lines
  pub found : find_row s h.lines ≡ Some f

-- An outline may be in the place of a node's lines, where the node is changed by a function: it is deeper than what is above them, and means the new
-- node.
pub record LinesFit (h : NodeLines) (g : Node → Node) (m : ℕ) (u : Outline) : Type 0 where
  pub deep : h.above < m
  pub even : IsEven m u
  pub node_is : anchored h.anchor (value u) ≡ g (anchored h.anchor (value h.lines))

-- A line, with an outline under it, may come after those of a block collection: it is at their level.
pub record EntryFits (h : NodeLines) (m : ℕ) (l : Line) (u : Outline) : Type 0 where
  pub level_is : level l ≡ level_or 0 h.lines
  pub headless : IsOpen l.head u
  pub deep : level l < m
  pub even : IsEven m u

-- A line is another one but for its label, which is changed by a function.
pub record IsRelabelled (g : Label → Label) (old new : Line) : Type 0 where
  pub level_is : level new ≡ level old
  pub head_is : new.head ≡ old.head
  pub anchor_is : new.anchor ≡ old.anchor
  pub label_is : label new ≡ g (label old)

-- Where the lines of the node at a path are replaced by others, the lines mean the tree with that node exchanged.
abbrev pub LinesReplaced : Type 0
LinesReplaced =
    (n m : ℕ) (o u : Outline) (steps : List Step) (h : NodeLines) (g : Node → Node) → IsEven n o → lines_at steps o ≡ Some h → LinesFit h g m u →
    (flatten o ≡ put_lines h (flatten h.lines)) × AreSomewhere (put_lines h (flatten u)) (changed_at steps g (value o))

-- Where the lines of the collection at a path are replaced by others at their level, the lines mean the tree with its items or entries exchanged.
abbrev pub CollectionReplaced : Type 0
CollectionReplaced =
    (n : ℕ) (o u : Outline) (steps : List Step) (h : NodeLines) (g : Children → Children) → IsEven n o → IsCollectionAt steps o h → HasEntries u →
    IsEven (level_or 0 h.lines) u →
    children u ≡ g (children h.lines) → (flatten o ≡ put_lines h (flatten h.lines)) ×
    AreSomewhere (put_lines h (flatten u)) (changed_at steps (within g) (value o))

-- With the lines of one item or entry more at the end of the collection at a path, lines mean the tree with that one.
abbrev pub Appended : Type 0
Appended =
    (n m : ℕ) (o v : Outline) (l : Line) (steps : List Step) (h : NodeLines) → IsEven n o → IsCollectionAt steps o h → EntryFits h m l v →
    (flatten o ≡ put_lines h (flatten h.lines)) ×
    AreSomewhere (put_lines h (flatten h.lines ++ (l ∷ flatten v))) (changed_at steps (within (append_child (label l) (content_under l v))) (value o))

-- Without the lines of one of several items or entries of the collection at a path, lines mean the tree without that one.
abbrev pub Removed : Type 0
Removed =
    (n : ℕ) (o : Outline) (steps : List Step) (h : NodeLines) (s : Step) (f : FoundLine) → IsEven n o → IsEntryAt steps s o h f →
    HasEntries (plug f.place f.after) →
    (flatten o ≡ put_lines h (with_lines f (f.line ∷ flatten f.under))) ×
    AreSomewhere (put_lines h (with_lines f [])) (changed_at steps (within (remove_child s)) (value o))

-- With another head comment or line comment of an item or entry of the collection at a path, lines mean the tree with that one.
abbrev pub Relabelled : Type 0
Relabelled =
    (n : ℕ) (o : Outline) (steps : List Step) (h : NodeLines) (s : Step) (f : FoundLine) (g : Label → Label) (l : Line) → IsEven n o →
    IsEntryAt steps s o h f → IsRelabelled g f.line l →
    (flatten o ≡ put_lines h (with_lines f (f.line ∷ flatten f.under))) ×
    AreSomewhere (put_lines h (with_lines f (l ∷ flatten f.under))) (changed_at steps (within (relabel_child s g)) (value o))
