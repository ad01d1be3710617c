-- Block nodes by the indentation of their lines (YAML 1.2.2, 8.2).
use Rattle.std.specs.Prelude.{◌≡◌, ℕ, ◌+◌, ◌*◌, ◌<◌, List, [], ◌∷◌, ◌++◌, Option, Some, None, ⊤, codes}
use Rattle.yq_core.{specs.declared.kind.Kind.TheVariants.Null, specs.Tree.{Label, Node, alias, scalar, list, map, Children, none, child}}

-- what a line begins with: a key (8.2.2), a dash (8.2.1), or the node itself (8.2.3)
pub data LineMark : Type 0 where
  Bare : LineMark
  Key : List ℕ → LineMark
  Dash : LineMark

-- The line of one entry, item or node: its column, what it begins with, after that an anchor and what its head spells, and its comments (8.2; own).
pub record Line : Type 0 where
  pub column : ℕ
  pub mark : LineMark
  pub anchor : Option (List ℕ)
  pub head : Option Node
  pub head_comment : List (List ℕ)
  pub line_comment : Option (List ℕ)

-- the order of marks in one column: a node itself, then a key, then a dash, which is the deepest (8.2.3)
abbrev pub rank : LineMark → ℕ
rank Bare = 1
rank (Key k) = 2
rank Dash = 3

-- How deep a line is: a dash is a little deeper than a key in its column, so that a sequence may be in the column of its key (8.2.3).
unfoldable pub level : Line → ℕ
level l = 3 * l.column + rank l.mark

-- lines in order, each with those under it (own)
pub data Outline : Type 0 where
  end : Outline
  row : Line → (under : Outline) → (after : Outline) → Outline

-- the lines of an outline, in order (own)
abbrev pub flatten : Outline → List Line
flatten end = []
flatten (row l under after) = l ∷ (flatten under ++ flatten after)

-- an entry or item with a head has nothing under it (8.2.1, 8.2.2)
abbrev pub IsOpen : Option Node → Outline → Type 0
IsOpen None under = ⊤
IsOpen (Some n) end = ⊤
IsOpen (Some n) (row l u a) = ⊥

-- a node on a line of its own is there, and is alone (8.2.3)
abbrev pub IsWhole : LineMark → Option Node → Outline → Type 0
IsWhole Bare (Some n) end = ⊤
IsWhole Bare (Some n) (row l u a) = ⊥
IsWhole Bare None after = ⊥
IsWhole (Key k) head after = ⊤
IsWhole Dash head after = ⊤

-- All lines of one collection are at one level, and what is under each of them at one deeper level (8.2).
abbrev pub IsEven : ℕ → Outline → Type 0
IsEven n end = ⊤
IsEven n (row l under after) =
    (level l ≡ n) × IsOpen l.head under × IsWhole l.mark l.head after × ((m : ℕ) × (n < m) × IsEven m under) × IsEven n after

-- the first of two anchors, or the one that there is (own)
abbrev pub first_anchor : Option (List ℕ) → Option (List ℕ) → Option (List ℕ)
first_anchor None b = b
first_anchor (Some a) b = Some a

-- a node with the anchor that comes before it (6.9.2)
abbrev pub anchored : Option (List ℕ) → Node → Node
anchored a (alias n) = alias n
anchored a (scalar b k t) = scalar (first_anchor a b) k t
anchored a (list b cs) = list (first_anchor a b) cs
anchored a (map b cs) = map (first_anchor a b) cs

-- what a head spells, or another node where there is no head (own)
abbrev pub head_or : Option Node → Node → Node
head_or None n = n
head_or (Some h) n = h

-- the key of an entry; an item has none (8.2.1, 8.2.2)
abbrev pub key_of : LineMark → Option (List ℕ)
key_of Bare = None
key_of (Key k) = Some k
key_of Dash = None

-- what is known of a line's entry or item: its key and its comments (own)
abbrev pub label : Line → Label
label l = record { key = key_of l.mark; head_comment = l.head_comment; line_comment = l.line_comment }

-- the node of which nothing is written (7.2)
abbrev pub null_node : Node
null_node = scalar None Null (codes "null")

-- the node that these items or entries make, by what their lines begin with: the one itself, a mapping, or a sequence (8.2)
abbrev pub outline_node : LineMark → Children → Node
outline_node Bare none = null_node
outline_node Bare (child l n cs) = n
outline_node (Key k) cs = map None cs
outline_node Dash cs = list None cs

-- the node that these items or entries make, by the outline's first line; without lines it is a null (7.2, 8.2)
abbrev pub shaped : Outline → Children → Node
shaped end cs = null_node
shaped (row l under after) cs = outline_node l.mark cs

-- the items or entries of an outline's lines (8.2.1, 8.2.2)
abbrev pub children : Outline → Children
children end = none
children (row l under after) =
    child (label l) (anchored l.anchor (head_or l.head (shaped under (children under)))) (children after)

-- the node that an outline means (8.2)
abbrev pub value : Outline → Node
value o = shaped o (children o)

-- Lines mean a node at a level: they are those of an even outline, which means it (8.2).
pub record IsLocatedAt (lines : List Line) (node : Node) (n : ℕ) : Type 0 where
  pub outline : Outline
  pub even : IsEven n outline
  pub lines_are : flatten outline ≡ lines
  pub node_is : value outline ≡ node
