-- What is asked of a whole document, where one node of it is changed (own).
use Rattle.std.specs.Prelude.{◌≡◌, ℕ, ◌+◌, ◌≤◌, List, [], ◌∷◌, ◌++◌, length, Option, Some, None, ⊤}
use Rattle.yq_core.{specs.Keys.{HasUniqueKeys, depth}, specs.Paths.{Step, node_at, changed_at}, specs.Tree.Node}
use Rattle.yq_core.specs.Anchors.{Name, Anchors, Refers, names_of, IsAmong, AreBound}
use Rattle.yq_outline.{specs.LineAnchors.{IsFree, HaveOneAnchorEach}, specs.Outline.{Line, Outline, IsEven}}
use Rattle.yq_outline.specs.Places.{lines_before, lines_after}
use Rattle.yq_edit_rules.specs.Siblings.{IsEntry, NodeLines, lines_at}

-- the anchors among names
abbrev pub anchors_in : List Name → List (List ℕ)
anchors_in [] = []
anchors_in (Anchors a ∷ names) = a ∷ anchors_in names
anchors_in (Refers a ∷ names) = anchors_in names

-- the aliases among names
abbrev pub aliases_in : List Name → List (List ℕ)
aliases_in [] = []
aliases_in (Anchors a ∷ names) = aliases_in names
aliases_in (Refers a ∷ names) = a ∷ aliases_in names

-- the anchors that are known after names, where these are known before them
abbrev pub known_after : List (List ℕ) → List Name → List (List ℕ)
known_after known [] = known
known_after known (Anchors a ∷ names) = known_after (a ∷ known) names
known_after known (Refers a ∷ names) = known_after known names

-- Of the anchors that are replaced, each that has an alias among other names comes again.
abbrev pub AreSpared : List Name → List Name → List Name → Type 0
AreSpared gone come others = (a : List ℕ) → IsAmong a (anchors_in gone) → IsAmong a (aliases_in others) → IsAmong a (anchors_in come)

-- Where names are replaced by others that are bound, and no alias after them loses its anchor, all names stay bound (7.1).
abbrev pub BoundStays : Type 0
BoundStays =
    (known : List (List ℕ)) (before gone come after : List Name) → AreBound known (before ++ (gone ++ after)) → AreBound (known_after known before) come →
    AreSpared gone come after → AreBound known (before ++ (come ++ after))

-- The names before and after the node at a path, which stay where that node is changed.
pub record Around (steps : List Step) (n old : Node) : Type 0 where
  pub before : List Name
  pub after : List Name
  pub old_names : names_of n ≡ before ++ (names_of old ++ after)
  pub new_names : (f : Node → Node) → names_of (changed_at steps f n) ≡ before ++ (names_of (f old) ++ after)

-- The names of the node at a path are among those of the whole.
abbrev pub NamesAround : Type 0
NamesAround = (steps : List Step) (n old : Node) → node_at steps n ≡ Some old → Around steps n old

-- Names without aliases take the place of some names of a node.
pub record ExchangesNames (old new : Node) (front gone come back : List Name) : Type 0 where
  pub old_names : names_of old ≡ front ++ (gone ++ back)
  pub new_names : names_of new ≡ front ++ (come ++ back)
  pub bare : aliases_in come ≡ []

-- A node changed so that names without aliases take the place of others, of whose anchors none has an alias in the whole, leaves the whole bound (7.1).
abbrev pub BoundChanged : Type 0
BoundChanged =
    (steps : List Step) (n old : Node) (f : Node → Node) (front gone come back : List Name) → node_at steps n ≡ Some old →
    ExchangesNames old (f old) front gone come back →
    AreSpared gone come (names_of n) → AreBound [] (names_of n) → AreBound [] (names_of (changed_at steps f n))

-- A node changed for one with unique keys leaves all keys unique (3.2.1.3).
abbrev pub UniqueChanged : Type 0
UniqueChanged =
    (steps : List Step) (n old : Node) (f : Node → Node) → node_at steps n ≡ Some old → HasUniqueKeys n → HasUniqueKeys (f old) →
    HasUniqueKeys (changed_at steps f n)

-- A node changed for one that isn't too deep for its path leaves the whole not too deep.
abbrev pub DepthChanged : Type 0
DepthChanged =
    (d : ℕ) (steps : List Step) (n old : Node) (f : Node → Node) → node_at steps n ≡ Some old → depth n ≤ d → length steps + depth (f old) ≤ d →
    depth (changed_at steps f n) ≤ d

-- the anchor of the last of lines, if it has one
abbrev pub last_anchor : List Line → Option (List ℕ)
last_anchor [] = None
last_anchor (l ∷ []) = l.anchor
last_anchor (l ∷ (k ∷ ls)) = last_anchor (k ∷ ls)

-- there are no lines, or the first one begins an item or entry
abbrev pub BeginsEntry : List Line → Type 0
BeginsEntry [] = ⊤
BeginsEntry (l ∷ ls) = IsEntry l.mark

-- Where lines before an entry are replaced by others whose first one may take the anchor before it, no node gets two anchors (6.9.2).
abbrev pub AnchorsStay : Type 0
AnchorsStay =
    (before gone come after : List Line) → HaveOneAnchorEach (before ++ (gone ++ after)) → HaveOneAnchorEach come → IsFree (last_anchor before) come →
    BeginsEntry after →
    HaveOneAnchorEach (before ++ (come ++ after))

-- After the lines of a node at a path is an entry or nothing, and before them is the line with its anchor.
abbrev pub LinesAmong : Type 0
LinesAmong =
    (n : ℕ) (o : Outline) (steps : List Step) (h : NodeLines) → IsEven n o → lines_at steps o ≡ Some h →
    BeginsEntry (lines_after h.place) × (last_anchor (lines_before h.place) ≡ h.anchor)
