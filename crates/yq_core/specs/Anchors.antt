-- Anchors and aliases of a tree (YAML 1.2.2, sections 3.2.2.2, 6.9.2 and 7.1).
use Rattle.std.specs.Prelude.{◌≡◌, ◌⊎◌, List, [], ◌∷◌, ◌++◌, Option, Some, None, ⊤, ℕ}
use Rattle.yq_core.specs.Tree.{Node, alias, scalar, list, map, Children, none, child}

-- an anchor or an alias, by its name (6.9.2, 7.1)
pub data Name : Type 0 where
  Anchors : List ℕ → Name
  Refers : List ℕ → Name

-- names after an anchor, if there is one (own)
abbrev pub anchor_names : Option (List ℕ) → List Name → List Name
anchor_names None names = names
anchor_names (Some a) names = Anchors a ∷ names

abbrev mutual
  -- the anchors and aliases of a node in the order of the text: an anchor comes before what it names (6.9.2)
  pub names_of : Node → List Name
  names_of (alias name) = Refers name ∷ []
  names_of (scalar a kind text) = anchor_names a []
  names_of (list a cs) = anchor_names a (names_in cs)
  names_of (map a cs) = anchor_names a (names_in cs)

  -- the anchors and aliases of items or entries, in the order of the text (6.9.2)
  pub names_in : Children → List Name
  names_in none = []
  names_in (child label n cs) = names_of n ++ names_in cs

-- a name is one of these (own)
abbrev pub IsAmong : List ℕ → List (List ℕ) → Type 0
IsAmong name [] = ⊥
IsAmong name (k ∷ ks) = (name ≡ k) ⊎ IsAmong name ks

-- each alias has the name of an anchor before it, or of one that is known already (7.1)
abbrev pub AreBound : List (List ℕ) → List Name → Type 0
AreBound known [] = ⊤
AreBound known (Anchors a ∷ names) = AreBound (a ∷ known) names
AreBound known (Refers a ∷ names) = IsAmong a known × AreBound known names

-- a node, if there is one, is no alias (7.1)
abbrev pub IsNoAlias : Option Node → Type 0
IsNoAlias None = ⊤
IsNoAlias (Some (alias name)) = ⊥
IsNoAlias (Some (scalar a kind text)) = ⊤
IsNoAlias (Some (list a cs)) = ⊤
IsNoAlias (Some (map a cs)) = ⊤
