-- The keys of a mapping (YAML 1.2.2, section 3.2.1.3), and how deep collections are nested.
use Rattle.std.{specs.Prelude.{◌≢◌, ◌<◌, ℕ, get_or, suc, max, List, [], ◌∷◌, Bool, true, not, ◌&&◌, AllPairs, ⊤}, specs.List.list_any}
use Rattle.std.specs.Str.{bytes_eq}
use Rattle.yq_core.{specs.Tree.{Node, alias, scalar, list, map, Children, none, child}, specs.Text.with_first}

-- no two keys have the same content (YAML 1.2.2, section 3.2.1.3)
abbrev pub AreDistinct : List (List ℕ) → Type 0
AreDistinct keys = AllPairs (λ a b. a ≢ b) keys

-- the key at a place differs from each one before it (own)
abbrev pub DiffersBefore : List (List ℕ) → ℕ → Type 0
DiffersBefore keys at = (i : ℕ) (d : List ℕ) → i < at → get_or keys i d ≢ get_or keys at d

-- whether no two keys are equal (own)
abbrev pub are_distinct : List (List ℕ) → Bool
are_distinct [] = true
are_distinct (k ∷ ks) = not (list_any (bytes_eq k) ks) && are_distinct ks

-- the keys of items or entries, in order (own)
abbrev pub keys_of : Children → List (List ℕ)
keys_of none = []
keys_of (child label n cs) = with_first label.key (keys_of cs)

abbrev mutual
  -- no mapping, at any depth, has a key twice (YAML 1.2.2, section 3.2.1.3)
  pub HasUniqueKeys : Node → Type 0
  HasUniqueKeys (alias name) = ⊤
  HasUniqueKeys (scalar anchor kind text) = ⊤
  HasUniqueKeys (list anchor cs) = EachHasUniqueKeys cs
  HasUniqueKeys (map anchor cs) = AreDistinct (keys_of cs) × EachHasUniqueKeys cs

  -- the same of each item or entry (own)
  pub EachHasUniqueKeys : Children → Type 0
  EachHasUniqueKeys none = ⊤
  EachHasUniqueKeys (child label n cs) = HasUniqueKeys n × EachHasUniqueKeys cs

abbrev mutual
  -- whether no mapping, at any depth, has a key twice (YAML 1.2.2, section 3.2.1.3)
  pub has_unique_keys : Node → Bool
  has_unique_keys (alias name) = true
  has_unique_keys (scalar anchor kind text) = true
  has_unique_keys (list anchor cs) = each_has_unique_keys cs
  has_unique_keys (map anchor cs) = are_distinct (keys_of cs) && each_has_unique_keys cs

  -- the same of each item or entry (own)
  pub each_has_unique_keys : Children → Bool
  each_has_unique_keys none = true
  each_has_unique_keys (child label n cs) = has_unique_keys n && each_has_unique_keys cs

abbrev mutual
  -- how many collections are nested in a node, itself among them (own)
  pub depth : Node → ℕ
  depth (alias name) = 0
  depth (scalar anchor kind text) = 0
  depth (list anchor cs) = suc (deepest cs)
  depth (map anchor cs) = suc (deepest cs)

  -- how many collections are nested in some item or entry at most (own)
  pub deepest : Children → ℕ
  deepest none = 0
  deepest (child label n cs) = max (depth n) (deepest cs)
