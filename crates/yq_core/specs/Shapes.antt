-- The shape of a tree: items have no keys, and entries have keys that differ (YAML 1.2.2, section 3.2.1).
use Rattle.std.specs.Prelude.{◌≡◌, ◌≢◌, List, ℕ, Some, None, ⊤}
use Rattle.yq_core.specs.Tree.{Node, alias, scalar, list, map, Children, none, child}

-- no entry or item has this key (own)
abbrev pub IsNew : List ℕ → Children → Type 0
IsNew k none = ⊤
IsNew k (child label n cs) = (label.key ≢ Some k) × IsNew k cs

-- each is an item: it has no key (own)
abbrev pub AreItems : Children → Type 0
AreItems none = ⊤
AreItems (child label n cs) = (label.key ≡ None) × AreItems cs

-- each has a key (own)
abbrev pub AreKeyed : Children → Type 0
AreKeyed none = ⊤
AreKeyed (child label n cs) = ((k : List ℕ) × (label.key ≡ Some k)) × AreKeyed cs

-- each is an entry: it has a key, and no later one has it too (YAML 1.2.2, section 3.2.1.3)
abbrev pub AreEntries : Children → Type 0
AreEntries none = ⊤
AreEntries (child label n cs) = ((k : List ℕ) × (label.key ≡ Some k) × IsNew k cs) × AreEntries cs

abbrev mutual
  -- at any depth a sequence has items, and a mapping has entries whose keys differ (YAML 1.2.2, section 3.2.1)
  pub IsTree : Node → Type 0
  IsTree (alias name) = ⊤
  IsTree (scalar anchor kind text) = ⊤
  IsTree (list anchor cs) = AreItems cs × AreTrees cs
  IsTree (map anchor cs) = AreEntries cs × AreTrees cs

  -- the same of the node of each item or entry (own)
  pub AreTrees : Children → Type 0
  AreTrees none = ⊤
  AreTrees (child label n cs) = IsTree n × AreTrees cs

abbrev mutual
  -- at any depth a sequence has items, and a mapping has keys (YAML 1.2.2, section 3.2.1)
  pub IsShaped : Node → Type 0
  IsShaped (alias name) = ⊤
  IsShaped (scalar anchor kind text) = ⊤
  IsShaped (list anchor cs) = AreItems cs × AreShaped cs
  IsShaped (map anchor cs) = AreKeyed cs × AreShaped cs

  -- the same of the node of each item or entry (own)
  pub AreShaped : Children → Type 0
  AreShaped none = ⊤
  AreShaped (child label n cs) = IsShaped n × AreShaped cs
