-- The tree that a document means.
use Rattle.std.specs.Prelude.{ℕ, List, [], Option, None}
use Rattle.yq_core.specs.declared.kind.Kind.{Kind}

-- what is known of an item or entry: its key, which an item has not, and its comments (YAML 1.2.2, section 3.2.2; own)
pub record Label : Type 0 where
  pub key : Option (List ℕ)
  pub head_comment : List (List ℕ)
  pub line_comment : Option (List ℕ)

-- what is known of an item or entry without comments: its key, if it has one (own)
abbrev pub key_label : Option (List ℕ) → Label
key_label k = record { key = k; head_comment = []; line_comment = None }

-- what is known of a node that has no key and no comments: an item, or a root (own)
abbrev pub plain_label : Label
plain_label = record { key = None; head_comment = []; line_comment = None }

mutual
  -- a node: an alias by its name, or, each with its anchor, a scalar, a sequence or a mapping (YAML 1.2.2, section 3.2.1)
  pub data Node : Type 0 where
    alias : List ℕ → Node
    scalar : Option (List ℕ) → Kind → List ℕ → Node
    list : Option (List ℕ) → Children → Node
    map : Option (List ℕ) → Children → Node

  -- items or entries in order (YAML 1.2.2, section 3.2.1)
  pub data Children : Type 0 where
    none : Children
    child : Label → Node → Children → Children

-- the anchor of a node, if it has one (YAML 1.2.2, section 6.9.2)
abbrev pub anchor_of : Node → Option (List ℕ)
anchor_of (alias name) = None
anchor_of (scalar anchor kind text) = anchor
anchor_of (list anchor cs) = anchor
anchor_of (map anchor cs) = anchor

-- the items or entries of a node (own)
abbrev pub children_of : Node → Children
children_of (alias name) = none
children_of (scalar anchor kind text) = none
children_of (list anchor cs) = cs
children_of (map anchor cs) = cs
