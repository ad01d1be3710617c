-- An inline node with the places of its parts, by how much of the text follows them.
use Rattle.std.specs.Prelude.{ℕ, ◌+◌, ◌-◌, ◌==◌, List, length, if◌then◌else◌, Option, Some, None, Bool, true, false}
use Rattle.yq_core.{specs.declared.piece.Piece.Piece, specs.Piece.inline_piece, specs.Scalar.ScalarText}
use Rattle.yq_core.specs.Nodes.{Key, bare, keyed, FlowNode, empty, alias, scalar, coll, anchored, Items, none, item, key_text, sep_text}
use Rattle.yq_core.{specs.Nodes.{node_text, flow_items_text}, specs.Scalars.{scalar_style, scalar_content, scalar_of}}

mutual
  -- a node: its anchor, where it begins, where what is after the anchor begins, where it ends, in bytes, and what it is (own)
  pub data Placed : Type 0 where
    placed : (anchor : Option (List ℕ)) → (start content end : ℕ) → CoreNode → Placed

  -- what a node is: nothing, an alias by its name, a scalar with its piece, or a collection (YAML 1.2.2, sections 3.2.1 and 7.1)
  pub data CoreNode : Type 0 where
    nothing : CoreNode
    name : List ℕ → CoreNode
    text : ScalarText → Piece → CoreNode
    sequence : Parts → CoreNode
    mapping : Parts → CoreNode

  -- items or entries in order, an entry with its key's content and piece (YAML 1.2.2, section 3.2.1)
  pub data Parts : Type 0 where
    end : Parts
    part : Option (List ℕ × Piece) → Placed → Parts → Parts

-- a collection by its closing bracket (YAML 1.2.2, section 7.4)
abbrev pub holder : ℕ → Parts → CoreNode
holder k s = if k == 125 then mapping s else sequence s

-- a node with an anchor before it (YAML 1.2.2, section 6.9.2)
abbrev pub anchored_node : List ℕ → ℕ → Placed → Placed
anchored_node n start (placed a s c e f) = placed (Some n) start c e f

-- a node without an anchor that is between two rests of a text so long (own)
abbrev pub placed_between : ℕ → List ℕ → List ℕ → CoreNode → Placed
placed_between total t rest f = placed None (total - length t) (total - length t) (total - length rest) f

-- a scalar that is between two rests (own)
abbrev pub scalar_between : ℕ → List ℕ → List ℕ → List ℕ → CoreNode
scalar_between total t rest p = text (scalar_of p) (inline_piece (scalar_style p) (total - length t) (total - length rest))

-- a key as it is written, that is the text's front, with its piece (own)
abbrev pub key_here : ℕ → List ℕ → List ℕ → List ℕ × Piece
key_here total t p = (scalar_content p, inline_piece (scalar_style p) (total - length t) (total - length t + length p))

-- a key, that is the text's front, with its piece (own)
abbrev pub key_placed : ℕ → List ℕ → Key → Option (List ℕ × Piece)
key_placed total t bare = None
key_placed total t (keyed p b g) = Some (key_here total t p)

unfoldable mutual
  -- a node before a rest with its places, in a text so long (own)
  pub locate : ℕ → FlowNode → List ℕ → Placed
  locate total empty rest = placed_between total (node_text empty rest) rest nothing
  locate total (alias n) rest = placed_between total (node_text (alias n) rest) rest (name n)
  locate total (scalar p) rest = placed_between total (node_text (scalar p) rest) rest (scalar_between total (node_text (scalar p) rest) rest p)
  locate total (coll k g is) rest = placed_between total (node_text (coll k g is) rest) rest (holder k (locate_items total k is rest))
  locate total (anchored n g node) rest = anchored_node n (total - length (node_text (anchored n g node) rest)) (locate total node rest)

  -- the same of items (own)
  pub locate_items : ℕ → ℕ → Items → List ℕ → Parts
  locate_items total k none rest = end
  locate_items total k (item key n s is) rest =
      part
      (key_placed total (key_text key (node_text n (sep_text s (flow_items_text k is rest)))) key)
      (locate total n (sep_text s (flow_items_text k is rest)))
      (locate_items total k is rest)

-- nothing, not even an anchor (own)
abbrev pub bare_in : Option (List ℕ) → CoreNode → Bool
bare_in None nothing = true
bare_in None (name n) = false
bare_in None (text s p) = false
bare_in None (sequence s) = false
bare_in None (mapping s) = false
bare_in (Some a) c = false

-- the node is nothing, not even an anchor (own)
abbrev pub bare_placed : Placed → Bool
bare_placed (placed a s c e f) = bare_in a f
