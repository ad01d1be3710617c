-- Reading a node with its places (own; you may skip it: the clauses `found` and `only` show that it agrees with the grammar).
use Rattle.std.specs.Prelude.{ℕ, ◌-◌, List, [], length, if◌then◌else◌, Option, Some, None, Bool, true, false, not, ◌||◌, ◌&&◌}
use Rattle.yq_core.{specs.declared.piece.Piece.Piece, specs.Answers.◌>>=◌, specs.Text.is_empty}
use Rattle.yq_core.specs.Nodes.{Key, bare, keyed, FlowNode, empty, alias, scalar, coll, anchored}
use Rattle.yq_core.specs.Places.{Placed, placed, CoreNode, nothing, name, text, sequence, mapping, Parts, holder, anchored_node}
use Rattle.yq_core.specs.Places.{placed_between, scalar_between, key_here, locate, locate_items, bare_placed}
use Rattle.yq_core.specs.Reading.{read_gap, read_scalar, read_flow_key, sep_at, read_core, all_items, kids_of, all_node}

-- what a node without an anchor is, that is between two rests (own)
abbrev pub core_between : ℕ → List ℕ → FlowNode → List ℕ → CoreNode
core_between total t empty rest = nothing
core_between total t (alias n) rest = name n
core_between total t (scalar p) rest = scalar_between total t rest p
core_between total t (coll k g is) rest = holder k (locate_items total k is rest)
core_between total t (anchored n g node) rest = nothing

-- the node in front, and what follows it (own)
abbrev pub placed_node : Bool → Option ℕ → ℕ → ℕ → List ℕ → Option (Placed × List ℕ)
placed_node flow spaces total d t = all_node flow spaces d t >>= λ x. Some (locate total x.0 x.1, x.1)

-- the items in front, and what follows their closing bracket (own)
abbrev pub placed_items : ℕ → ℕ → ℕ → List ℕ → Option (Parts × List ℕ)
placed_items total d k t = all_items d k t >>= λ x. Some (locate_items total k x.0 x.1, x.1)

-- a key as it is written (own)
abbrev pub key_piece : Key → List ℕ
key_piece bare = []
key_piece (keyed p b g) = p

-- the key in front as it is written, and what follows its `:` (own)
abbrev pub split_key : List ℕ → Option (List ℕ × List ℕ)
split_key t = read_flow_key t >>= λ x. Some (key_piece x.0, x.1)

-- the scalar in front with its piece, and what follows it (own)
abbrev pub placed_text : Bool → Option ℕ → ℕ → List ℕ → Option (CoreNode × List ℕ)
placed_text flow spaces total t = read_scalar flow spaces t >>= λ x. Some (scalar_between total t x.1 x.0, x.1)

-- the key in front with its content and piece, and what follows its `:` (own)
abbrev pub placed_key : ℕ → List ℕ → Option ((List ℕ × Piece) × List ℕ)
placed_key total t = split_key t >>= λ x. Some (key_here total t x.0, x.1)

-- the node without an anchor in front, and what follows it (own)
abbrev pub placed_content : Bool → Option ℕ → ℕ → ℕ → List ℕ → Option (Placed × List ℕ)
placed_content flow spaces total d t = read_core flow spaces (kids_of d) t >>= λ x. Some (placed_between total t x.1 (core_between total t x.0 x.1), x.1)

-- a collection after its opening bracket, and what follows it (own)
abbrev pub placed_coll : ℕ → ℕ → ℕ → List ℕ → Option (CoreNode × List ℕ)
placed_coll total d k t = read_gap t >>= λ gap. kids_of d k gap.1 >>= λ x. Some (holder k (locate_items total k x.0 x.1), x.1)

-- what follows what comes after an item (own)
abbrev pub past_sep : ℕ → List ℕ → Option (List ℕ)
past_sep k t = sep_at k t >>= λ x. Some x.1

-- an anchor may come before this (own)
abbrev pub takes_in : Option (List ℕ) → CoreNode → Bool
takes_in None nothing = true
takes_in None (name n) = false
takes_in None (text s p) = true
takes_in None (sequence s) = true
takes_in None (mapping s) = true
takes_in (Some a) c = false

-- an anchor may come before the node (own)
abbrev pub takes_placed : Placed → Bool
takes_placed (placed a s c e f) = takes_in a f

-- a node may come after an anchor and this gap (own)
abbrev pub may_follow_anchor : List ℕ → Placed → Bool
may_follow_anchor g s = (bare_placed s || not (is_empty g)) && takes_placed s

-- a node after an anchor and a gap (own)
abbrev pub then_anchored : ℕ → List ℕ → List ℕ → List ℕ → Placed × List ℕ → Option (Placed × List ℕ)
then_anchored total t n g x = if may_follow_anchor g x.0 then Some (anchored_node n (total - length t) x.0, x.1) else None

-- the item in front with what comes after it, and what follows (own)
abbrev pub placed_item : ℕ → ℕ → List ℕ → Option (Placed × List ℕ)
placed_item total d t = placed_node true (Some 0) total d t >>= λ x. if bare_placed x.0 then None else (past_sep 93 x.1 >>= λ r. Some (x.0, r))

-- the entry in front with what comes after it, and what follows (own)
abbrev pub placed_entry : ℕ → ℕ → List ℕ → Option (((List ℕ × Piece) × Placed) × List ℕ)
placed_entry total d t = placed_key total t >>= λ key. placed_node true (Some 0) total d key.1 >>= λ x. past_sep 125 x.1 >>= λ r. Some ((key.0, x.0), r)
