-- Inline nodes: which pieces are one after the other (YAML 1.2.2, sections 6.9.2, 7.1 and 7.4).
use Rattle.std.specs.Prelude.{◌≡◌, ◌⊎◌, ℕ, zero, suc, Bool, true, false, ◌||◌, not, ◌==◌, List, [], ◌∷◌, ◌++◌, Option, Some, None}
use Rattle.std.specs.Prelude.{if◌then◌else◌}
use Rattle.yq_core.{specs.Text.{is_empty, is_white, is_feed, is_return, NoneIn, unless, no_white, separates}, specs.Plain.is_flow_indicator}
use Rattle.yq_core.{specs.Gaps.IsInlineGap, specs.Scalars.{IsScalarAt, is_quoted, begins_scalar}}

-- what comes before the node of an item: nothing, or a key with the gaps around its `:` (YAML 1.2.2, section 7.4.2)
pub data Key : Type 0 where
  bare : Key
  keyed : (text before gap : List ℕ) → Key

-- what comes after it: a gap, and after it nothing, or a comma and a gap (YAML 1.2.2, section 7.4)
pub data Sep : Type 0 where
  last : (after : List ℕ) → Sep
  comma : (after gap : List ℕ) → Sep

mutual
  -- a node: nothing, an alias, a scalar, a collection by its closing bracket, or a node after an anchor (YAML 1.2.2, sections 6.9.2, 7.1,
  -- 7.2, 7.3 and 7.4)
  pub data FlowNode : Type 0 where
    empty : FlowNode
    alias : (name : List ℕ) → FlowNode
    scalar : (piece : List ℕ) → FlowNode
    coll : (close : ℕ) → (gap : List ℕ) → Items → FlowNode
    anchored : (name gap : List ℕ) → FlowNode → FlowNode

  -- items or entries in order (YAML 1.2.2, section 7.4)
  pub data Items : Type 0 where
    none : Items
    item : Key → FlowNode → Sep → Items → Items

-- how a key is written before a rest (YAML 1.2.2, section 7.4.2)
abbrev pub key_text : Key → List ℕ → List ℕ
key_text bare rest = rest
key_text (keyed t b g) rest = t ++ (b ++ (58 ∷ (g ++ rest)))

-- how what comes after an item is written before a rest (YAML 1.2.2, section 7.4)
abbrev pub sep_text : Sep → List ℕ → List ℕ
sep_text (last b) rest = b ++ rest
sep_text (comma b g) rest = b ++ (44 ∷ (g ++ rest))

-- the bracket that opens: `{` of `}`, and `[` of `]` (YAML 1.2.2, section 7.4)
abbrev pub opening_bracket : ℕ → ℕ
opening_bracket k = if k == 125 then 123 else 91

-- `]` or `}` (YAML 1.2.2, section 7.4)
abbrev pub is_close : ℕ → Bool
is_close k = k == 93 || k == 125

unfoldable mutual
  -- how a node is written before a rest (YAML 1.2.2, sections 6.9.2, 7.1 and 7.4)
  pub node_text : FlowNode → List ℕ → List ℕ
  node_text empty rest = rest
  node_text (alias n) rest = 42 ∷ (n ++ rest)
  node_text (scalar p) rest = p ++ rest
  node_text (coll k g is) rest = opening_bracket k ∷ (g ++ flow_items_text k is rest)
  node_text (anchored n g node) rest = 38 ∷ (n ++ (g ++ node_text node rest))

  -- how items are written with the closing bracket (YAML 1.2.2, section 7.4)
  pub flow_items_text : ℕ → Items → List ℕ → List ℕ
  flow_items_text k none rest = k ∷ rest
  flow_items_text k (item key n s is) rest = key_text key (node_text n (sep_text s (flow_items_text k is rest)))

-- this byte is in front (own)
abbrev pub begins_with : ℕ → List ℕ → Bool
begins_with k [] = false
begins_with k (b ∷ bs) = b == k

-- a byte that the name of an anchor holds: no white space, no break, no indicator of flow (YAML 1.2.2, section 6.9.2)
abbrev pub in_name : ℕ → Bool
in_name b = not (is_white b || (is_feed b || is_return b) || is_flow_indicator b)

-- the name of an anchor or alias, as long as it may be (YAML 1.2.2, sections 6.9.2 and 7.1)
pub record IsName (p rest : List ℕ) : Type 0 where
  pub some : is_empty p ≡ false
  pub inside : NoneIn (unless in_name) p rest
  pub ends : unless in_name rest ≡ true

-- an alias, a scalar or a collection may begin here (YAML 1.2.2, section 7.5)
abbrev pub begins_content : Bool → List ℕ → Bool
begins_content flow t = begins_with 42 t || (begins_with 91 t || (begins_with 123 t || begins_scalar flow t))

-- these or an anchor (YAML 1.2.2, section 7.5)
abbrev pub begins_node : Bool → List ℕ → Bool
begins_node flow t = begins_with 38 t || begins_content flow t

-- what may be between an anchor and its node: in a flow collection a gap, else white space on the line (YAML 1.2.2, section 6.9.2; own)
abbrev pub IsApart : Bool → List ℕ → List ℕ → Type 0
IsApart true p rest = IsInlineGap p rest
IsApart false p rest = NoneIn no_white p rest × (no_white rest ≡ true)

-- After an anchor or a `:` this is if something begins after it; else nothing is there (own).
abbrev pub IsLead : Bool → (List ℕ → Bool) → List ℕ → List ℕ → Type 0
IsLead flow begins p rest =
    (IsApart flow p rest × (begins rest ≡ true))
    ⊎ ((p ≡ []) × ((g r : List ℕ) × (rest ≡ g ++ r) × IsApart flow g r × (begins r ≡ false)))

-- After the `:` of a plain key is white space, a break, `,` or `}` (YAML 1.2.2, section 7.4.2; own).
abbrev pub ends_key : List ℕ → List ℕ → Bool
ends_key p rest = is_quoted p || (separates rest || (begins_with 44 rest || begins_with 125 rest))

-- An entry of a mapping has a key of one line, an item of a sequence none (YAML 1.2.2, section 7.4.2).
abbrev pub IsInlineKey : ℕ → Key → List ℕ → Type 0
IsInlineKey k bare rest = (k == 125) ≡ false
IsInlineKey k (keyed t b g) rest =
    ((k == 125) ≡ true)
    × IsScalarAt true None t (b ++ (58 ∷ (g ++ rest)))
    × IsInlineGap b (58 ∷ (g ++ rest))
    × (ends_key t (g ++ rest) ≡ true)
    × IsLead true (begins_node true) g rest

-- After the last item is the closing bracket; a comma may come before it (YAML 1.2.2, section 7.4).
abbrev pub IsSep : ℕ → Sep → List ℕ → Type 0
IsSep k (last b) rest = IsInlineGap b rest × (begins_with k rest ≡ true)
IsSep k (comma b g) rest = IsInlineGap b (44 ∷ (g ++ rest)) × IsInlineGap g rest

-- nothing, not even an anchor (YAML 1.2.2, section 7.2)
abbrev pub is_empty_node : FlowNode → Bool
is_empty_node empty = true
is_empty_node (alias n) = false
is_empty_node (scalar p) = false
is_empty_node (coll k g is) = false
is_empty_node (anchored n g node) = false

-- a node that an anchor may come before: no alias, and none that has one (YAML 1.2.2, sections 6.9.2 and 7.1)
abbrev pub takes_anchor : FlowNode → Bool
takes_anchor empty = true
takes_anchor (alias n) = false
takes_anchor (scalar p) = true
takes_anchor (coll k g is) = true
takes_anchor (anchored n g node) = false

-- a node without the anchor before it, if there is one (YAML 1.2.2, section 6.9.2)
abbrev pub without_anchor : FlowNode → FlowNode
without_anchor empty = empty
without_anchor (alias n) = alias n
without_anchor (scalar p) = scalar p
without_anchor (coll k g is) = coll k g is
without_anchor (anchored n g node) = node

-- with a key (own)
abbrev pub is_keyed : Key → Bool
is_keyed bare = false
is_keyed (keyed t b g) = true

-- inside a collection one collection less may be nested, and there must be one left (own)
abbrev pub Deeper : ℕ → (ℕ → Type 0) → Type 0
Deeper zero P = ⊥
Deeper (suc d) P = P d

unfoldable mutual
  -- A node before a rest, in a flow collection or not, with at most d collections nested; further lines of a plain scalar begin with so many
  -- spaces at least (YAML 1.2.2, sections 6.9.2, 7.1, 7.2, 7.3 and 7.4).
  pub IsFlowNode : Bool → Option ℕ → ℕ → FlowNode → List ℕ → Type 0
  IsFlowNode flow spaces d empty rest = (begins_content flow rest ≡ false) × (begins_with 38 rest ≡ false)
  IsFlowNode flow spaces d (alias n) rest = IsName n rest
  IsFlowNode flow spaces d (scalar p) rest = IsScalarAt flow spaces p rest
  IsFlowNode flow spaces d (coll k g is) rest = (is_close k ≡ true) × IsInlineGap g (flow_items_text k is rest) × Deeper d (λ e. AreFlowItems e k is rest)
  IsFlowNode flow spaces d (anchored n g node) rest =
      IsName n (g ++ node_text node rest)
      × IsLead flow (begins_content flow) g (node_text node rest)
      × ((is_empty_node node || not (is_empty g)) ≡ true)
      × (takes_anchor node ≡ true)
      × IsFlowNode flow spaces d node rest

  -- items before the rest that follows their closing bracket; without a key an item isn't bare (YAML 1.2.2, section 7.4)
  pub AreFlowItems : ℕ → ℕ → Items → List ℕ → Type 0
  AreFlowItems d k none rest = Unit {0}
  AreFlowItems d k (item key n s is) rest =
      IsInlineKey k key (node_text n (sep_text s (flow_items_text k is rest)))
      × ((is_keyed key || not (is_empty_node n)) ≡ true)
      × IsFlowNode true (Some 0) d n (sep_text s (flow_items_text k is rest))
      × IsSep k s (flow_items_text k is rest)
      × AreFlowItems d k is rest
