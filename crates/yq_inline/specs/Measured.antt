-- What is known of an inline node of which only the end is found (own).
use Rattle.std.specs.Prelude.{◌≡◌, ℕ, ◌<◌, Bool, drop, length, true, false, ◌||◌, ◌&&◌, not, List, Option, Some, None, if◌then◌else◌}
use Rattle.yq_core.{specs.Answers.◌>>=◌, specs.Nodes.{begins_with, opening_bracket}, specs.Text.is_empty}
use Rattle.yq_core.specs.Places.{Placed, placed, CoreNode, nothing, name, text, sequence, mapping}
use Rattle.yq_core.{specs.PlacedReading.{past_sep, placed_node, split_key}, specs.Reading.all_node, specs.declared.style.Style.Style}
use Rattle.yq_core.specs.declared.borrowed.BorrowedNode.{BorrowedNode}
use Rattle.yq_inline.{specs.declared.measuring.MeasuredKind.MeasuredKind, specs.declared.measuring.Measured.Measured}
use Rattle.yq_inline.specs.declared.measuring.MeasuredKind.TheVariants as kinds
use Rattle.yq_core.specs.declared.style.Style.TheVariants as styles

-- the kind of a scalar of this style (own)
abbrev pub kind_of_style : Style → MeasuredKind
kind_of_style styles.Plain = kinds.Plain
kind_of_style styles.Single = kinds.Quoted
kind_of_style styles.Double = kinds.Quoted
kind_of_style styles.Literal = kinds.Quoted
kind_of_style styles.Folded = kinds.Quoted

-- the kind of what a node is (own)
abbrev pub kind_in : CoreNode → MeasuredKind
kind_in nothing = kinds.Nothing
kind_in (name n) = kinds.Alias
kind_in (text s p) = kind_of_style p.style
kind_in (sequence s) = kinds.Collection
kind_in (mapping s) = kinds.Collection

-- there is an anchor (own)
abbrev pub is_anchor : Option (List ℕ) → Bool
is_anchor None = false
is_anchor (Some a) = true

-- whether a node has an anchor, and its kind (own)
abbrev pub node_measure : Placed → Bool × MeasuredKind
node_measure (placed a s c e f) = (is_anchor a, kind_in f)

-- the same of the node that was read, and what follows (own)
abbrev pub measured : Option (Placed × List ℕ) → Option ((Bool × MeasuredKind) × List ℕ)
measured o = o >>= λ x. Some (node_measure x.0, x.1)

-- the same of the code (own)
abbrev pub measured_view : Measured → (Bool × MeasuredKind) × List ℕ
measured_view m = ((m.anchored, m.kind), m.rest.now)

-- the node in front is measured so, however many collections may be nested (own)
abbrev pub MeasuresScalar : List ℕ → Measured → Type 0
MeasuresScalar t m = (d : ℕ) → measured (placed_node true (Some 0) 0 d t) ≡ Some (measured_view m)

-- what follows what was read (own)
abbrev pub past_node : {A : Type 0} → Option (A × List ℕ) → Option (List ℕ)
past_node o = o >>= λ x. Some x.1

-- nothing, by its kind (own)
abbrev pub is_nothing : MeasuredKind → Bool
is_nothing kinds.Nothing = true
is_nothing kinds.Alias = false
is_nothing kinds.Plain = false
is_nothing kinds.Quoted = false
is_nothing kinds.Collection = false

-- an alias, by its kind (own)
abbrev pub is_alias : MeasuredKind → Bool
is_alias kinds.Nothing = false
is_alias kinds.Alias = true
is_alias kinds.Plain = false
is_alias kinds.Quoted = false
is_alias kinds.Collection = false

-- nothing, not even an anchor (own)
abbrev pub is_no_node : Bool × MeasuredKind → Bool
is_no_node m = not m.0 && is_nothing m.1

-- a node may come after an anchor and this gap (own)
abbrev pub node_may_follow : List ℕ → Bool × MeasuredKind → Bool
node_may_follow gap m = (is_no_node m || not (is_empty gap)) && (not m.0 && not (is_alias m.1))

-- the byte that ends the entries of a mapping, or the items of a sequence (own)
abbrev pub closing_byte : Bool → ℕ
closing_byte true = 125
closing_byte false = 93

-- the node of the entry, or item, in front, and what follows it (own)
abbrev pub from_value : Bool → List ℕ → Option (List ℕ)
from_value true t = past_node (split_key t)
from_value false t = Some t

-- what follows what separates an entry, or item, by its node (own)
abbrev pub past_value : Bool → (Bool × MeasuredKind) × List ℕ → Option (List ℕ)
past_value true m = past_sep 125 m.1
past_value false m = if is_no_node m.0 then None else past_sep 93 m.1

-- a mapping, or else a sequence, is in front; after its bracket is that rest (own)
abbrev pub HasBracket : List ℕ → Bool → List ℕ → Type 0
HasBracket t keyed rest = (begins_with (opening_bracket (closing_byte keyed)) t ≡ true) × (rest ≡ drop 1 t) × (length rest < length t)

-- no collection is in front (own)
abbrev pub HasNoBracket : List ℕ → Type 0
HasNoBracket t = (begins_with 91 t ≡ false) × (begins_with 123 t ≡ false)

-- what follows a node that a text lends (own)
abbrev pub after_borrowed : BorrowedNode → Option (List ℕ)
after_borrowed node = past_node (all_node true (Some 0) node.depth node.text.now)
