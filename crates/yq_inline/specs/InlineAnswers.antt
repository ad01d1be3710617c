-- What calls that read inline nodes answer (own).
use Rattle.std.{specs.Borrow.Bor, specs.Prelude.{◌≡◌, ℕ, List, Option, Result, Some, String, Vec, length, string_bytes}}
use Rattle.std.specs.declared.alloc.Global.{Global}
use Rattle.yq_core.{specs.Answers.{Gives, ReadsAs, ReadError}, specs.Places.{CoreNode, Parts, Placed, placed_between}}
use Rattle.yq_core.{specs.PlacedReading.then_anchored, specs.View.{entries_end, form_view, inline_view, items_end}}
use Rattle.yq_core.{specs.declared.inline.Form.Form, specs.declared.inline.Inline.Inline, specs.declared.piece.Piece.Piece}
use Rattle.yq_inline.{specs.Measured.{measured, measured_view, past_node}, specs.declared.measuring.Measured.Measured}
use Rattle.yq_inline.specs.declared.heads.MeasuredHead.{MeasuredHead}

-- the answer is the node that reading gives and what comes after it, unless memory ran out
abbrev pub GivesNode : Result (Inline × Bor (List ℕ)) ReadError → Option (Placed × List ℕ) → Type 0
GivesNode r read = Gives (λ x. (inline_view x.0, x.1.now)) r read

-- the same of what a node is
abbrev pub GivesCore : Result (Form × Bor (List ℕ)) ReadError → Option (CoreNode × List ℕ) → Type 0
GivesCore r read = Gives (λ x. (form_view x.0, x.1.now)) r read

-- the same of items
abbrev pub GivesNodes : Result (Vec Inline Global × Bor (List ℕ)) ReadError → Option (Parts × List ℕ) → Type 0
GivesNodes r read = Gives (λ x. (items_end x.0.items, x.1.now)) r read

-- the same of a key, with its piece
abbrev pub GivesKey : Result (String Global × Piece × Bor (List ℕ)) ReadError → Option ((List ℕ × Piece) × List ℕ) → Type 0
GivesKey r read = Gives (λ x. ((string_bytes x.0, x.1), x.2.now)) r read

-- the same of an entry
abbrev pub GivesEntry : Result ((String Global × Piece × Inline) × Bor (List ℕ)) ReadError → Option (((List ℕ × Piece) × Placed) × List ℕ) → Type 0
GivesEntry r read = Gives (λ x. (((string_bytes x.0.0, x.0.1), inline_view x.0.2), x.1.now)) r read

-- the same of entries
abbrev pub GivesEntries : Result (Vec (String Global × Piece × Inline) Global × Bor (List ℕ)) ReadError → Option (Parts × List ℕ) → Type 0
GivesEntries r read = Gives (λ x. (entries_end x.0.items, x.1.now)) r read

-- whatever is such a node is the answer, unless memory ran out
abbrev pub GivesEach : Result Inline ReadError → (Placed → Type 0) → Type 0
GivesEach r P = (p : Placed) → P p → Gives inline_view r (Some p)

-- the answer is two slices that reading gives; this is of functions that need no memory
abbrev pub ReadsSlices : {E : Type 0} → Result (Bor (List ℕ) × Bor (List ℕ)) E → Option (List ℕ × List ℕ) → Type 0
ReadsSlices r read = ReadsAs (λ x. (x.0.now, x.1.now)) r read

-- a node is what comes between two rests of a text
abbrev pub IsBetween : (whole text rest : List ℕ) → Form → Inline → Type 0
IsBetween whole text rest form node = inline_view node ≡ placed_between (length whole) text rest (form_view form)

-- the answer is a node with its anchor and the gap after that, and what comes after the node
abbrev pub GivesAnchored : (whole text name gap : List ℕ) → Inline → List ℕ → Result (Inline × Bor (List ℕ)) ReadError → Type 0
GivesAnchored whole text name gap node rest r = GivesNode r (then_anchored (length whole) text name gap (inline_view node, rest))

-- the answer is what is known of the node that reading gives, and what comes after it
abbrev pub MeasuresNode : {E : Type 0} → Result Measured E → Option (Placed × List ℕ) → Type 0
MeasuresNode r read = ReadsAs measured_view r (measured read)

-- the same of a node outside flow collections
abbrev pub MeasuresHead : {E : Type 0} → Result MeasuredHead E → Option (Placed × List ℕ) → Type 0
MeasuresHead r read = ReadsAs (λ x. measured_view x.node) r (measured read)

-- the answer is what comes after the node that reading gives
abbrev pub PassesNode : {A E : Type 0} → Result (Bor (List ℕ)) E → Option (A × List ℕ) → Type 0
PassesNode r read = ReadsAs (λ r. r.now) r (past_node read)
