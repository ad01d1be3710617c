-- Values that no text can hold, once or at many places, since they have more items and entries than a text may have; eight bytes of a scalar's text
-- count as one (own).
use Rattle.std.specs.Prelude.{◌≡◌, ◌+◌, ◌<◌, ◌⊎◌, ℕ, false, List, [], ◌∷◌, ◌++◌, length, map, if◌then◌else◌, Option, Some, None, ⊤, Bool}
use Rattle.std.{specs.Prelude.{Result, ◌≤◌, true, IfOk, IfSome}, specs.Str.IsUtf8}
use Rattle.yq_core.specs.Tree.{Node, alias, list, scalar}
use Rattle.yq_documents.specs.Documents.{Document}
use Rattle.yq_flow_edits.specs.Valued.{IsValueTree}
use Rattle.yq_semantics.{specs.Judgement.{Judgement, gives, ExprError}, specs.RightValues.right_value, specs.Sizes.{items_in, items_of_all}}
use Rattle.yq_semantics.{specs.Operations.{Operation, replace, append, remove, line_comment, head_comment}, specs.After.all_after}
use Rattle.yq_semantics.{specs.Changes.Room, specs.Fits.AllFit, specs.Meaning.AreReady}
use Rattle.yq_semantics.specs.Program.{PathStep, key, index, each, Stage, Term, Update, UpdatesHold, assign, delete, comment}
use Rattle.yq_semantics.{specs.Conditions.value_of, specs.Places.{FoundPlace, root_place}, specs.View.update_of}
use Rattle.yq_semantics.specs.declared.program.Operator.{Operator}
use Rattle.yq_eval.specs.PlaceView.{place_of, places_of}
use Rattle.yq_expr.{specs.Parts.{IsLater, values_limit}, specs.PlannedUpdates.{ops_inside, rest_in}}
use Rattle.yq_expr.{specs.declared.plans.parts.PlanPart.PlanPart, specs.declared.plans.parts.OpenPart.OpenPart}
use Rattle.yq_expr.{specs.declared.plans.document.DocumentRoot.DocumentRoot, specs.SumSizes.{items_limit, IsSpread, GivesLarge}}
use Rattle.yq_nodes.specs.Nodes.{node_of}
use Rattle.yq_eval.specs.declared.matching.place.FoundPlace as place
use Rattle.yq_semantics.specs.declared.program.Term as term
use Rattle.yq_semantics.specs.declared.program.Operator.TheVariants as operator
use Rattle.yq_semantics.specs.declared.program.Update as declared
use Rattle.yq_core.specs.Tree as tree
use Rattle.yq_core.specs.declared.kind.Kind.TheVariants as kinds
use Rattle.yq_expr.specs.declared.sizes.sum_sizes.SumSize.TheVariants as sizes

-- a value is a scalar (own)
abbrev pub is_scalar_node : Node → Bool
is_scalar_node (alias name) = false
is_scalar_node (scalar a k t) = true
is_scalar_node (list a cs) = false
is_scalar_node (tree.map a cs) = false

-- the keys of steps are UTF-8 (own)
abbrev pub HaveUtf8Keys : List PathStep → Type 0
HaveUtf8Keys [] = ⊤
HaveUtf8Keys (key k ∷ steps) = IsUtf8 k × HaveUtf8Keys steps
HaveUtf8Keys (index i ∷ steps) = HaveUtf8Keys steps
HaveUtf8Keys (each ∷ steps) = HaveUtf8Keys steps

-- the place from which the value of an assignment is found, by its operator: the place that gets it, or the root (yq manual; own)
abbrev pub value_start : Operator → Node → FoundPlace → FoundPlace
value_start operator.Set root p = root_place root
value_start operator.Modify root p = p
value_start operator.Add root p = root_place root

-- the text of a string (own)
abbrev pub string_in : Node → List ℕ
string_in (alias name) = []
string_in (scalar a kinds.Text t) = t
string_in (scalar a k t) = []
string_in (list a cs) = []
string_in (tree.map a cs) = []

-- the string to which an assignment adds a string at a place (own)
abbrev pub string_before : Operator → FoundPlace → List ℕ
string_before operator.Set p = []
string_before operator.Modify p = []
string_before operator.Add p = string_in (value_of p)

-- what an assignment gives at a place is a value that no text can hold there (own)
abbrev pub GivesAt : ℕ → Node → Update → FoundPlace → Type 0
GivesAt doc root (assign left op right) p = GivesLarge (string_before op p) (right_value doc right (value_start op root p))
GivesAt doc root (delete left) p = ⊥
GivesAt doc root (comment left place text) p = ⊥

-- an update gives a value at a place of a document that no text can hold, and keys that are missing on the way are UTF-8 (own)
abbrev pub MakesOversized : DocumentRoot → declared.Update → FoundPlace → Type 0
MakesOversized d u p = HaveUtf8Keys p.missing × GivesAt d.doc (node_of d.root) (update_of u) p

-- the same at the first of places (own)
abbrev pub FirstMakesOversized : DocumentRoot → declared.Update → List FoundPlace → Type 0
FirstMakesOversized d u ps = (p : FoundPlace) × (qs : List FoundPlace) × (ps ≡ p ∷ qs) × MakesOversized d u p

-- the same at a place of the code (own)
abbrev pub MakesThere : DocumentRoot → declared.Update → place.FoundPlace → Type 0
MakesThere d u p = MakesOversized d u (place_of p)

-- the same at the first of several (own)
abbrev pub MakesFirst : DocumentRoot → declared.Update → List place.FoundPlace → Type 0
MakesFirst d u ps = FirstMakesOversized d u (places_of ps)

-- An assignment puts a value, or adds it, if it is no scalar, at so many places that no text can hold all items and entries (own).
pub record SpreadsTooMany (d : DocumentRoot) (u : declared.Update) (count : ℕ) : Type 0 where
  pub adds : Bool
  pub left : List Stage
  pub right : List Term
  pub value : Node
  pub by : update_of u ≡ assign left (if adds then operator.Add else operator.Set) right
  pub found : right_value d.doc right (root_place (node_of d.root)) ≡ gives value
  pub spreads : IsSpread value count
  pub whole : adds ≡ true → is_scalar_node value ≡ false

-- in the valid value of terms from a place, with those of other places, are so many items and entries at least (own)
abbrev pub GivesMore : ℕ → List Term → FoundPlace → (others : ℕ → Type 0) → ℕ → Type 0
GivesMore doc right p others n =
    (v : Node) × (m : ℕ) × (right_value doc right p ≡ gives v) × IsValueTree v × others m × (n ≤ items_in v + m)

-- in the valid values of terms, each from one of the first of places, are so many items and entries at least (own)
abbrev pub GiveItems : ℕ → List Term → List FoundPlace → ℕ → Type 0
GiveItems doc right [] n = n ≡ 0
GiveItems doc right (p ∷ ps) n = (n ≡ 0) ⊎ GivesMore doc right p (GiveItems doc right ps) n

-- An assignment puts at each of places what is found from there, too many items and entries for a text (own).
pub record ModifiesTooMuch (d : DocumentRoot) (u : declared.Update) (ps : List place.FoundPlace) : Type 0 where
  pub left : List Stage
  pub right : List Term
  pub count : ℕ
  pub by : update_of u ≡ assign left operator.Modify right
  pub found : GiveItems d.doc right (places_of ps) count
  pub more : items_limit < count

-- an update begins at places with what no text can hold (own)
abbrev pub BeginsLarge : DocumentRoot → declared.Update → List place.FoundPlace → Type 0
BeginsLarge d u ps = MakesFirst d u ps ⊎ (ModifiesTooMuch d u ps ⊎ SpreadsTooMany d u (length ps))

-- a key is UTF-8, if there is one (own)
abbrev pub MayBeUtf8 : Option (List ℕ) → Type 0
MayBeUtf8 None = ⊤
MayBeUtf8 (Some k) = IsUtf8 k

-- an operation puts or appends a valid value; a key with it is UTF-8 (own)
abbrev pub WritesValue : Operation → Type 0
WritesValue (replace doc path v) = IsValueTree v
WritesValue (append doc path k v) = MayBeUtf8 k × IsValueTree v
WritesValue (remove doc path) = ⊥
WritesValue (line_comment doc path text) = ⊥
WritesValue (head_comment doc path text) = ⊥

-- each does (own)
abbrev pub AllWrite : List Operation → Type 0
AllWrite [] = ⊤
AllWrite (op ∷ ops) = WritesValue op × AllWrite ops

-- Operations begin with some that put or append values, so that documents which they fit have more items and entries after them than a text may have (own).
pub record BeginsOversized (all : List Operation) : Type 0 where
  pub first : List Operation
  pub others : List Operation
  pub split : all ≡ first ++ others
  pub write : AllWrite first
  pub more : (rooms : ℕ → Room) (docs : List Document) → AreReady rooms 0 docs → AllFit rooms first docs →
      items_limit < items_of_all (all_after rooms first docs)

-- the operations that a judgement gives, if it does, begin so (own)
abbrev pub GivesOversizedOps : Judgement (List Operation) → Type 0
GivesOversizedOps j = (ops : List Operation) → j ≡ gives ops → BeginsOversized ops

-- the same, where the literals of an update are values (own)
abbrev pub MayGiveOversized : Update → Judgement (List Operation) → Type 0
MayGiveOversized u j = UpdatesHold (u ∷ []) → GivesOversizedOps j

-- a part says that what is left after it begins so only where it does (own)
abbrev pub ReportsOversized : Update → List ℕ → PlanPart → Type 0
ReportsOversized u t p = p.is_oversized ≡ true → GivesOversizedOps (rest_in u t p.doc p.place)

-- an answer's part does so, where the literals of an update are values (own)
abbrev pub MayReportOversized : Update → List ℕ → Result PlanPart ExprError → Type 0
MayReportOversized u t result = UpdatesHold (u ∷ []) → IfOk result (ReportsOversized u t)

-- a part that doesn't say so ends later than it began (own)
abbrev pub PartGoesOn : ℕ → ℕ → PlanPart → Type 0
PartGoesOn doc place p = p.is_oversized ≡ false → IsLater doc place p.doc p.place

-- What ends a part in a document: it goes on, where all its room was left, or no text can hold what comes there (own).
pub record EndsPartAt (document : DocumentRoot) (update : declared.Update) (place : ℕ) (before after : OpenPart) (next : ℕ) : Type 0 where
  pub later : place ≤ next
  pub moves : before.room ≡ values_limit → after.is_oversized ≡ false → place < next
  pub large : after.is_oversized ≡ true → MayGiveOversized (update_of update) (ops_inside document update next)

-- the same of an answer that ends a part there, if it does (own)
abbrev pub EndsPart : DocumentRoot → declared.Update → ℕ → OpenPart → OpenPart → Result (Option ℕ) ExprError → Type 0
EndsPart document update place before after result = IfOk result (λ o. IfSome o (EndsPartAt document update place before after))
