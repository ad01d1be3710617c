-- How large sums of values are that are lists or strings: items and entries, where eight bytes of a scalar's text count as one (own).
use Rattle.std.specs.Prelude.{◌≡◌, ◌+◌, ◌<◌, ◌*◌, ◌⊎◌, ℕ, false, List, ◌++◌, length, map, Option, Some, None, Result, ◌≤◌}
use Rattle.std.{specs.Str.IsUtf8, specs.declared.alloc.AllocError.AllocError}
use Rattle.yq_core.{specs.Tree.{Node, list, scalar, Children}, specs.Values.value_node, specs.declared.value.Value.Value}
use Rattle.yq_flow_edits.specs.Valued.{IsValueTree, AreValueTrees}
use Rattle.yq_planner.{specs.ListSizes.{HasSize, IsSizeOfBoth}, specs.Substitutes.IsSubstitute}
use Rattle.yq_planner.specs.declared.updating.list_size.ListSize.{ListSize}
use Rattle.yq_semantics.{specs.Judgement.{Judgement, gives}, specs.RightValues.{is_null, as_items, right_value, sum_from, term_value}}
use Rattle.yq_semantics.{specs.Sizes.items_in, specs.Program.Term, specs.Places.FoundPlace, specs.View.term_of}
use Rattle.yq_eval.specs.PlaceView.{place_of}
use Rattle.yq_expr.{specs.FixedPaths.IfAny, specs.EffectView.is_mapping, specs.declared.sizes.sum_sizes.SumSize.SumSize}
use Rattle.yq_eval.specs.declared.matching.place.FoundPlace as place
use Rattle.yq_semantics.specs.declared.program.Term as term
use Rattle.yq_core.specs.declared.kind.Kind.TheVariants as kinds
use Rattle.yq_expr.specs.declared.sizes.sum_sizes.SumSize.TheVariants as sizes

-- items are those of a list of known size, and valid (own)
pub record AreItemsOf (cs : Children) (size : ListSize) : Type 0 where
  pub valid : AreValueTrees false cs
  pub sized : HasSize (list None cs) size

-- a judgement gives a value that isn't null, from which a list gets items of a list of known size (own)
abbrev pub AddsItems : Judgement Node → ListSize → Type 0
AddsItems j size = (v : Node) × (j ≡ gives v) × (is_null v ≡ false) × AreItemsOf (as_items v) size

-- a judgement gives a list of known size (own)
abbrev pub GivesList : Judgement Node → ListSize → Type 0
GivesList j size = (cs : Children) × (j ≡ gives (list None cs)) × AreItemsOf cs size

-- a judgement gives a string that has so many bytes at least (own)
abbrev pub GivesString : Judgement Node → ℕ → Type 0
GivesString j n = (t : List ℕ) × (j ≡ gives (scalar None kinds.Text t)) × IsUtf8 t × (n ≤ length t)

-- a judgement gives a list or a string of such a size (own)
abbrev pub GivesSized : Judgement Node → SumSize → Type 0
GivesSized j (sizes.List size) = GivesList j size
GivesSized j (sizes.Text n) = GivesString j n

-- a judgement gives what adds so much to a sum: items of a list, or a string (own)
abbrev pub AddsSized : Judgement Node → SumSize → Type 0
AddsSized j (sizes.List size) = AddsItems j size
AddsSized j (sizes.Text n) = GivesString j n

-- a judgement gives what adds so much to a sum, or is so large, if the sum begins with it (own)
abbrev pub IsSizeIn : Option SumSize → Judgement Node → SumSize → Type 0
IsSizeIn None = GivesSized
IsSizeIn (Some sum) = AddsSized

-- a size is that of a sum of such a size with a term more that adds so much (own)
abbrev pub IsJoinedSize : (one other both : SumSize) → Type 0
IsJoinedSize (sizes.List one) (sizes.List other) (sizes.List both) = IsSizeOfBoth one other both
IsJoinedSize (sizes.Text one) (sizes.Text other) (sizes.Text both) = both ≤ one + other
IsJoinedSize one other both = ⊥

-- what a judgement gives is valid where that has such a size, and so many items and entries at least (own)
abbrev pub ItemsOfSize : SumSize → ℕ → Type 0
ItemsOfSize size n = (j : Judgement Node) → GivesSized j size → (v : Node) × (j ≡ gives v) × IsValueTree v × (n ≤ items_in v)

-- how many items and entries a text may have: each takes two bytes at least (own)
abbrev pub items_limit : ℕ
items_limit = 8388608

-- A valid value comes so many times that no text can hold all items and entries (own).
pub record IsSpread (v : Node) (count : ℕ) : Type 0 where
  pub valid : IsValueTree v
  pub more : items_limit < count * items_in v

-- a judgement gives a list that no text can hold (own)
abbrev pub GivesLargeList : Judgement Node → Type 0
GivesLargeList j = (cs : Children) × (j ≡ gives (list None cs)) × IsSpread (list None cs) 1

-- a judgement gives a string that no text can hold after another one (own)
abbrev pub GivesLargeString : List ℕ → Judgement Node → Type 0
GivesLargeString before j = (t : List ℕ) × (j ≡ gives (scalar None kinds.Text t)) × IsUtf8 t × IsSpread (scalar None kinds.Text (before ++ t)) 1

-- a judgement gives one of these (own)
abbrev pub GivesLarge : List ℕ → Judgement Node → Type 0
GivesLarge before j = GivesLargeList j ⊎ GivesLargeString before j

-- what has such a size is one (own)
abbrev pub IsLargeSum : List ℕ → SumSize → Type 0
IsLargeSum before size = (j : Judgement Node) → GivesSized j size → GivesLarge before j

-- a small value is refused where another one is that is no mapping (own)
abbrev pub IsSmallOf : Node → Node → Type 0
IsSmallOf v w = (is_mapping v ≡ false) × IsSubstitute v w

-- a judgement gives a value, and a small one is refused where that is (own)
abbrev pub HasSmall : Judgement Node → Node → Type 0
HasSmall j w = (v : Node) × (j ≡ gives v) × IsSmallOf v w

-- a small value is refused where what has such a size is (own)
abbrev pub IsSmallFor : SumSize → Value → Type 0
IsSmallFor size w = (j : Judgement Node) → GivesSized j size → HasSmall j (value_node w)

-- what a term gives, from a place (own)
abbrev pub found_term : ℕ → place.FoundPlace → term.Term → Judgement Node
found_term doc p t = term_value doc (place_of p) (term_of t)

-- what a sum of terms gives, from a place (own)
abbrev pub found_sum : ℕ → place.FoundPlace → List term.Term → Judgement Node
found_sum doc p ts = right_value doc (map term_of ts) (place_of p)

-- an answer's size is that of the sum of a value of such a size and of terms (own)
abbrev pub SumsFrom : ℕ → place.FoundPlace → SumSize → List term.Term → Result (Option SumSize) AllocError → Type 0
SumsFrom doc p first ts result = (v : Node) → GivesSized (gives v) first → IfAny result (GivesSized (sum_from doc (place_of p) v (map term_of ts)))

-- a small value is refused where the sum of terms is (own)
abbrev pub ReplacesSum : ℕ → place.FoundPlace → List term.Term → Value → Type 0
ReplacesSum doc p ts w = HasSmall (found_sum doc p ts) (value_node w)
