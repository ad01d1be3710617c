-- Sums of lists and strings of known sizes, and what no text can hold.
use Rattle.std.proofs.Common.{◌≡◌, ℕ, ◌+◌, ◌/◌, ◌<◌, ◌≤◌, IsUtf8, List, [], ◌∷◌, ◌++◌, length, None, refl, sym, ap, ◌∙◌, subst, arith}
use Rattle.std.{proofs.Common.{length-append, map, Option, Result, false, inl, inr, one-mul, rules}, proofs.lemmas.Str.IsUtf8-append}
use Rattle.std.specs.declared.alloc.AllocError.{AllocError}
use Rattle.yq_core.{specs.Paths.append_children, specs.Tree.{Node, list, scalar, Children, none, child}, specs.declared.kind.Kind.Kind}
use Rattle.yq_flow_edits.specs.Valued.{IsValueTree, AreValueTrees}
use Rattle.yq_planner.{specs.ListSizes.{HasSize, IsSizeOfBoth}, specs.Substitutes.{IsSubstitute, texts}}
use Rattle.yq_planner.specs.declared.updating.list_size.ListSize.{ListSize}
use Rattle.yq_semantics.{specs.Judgement.{Judgement, and_then, gives}, specs.Places.FoundPlace, specs.Program.Term}
use Rattle.yq_semantics.{specs.RightValues.{as_items, sum, sum_from, term_value, is_null}, specs.View.term_of, specs.Sizes.items_in}
use Rattle.yq_semantics.proofs.JudgementLaws.{gives_same}
use Rattle.yq_expr.specs.SumSizes.{AddsItems, GivesList, GivesString, IsLargeSum, ItemsOfSize, HasSmall, SumsFrom, found_sum, found_term}
use Rattle.yq_expr.{specs.SumSizes.{items_limit, AddsSized, AreItemsOf, GivesSized, IsJoinedSize}, specs.FixedPaths.IfAny}
use Rattle.yq_expr.{specs.Oversized.string_in, specs.declared.sizes.sum_sizes.SumSize.SumSize}
use Rattle.yq_eval.specs.PlaceView.{place_of}
use Rattle.yq_nodes.specs.Nodes.{kind_of, text_of}
use Rattle.yq_core.specs.declared.kind.Kind.TheVariants as kinds
use Rattle.yq_eval.specs.declared.matching.place.FoundPlace as found
use Rattle.yq_semantics.specs.declared.program.Term as declared
use Rattle.yq_semantics.specs.declared.program.Operator.TheVariants as operator
use Rattle.yq_expr.specs.declared.sizes.sum_sizes.SumSize.TheVariants as sizes
use Rattle.yq_nodes.specs.declared.nodes.node.NodeKind.TheVariants as node_kinds

-- ---- values with which sums begin

text_valid : (t : List ℕ) → IsUtf8 t → IsValueTree (scalar None kinds.Text t)
text_valid t h = (refl, record { kind = tt; utf8 = h })

-- a string, and a list
pub start_text : (v : Node) (k : Kind) (t : List ℕ) (n : ℕ) → v ≡ scalar None k t → k ≡ kinds.Text → IsValueTree v → n ≤ length t → GivesSized (gives v) (sizes.Text n)
start_text v k t n is text valid long =
    let ok : IsValueTree (scalar None k t) = subst IsValueTree is valid in
    (t, ap gives is ∙ ap (λ (l : Kind). gives (scalar None l t)) text, ok.1.utf8, long)

pub start_list : (v : Node) (cs : Children) (size : ListSize) → v ≡ list None cs → IsValueTree v → HasSize (list None (as_items v)) size → GivesSized (gives v) (sizes.List size)
start_list v cs size is valid sized =
    let ok : IsValueTree (list None cs) = subst IsValueTree is valid in
    (cs, ap gives is, record { valid = ok.1; sized = subst (λ w. HasSize (list None (as_items w)) size) is sized })

-- what is so large adds so much
pub sized_adds : (j : Judgement Node) (size : SumSize) → GivesSized j size → AddsSized j size
sized_adds j (sizes.List size) h = (list None h.0, h.1, refl, h.2)
sized_adds j (sizes.Text n) h = h

-- ---- sums

valid_both : (cs ds : Children) → AreValueTrees false cs → AreValueTrees false ds → AreValueTrees false (append_children cs ds)
valid_both none ds h k = k
valid_both (child l n cs) ds h k = (h.0, h.1, valid_both cs ds h.2 k)

-- a list and a value that isn't null
added_list : (ds : Children) (u : Node) → is_null u ≡ false → sum (list None ds) u ≡ gives (list None (append_children ds (as_items u)))
added_list ds u h = rw h refl

-- a value of such a size with that of one term more, and others after it
abbrev MoreSized : ℕ → FoundPlace → Node → Term → List Term → SumSize → Type 0
MoreSized doc p v t ts both = (w : Node) × GivesSized (gives w) both × (sum_from doc p w ts ≡ sum_from doc p v (t ∷ ts))

list_more : (doc : ℕ) (p : FoundPlace) (ds : Children) (t : Term) (ts : List Term) (total size both : ListSize) → AreItemsOf ds total → AddsItems (term_value doc p t) size → IsSizeOfBoth total size both →
    MoreSized doc p (list None ds) t ts (sizes.List both)
list_more doc p ds t ts total size both h k joined =
    let u = k.0 in
    let items = append_children ds (as_items u) in (
      list None items,
      (items, refl, record { valid = valid_both ds (as_items u) h.valid k.3.valid; sized = joined ds (as_items u) h.sized k.3.sized }),
      sym (ap (and_then (λ v. and_then (λ w. sum_from doc p w ts) (sum (list None ds) v))) k.1 ∙ ap (and_then (λ w. sum_from doc p w ts)) (added_list ds u k.2)),
    )

text_more : (doc : ℕ) (p : FoundPlace) (s : List ℕ) (t : Term) (ts : List Term) (total n both : ℕ) → IsUtf8 s → total ≤ length s → GivesString (term_value doc p t) n → both ≤ total + n →
    MoreSized doc p (scalar None kinds.Text s) t ts (sizes.Text both)
text_more doc p s t ts total n both utf8 long h joined = (
  scalar None kinds.Text (s ++ h.0),
  (s ++ h.0, refl, IsUtf8-append s h.0 utf8 h.2, omega (arith, long, h.3, joined, length-append s h.0)),
  sym (ap (and_then (λ v. and_then (λ w. sum_from doc p w ts) (sum (scalar None kinds.Text s) v))) h.1),
)

pub one_more : (doc : ℕ) (p : FoundPlace) (v : Node) (t : Term) (ts : List Term) (total size both : SumSize) → GivesSized (gives v) total → AddsSized (term_value doc p t) size → IsJoinedSize total size both →
    MoreSized doc p v t ts both
one_more doc p v t ts (sizes.List total) (sizes.List size) (sizes.List both) h k joined =
    subst (λ w. MoreSized doc p w t ts (sizes.List both)) (sym (gives_same h.1)) (list_more doc p h.0 t ts total size both h.2 k joined)
one_more doc p v t ts (sizes.Text total) (sizes.Text n) (sizes.Text both) h k joined =
    subst (λ w. MoreSized doc p w t ts (sizes.Text both)) (sym (gives_same h.1)) (text_more doc p h.0 t ts total n both h.2 h.3 k joined)
one_more doc p v t ts (sizes.List total) (sizes.Text n) both h k joined = absurd joined
one_more doc p v t ts (sizes.Text total) (sizes.List size) both h k joined = absurd joined
one_more doc p v t ts (sizes.List total) (sizes.List size) (sizes.Text both) h k joined = absurd joined
one_more doc p v t ts (sizes.Text total) (sizes.Text n) (sizes.List both) h k joined = absurd joined

-- what is so large is a value
value_sized : (j : Judgement Node) (size : SumSize) → GivesSized j size → (v : Node) × (j ≡ gives v) × GivesSized (gives v) size
value_sized j (sizes.List size) h = (list None h.0, h.1, (h.0, refl, h.2))
value_sized j (sizes.Text n) h = (scalar None kinds.Text h.0, h.1, (h.0, refl, h.2, h.3))

-- a term and others
pub sum_of_all : (doc : ℕ) (p : found.FoundPlace) (t : declared.Term) (ts all : List declared.Term) (first : SumSize) (result : Result (Option SumSize) AllocError) → GivesSized (found_term doc p t) first →
    SumsFrom doc p first ts result → all ≡ t ∷ ts → IfAny result (GivesSized (found_sum doc p all))
sum_of_all doc p t ts all first result h sums same =
    let v = value_sized (found_term doc p t) first h in
    subst (λ (us : List declared.Term). IfAny result (GivesSized (found_sum doc p us))) (sym same)
    (subst (λ j. IfAny result (GivesSized (and_then (λ w. sum_from doc (place_of p) w (map term_of ts)) j))) (sym v.1) (sums v.0 v.2))

-- ---- sizes

-- how many items and entries are in what has a size
pub list_items : (size : ListSize) → ItemsOfSize (sizes.List size) size.items
list_items size j h = (list None h.0, h.1, (refl, h.2.valid), h.2.sized.many)

pub text_items : (n : ℕ) → ItemsOfSize (sizes.Text n) (n / 8)
text_items n j h = (scalar None kinds.Text h.0, h.1, text_valid h.0 h.2, omega (arith, h.3))

-- what no text can hold
pub large_list : (before : List ℕ) (size : ListSize) → items_limit < size.items → IsLargeSum before (sizes.List size)
large_list before size more j h = inl (h.0, h.1, record { valid = (refl, h.2.valid); more = omega (arith, more, h.2.sized.many, one-mul (items_in (list None h.0))) })

pub large_text : (before : List ℕ) (n both : ℕ) → IsUtf8 before → both ≤ n + length before → items_limit < both / 8 → IsLargeSum before (sizes.Text n)
large_text before n both utf8 joined more j h =
    let all = before ++ h.0 in
    inr (
      h.0,
      h.1,
      h.2,
      record {
        valid = text_valid all (IsUtf8-append before h.0 utf8 h.2);
        more = omega (arith, joined, more, h.3, length-append before h.0, one-mul (items_in (scalar None kinds.Text all)));
      },
    )

-- ---- small values for large ones

pub small_list : (j : Judgement Node) (size : ListSize) (w : Node) → GivesList j size → ((v : Node) → HasSize v size → IsSubstitute v w) → HasSmall j w
small_list j size w h small = (list None h.0, h.1, (refl, small (list None h.0) h.2.sized))

pub small_text : (j : Judgement Node) (n : ℕ) (w : Node) → GivesString j n → w ≡ scalar None kinds.Text [] → HasSmall j w
small_text j n w h is =
    (scalar None kinds.Text h.0, h.1, (refl, subst (IsSubstitute (scalar None kinds.Text h.0)) (sym is) (record { kind = texts; fit = refl; short = refl; deep = refl })))

-- ---- strings that are there

pub is_string : (n : Node) → kind_of n ≡ node_kinds.Scalar kinds.Text → text_of n ≡ string_in n
is_string n h = search rules

pub no_string : (n : Node) → (kind_of n ≡ node_kinds.Scalar kinds.Text → ⊥) → [] ≡ string_in n
no_string n h = search rules
