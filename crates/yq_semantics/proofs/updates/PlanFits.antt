-- Each operation of a plan fits at its turn.
use Rattle.std.proofs.Common.{◌≡◌, ℕ, suc, Bool, true, false, List, [], ◌∷◌, ◌++◌, length, reverse, Some, refl, sym, ap, subst, ◌∙◌}
use Rattle.std.{proofs.Common.{append_assoc, arith, length-append, rules}, specs.List.slice_get}
use Rattle.yq_core.{specs.Tree.Node, specs.PathOrder.Before}
use Rattle.yq_documents.specs.Documents.{Document}
use Rattle.yq_semantics.{specs.Judgement.{and_then, gives}, specs.After.{root_after, done_to, after_op, all_after}}
use Rattle.yq_semantics.{specs.Changes.{Changed, Room, changes_in, has_comment, changes_from}, specs.Fits.{FitsRoot, AllFit}}
use Rattle.yq_semantics.{specs.Meaning.{changed_at_once, roots_of, AreReady}, specs.Operations.Operation}
use Rattle.yq_semantics.{specs.Plans.{change_ops, ops_of, is_removal, ordered, all_ops, plan}, specs.Program.{UpdatesHold, Update}}
use Rattle.yq_semantics.{proofs.updates.FitsInOrder.{AllFitRoot, all_fit, AreFit}, proofs.updates.Folds.{InPairs, IsGone, AreGone, MayFold}}
use Rattle.yq_semantics.proofs.updates.RootLeads.{document_after, document_folds, op_any_lead, puts_or_keeps}
use Rattle.yq_semantics.{proofs.JudgementLaws.{then_gives, gives_same}, proofs.updates.Planned.{AreOrdered, update_ordered, removal_first}}
use Rattle.yq_semantics.proofs.updates.PlanMeans.{AreOf, ops_are_of, after_at, all_after_at, plan_parts}
use Rattle.yq_semantics.{proofs.updates.FitChanges.update_fit, proofs.updates.Each.{Each, each_op, each_reverse, each_weaker}}

-- each operation fits a document at its turn
abbrev AllFitDocument : Bool → Room → List Operation → Document → Type 0
AllFitDocument block room [] d = Unit {0}
AllFitDocument block room (op ∷ ops) d = FitsRoot room op d.root × AllFitDocument block room ops (done_to block op d)

-- an operation asks for no lead
abbrev AnyLead : Bool → Operation → Type 0
AnyLead block op = (lead other : List (List ℕ)) (n : Node) → root_after block lead op n ≡ root_after block other op n

abbrev AllAnyLead : Bool → List Operation → Type 0
AllAnyLead block ops = Each (AnyLead block) ops

gone_any : (block : Bool) (doc : ℕ) (c : Changed) → IsGone c.1 → AllAnyLead block (change_ops doc c)
gone_any block doc c h1 = search rules

all_gone_any : (block : Bool) (doc : ℕ) (cs : List Changed) → AreGone cs → AllAnyLead block (ops_of doc cs)
all_gone_any block doc cs g = each_op doc (λ (c : Changed). IsGone c.1) (AnyLead block) (gone_any block doc) cs g

any_fit : (block : Bool) (lead : List (List ℕ)) (room : Room) (ops : List Operation) (d : Document) → AllAnyLead block ops → AllFitRoot block lead room ops d.root → AllFitDocument block room ops d
any_fit block lead room [] d l h = tt
any_fit block lead room (op ∷ ops) d l h =
    (h.0, any_fit block lead room ops (done_to block op d) l.1 (subst (AllFitRoot block lead room ops) (l.0 lead d.lead d.root) h.1))

document_fits : (block : Bool) (room : Room) (doc : ℕ) (d : Document) (removal : Bool) (cs : List Changed) → InPairs Before cs → MayFold removal cs → AllFitRoot block d.lead room (ops_of doc (ordered removal cs)) d.root →
    AllFitDocument block room (ops_of doc (ordered removal cs)) d
document_fits block room doc d true cs p k h = any_fit block d.lead room (ops_of doc (reverse cs)) d (all_gone_any block doc (reverse cs) (each_reverse (λ (c : Changed). IsGone c.1) cs k)) h
document_fits block room doc d false cs p k h = search (rules, any_fit, all_gone_any, each_reverse, puts_or_keeps, each_weaker, op_any_lead)

-- ---- on documents

get_at : (front : List Document) (d : Document) (ds : List Document) → slice_get (front ++ d ∷ ds) (length front) ≡ Some d
get_at [] d ds = refl
get_at (e ∷ es) d ds = get_at es d ds

all_fit_at : (rooms : ℕ → Room) (ops : List Operation) (front : List Document) (d : Document) (ds : List Document) → AreOf (length front) ops →
    AllFitDocument (rooms (length front)).block (rooms (length front)) ops d → AllFit rooms ops (front ++ d ∷ ds)
all_fit_at rooms [] front d ds o h = tt
all_fit_at rooms (op ∷ ops) front d ds o h = search (rules, get_at, after_at, all_fit_at rooms ops front (done_to (rooms (length front)).block op d) ds o.1 h.1)

all_fit_join : (rooms : ℕ → Room) (ops others : List Operation) (docs : List Document) → AllFit rooms ops docs → AllFit rooms others (all_after rooms ops docs) → AllFit rooms (ops ++ others) docs
all_fit_join rooms [] others docs h k = k
all_fit_join rooms (op ∷ ops) others docs h k = (h.0, all_fit_join rooms ops others (after_op rooms op docs) h.1 k)

from_fits : (u : Update) (rooms : ℕ → Room) (n : ℕ) (docs front : List Document) (css : List (List Changed)) → length front ≡ n → AreReady rooms n docs → UpdatesHold (u ∷ []) → has_comment u ≡ true →
    changes_from u rooms n (roots_of docs) ≡ gives css →
    AllFit rooms (all_ops (is_removal u) n css) (front ++ docs)
from_fits u rooms n [] front css is ready pure good h = subst (λ (xs : List (List Changed)). AllFit rooms (all_ops (is_removal u) n xs) (front ++ [])) (gives_same h) tt
from_fits u rooms n (d ∷ ds) front css is ready pure good h =
    let one = then_gives (λ first. and_then (λ others. gives (first ∷ others)) (changes_from u rooms (suc n) (roots_of ds))) (changes_in u n (rooms n) d.root) css h in
    let two = then_gives (λ (others : List (List Changed)). gives (one.0 ∷ others)) (changes_from u rooms (suc n) (roots_of ds)) css one.2 in
    let order : AreOrdered (is_removal u) one.0 = update_ordered u n (rooms n) d.root one.0 ready.0.0 one.1 in
    let fit : AreFit (rooms n) d.root one.0 = update_fit u n (rooms n) d.root one.0 ready.0.0 pure good one.1 in
    let ops : List Operation = ops_of n (ordered (is_removal u) one.0) in
    let new : Document = changed_at_once (rooms n).block one.0 d in
    let are_of : AreOf (length front) ops = subst (λ (m : ℕ). AreOf m ops) (sym is) (ops_are_of n (ordered (is_removal u) one.0)) in
    let created : document_after (rooms n).block ops d ≡ new = search (rules, document_folds, removal_first, one, order) in
    let at : all_after rooms ops (front ++ d ∷ ds) ≡ (front ++ new ∷ []) ++ ds =
    all_after_at rooms ops front d ds are_of
    ∙ (ap (λ (m : ℕ). front ++ document_after (rooms m).block ops d ∷ ds) is ∙ (ap (λ (e : Document). front ++ e ∷ ds) created ∙ sym (append_assoc front (new ∷ []) ds))) in
    let longer : length (front ++ new ∷ []) ≡ suc n = length-append front (new ∷ []) ∙ (omega (arith, is)) in
    let here : AllFitDocument (rooms n).block (rooms n) ops d =
    document_fits (rooms n).block (rooms n) n d (is_removal u) one.0 order.0 order.1 (all_fit (rooms n).block d.lead (rooms n) n d.root ready.0.0 (is_removal u) one.0 order.0 order.1 fit) in
    search (rules, gives_same, all_fit_join, all_fit_at, from_fits u rooms (suc n) ds (front ++ new ∷ []) two.0 longer ready.1 pure good two.1)

-- each operation of a plan fits at its turn
pub plan_fits : (u : Update) (rooms : ℕ → Room) (docs : List Document) (ops : List Operation) → AreReady rooms 0 docs → UpdatesHold (u ∷ []) → plan u rooms docs ≡ gives ops → AllFit rooms ops docs
plan_fits u rooms docs ops ready pure h =
    let x = plan_parts u rooms docs ops h in subst (λ (os : List Operation). AllFit rooms os docs) x.4 (from_fits u rooms 0 docs [] x.0 refl ready pure x.1 x.2)
