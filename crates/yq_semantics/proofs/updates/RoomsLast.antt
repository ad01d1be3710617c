-- The room that the operations of a plan ask for lasts.
use Rattle.std.proofs.Common.{◌≡◌, ◌<◌, ◌⊎◌, ℕ, suc, Bool, List, [], ◌∷◌, ◌++◌, map, option_and_then, refl, sym, subst, ◌∙◌, inl, inr}
use Rattle.std.{proofs.Common.{arith, rules}, proofs.lemmas.Option.same_Some}
use Rattle.yq_core.{specs.PathOrder.Before, specs.Paths.Step}
use Rattle.yq_documents.specs.Documents.{Document}
use Rattle.yq_semantics.specs.After.{op_document, after_op}
use Rattle.yq_semantics.specs.Changes.{Addition, appends, overwrites, replaces, adds, sets_comment, Changed, Room, changes_in, changes_from}
use Rattle.yq_semantics.{specs.Fits.AllFit, specs.Judgement.{and_then, gives}, specs.Meaning.{roots_of, AreReady}}
use Rattle.yq_semantics.{specs.Operations.{Operation, remove}, specs.Plans.{add_op, ops_of, is_removal, ordered, all_ops, plan}}
use Rattle.yq_semantics.specs.Program.{UpdatesHold, Update, comment}
use Rattle.yq_semantics.specs.RoomsKept.{KeepsBlockIn, NoneOn, BlockLasts, SetComments, SetNoComment, MayFollow}
use Rattle.yq_semantics.proofs.JudgementLaws.{then_gives, gives_same}
use Rattle.yq_semantics.proofs.updates.Folds.{InPairs, AllAre, AreGone, IsWritten, IsSaid, IsOf, MayFold, of_may_fold}
use Rattle.yq_semantics.{proofs.updates.Planned.update_kind, proofs.updates.PlanFits.plan_fits}
use Rattle.yq_semantics.proofs.updates.PlanMeans.{AreOf, ops_are_of, plan_parts}
use Rattle.yq_semantics.{proofs.updates.RootLeads.{KeepsSome, AllKeepSome, puts_or_keeps}, proofs.updates.Each.each_reverse}
use Rattle.yq_semantics.specs.declared.program.CommentPlace.TheVariants as comments
use Rattle.yq_semantics.specs.Changes as changes

-- ---- by turns

-- an operation removes something, and the next one does too, in the same document
abbrev RemovesMore : Operation → List Operation → Type 0
RemovesMore (remove doc path) ops = (q : List Step) × (rest : List Operation) × (ops ≡ remove doc q ∷ rest)
RemovesMore _ ops = ⊥

-- each operation leaves items and entries, or is the last one of its document, or removes what isn't the last
abbrev KeepBlocks : List Operation → Type 0
KeepBlocks [] = Unit {0}
KeepBlocks (op ∷ ops) = (KeepsSome op ⊎ (NoneOn (op_document op) ops ⊎ RemovesMore op ops)) × KeepBlocks ops

keep_last : (rooms : ℕ → Room) (ops : List Operation) (docs : List Document) → KeepBlocks ops → AllFit rooms ops docs → BlockLasts rooms ops docs
keep_last rooms [] docs t f = tt
keep_last rooms (op ∷ ops) docs t f = (go t.0, keep_last rooms ops (after_op rooms op docs) t.1 f.1)
  where
    go : KeepsSome op ⊎ (NoneOn (op_document op) ops ⊎ RemovesMore op ops) → KeepsBlockIn op (after_op rooms op docs) ⊎ NoneOn (op_document op) ops
    go (inl l) = inl (λ d at. search rules)
    go (inr (inl n)) = inr n
    go (inr (inr r)) = inl (search (rules, same_Some, option_and_then))

-- ---- the operations of later documents

none_join : (n : ℕ) (ops others : List Operation) → NoneOn n ops → NoneOn n others → NoneOn n (ops ++ others)
none_join n [] others h k = k
none_join n (op ∷ ops) others h k = (h.0, none_join n ops others h.1 k)

none_other : (n m : ℕ) (ops : List Operation) → n < m → AreOf m ops → NoneOn n ops
none_other n m [] less o = tt
none_other n m (op ∷ ops) less o = ((λ e. let same : n ≡ m = sym e ∙ o.0 in absurd (omega (arith, less, same))), none_other n m ops less o.1)

none_before : (removal : Bool) (n m : ℕ) (css : List (List Changed)) → n < m → NoneOn n (all_ops removal m css)
none_before removal n m [] less = tt
none_before removal n m (cs ∷ css) less = search (rules, none_join, none_other, ops_are_of, none_before removal n (suc m) css (omega (arith, less)))

-- ---- the operations of a document

keep_leave : (ops others : List Operation) → AllKeepSome ops → KeepBlocks others → KeepBlocks (ops ++ others)
keep_leave [] others l t = t
keep_leave (op ∷ ops) others l t = (inl l.0, keep_leave ops others l.1 t)

keep_gone : (n : ℕ) (cs : List Changed) (others : List Operation) → AreGone cs → NoneOn n others → KeepBlocks others → KeepBlocks (ops_of n cs ++ others)
keep_gone n [] others g away t = t
keep_gone n ((p, changes.removes) ∷ []) others g away t = (inr (inl away), t)
keep_gone n ((p, changes.removes) ∷ ((q, changes.removes) ∷ cs)) others g away t =
    (inr (inr (q, ops_of n cs ++ others, refl)), keep_gone n ((q, changes.removes) ∷ cs) others g.1 away t)
keep_gone n ((p, changes.removes) ∷ (q, _) ∷ cs) others g away t = absurd g.1.0
keep_gone n ((p, _) ∷ cs) others g away t = absurd g.0

document_keep : (removal : Bool) (n : ℕ) (cs : List Changed) (others : List Operation) → InPairs Before cs → MayFold removal cs → NoneOn n others → KeepBlocks others → KeepBlocks (ops_of n (ordered removal cs) ++ others)
document_keep removal n cs others h1 h2 h3 h4 = search (rules, keep_gone, each_reverse, puts_or_keeps, keep_leave)

-- ---- which set comments

set_join : (ops others : List Operation) → SetComments ops → SetComments others → SetComments (ops ++ others)
set_join [] others h k = k
set_join (op ∷ ops) others h k = (h.0, set_join ops others h.1 k)

no_join : (ops others : List Operation) → SetNoComment ops → SetNoComment others → SetNoComment (ops ++ others)
no_join [] others h k = k
no_join (op ∷ ops) others h k = (h.0, no_join ops others h.1 k)

adds_no : (n : ℕ) (p : List Step) (xs : List Addition) → SetNoComment (map (add_op n p) xs)
adds_no n p [] = tt
adds_no n p (appends k v ∷ xs) = ((λ h. h), adds_no n p xs)
adds_no n p (overwrites k v ∷ xs) = ((λ h. h), adds_no n p xs)

written_no : (n : ℕ) (cs : List Changed) → AllAre IsWritten cs → SetNoComment (ops_of n cs)
written_no n [] h = tt
written_no n ((p, replaces v) ∷ cs) h = ((λ k. k), written_no n cs h.1)
written_no n ((p, adds xs) ∷ cs) h = no_join (map (add_op n p) xs) (ops_of n cs) (adds_no n p xs) (written_no n cs h.1)
written_no n ((p, _) ∷ cs) h = absurd h.0

gone_no : (n : ℕ) (cs : List Changed) → AreGone cs → SetNoComment (ops_of n cs)
gone_no n [] h = tt
gone_no n ((p, changes.removes) ∷ cs) h = ((λ k. k), gone_no n cs h.1)
gone_no n ((p, _) ∷ cs) h = absurd h.0

said_set : (n : ℕ) (cs : List Changed) → AllAre IsSaid cs → SetComments (ops_of n cs)
said_set n [] h = tt
said_set n ((p, sets_comment comments.Line text) ∷ cs) h = (tt, said_set n cs h.1)
said_set n ((p, sets_comment comments.Head text) ∷ cs) h = (tt, said_set n cs h.1)
said_set n ((p, _) ∷ cs) h = absurd h.0

-- what the operations of an update say of comments
abbrev Say : Update → List Operation → Type 0
Say (comment left place text) ops = SetComments ops
Say _ ops = SetNoComment ops

say_join : (u : Update) (n : ℕ) (cs : List Changed) (others : List Operation) → AllAre (IsOf u) cs → Say u others → Say u (ops_of n (ordered (is_removal u) cs) ++ others)
say_join u n cs others h1 h2 = search (rules, no_join, written_no, gone_no, each_reverse, set_join, said_set)

-- ---- the operations of an update

from_keep : (u : Update) (rooms : ℕ → Room) (n : ℕ) (docs : List Document) (css : List (List Changed)) → AreReady rooms n docs → changes_from u rooms n (roots_of docs) ≡ gives css →
    KeepBlocks (all_ops (is_removal u) n css) × Say u (all_ops (is_removal u) n css)
from_keep u rooms n [] css ready h =
    subst (λ (xs : List (List Changed)). KeepBlocks (all_ops (is_removal u) n xs) × Say u (all_ops (is_removal u) n xs)) (gives_same h) (tt, search rules)
from_keep u rooms n (d ∷ ds) css ready h =
    let one = then_gives (λ first. and_then (λ others. gives (first ∷ others)) (changes_from u rooms (suc n) (roots_of ds))) (changes_in u n (rooms n) d.root) css h in
    let two = then_gives (λ (others : List (List Changed)). gives (one.0 ∷ others)) (changes_from u rooms (suc n) (roots_of ds)) css one.2 in
    let kind = update_kind u n (rooms n) d.root one.0 ready.0.0 one.1 in
    let others : List Operation = all_ops (is_removal u) (suc n) two.0 in
    let rest = from_keep u rooms (suc n) ds two.0 ready.1 two.1 in
    subst (λ (xs : List (List Changed)). KeepBlocks (all_ops (is_removal u) n xs) × Say u (all_ops (is_removal u) n xs)) (gives_same two.2)
    (document_keep (is_removal u) n one.0 others kind.0 (of_may_fold u one.0 kind.1) (none_before (is_removal u) n (suc n) two.0 (omega arith)) rest.0, say_join u n one.0 others kind.1 rest.1)

-- the operations of a plan may follow one another
pub plan_follows : (u : Update) (rooms : ℕ → Room) (docs : List Document) (ops : List Operation) → AreReady rooms 0 docs → UpdatesHold (u ∷ []) → plan u rooms docs ≡ gives ops → MayFollow rooms ops docs
plan_follows u rooms docs ops ready holds h = search (rules, plan_fits, plan_parts, from_keep, keep_last)
