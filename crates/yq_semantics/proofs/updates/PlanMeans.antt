-- What is planned leads to what is meant.
use Rattle.std.proofs.Common.{◌≡◌, ℕ, suc, true, List, [], ◌∷◌, ◌++◌, length, map, refl, sym, ap, subst, ◌∙◌, append_assoc, arith}
use Rattle.std.proofs.Common.{length-append, rules}
use Rattle.yq_core.proofs.Bools.{chosen}
use Rattle.yq_documents.{specs.Documents.Document, specs.TreeEdits.change_nth}
use Rattle.yq_semantics.{specs.declared.refusal.Refusal.Refusal, specs.Judgement.{Judgement, and_then, gives, refuses}}
use Rattle.yq_semantics.specs.After.{op_document, done_to, after_op, all_after}
use Rattle.yq_semantics.specs.Changes.{Addition, appends, overwrites, replaces, adds, sets_comment, Changed, Room, has_comment, changes_in}
use Rattle.yq_semantics.specs.Changes.{changes_from, update_changes}
use Rattle.yq_semantics.{specs.Meaning.{changed_at_once, all_changed, roots_of, meaning, AreReady}, specs.Operations.Operation}
use Rattle.yq_semantics.{specs.Plans.{add_op, change_ops, ops_of, is_removal, ordered, all_ops, plan}, specs.Program.Update}
use Rattle.yq_semantics.{proofs.updates.RootLeads.{document_after, document_folds}, proofs.JudgementLaws.{then_gives, gives_same}}
use Rattle.yq_semantics.{proofs.updates.Planned.{AreOrdered, update_ordered, removal_first}, proofs.updates.Each.{Each, each_join}}
use Rattle.yq_core.specs.Paths as paths
use Rattle.yq_semantics.specs.declared.program.CommentPlace.TheVariants as comments
use Rattle.yq_semantics.specs.Changes as changes

-- ---- operations on the document of a number

abbrev pub AreOf : ℕ → List Operation → Type 0
AreOf n ops = Each (λ op. op_document op ≡ n) ops

adds_of : (n : ℕ) (p : List paths.Step) (xs : List Addition) → AreOf n (map (add_op n p) xs)
adds_of n p [] = tt
adds_of n p (appends k v ∷ xs) = (refl, adds_of n p xs)
adds_of n p (overwrites k v ∷ xs) = (refl, adds_of n p xs)

change_of : (n : ℕ) (c : Changed) → AreOf n (change_ops n c)
change_of n (p, replaces v) = (refl, tt)
change_of n (p, adds xs) = adds_of n p xs
change_of n (p, changes.removes) = (refl, tt)
change_of n (p, sets_comment comments.Line text) = (refl, tt)
change_of n (p, sets_comment comments.Head text) = (refl, tt)

pub ops_are_of : (n : ℕ) (cs : List Changed) → AreOf n (ops_of n cs)
ops_are_of n [] = tt
ops_are_of n (c ∷ cs) = each_join (λ op. op_document op ≡ n) (change_ops n c) (ops_of n cs) (change_of n c) (ops_are_of n cs)

with_at : (f : Document → Document) (front : List Document) (d : Document) (ds : List Document) → change_nth (length front) f (front ++ d ∷ ds) ≡ front ++ f d ∷ ds
with_at f [] d ds = refl
with_at f (e ∷ es) d ds = ap (λ xs. e ∷ xs) (with_at f es d ds)

pub after_at : (rooms : ℕ → Room) (op : Operation) (front : List Document) (d : Document) (ds : List Document) → op_document op ≡ length front →
    after_op rooms op (front ++ d ∷ ds) ≡ front ++ done_to (rooms (length front)).block op d ∷ ds
after_at rooms op front d ds is = ap (λ (n : ℕ). change_nth n (done_to (rooms n).block op) (front ++ d ∷ ds)) is ∙ with_at (done_to (rooms (length front)).block op) front d ds

pub all_after_at : (rooms : ℕ → Room) (ops : List Operation) (front : List Document) (d : Document) (ds : List Document) → AreOf (length front) ops →
    all_after rooms ops (front ++ d ∷ ds) ≡ front ++ document_after (rooms (length front)).block ops d ∷ ds
all_after_at rooms [] front d ds h = refl
all_after_at rooms (op ∷ ops) front d ds h = search (rules, after_at, all_after_at rooms ops front (done_to (rooms (length front)).block op d) ds h.1)

pub after_join : (rooms : ℕ → Room) (ops others : List Operation) (docs : List Document) → all_after rooms (ops ++ others) docs ≡ all_after rooms others (all_after rooms ops docs)
after_join rooms [] others docs = refl
after_join rooms (op ∷ ops) others docs = after_join rooms ops others (after_op rooms op docs)

-- ---- documents

from_means : (u : Update) (rooms : ℕ → Room) (n : ℕ) (docs front : List Document) (css : List (List Changed)) → length front ≡ n → AreReady rooms n docs → changes_from u rooms n (roots_of docs) ≡ gives css →
    all_after rooms (all_ops (is_removal u) n css) (front ++ docs) ≡ front ++ all_changed rooms n css docs
from_means u rooms n [] front css is ready h = subst (λ (xs : List (List Changed)). all_after rooms (all_ops (is_removal u) n xs) (front ++ []) ≡ front ++ all_changed rooms n xs []) (gives_same h) refl
from_means u rooms n (d ∷ ds) front css is ready h =
    let one = then_gives (λ first. and_then (λ others. gives (first ∷ others)) (changes_from u rooms (suc n) (roots_of ds))) (changes_in u n (rooms n) d.root) css h in
    let two = then_gives (λ (others : List (List Changed)). gives (one.0 ∷ others)) (changes_from u rooms (suc n) (roots_of ds)) css one.2 in
    let order : AreOrdered (is_removal u) one.0 = update_ordered u n (rooms n) d.root one.0 ready.0.0 one.1 in
    let ops : List Operation = ops_of n (ordered (is_removal u) one.0) in
    let new : Document = changed_at_once (rooms n).block one.0 d in
    let created : document_after (rooms n).block ops d ≡ new = search (rules, document_folds, removal_first, one, order) in
    let at : all_after rooms ops (front ++ d ∷ ds) ≡ front ++ new ∷ ds = search (rules, all_after_at, ops_are_of, document_after, ops, one, created) in
    let longer : length (front ++ new ∷ []) ≡ suc n = length-append front (new ∷ []) ∙ (omega (arith, is)) in
    search (rules, gives_same, after_join, append_assoc, from_means u rooms (suc n) ds (front ++ new ∷ []) two.0 longer ready.1 two.1)

-- a plan comes of changes, where a comment's text may be
pub plan_parts : (u : Update) (rooms : ℕ → Room) (docs : List Document) (ops : List Operation) → plan u rooms docs ≡ gives ops →
    (css : List (List Changed)) × (has_comment u ≡ true)
    × (changes_from u rooms 0 (roots_of docs) ≡ gives css) × (update_changes u rooms (roots_of docs) ≡ gives css) × (all_ops (is_removal u) 0 css ≡ ops)
plan_parts u rooms docs ops h = search (rules, then_gives, chosen, gives_same)

-- the operations of a plan, one after the other, make what the update means
pub plan_means : (u : Update) (rooms : ℕ → Room) (docs : List Document) (ops : List Operation) → AreReady rooms 0 docs → plan u rooms docs ≡ gives ops → meaning u rooms docs ≡ gives (all_after rooms ops docs)
plan_means u rooms docs ops ready h =
    let x = plan_parts u rooms docs ops h in
    ap (and_then (λ css. gives (all_changed rooms 0 css docs))) x.3
    ∙ (ap (λ (ds : List Document). gives ds) (sym (from_means u rooms 0 docs [] x.0 refl ready x.2))
    ∙ ap (λ (os : List Operation). gives (all_after rooms os docs)) x.4)

-- what comes of both steps, where the second one gives something, refuses as the first
then_refuses : {A B C : Type 0} (f : A → B) (g : A → C) (j : Judgement A) (why : Refusal) → and_then (λ x. gives (f x)) j ≡ refuses why → and_then (λ x. gives (g x)) j ≡ refuses why
then_refuses f g j why h = search rules

-- a plan is refused as the update is
pub plan_refused : (u : Update) (rooms : ℕ → Room) (docs : List Document) (why : Refusal) → plan u rooms docs ≡ refuses why → meaning u rooms docs ≡ refuses why
plan_refused u rooms docs why h = then_refuses (λ css. all_ops (is_removal u) 0 css) (λ css. all_changed rooms 0 css docs) (update_changes u rooms (roots_of docs)) why h

pub meaning_refused : (u : Update) (rooms : ℕ → Room) (docs : List Document) (why : Refusal) → meaning u rooms docs ≡ refuses why → plan u rooms docs ≡ refuses why
meaning_refused u rooms docs why h = then_refuses (λ css. all_changed rooms 0 css docs) (λ css. all_ops (is_removal u) 0 css) (update_changes u rooms (roots_of docs)) why h
