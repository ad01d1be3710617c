-- A plan that is made part by part.
use Rattle.std.proofs.Common.{rules, ◌≡◌, ℕ, zero, suc, ◌+◌, ◌<◌, ◌≤◌, ◌-◌, false, List, [], ◌∷◌, ◌++◌, length, take, drop, Some, None}
use Rattle.std.proofs.Common.{refl, sym, ap, ◌∙◌, append_assoc, append-nil, add-one, arith, subst}
use Rattle.std.proofs.lemmas.List.{drop-drop, drop-map, drop_all, length-drop, take-append-drop, take-map, take_rest}
use Rattle.yq_core.specs.Tree.{Node}
use Rattle.yq_documents.specs.Documents.{Document}
use Rattle.yq_semantics.specs.Changes.{Room, Changed, all_allowed, changes_at, changes_from, left_pipe, with_value}
use Rattle.yq_semantics.{specs.Judgement.{Judgement, MatchFails, and_then, gives, refuses, ExprError}, specs.Meaning.roots_of}
use Rattle.yq_semantics.{specs.Operations.Operation, specs.Pipes.places, specs.Places.{FoundPlace, for_each}}
use Rattle.yq_semantics.{specs.Plans.{all_ops, change_ops, ops_of, plan}, specs.PlacesApart.AreIn, specs.Program.Update}
use Rattle.yq_eval.{specs.PlaceView.{places_of, put_after}, specs.TreeScalars.HaveScalars, proofs.EachLaws.{fails_then, put_both}}
use Rattle.yq_expr.specs.Parts.{IsInOrder, IsPlanPart, document_ops, ops_from, rest_ops}
use Rattle.yq_eval.specs.declared.matching.place.FoundPlace as declared

-- what comes of two, one after the other
abbrev both : {A : Type 0} → Judgement (List A) → Judgement (List A) → Judgement (List A)
both j k = and_then (λ xs. and_then (λ ys. gives (xs ++ ys)) k) j

-- ---- the places of a part

drop_have : (n : ℕ) (ps : List FoundPlace) → HaveScalars ps → HaveScalars (drop n ps)
drop_have zero ps h = h
drop_have (suc n) [] h = tt
drop_have (suc n) (p ∷ ps) h = drop_have n ps h.1

take_have : (n : ℕ) (ps : List FoundPlace) → HaveScalars ps → HaveScalars (take n ps)
take_have (suc n) (p ∷ ps) h = (h.0, take_have n ps h.1)
take_have _ _ h = tt

drop_in : (root : Node) (n : ℕ) (ps : List FoundPlace) → AreIn root ps → AreIn root (drop n ps)
drop_in root zero ps h = h
drop_in root (suc n) [] h = tt
drop_in root (suc n) (p ∷ ps) h = drop_in root n ps h.1

take_in : (root : Node) (n : ℕ) (ps : List FoundPlace) → AreIn root ps → AreIn root (take n ps)
take_in root (suc n) (p ∷ ps) h = (h.0, take_in root n ps h.1)
take_in root _ _ h = tt

-- some places of those that have such scalars have them, too
pub some_have : (m n : ℕ) (ps : List FoundPlace) → HaveScalars ps → HaveScalars (take m (drop n ps))
some_have m n ps h = take_have m (drop n ps) (drop_have n ps h)

-- some places of those in a root are in it, too
pub some_in : (root : Node) (m n : ℕ) (ps : List FoundPlace) → AreIn root ps → AreIn root (take m (drop n ps))
some_in root m n ps h = take_in root m (drop n ps) (drop_in root n ps h)

-- after some of several there are others
pub some_left : {X : Type 0} (n : ℕ) (xs : List X) → n < length xs → 0 < length (take (length xs - n) (drop n xs))
some_left n xs h = let is = ap length (take_rest xs n) ∙ length-drop n xs in omega (arith, h, is)

-- some places that the code has stand for some of those for which it has them
pub some_are : (m n : ℕ) (xs ys : List declared.FoundPlace) → ys ≡ xs → places_of (take m (drop n ys)) ≡ take m (drop n (places_of xs))
some_are m n xs ys same = search (rules, take-map, drop-map)

-- ---- what is changed at some places and at the others

both_assoc : {A : Type 0} (a b c : Judgement (List A)) → both a (both b c) ≡ both (both a b) c
both_assoc a b c = search (rules, append_assoc)

both_none : {A : Type 0} (j : Judgement (List A)) → both (gives []) j ≡ j
both_none j = search rules

each_both : {A B : Type 0} (f : A → Judgement (List B)) (xs ys : List A) → for_each f (xs ++ ys) ≡ both (for_each f xs) (for_each f ys)
each_both f [] ys = sym (both_none (for_each f ys))
each_both f (x ∷ xs) ys = ap (both (f x)) (each_both f xs ys) ∙ both_assoc (f x) (for_each f xs) (for_each f ys)

value_both : (root : Node) (right : Judgement Node) (f : FoundPlace → Node → Judgement (List Changed)) (ps qs : List FoundPlace) → with_value root right f (ps ++ qs) ≡ both (with_value root right f ps) (with_value root right f qs)
value_both root right f [] qs = sym (both_none (with_value root right f qs))
value_both root (refuses why) f (p ∷ ps) qs = refl
value_both root (gives v) f (p ∷ ps) [] = search (rules, append-nil)
value_both root (gives v) f (p ∷ ps) (q ∷ qs) = each_both (λ x. and_then (all_allowed root) (f x v)) (p ∷ ps) (q ∷ qs)

pub changes_both : (doc : ℕ) (room : Room) (root : Node) (u : Update) (ps qs : List FoundPlace) → changes_at doc room root u (ps ++ qs) ≡ both (changes_at doc room root u ps) (changes_at doc room root u qs)
changes_both doc room root u ps qs = search (rules, value_both, each_both)

-- ---- the operations of a part

pub ops_join : (doc : ℕ) (cs ds : List Changed) → ops_of doc (cs ++ ds) ≡ ops_of doc cs ++ ops_of doc ds
ops_join doc [] ds = refl
ops_join doc (c ∷ cs) ds = ap (λ ops. change_ops doc c ++ ops) (ops_join doc cs ds) ∙ sym (append_assoc (change_ops doc c) (ops_of doc cs) (ops_of doc ds))

split_places : (place to : ℕ) (ps : List FoundPlace) → place ≤ to → drop place ps ≡ take (to - place) (drop place ps) ++ drop to ps
split_places place to ps h =
    let end : place + (to - place) ≡ to = omega (arith, h) in
    sym (take-append-drop (to - place) (drop place ps))
    ∙ ap (λ (qs : List FoundPlace). take (to - place) (drop place ps) ++ qs) (drop-drop (to - place) place ps ∙ ap (λ (n : ℕ). drop n ps) end)

module _ (u : Update) (doc : ℕ) (room : Room) (root : Node) (ps : List FoundPlace) (found : places doc (left_pipe u) root ≡ gives ps) where
  pub ops_there : (place : ℕ) → document_ops u doc room root place ≡ and_then (λ cs. gives (ops_of doc cs)) (changes_at doc room root u (drop place ps))
  ops_there place = ap (and_then (λ qs. and_then (λ cs. gives (ops_of doc cs)) (changes_at doc room root u (drop place qs)))) found

  -- from the end of the places on nothing is left
  none_left : (place : ℕ) → length ps ≤ place → document_ops u doc room root place ≡ gives []
  none_left place past = search (rules, ops_there, drop_all)

  pub none_part : (before after : List Operation) (place : ℕ) → length ps ≤ place → after ≡ before → IsPlanPart (document_ops u doc room root) place before after None
  none_part before after place past same = ap (put_after before) (none_left place past) ∙ ap gives (append-nil before ∙ sym same)

  -- the operations at some places, and those of the others
  module _ (before after : List Operation) (place to : ℕ) (cs : List Changed) (order : place ≤ to) (changed : changes_at doc room root u (take (to - place) (drop place ps)) ≡ gives cs) (is : after ≡ before ++ ops_of doc cs) where
    goes_on : put_after before (document_ops u doc room root place) ≡ put_after after (document_ops u doc room root to)
    goes_on =
        ap (put_after before) (ops_there place)
        ∙ (ap (λ (qs : List FoundPlace). put_after before (and_then (λ xs. gives (ops_of doc xs)) (changes_at doc room root u qs))) (split_places place to ps order)
        ∙ (ap (λ j. put_after before (and_then (λ xs. gives (ops_of doc xs)) j)) (changes_both doc room root u (take (to - place) (drop place ps)) (drop to ps))
        ∙ (ap (λ j. put_after before (and_then (λ xs. gives (ops_of doc xs)) (both j (changes_at doc room root u (drop to ps))))) changed
        ∙ ((search (rules, ops_join, append_assoc))
        ∙ (λ i. put_after (sym is i) (sym (ops_there to) i))))))

    pub more_part : IsPlanPart (document_ops u doc room root) place before after (Some to)
    more_part = goes_on

    pub last_part : length ps ≤ to → IsPlanPart (document_ops u doc room root) place before after None
    last_part past = goes_on ∙ (ap (put_after after) (none_left to past) ∙ ap gives (append-nil after))

  -- a refusal at some places is one of all
  pub part_fails : (place to : ℕ) (e : ExprError) → place ≤ to → MatchFails e (changes_at doc room root u (take (to - place) (drop place ps))) → MatchFails e (document_ops u doc room root place)
  part_fails place to e order h =
      subst (MatchFails e)
      (sym (ops_there place ∙ ap (and_then (λ cs. gives (ops_of doc cs))) (ap (changes_at doc room root u) (split_places place to ps order) ∙ changes_both doc room root u (take (to - place) (drop place ps)) (drop to ps))))
      (fails_then (λ cs. gives (ops_of doc cs)) (both (changes_at doc room root u (take (to - place) (drop place ps))) (changes_at doc room root u (drop to ps))) e
      (fails_then (λ xs. and_then (λ ys. gives (xs ++ ys)) (changes_at doc room root u (drop to ps))) (changes_at doc room root u (take (to - place) (drop place ps))) e h))

-- ---- document after document

module _ (u : Update) (rooms : ℕ → Room) (docs : List Document) (doc : ℕ) (d : Document) (at : drop doc docs ≡ d ∷ drop (suc doc) docs) where
  abbrev here : ℕ → Judgement (List Operation)
  here = document_ops u doc (rooms doc) d.root

  abbrev later : Judgement (List Operation)
  later = rest_ops u rooms docs (suc doc) 0

  pub rest_there : (place : ℕ) → rest_ops u rooms docs doc place ≡ both (here place) later
  rest_there place = ap (λ (ds : List Document). ops_from u rooms doc place (roots_of ds)) at

  -- after a document the next one comes
  pub next_document : (place : ℕ) (before after : List Operation) → IsPlanPart here place before after None → put_after before (rest_ops u rooms docs doc place) ≡ put_after after (rest_ops u rooms docs (doc + 1) 0)
  next_document place before after h = search (rules, rest_there, put_both, add-one)

  -- in a document there is more
  pub same_document : (place next : ℕ) (before after : List Operation) → IsPlanPart here place before after (Some next) → put_after before (rest_ops u rooms docs doc place) ≡ put_after after (rest_ops u rooms docs doc next)
  same_document place next before after h = search (rules, rest_there, put_both)

  -- a refusal in a document is one of all
  pub document_fails : (place : ℕ) (before : List Operation) (all : Judgement (List Operation)) (e : ExprError) → MatchFails e (here place) → put_after before (rest_ops u rooms docs doc place) ≡ all → MatchFails e all
  document_fails place before all e h so_far = search rules

-- ---- the whole plan

-- in one document and in those after it
one_document : (n : ℕ) (j : Judgement (List FoundPlace)) (f : List FoundPlace → Judgement (List Changed)) (k : Judgement (List (List Changed))) →
    and_then (λ css. gives (all_ops false n css)) (and_then (λ first. and_then (λ others. gives (first ∷ others)) k) (and_then f j))
    ≡ both (and_then (λ ps. and_then (λ cs. gives (ops_of n cs)) (f ps)) j) (and_then (λ css. gives (all_ops false (suc n) css)) k)
one_document n j f k = search rules

all_from : (u : Update) (rooms : ℕ → Room) (n : ℕ) (roots : List Node) → and_then (λ css. gives (all_ops false n css)) (changes_from u rooms n roots) ≡ ops_from u rooms n 0 roots
all_from u rooms n [] = refl
all_from u rooms n (root ∷ roots) = search (rules, one_document, all_from u rooms (suc n) roots)

-- it is what is left from the first place on
pub whole_plan : (u : Update) (rooms : ℕ → Room) (docs : List Document) → IsInOrder u → plan u rooms docs ≡ rest_ops u rooms docs 0 0
whole_plan u rooms docs h = search (rules, all_from, h.stays, h.comment)

-- after the last document nothing is left
pub nothing_left : (u : Update) (rooms : ℕ → Room) (docs : List Document) (doc place : ℕ) → length docs ≤ doc → rest_ops u rooms docs doc place ≡ gives []
nothing_left u rooms docs doc place past = ap (λ (ds : List Document). ops_from u rooms doc place (roots_of ds)) (drop_all doc docs past)
