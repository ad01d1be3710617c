-- Whether something comes of an update, place by place and document by document.
use Rattle.std.proofs.Common.{rules, Result, Option, IfOk, IfSome, ◌≡◌, ℕ, suc, ◌+◌, ◌<◌, ◌≤◌, Bool, true, false, List, [], ◌∷◌, ◌++◌}
use Rattle.std.{proofs.Common.{length, drop, if◌then◌else◌, refl, sym, ap, ◌∙◌, subst, add-one}, proofs.lemmas.List.drop_all}
use Rattle.std.proofs.lemmas.Bool.{false≢true}
use Rattle.yq_core.{specs.Anchors.names_of, specs.Tree.Node}
use Rattle.yq_documents.specs.Documents.{Document}
use Rattle.yq_eval.{specs.PlaceView.put_after, proofs.EachLaws.fails_then}
use Rattle.yq_planner.specs.Substitutes.{HaveNoAlias, IsSubstitute, verdict}
use Rattle.yq_semantics.specs.Changes.{Room, add_at, all_allowed, at_each, changes_at, changes_from, changes_in, put_with_path}
use Rattle.yq_semantics.specs.Changes.{update_changes, with_value}
use Rattle.yq_semantics.{specs.Judgement.{Judgement, MatchFails, and_then, gives, refuses, ExprError}, specs.Meaning.roots_of}
use Rattle.yq_semantics.{specs.Places.{FoundPlace, for_each, root_place}, specs.Plans.plan, specs.RightValues.right_value}
use Rattle.yq_semantics.{specs.Program.{Stage, Term, Update, assign}, specs.declared.program.Operator.Operator}
use Rattle.yq_expr.{specs.EffectView.{is_mapping, value_at}, proofs.AllChanges.value_there, proofs.SubstituteLaws.{add_alike, put_alike}}
use Rattle.yq_expr.specs.SumSizes.{HasSmall}
use Rattle.yq_semantics.specs.declared.program.Operator.TheVariants as operator

-- ---- an answer

-- an error is also one of whether something comes
pub verdict_fails : {A : Type 0} (e : ExprError) (j : Judgement A) → MatchFails e j → MatchFails e (verdict j)
verdict_fails e j h = search rules

-- and the other way round
pub fails_back : {A : Type 0} (e : ExprError) (j : Judgement A) → MatchFails e (verdict j) → MatchFails e j
fails_back e j h = search rules

-- something comes
pub given : {A : Type 0} (j : Judgement A) → verdict j ≡ gives tt → (x : A) × (j ≡ gives x)
given j h = search rules

-- something comes, after what is there
pub after_given : {B : Type 0} (before : List B) (j : Judgement (List B)) → verdict j ≡ gives tt → (after : List B) × (put_after before j ≡ gives after)
after_given before j h = let x = given j h in (before ++ x.0, ap (put_after before) x.1)

-- an error is also one after what is there
pub after_fails : {B : Type 0} (before : List B) (j : Judgement (List B)) (e : ExprError) → MatchFails e (verdict j) → MatchFails e (put_after before j)
after_fails before j e h = fails_then (λ xs. gives (before ++ xs)) j e (fails_back e j h)

-- ---- places

abbrev both_verdict : Judgement (Unit {0}) → Judgement (Unit {0}) → Judgement (Unit {0})
both_verdict (gives x) k = k
both_verdict (refuses why) k = refuses why

verdict_both : {A B C : Type 0} (g : A → B → C) (j : Judgement A) (k : Judgement B) → verdict (and_then (λ x. and_then (λ y. gives (g x y)) k) j) ≡ both_verdict (verdict j) (verdict k)
verdict_both g j k = search rules

each_alike : {A B : Type 0} (f h : A → Judgement (List B)) → ((x : A) → verdict (f x) ≡ verdict (h x)) → (xs : List A) → verdict (for_each f xs) ≡ verdict (for_each h xs)
each_alike f h same [] = refl
each_alike f h same (x ∷ xs) = search (rules, verdict_both, each_alike f h same xs)

-- a value that is added, or put, at each of places is refused where its stand-in is
pub places_alike : (root v w : Node) (adds : Bool) (ps : List FoundPlace) → (adds ≡ true → is_mapping v ≡ true → HaveNoAlias (names_of root)) → IsSubstitute v w →
    verdict (at_each root (value_at adds v) ps) ≡ verdict (at_each root (value_at adds w) ps)
places_alike root v w true ps free h = each_alike (λ p. and_then (all_allowed root) (add_at p v)) (λ p. and_then (all_allowed root) (add_at p w)) (λ p. add_alike root p v w (free refl) h) ps
places_alike root v w false ps free h = each_alike (λ p. and_then (all_allowed root) (put_with_path p v)) (λ p. and_then (all_allowed root) (put_with_path p w)) (λ p. put_alike root p v w h) ps

-- a value that was evaluated is added, or put, at each place
pub value_judged : (root : Node) (right : Judgement Node) (adds : Bool) (ps : List FoundPlace) (v : Node) → 0 < length ps → right ≡ gives v →
    with_value root right (if adds then add_at else put_with_path) ps ≡ at_each root (value_at adds v) ps
value_judged root right true ps v some is = value_there root right add_at ps v some is
value_judged root right false ps v some is = value_there root right put_with_path ps v some is

-- what is given is refused where its stand-in is: one value for all places, and one that is put at a place
pub small_judged : (root : Node) (right : Judgement Node) (adds : Bool) (ps : List FoundPlace) (w : Node) → 0 < length ps → HasSmall right w →
    verdict (with_value root right (if adds then add_at else put_with_path) ps) ≡ verdict (at_each root (value_at adds w) ps)
small_judged root right adds ps w some h =
    ap verdict (value_judged root right adds ps h.0 some h.1)
    ∙ places_alike root h.0 w adds ps (λ _ mapping. absurd (false≢true (sym h.2.0 ∙ mapping))) h.2.1

pub small_put : (root : Node) (p : FoundPlace) (right : Judgement Node) (w : Node) → HasSmall right w →
    verdict (and_then (all_allowed root) (and_then (put_with_path p) right)) ≡ verdict (and_then (all_allowed root) (put_with_path p w))
small_put root p right w h = ap (λ j. verdict (and_then (all_allowed root) (and_then (put_with_path p) j))) h.1 ∙ put_alike root p h.0 w h.2.1

-- an answer of which something is asked where it gives something
pub ok_some : {A E B : Type 0} (r : Result (Option A) E) → B → IfOk r (λ o. IfSome o (λ _. B))
ok_some r b = search rules

pub ok_given : {A E : Type 0} (B C : Type 0) (r : Result (Option A) E) → IfOk r (λ o. IfSome o (λ _. B)) → IfOk r (λ o. IfSome o (λ _. C → B))
ok_given B C r b = search rules

-- ---- documents

module _ (u : Update) (rooms : ℕ → Room) where
  from_document : (docs : List Document) (i : ℕ) (d : Document) → drop i docs ≡ d ∷ drop (suc i) docs →
      verdict (changes_from u rooms i (roots_of (drop i docs))) ≡ both_verdict (verdict (changes_in u i (rooms i) d.root)) (verdict (changes_from u rooms (i + 1) (roots_of (drop (i + 1) docs))))
  from_document docs i d at =
      ap (λ (ds : List Document). verdict (changes_from u rooms i (roots_of ds))) at
      ∙ (verdict_both (λ first others. first ∷ others) (changes_in u i (rooms i) d.root) (changes_from u rooms (suc i) (roots_of (drop (suc i) docs)))
      ∙ ap (λ (n : ℕ). both_verdict (verdict (changes_in u i (rooms i) d.root)) (verdict (changes_from u rooms n (roots_of (drop n docs))))) (sym (add-one i)))

  -- one document more
  pub document_judged : (docs : List Document) (i : ℕ) (d : Document) (all : Judgement (Unit {0})) → drop i docs ≡ d ∷ drop (suc i) docs → verdict (changes_in u i (rooms i) d.root) ≡ gives tt →
      verdict (changes_from u rooms i (roots_of (drop i docs))) ≡ all → verdict (changes_from u rooms (i + 1) (roots_of (drop (i + 1) docs))) ≡ all
  document_judged docs i d all at h so_far =
      ap (λ j. both_verdict j (verdict (changes_from u rooms (i + 1) (roots_of (drop (i + 1) docs))))) (sym h) ∙ (sym (from_document docs i d at) ∙ so_far)

  -- a refusal of one document is one of all
  pub document_refused : (docs : List Document) (i : ℕ) (d : Document) (all : Judgement (Unit {0})) (e : ExprError) → drop i docs ≡ d ∷ drop (suc i) docs → MatchFails e (verdict (changes_in u i (rooms i) d.root)) →
      verdict (changes_from u rooms i (roots_of (drop i docs))) ≡ all → MatchFails e all
  document_refused docs i d all e at h so_far = subst (MatchFails e) (sym (from_document docs i d at) ∙ so_far) (go e (verdict (changes_in u i (rooms i) d.root)) h)
    where
      go : (x : ExprError) (j : Judgement (Unit {0})) → MatchFails x j → MatchFails x (both_verdict j (verdict (changes_from u rooms (i + 1) (roots_of (drop (i + 1) docs)))))
      go x j k = search rules

  -- after the last one nothing is refused
  pub documents_judged : (docs : List Document) (i : ℕ) (all : Judgement (Unit {0})) → length docs ≤ i → verdict (changes_from u rooms i (roots_of (drop i docs))) ≡ all → all ≡ gives tt
  documents_judged docs i all past so_far = sym so_far ∙ ap (λ (ds : List Document). verdict (changes_from u rooms i (roots_of ds))) (drop_all i docs past)

-- the plan
pub plan_judged : (u : Update) (rooms : ℕ → Room) (docs : List Document) → verdict (plan u rooms docs) ≡ verdict (update_changes u rooms (roots_of docs))
plan_judged u rooms docs = search rules

-- an assignment by one value for all places
pub assigned : (doc : ℕ) (room : Room) (root : Node) (left : List Stage) (op : Operator) (right ts : List Term) (ps : List FoundPlace) (adds : Bool) → op ≡ (if adds then operator.Add else operator.Set) → ts ≡ right →
    with_value root (right_value doc ts (root_place root)) (if adds then add_at else put_with_path) ps ≡ changes_at doc room root (assign left op right) ps
assigned doc room root left op right ts ps adds is same = search rules
