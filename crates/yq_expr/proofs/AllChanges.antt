-- What an update changes: place by place, and document by document.
use Rattle.std.proofs.Common.{rules, append_assoc, ◌≡◌, ℕ, suc, ◌+◌, ◌<◌, List, [], ◌∷◌, ◌++◌, length, drop, sym, ap, ◌∙◌, add-one}
use Rattle.yq_core.specs.Tree.{Node}
use Rattle.yq_documents.specs.Documents.{Document}
use Rattle.yq_semantics.specs.Changes.{Room, Changed, put_with_path, at_each, with_value, changes_at, changes_in, changes_from}
use Rattle.yq_semantics.{specs.Judgement.{MatchFails, Judgement, and_then, gives, ExprError}, specs.Meaning.roots_of}
use Rattle.yq_semantics.{specs.Places.FoundPlace, specs.Program.{Stage, Term, Update, assign}, specs.RightValues.right_value}
use Rattle.yq_semantics.specs.declared.program.Operator.{Operator}
use Rattle.yq_eval.specs.PlaceView.{put_after}
use Rattle.yq_semantics.specs.declared.program.Operator.TheVariants as operator

-- ---- the value of a right side

-- a value that was evaluated is put or added at each place
pub value_there : (root : Node) (right : Judgement Node) (f : FoundPlace → Node → Judgement (List Changed)) (ps : List FoundPlace) (v : Node) → 0 < length ps → right ≡ gives v → with_value root right f ps ≡ at_each root (λ q. f q v) ps
value_there root right f ps v some is = search rules

-- a refusal at the only place is one of all
pub only_fails : {B : Type 0} (before : List B) (j : Judgement (List B)) (e : ExprError) → MatchFails e (put_after before j) → MatchFails e (and_then (λ first. and_then (λ others. gives (first ++ others)) (gives [])) j)
only_fails before j e h = search rules

-- a refusal of the right side is one of all
pub value_fails : (root : Node) (right : Judgement Node) (f : FoundPlace → Node → Judgement (List Changed)) (ps : List FoundPlace) (e : ExprError) → 0 < length ps → MatchFails e right → MatchFails e (with_value root right f ps)
value_fails root right f ps e some h = search rules

module _ (doc : ℕ) (room : Room) (root : Node) (left : List Stage) (op : Operator) (right ts : List Term) (ps : List FoundPlace) where
  -- the sum of terms is put at each place
  pub modified : op ≡ operator.Modify → ts ≡ right → at_each root (λ p. and_then (put_with_path p) (right_value doc ts p)) ps ≡ changes_at doc room root (assign left op right) ps
  modified is same = search rules

-- ---- documents

-- the changes of one document before those of others
put_one : {B : Type 0} (before : List B) (j : Judgement B) (k : Judgement (List B)) → put_after before (and_then (λ first. and_then (λ others. gives (first ∷ others)) k) j) ≡ and_then (λ first. put_after (before ++ first ∷ []) k) j
put_one before j k = search (rules, append_assoc)

module _ (u : Update) (rooms : ℕ → Room) where
  -- those from one document on, that one being known
  after_document : (docs : List Document) (i : ℕ) (d : Document) (before : List (List Changed)) → drop i docs ≡ d ∷ drop (suc i) docs →
      put_after before (changes_from u rooms i (roots_of (drop i docs))) ≡ and_then (λ first. put_after (before ++ first ∷ []) (changes_from u rooms (i + 1) (roots_of (drop (i + 1) docs)))) (changes_in u i (rooms i) d.root)
  after_document docs i d before at =
      ap (λ (ds : List Document). put_after before (changes_from u rooms i (roots_of ds))) at
      ∙ (put_one before (changes_in u i (rooms i) d.root) (changes_from u rooms (suc i) (roots_of (drop (suc i) docs)))
      ∙ ap (λ (n : ℕ). and_then (λ first. put_after (before ++ first ∷ []) (changes_from u rooms n (roots_of (drop n docs)))) (changes_in u i (rooms i) d.root)) (sym (add-one i)))

  -- one document more
  pub document_more : (docs : List Document) (i : ℕ) (d : Document) (before after : List (List Changed)) (cs : List Changed) (all : Judgement (List (List Changed))) → drop i docs ≡ d ∷ drop (suc i) docs → after ≡ before ++ cs ∷ [] →
      changes_in u i (rooms i) d.root ≡ gives cs → put_after before (changes_from u rooms i (roots_of (drop i docs))) ≡ all → put_after after (changes_from u rooms (i + 1) (roots_of (drop (i + 1) docs))) ≡ all
  document_more docs i d before after cs all at more h so_far = search (rules, after_document)

  -- a refusal of one document is one of all
  pub document_fails : (docs : List Document) (i : ℕ) (d : Document) (before : List (List Changed)) (all : Judgement (List (List Changed))) (e : ExprError) → drop i docs ≡ d ∷ drop (suc i) docs →
      MatchFails e (changes_in u i (rooms i) d.root) → put_after before (changes_from u rooms i (roots_of (drop i docs))) ≡ all → MatchFails e all
  document_fails docs i d before all e at h so_far = search rules
