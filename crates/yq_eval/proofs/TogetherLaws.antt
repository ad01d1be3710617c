-- Stages that keep places: at one place after the other they lead where they do at all places together.
use Rattle.std.proofs.Common.{◌≡◌, ℕ, ◌+◌, ◌-◌, ◌<◌, Bool, true, false, List, [], ◌∷◌, ◌++◌, length, map, drop, take, get_or, refl, sym, ap}
use Rattle.std.{proofs.Common.{◌∙◌, append_assoc, arith, subst}, proofs.lemmas.List.{map-append, map_push, take_more, take_rest}}
use Rattle.yq_semantics.specs.Judgement.{ExprError, Judgement, MatchFails, and_then, gives, refuses}
use Rattle.yq_semantics.{specs.Pipes.{kept_place, pipe_on, select_on, stage_on}, specs.Places.{FoundPlace, chained, for_each, step_on}}
use Rattle.yq_semantics.{specs.Program.{Stage, path, select}, proofs.JudgementLaws.{gives_same, then_gives}}
use Rattle.yq_eval.proofs.EachLaws.{chain_more, fails_then}

-- ---- stages, and those after them

-- several in turn, and then others
pub chain_parts : {S A : Type 0} (f : S → A → Judgement A) (ss ts : List S) (a : A) → chained f (ss ++ ts) a ≡ and_then (chained f ts) (chained f ss a)
chain_parts f [] ts a = refl
chain_parts {S} {A} f (s ∷ ss) ts a = go (f s a) (λ b. chain_parts f ss ts b)
  where
    go : (j : Judgement A) → ((b : A) → chained f (ss ++ ts) b ≡ and_then (chained f ts) (chained f ss b)) → and_then (chained f (ss ++ ts)) j ≡ and_then (chained f ts) (and_then (chained f ss) j)
    go (gives b) h = h b
    go (refuses why) h = refl

module _ {X : Type 0} (view : X → Stage) (doc : ℕ) where
  -- a part of a pipe, and the others
  first_part : (xs part others : List X) (ps : List FoundPlace) → xs ≡ part ++ others → pipe_on doc (map view xs) ps ≡ and_then (pipe_on doc (map view others)) (pipe_on doc (map view part) ps)
  first_part xs part others ps is =
      ap (λ (ys : List X). pipe_on doc (map view ys) ps) is
      ∙ (ap (λ (ss : List Stage). pipe_on doc ss ps) (map-append view part others) ∙ chain_parts (stage_on doc) (map view part) (map view others) ps)

  -- after a part
  pub part_more : (xs part others : List X) (ps qs : List FoundPlace) (all : Judgement (List FoundPlace)) → xs ≡ part ++ others → pipe_on doc (map view part) ps ≡ gives qs →
      pipe_on doc (map view xs) ps ≡ all → pipe_on doc (map view others) qs ≡ all
  part_more xs part others ps qs all is h so_far = sym (ap (and_then (pipe_on doc (map view others))) h) ∙ (sym (first_part xs part others ps is) ∙ so_far)

  -- or what refuses it
  pub part_fails : (xs part others : List X) (ps : List FoundPlace) (all : Judgement (List FoundPlace)) (e : ExprError) → xs ≡ part ++ others → MatchFails e (pipe_on doc (map view part) ps) →
      pipe_on doc (map view xs) ps ≡ all → MatchFails e all
  part_fails xs part others ps all e is h so_far =
      subst (MatchFails e) (sym (first_part xs part others ps is) ∙ so_far) (fails_then (pipe_on doc (map view others)) (pipe_on doc (map view part) ps) e h)

  -- none is left
  pub parts_done : (xs : List X) (ps : List FoundPlace) (all : Judgement (List FoundPlace)) → length xs < 1 → pipe_on doc (map view xs) ps ≡ all → all ≡ gives ps
  parts_done [] ps all none so_far = sym so_far
  parts_done (x ∷ xs) ps all none so_far = absurd (omega (arith, none))

  -- the first stage, and those after it
  pub first_stage : (xs : List X) (x : X) (after : List X) (ps : List FoundPlace) → 0 < length xs → x ≡ get_or xs 0 x → after ≡ take (length xs - 1) (drop 1 xs) →
      pipe_on doc (map view xs) ps ≡ and_then (pipe_on doc (map view after)) (stage_on doc (view x) ps)
  first_stage [] x after ps some is rest = absurd (omega (arith, some))
  first_stage (y ∷ ys) x after ps some is rest =
      ap (λ (z : X). and_then (pipe_on doc (map view ys)) (stage_on doc (view z) ps)) (sym is)
      ∙ ap (λ (zs : List X). and_then (pipe_on doc (map view zs)) (stage_on doc (view x) ps)) (sym (rest ∙ take_rest (y ∷ ys) 1))

-- ---- some places, and others

-- where something leads from some places and from others, so it does from all of them
abbrev Joins : {A B : Type 0} → (List A → Judgement (List B)) → Type 0
Joins {A} {B} f = (xs ys : List A) (us vs : List B) → f xs ≡ gives us → f ys ≡ gives vs → f (xs ++ ys) ≡ gives (us ++ vs)

each_joins : {A B : Type 0} (f : A → Judgement (List B)) → Joins (for_each f)
each_joins f [] ys us vs h k = subst (λ zs. for_each f ys ≡ gives (zs ++ vs)) (gives_same h) k
each_joins f (x ∷ xs) ys us vs h k =
    let one = then_gives (λ first. and_then (λ others. gives (first ++ others)) (for_each f xs)) (f x) us h in
    let two = then_gives (λ others. gives (one.0 ++ others)) (for_each f xs) us one.2 in
    ap (and_then (λ first. and_then (λ others. gives (first ++ others)) (for_each f (xs ++ ys)))) one.1
    ∙ (ap (and_then (λ others. gives (one.0 ++ others))) (each_joins f xs ys two.0 vs two.1 k)
    ∙ (ap gives (sym (append_assoc one.0 two.0 vs)) ∙ ap (λ zs. gives (zs ++ vs)) (gives_same two.2)))

chain_joins : {S A : Type 0} (f : S → List A → Judgement (List A)) → ((s : S) → Joins (f s)) → (ss : List S) → Joins (chained f ss)
chain_joins f so [] xs ys us vs h k = ap (λ zs. gives (zs ++ ys)) (gives_same h) ∙ ap (λ zs. gives (us ++ zs)) (gives_same k)
chain_joins f so (s ∷ ss) xs ys us vs h k =
    let one = then_gives (chained f ss) (f s xs) us h in
    let two = then_gives (chained f ss) (f s ys) vs k in
    ap (and_then (chained f ss)) (so s xs ys one.0 two.0 one.1 two.1) ∙ chain_joins f so ss one.0 two.0 us vs one.2 two.2

stage_joins : (doc : ℕ) (s : Stage) → Joins (stage_on doc s)
stage_joins doc (path steps) = chain_joins (λ s. for_each (step_on s)) (λ s. each_joins (step_on s)) steps
stage_joins doc (select c) = each_joins (select_on doc c)

pipe_joins : (doc : ℕ) (stages : List Stage) → Joins (pipe_on doc stages)
pipe_joins doc stages = chain_joins (stage_on doc) (stage_joins doc) stages

-- from no place stages lead to none
chain_none : {S A : Type 0} (f : S → List A → Judgement (List A)) → ((s : S) → f s [] ≡ gives []) → (ss : List S) → chained f ss [] ≡ gives []
chain_none f so [] = refl
chain_none f so (s ∷ ss) = ap (and_then (chained f ss)) (so s) ∙ chain_none f so ss

stage_none : (doc : ℕ) (s : Stage) → stage_on doc s [] ≡ gives []
stage_none doc (path steps) = chain_none (λ s. for_each (step_on s)) (λ s. refl) steps
stage_none doc (select c) = refl

pub pipe_none : (doc : ℕ) (stages : List Stage) → pipe_on doc stages [] ≡ gives []
pipe_none doc stages = chain_none (stage_on doc) (stage_none doc) stages

-- ---- one place, by one stage after the other

module _ {X : Type 0} (view : X → Stage) (doc : ℕ) (p : FoundPlace) (xs : List X) (i : ℕ) (x : X) (all : Judgement (List FoundPlace)) where
  -- one stage more keeps it
  pub stage_more : i < length xs → x ≡ get_or xs i x → stage_on doc (view x) (p ∷ []) ≡ gives (kept_place p true) → pipe_on doc (map view (drop i xs)) (p ∷ []) ≡ all →
      pipe_on doc (map view (drop (i + 1) xs)) (p ∷ []) ≡ all
  stage_more within is h so_far = chain_more view (stage_on doc) xs i x (p ∷ []) (p ∷ []) all within is h so_far

  -- one doesn't
  pub stage_ends : i < length xs → x ≡ get_or xs i x → stage_on doc (view x) (p ∷ []) ≡ gives (kept_place p false) → pipe_on doc (map view (drop i xs)) (p ∷ []) ≡ all → all ≡ gives []
  stage_ends within is h so_far =
      sym (chain_more view (stage_on doc) xs i x (p ∷ []) [] all within is h so_far) ∙ pipe_none doc (map view (drop (i + 1) xs))

-- ---- one place after the other

-- one place more
pub place_more : {X : Type 0} (view : X → FoundPlace) (doc : ℕ) (stages : List Stage) (xs : List X) (i : ℕ) (x : X) (b : Bool) (kept : List FoundPlace) → i < length xs → x ≡ get_or xs i x →
    pipe_on doc stages (view x ∷ []) ≡ gives (kept_place (view x) b) → pipe_on doc stages (map view (take i xs)) ≡ gives kept →
    pipe_on doc stages (map view (take (i + 1) xs)) ≡ gives (kept ++ kept_place (view x) b)
place_more {X} view doc stages xs i x b kept within is h so_far =
    ap (λ (ys : List X). pipe_on doc stages (map view ys)) (take_more xs i x within ∙ ap (λ (y : X). take i xs ++ y ∷ []) (sym is))
    ∙ (ap (pipe_on doc stages) (map_push view (take i xs) x) ∙ pipe_joins doc stages (map view (take i xs)) (view x ∷ []) kept (kept_place (view x) b) so_far h)
