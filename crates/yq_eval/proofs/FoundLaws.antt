-- What a pipe finds whose last step leads to all items or values.
use Rattle.std.proofs.Common.{rules, ◌≡◌, ℕ, List, [], ◌∷◌, ◌++◌, refl, ap, ◌∙◌}
use Rattle.yq_core.specs.Tree.{Node}
use Rattle.yq_semantics.{specs.Judgement.{Judgement, and_then, gives, refuses}, specs.Pipes.{pipe_on, places}}
use Rattle.yq_semantics.{specs.Places.{root_place, for_each, step_on, chained, traverse}, specs.Program.{PathStep, Stage, each, path}}

-- nothing more comes of a last step that gives what it has
pub then_same : {A : Type 0} (j : Judgement A) → and_then (λ x. gives x) j ≡ j
then_same j = search rules

-- several in turn, and then one more
chain_last : {S A : Type 0} (f : S → A → Judgement A) (ss : List S) (s : S) (a : A) → chained f (ss ++ s ∷ []) a ≡ and_then (f s) (chained f ss a)
chain_last f [] s a = then_same (f s a)
chain_last {S} {A} f (t ∷ ts) s a = go (f t a) (λ b. chain_last f ts s b)
  where
    go : (j : Judgement A) → ((b : A) → chained f (ts ++ s ∷ []) b ≡ and_then (f s) (chained f ts b)) → and_then (chained f (ts ++ s ∷ [])) j ≡ and_then (f s) (and_then (chained f ts) j)
    go (gives b) h = h b
    go (refuses why) h = refl

-- a path whose last step leads to all items or values, from a root
pub each_last : (doc : ℕ) (pipe : List Stage) (front : List PathStep) (root : Node) → pipe ≡ path (front ++ each ∷ []) ∷ [] → places doc pipe root ≡ and_then (for_each (step_on each)) (traverse front (root_place root ∷ []))
each_last doc pipe front root is =
    ap (λ (stages : List Stage). pipe_on doc stages (root_place root ∷ [])) is
    ∙ (then_same (traverse (front ++ each ∷ []) (root_place root ∷ [])) ∙ chain_last (λ t. for_each (step_on t)) front each (root_place root ∷ []))
