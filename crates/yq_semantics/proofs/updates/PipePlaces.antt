-- The places to which a pipe leads are apart.
use Rattle.std.proofs.Common.{rules, ◌≡◌, ℕ, List, [], ◌∷◌, refl, subst}
use Rattle.yq_core.{specs.Tree.Node, specs.Shapes.IsTree}
use Rattle.yq_semantics.{specs.Judgement.gives, specs.Program.{PathStep, Condition, Stage}}
use Rattle.yq_semantics.specs.Pipes.{select_on, stage_on, pipe_on, places}
use Rattle.yq_semantics.{specs.Places.{FoundPlace, root_place, for_each, step_on, chained, traverse}, specs.PlacesApart.{AreApart, AreIn}}
use Rattle.yq_semantics.proofs.JudgementLaws.{then_gives, gives_same}
use Rattle.yq_semantics.{proofs.GoodPlaces.{AreSound, LeadsInto, LeadsSo, AreGood, each_good}, proofs.ChildPlaces.{leads_none, leads_self}}
use Rattle.yq_semantics.proofs.updates.StepPlaces.{leads_step}

-- what is so of a place alone and of none is so of what a condition keeps
pub select_keeps : (R : List FoundPlace → Type 0) (doc : ℕ) (c : Condition) (p : FoundPlace) (qs : List FoundPlace) → R (p ∷ []) → R [] → select_on doc c p ≡ gives qs → R qs
select_keeps R doc c p qs here h6 h = search (rules, then_gives, gives_same)

pub leads_select : (root : Node) (doc : ℕ) (c : Condition) → LeadsSo root (select_on doc c)
leads_select root doc c p qs tree at h = select_keeps (LeadsInto root p) doc c p qs (leads_self root p p refl refl tree at) (leads_none root p) h

-- what is so of places, and of those to which each step and each condition leads from such, is so of those to which a pipe leads
pub pipe_keeps : (doc : ℕ) (R : List FoundPlace → Type 0) → ((s : PathStep) (ps qs : List FoundPlace) → R ps → for_each (step_on s) ps ≡ gives qs → R qs) →
    ((c : Condition) (ps qs : List FoundPlace) → R ps → for_each (select_on doc c) ps ≡ gives qs → R qs) → (stages : List Stage) (ps qs : List FoundPlace) → R ps → pipe_on doc stages ps ≡ gives qs → R qs
pipe_keeps doc R step chosen [] ps qs r h = subst R (gives_same h) r
pipe_keeps doc R step chosen (stage ∷ stages) ps qs r h =
    let x = then_gives (chained (stage_on doc) stages) (stage_on doc stage ps) qs h in pipe_keeps doc R step chosen stages x.0 qs (staged stage x.0 x.1) x.2
  where
    walked : (ss : List PathStep) (from to : List FoundPlace) → R from → traverse ss from ≡ gives to → R to
    walked [] from to f e = subst R (gives_same e) f
    walked (s ∷ ss) from to f e =
        let x = then_gives (chained (λ u. for_each (step_on u)) ss) (for_each (step_on s) from) to e in walked ss x.0 to (step s from x.0 f x.1) x.2

    staged : (stage : Stage) (to : List FoundPlace) → stage_on doc stage ps ≡ gives to → R to
    staged stage to e = search (rules, walked)

pub pipe_good : (root : Node) (doc : ℕ) (stages : List Stage) (ps qs : List FoundPlace) → AreGood root ps → pipe_on doc stages ps ≡ gives qs → AreGood root qs
pipe_good root doc = pipe_keeps doc (AreGood root) (λ s. each_good root (step_on s) (leads_step root s)) (λ c. each_good root (select_on doc c) (leads_select root doc c))

-- the places to which a pipe leads in a tree: no two are the same, and none lies in another
pub places_apart : (doc : ℕ) (pipe : List Stage) (root : Node) (ps : List FoundPlace) → IsTree root → places doc pipe root ≡ gives ps → AreGood root ps
places_apart doc pipe root ps tree h = pipe_good root doc pipe (root_place root ∷ []) ps (record { apart = (tt, tt); sound = ((tree, refl), tt) }) h

are_in : (root : Node) (ps : List FoundPlace) → AreSound root ps → AreIn root ps
are_in root [] h = tt
are_in root (p ∷ ps) h = (h.0.1, are_in root ps h.1)

-- the same, as it is reported
pub places_are_there : (doc : ℕ) (pipe : List Stage) (root : Node) (ps : List FoundPlace) → IsTree root → places doc pipe root ≡ gives ps → AreApart ps × AreIn root ps
places_are_there doc pipe root ps tree h = let good = places_apart doc pipe root ps tree h in (good.apart, are_in root ps good.sound)
