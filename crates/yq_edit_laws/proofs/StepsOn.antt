-- One step more on a path to the line in whose head a node is goes on in that head.
use Rattle.std.proofs.Common.{rules, ◌≡◌, ◌<◌, List, [], ◌∷◌, ◌++◌, length, Option, Some, None, option_map, ap, ◌∙◌, append_assoc, arith}
use Rattle.std.{proofs.Common.length-append, proofs.lemmas.Option.{none-some, same_Some}}
use Rattle.yq_core.{specs.Paths.Step, specs.Tree.Node}
use Rattle.yq_outline.{specs.Outline.Outline, specs.Places.{FoundLine, in_head, place_inside}}
use Rattle.yq_places.{specs.FlowNodes.{bare_line, find_head}, proofs.HeadSteps.stem_found}
use Rattle.yq_edit_rules.proofs.PathLaws.{found_at}

abbrev Reached : Type 0
Reached = FoundLine × List Step

module _ (y : Reached) (some : 0 < length y.1) where
  none_left : (g : FoundLine → FoundLine) (r : Option FoundLine) → option_map {U = Reached} (λ f. (g f, [])) r ≡ Some y → ⊥
  none_left g None e = none-some _ e
  none_left g (Some f) e = omega (arith, some, ap (λ (x : Reached). length x.1) (same_Some _ _ e))

  line_left : (f : FoundLine) (h : Option Node) → in_head h (Some (f, [])) (option_map {U = Reached} (λ b. (place_inside f b, [])) (bare_line f.under)) ≡ Some y → ⊥
  line_left f (Some n) e = omega (arith, some, ap (λ (x : Reached). length x.1) (same_Some _ _ e))
  line_left f None e = none_left (place_inside f) (bare_line f.under) e

  -- steps that go on in a head lead to its line
  left_found : (ss : List Step) (o : Outline) → find_head ss o ≡ Some y → found_at ss o ≡ Some y
  left_found ss o e = search (rules, none_left, none-some, line_left)

-- the line in whose head a node is is that to which one step more leads
pub head_on : (steps : List Step) (s : Step) (o : Outline) (y : FoundLine × List Step) → find_head steps o ≡ Some y → found_at (steps ++ (s ∷ [])) o ≡ Some (y.0, y.1 ++ (s ∷ []))
head_on steps s o y e =
    let h = stem_found steps o y e in
    left_found (y.0, y.1 ++ (s ∷ [])) (omega (arith, length-append y.1 (s ∷ []))) (steps ++ (s ∷ [])) o
    (ap (λ (ss : List Step). find_head ss o) (ap (λ (ss : List Step). ss ++ (s ∷ [])) h.steps_are ∙ append_assoc h.stem y.1 (s ∷ [])) ∙ h.leads (y.1 ++ (s ∷ [])))
