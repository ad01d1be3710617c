-- Items and entries that are taken out of the collection that a node is, at their paths from the root.
use Rattle.std.proofs.Common.{◌≡◌, ℕ, List, [], ◌∷◌, ◌++◌, map, Some, sym, ap, ◌∙◌}
use Rattle.yq_core.{specs.Paths.Step, specs.Entries.tree_step}
use Rattle.yq_documents.{specs.Located.steps_of, specs.declared.path.Path.Path}
use Rattle.yq_places.specs.Placements.{last_step}
use Rattle.yq_semantics.{specs.Operations.remove, specs.Under.{op_under, operation_under}, specs.declared.op.Op.Op}
use Rattle.yq_edit_laws.{proofs.FlowSoundLaws.last_is, proofs.SoleParts.last_of}
use Rattle.yq_batch.{specs.RowRemovals.{TakesFrom, removal_of}, specs.Runs.EndsAt, specs.Under.op_at, proofs.RowRemovalAnswers.at_removal}
use Rattle.yq_core.specs.declared.path.Step as declared

module _ (front : List declared.Step) (n : ℕ) (o : Op) (takes : TakesFrom o n []) (p : Path) (x : Op) (there : op_at p x ≡ op_under front o) where
  abbrev last : Step
  last = takes.1.1.0

  abbrev child : List Step
  child = map tree_step front ++ (last ∷ [])

  meant : op_under front o ≡ remove n child
  meant = ap (operation_under (map tree_step front)) takes.1.0 ∙ ap (λ (ss : List Step). remove n (map tree_step front ++ ss)) (last_is takes.0 [] last takes.1.1.1)

  own : (p.doc ≡ n) × (steps_of p ≡ child)
  own = at_removal x p n child (there ∙ meant)

  pub child_is : op_under front o ≡ removal_of p
  child_is = meant ∙ λ i. remove (sym own.0 i) (sym own.1 i)

  -- where the node is a collection of a head
  pub child_ends : (stem left : List Step) → map tree_step front ≡ stem ++ left → (p.doc ≡ n) × EndsAt stem left (steps_of p)
  child_ends stem left is = (own.0, (last, ap last_step own.1 ∙ (last_of (map tree_step front) last ∙ ap (λ (ss : List Step). Some (ss, last)) is)))
