use Rattle.std.proofs.Common.{◌≡◌, ◌∙◌, arith, List, ℕ, Some, map, sym, subst}
use Rattle.yq_core.{specs.Entries.tree_step, specs.Paths.Step}
use Rattle.yq_documents.specs.Reading.{cut_of, read_at}
use Rattle.yq_batch.{specs.HeadRemovals.{RemovesFrom, RemovesHeads}, specs.HeadRuns.IsRowAt, proofs.HeadRemovalLaws.head_goes_on}
use Rattle.yq_batch.proofs.HeadRunLaws.{some_is}
use Rattle.yq_batch.proofs.head_removals.remove_earlier.Goals as goal

pub remove_in_row-requires-clause-run : goal.remove_in_row-requires-clause-run
remove_in_row-requires-clause-run c =
    let t : List ℕ = c.args.cut.now in
    let along : c.go_along.new.self ≡ t = c.go_along.ensures.same in
    let same : c.row_at.new.cut ≡ t = c.row_at.ensures.same ∙ along in
    let read = subst (λ (u : List ℕ). read_at u ≡ Some (cut_of u)) same c.text-text.ensures.read in
    let steps : List Step = map tree_step c.in-Some.found.stem.now in
    let row = some_is (IsRowAt (cut_of c.go_along.new.self) c.args.from.0 steps) c.in_ok-row.field-0 c.in-Some-2.row c.in_ok-row.ensures.row c.in-Some-2.is in
    let here : c.in-Some.found.doc ≡ c.args.from.0 = c.if-found-doc.false in
    let there = subst (λ (k : ℕ). IsRowAt (cut_of t) k steps c.in-Some-2.row) (sym here) (subst (λ (u : List ℕ). IsRowAt (cut_of u) c.args.from.0 steps c.in-Some-2.row) along row) in
    subst (λ (u : List ℕ). RemovesFrom u c.in-Some.found c.args.run.now) (sym same)
    (head_goes_on t c.in-Some.found.doc c.in-Some-2.row c.args.from.1 steps c.args.run.now read there (omega (arith, c.if-row-last.false))
    (subst (λ (k : ℕ). RemovesHeads (cut_of t) k c.args.from.1 c.args.run.now) (sym here) c.requires.run))
