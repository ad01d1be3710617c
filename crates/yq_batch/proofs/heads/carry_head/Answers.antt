use Rattle.std.proofs.Common.{◌≡◌, ◌∙◌, List, ℕ, Some, map, sym, subst}
use Rattle.yq_core.{specs.Paths.Step, specs.Entries.tree_step}
use Rattle.yq_documents.specs.Reading.{cut_of, read_at}
use Rattle.yq_batch.{specs.HeadRuns.{CarriesAt, IsRowAt, RunsIn}, specs.Runs.IsFoundHead, proofs.HeadRunLaws.{head_run, rows_run, some_is}}
use Rattle.yq_batch.proofs.heads.carry_head.Goals as goal

pub put_in_found-requires-clause-run : goal.put_in_found-requires-clause-run
put_in_found-requires-clause-run c =
    let t : List ℕ = c.args.cut.now in
    let along : c.go_along.new.self ≡ t = c.go_along.ensures.same in
    let same : c.row_at.new.cut ≡ t = c.row_at.ensures.same ∙ along in
    let read = subst (λ (u : List ℕ). read_at u ≡ Some (cut_of u)) same c.text-text.ensures.read in
    let steps : List Step = map tree_step c.in-Some.found.stem.now in
    let row = some_is (IsRowAt (cut_of c.go_along.new.self) c.in-Some.found.doc steps) c.in_ok-row.field-0 c.in-Some-2.row c.in_ok-row.ensures.row c.in-Some-2.is in
    subst (λ (u : List ℕ). RunsIn u c.in-Some.found c.args.run.now.run) (sym same)
    (head_run t c.args.last c.args.run.now.run c.in-Some.found.doc c.in-Some-2.row steps read c.requires.run (subst (λ (u : List ℕ). IsRowAt (cut_of u) c.in-Some.found.doc steps c.in-Some-2.row) along row)
    (c.comes_later.ensures c.if-not-comes_later.false))

pub put_in_found-requires-clause-head : goal.put_in_found-requires-clause-head
put_in_found-requires-clause-head c =
    let u : List ℕ = c.go_along.new.self in
    subst (λ (v : List ℕ). IsFoundHead v c.in-Some.found) (sym c.row_at.ensures.same) (some_is (IsFoundHead u) c.in_ok-found.field-0 c.in-Some.found c.in_ok-found.ensures c.in-Some.is)

pub returns-clause-ok : goal.returns-clause-ok
returns-clause-ok c =
    let t : List ℕ = c.args.cut.now in
    let along : c.go_along.new.self ≡ t = c.go_along.ensures.same in
    let same : c.row_at.new.cut ≡ t = c.row_at.ensures.same ∙ along in
    let read = subst (λ (u : List ℕ). read_at u ≡ Some (cut_of u)) same c.text-text.ensures.read in
    let steps : List Step = map tree_step c.in-Some.found.stem.now in
    let row = some_is (IsRowAt (cut_of c.go_along.new.self) c.in-Some.found.doc steps) c.in_ok-row.field-0 c.in-Some-2.row c.in_ok-row.ensures.row c.in-Some-2.is in
    let carries = subst (CarriesAt c.args.ops.now c.row_at.new.cut c.in-Some.found c.args.run.now.run c.put_in_found.new.run.run) c.in-Some-3.is c.in_ok-left.ensures.ok in
    let there = subst (λ (u : List ℕ). CarriesAt c.args.ops.now u c.in-Some.found c.args.run.now.run c.put_in_found.new.run.run (Some c.in-Some-3.left)) same carries in
    (there.0, rows_run t c.put_in_found.new.run.run c.in-Some.found.doc c.in-Some-2.row steps read there.1 (subst (λ (u : List ℕ). IsRowAt (cut_of u) c.in-Some.found.doc steps c.in-Some-2.row) along row))
