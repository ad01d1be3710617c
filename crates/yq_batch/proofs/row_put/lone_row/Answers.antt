use Rattle.std.{proofs.Common.{rules, ◌≡◌, ◌∙◌, length, List, refl, sym, subst, arith}, specs.Vec.vec_len}
use Rattle.yq_core.{specs.Entries.tree_step, specs.Paths.Step}
use Rattle.yq_documents.{specs.Located.steps_of, specs.Reading.cut_of}
use Rattle.yq_places.proofs.PlacementViewLaws.{some_steps}
use Rattle.yq_batch.{specs.RowRuns.IsLoneRow, proofs.LonePutLaws.{no_steps, under_line, walk_begins}}
use Rattle.yq_batch.proofs.row_put.lone_row.Goals as goal

pub returns-then-is_empty : goal.returns-then-is_empty
returns-then-is_empty c =
    let p = c.args.path.now in
    let counted : vec_len p.steps ≡ length p.steps.items = search rules in
    let none = no_steps tree_step p.steps.items (sym c.is_empty.ensures ∙ c.if-is_empty.true) counted in
    let first = walk_begins p.doc (cut_of c.args.cut.now) _ c.in_ok-walk.ensures.place in
    subst (λ (ss : List Step). IsLoneRow p.doc ss (cut_of c.args.cut.now) c.in_ok-walk.walk.document.first c.in_ok-walk.walk.document.first) (sym none) (first, first)

pub returns : goal.returns
returns c =
    let p = c.args.path.now in
    let counted : vec_len p.steps ≡ length p.steps.items = search rules in
    let some = some_steps tree_step p.steps.items (sym c.is_empty.ensures ∙ c.if-is_empty.false) counted in
    under_line (cut_of c.args.cut.now) p c.in_ok-line.line c.in_ok-under.under (steps_of p) refl some c.in_ok-line.ensures (omega (arith, c.in_ok-under.ensures))
