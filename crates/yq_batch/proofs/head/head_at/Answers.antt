use Rattle.std.{proofs.Common.{List, ℕ, ◌++◌, length, map, refl, sym, ap, ◌∙◌, subst, arith, length-append}, proofs.lemmas.List.length-map}
use Rattle.yq_core.{specs.Paths.Step, specs.Entries.tree_step}
use Rattle.yq_documents.specs.Reading.{cut_of}
use Rattle.yq_places.specs.FlowViews.{IsHeadFor, ReportsHead}
use Rattle.yq_batch.{proofs.HeadRunLaws.some_is, proofs.RunAnswers.stem_is}
use Rattle.yq_batch.proofs.head.head_at.Goals as goal

pub overflow_sub-steps : goal.overflow_sub-steps
overflow_sub-steps c =
    let u : List ℕ = c.args.cut.now in
    let h = some_is (IsHeadFor u (cut_of u) c.args.doc (map tree_step c.args.steps.now)) c.in_ok-head.field-0 c.in-Some.head c.in_ok-head.ensures.whole c.in-Some.is in
    omega (arith, ap length h.1, length-append h.0 (map tree_step c.in-Some.head.left.now), length-map c.args.steps.now tree_step, length-map c.in-Some.head.left.now tree_step)

pub returns-clause-head : goal.returns-clause-head
returns-clause-head c =
    let u : List ℕ = c.args.cut.now in
    let h = some_is (IsHeadFor u (cut_of u) c.args.doc (map tree_step c.args.steps.now)) c.in_ok-head.field-0 c.in-Some.head c.in_ok-head.ensures.whole c.in-Some.is in
    subst (λ (ss : List Step). ReportsHead u (cut_of u) c.args.doc ss c.in-Some.head)
    (sym (ap (map tree_step) c.split_at.ensures.front ∙ stem_is c.args.steps.now c.in-Some.head.left.now h.0 _ h.1 refl)) h.2

pub returns-clause-leads : goal.returns-clause-leads
returns-clause-leads c =
    let u : List ℕ = c.args.cut.now in
    let h = some_is (IsHeadFor u (cut_of u) c.args.doc (map tree_step c.args.steps.now)) c.in_ok-head.field-0 c.in-Some.head c.in_ok-head.ensures.whole c.in-Some.is in
    let stem = ap (map tree_step) c.split_at.ensures.front ∙ stem_is c.args.steps.now c.in-Some.head.left.now h.0 _ h.1 refl in
    (refl, h.1 ∙ ap (λ (ss : List Step). ss ++ map tree_step c.in-Some.head.left.now) (sym stem))
