use Rattle.std.proofs.Common.{◌≡◌, Bool, true, false, cond, List, refl, ap, ◌∙◌}
use Rattle.yq_outline.{specs.Outline.Line, specs.Lines.lines_of_rows}
use Rattle.yq_documents.specs.Reading.{cut_of}
use Rattle.yq_places.{specs.Steps.{IndentSteps, first_step, is_kind, steps_in}, proofs.StepLaws.steps_found}
use Rattle.yq_lookup.proofs.CutRows.{walk_found}
use Rattle.yq_lookup.proofs.cut_text.CutText.step.Goals as goal

-- the step of one kind among those of lines
step_in : (dashes : Bool) (ls : List Line) → first_step (is_kind dashes) ls ≡ cond dashes (steps_in ls).sequence (steps_in ls).mapping
step_in true ls = refl
step_in false ls = refl

pub returns : goal.returns
returns c =
    let f = walk_found c.args.self.now c.args.doc c.in-Some.walk c.in-Some.ensures.cut c.in-Some.ensures.place in
    c.first_step.ensures f.document.are_there
    ∙ (step_in c.args.dashes (lines_of_rows f.document.are_there.rows)
    ∙ ap (λ (x : IndentSteps). cond c.args.dashes x.sequence x.mapping)
    (steps_found c.in-Some.walk.rows.now (cut_of c.args.self.now) c.args.doc c.in-Some.walk.document f))
