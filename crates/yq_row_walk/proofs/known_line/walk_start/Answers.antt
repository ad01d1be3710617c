use Rattle.std.proofs.Common.{◌≡◌, ◌++◌, [], None, Some, List, IfSome, arith, map, ap, sym, ◌∙◌, subst, append_assoc}
use Rattle.yq_core.{specs.Entries.tree_step, specs.Paths.Step}
use Rattle.yq_row_table.specs.View.{RowsView}
use Rattle.yq_outline.{specs.Ends.reached, specs.Lines.lines_of_rows, specs.declared.line_position.Position.Position}
use Rattle.yq_outline.{specs.declared.line_position.Stretch.Stretch, proofs.PathLines.from_root}
use Rattle.yq_row_walk.specs.Walk.{IsLineAbove, LeadOnBy}
use Rattle.yq_row_walk.proofs.known_line.walk_start.Goals as goal

-- from the root all steps lead
from_start : (s : RowsView) (d : Stretch) (steps : List Step) → LeadOnBy s d steps steps None
from_start s d steps = record { line = tt; leads = λ h more. from_root (lines_of_rows h.are_there.rows) (steps ++ more) }

-- from a line to which some lead those that come after them do
from_line : (s : RowsView) (d : Stretch) (front left steps : List Step) (q : Position) → LeadOnBy s d front [] (Some q) → steps ≡ front ++ left → LeadOnBy s d steps left (Some q)
from_line s d front left steps q h e =
    record {
      line = h.line;
      leads = λ j more. h.leads j (left ++ more) ∙ ap (λ l. reached l (lines_of_rows j.are_there.rows)) (sym (append_assoc front left more) ∙ ap (λ l. l ++ more) (sym e));
    }

pub returns-in_default : goal.returns-in_default
returns-in_default c = from_start c.args.walk.now.rows.now c.args.walk.now.document (map tree_step c.args.steps.now)

pub returns-then-above-document : goal.returns-then-above-document
returns-then-above-document c = from_start c.args.walk.now.rows.now c.args.walk.now.document (map tree_step c.args.steps.now)

pub returns-in-None : goal.returns-in-None
returns-in-None c = from_start c.args.walk.now.rows.now c.args.walk.now.document (map tree_step c.args.steps.now)

pub returns-in-Some-steps_after : goal.returns-in-Some-steps_after
returns-in-Some-steps_after c =
    let s = c.args.walk.now.rows.now in
    let k = c.in-Some.above in
    let is : IsLineAbove s k = subst (λ o. IfSome o (IsLineAbove s)) c.in-Some.is c.requires.above in
    let first : k.document.first ≡ c.args.walk.now.document.first = omega (arith, c.if-above-document.false) in
    let end : k.document.end ≡ c.args.walk.now.document.end = omega (arith, c.if-above-document-2.false) in
    let document : k.document ≡ c.args.walk.now.document = λ i. record { first = first i; end = end i } in
    from_line s c.args.walk.now.document (map tree_step k.steps.now) (map tree_step c.in-Some-steps_after.left.now) (map tree_step c.args.steps.now) k.at
    (subst (λ (d : Stretch). LeadOnBy s d (map tree_step k.steps.now) [] (Some k.at)) document is) c.in-Some-steps_after.ensures
