use Rattle.std.{proofs.Common.{[], ◌∷◌, ◌++◌, map, sym, ap, ◌∙◌}, proofs.lemmas.Result.IfOk-weaker}
use Rattle.yq_core.specs.Entries.{tree_step}
use Rattle.yq_inline.{specs.Along.{front_read, located_along, one_in}, proofs.AlongLaws.{located_in, one_more}}
use Rattle.yq_inline.proofs.along.read_part.Goals as goal

pub returns-in_default : goal.returns-in_default
returns-in_default c =
    let s = tree_step c.args.last.now in
    let ss = map tree_step c.args.steps.now in
    sym (located_in (ss ++ (s ∷ [])) (front_read c.args.node)
    ∙ ap (located_along []) (one_more ss s (front_read c.args.node) ∙ ap (one_in s) (sym c.in_default.ensures)))

pub returns-in_default-part_along : goal.returns-in_default-part_along
returns-in_default-part_along c =
    let s = tree_step c.args.last.now in
    let ss = map tree_step c.args.steps.now in
    sym (located_in (ss ++ (s ∷ [])) (front_read c.args.node)
    ∙ ap (located_along []) (one_more ss s (front_read c.args.node) ∙ (ap (one_in s) (sym c.in-Some.ensures) ∙ sym c.in_default-part_along.ensures)))

pub returns : goal.returns
returns c =
    let s = tree_step c.args.last.now in
    let ss = map tree_step c.args.steps.now in
    IfOk-weaker c.read_front.result _ _
    (λ o is. is ∙ sym (located_in (ss ++ (s ∷ [])) (front_read c.args.node)
    ∙ ap (located_along []) (one_more ss s (front_read c.args.node) ∙ (ap (one_in s) (sym c.in-Some.ensures) ∙ sym c.in-Some-part_along.ensures))))
    c.read_front.ensures
