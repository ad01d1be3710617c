use Rattle.std.proofs.Common.{true, false, sym, ◌∙◌, subst}
use Rattle.yq_documents.{specs.Located.steps_of, specs.Reading.cut_of}
use Rattle.yq_places.specs.NodesAt.{node_view}
use Rattle.yq_edit_rules.specs.Answers.{GivesSegments}
use Rattle.yq_operation.proofs.RemovingLaws.{by_known}
use Rattle.yq_operation.proofs.exchanged.rows_or_sole.Goals as goal

pub returns-then-has_several : goal.returns-then-has_several
returns-then-has_several c =
    subst (GivesSegments c.one_removed.result)
    (by_known c.args.path.now.doc (steps_of c.args.path.now) (cut_of c.args.cut.now) (node_view c.args.above.now) true c.requires (sym c.if-has_several.true ∙ c.has_several.ensures)) c.one_removed.ensures

pub returns-else-has_several : goal.returns-else-has_several
returns-else-has_several c =
    subst (GivesSegments c.sole_removed.result)
    (by_known c.args.path.now.doc (steps_of c.args.path.now) (cut_of c.args.cut.now) (node_view c.args.above.now) false c.requires (sym c.if-has_several.false ∙ c.has_several.ensures)) c.sole_removed.ensures
