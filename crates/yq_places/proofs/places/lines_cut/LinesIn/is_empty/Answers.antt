use Rattle.std.proofs.Common.{sym, ◌∙◌}
use Rattle.yq_text.specs.Halves.{whole}
use Rattle.yq_places.proofs.LinesCutLaws.{some_first}
use Rattle.yq_places.proofs.places.lines_cut.LinesIn.is_empty.Goals as goal

pub returns-else-is_empty : goal.returns-else-is_empty
returns-else-is_empty c =
    c.if-is_empty.false ∙ sym (some_first (whole c.args.self.now.lines) c.args.self.now.last.now (sym c.is_empty.ensures ∙ c.if-is_empty.false))
