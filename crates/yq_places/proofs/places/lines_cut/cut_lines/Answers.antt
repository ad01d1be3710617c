use Rattle.std.proofs.Common.{sym, subst, ◌∙◌}
use Rattle.yq_text.specs.Halves.{whole}
use Rattle.yq_places.{specs.LineReading.IsLastBreak, proofs.LinesCutLaws.{last_is, lines_are}}
use Rattle.yq_places.proofs.places.lines_cut.cut_lines.Goals as goal

pub last_break-requires : goal.last_break-requires
last_break-requires c = subst IsLastBreak (sym c.split_break.ensures.rest) (last_is (whole c.cut_at.result.1))

pub returns : goal.returns
returns c = λ h.
    lines_are (whole c.args.text) c.args.from c.args.stop h (whole c.cut_at.result.0) (whole c.cut_at.result.1) (whole c.split_break.result.0) c.last_break.result.now (whole c.cut_at.result.2)
    c.cut_at.ensures.before c.cut_at.ensures.middle c.cut_at.ensures.after c.split_break.ensures.line (c.last_break.ensures ∙ c.split_break.ensures.rest)
