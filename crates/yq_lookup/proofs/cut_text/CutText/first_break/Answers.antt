use Rattle.std.proofs.Common.{ap, ◌∙◌}
use Rattle.yq_places.specs.FirstBreak.{first_break}
use Rattle.yq_lookup.proofs.cut_text.CutText.first_break.Goals as goal

pub returns : goal.returns
returns c = c.break_of.ensures ∙ ap first_break (c.whole.ensures.text ∙ c.whole.ensures.cut.text)
