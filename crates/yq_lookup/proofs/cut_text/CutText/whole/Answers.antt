use Rattle.std.{proofs.Common.subst, specs.Str.IsUtf8}
use Rattle.yq_lookup.proofs.cut_text.CutText.whole.Goals as goal

pub returns-clause-utf8 : goal.returns-clause-utf8
returns-clause-utf8 c = subst IsUtf8 c.self.view_is c.is_text.ensures
