use Rattle.std.{proofs.Common.rules, proofs.lemmas.Str.IsUtf8-append}
use Rattle.yq_places.proofs.places.halves.is_text.Goals as goal

pub returns : goal.returns
returns c = IsUtf8-append c.args.text.front.now c.args.text.back.now (search rules) (search rules)
