use Rattle.yq_inline.{specs.KeyTexts.key_texts, proofs.KeysLaws.differ_agrees}
use Rattle.yq_inline.proofs.keys.all_differ.Goals as goal

pub returns-in-Some : goal.returns-in-Some
returns-in-Some c = differ_agrees (key_texts c.args.keys.now) c.in-Some.differ c.in-Some.ensures
