use Rattle.std.proofs.Common.{sym, ◌∙◌}
use Rattle.yq_scalar_reader.proofs.WordLaws.{across_word}
use Rattle.yq_scalar_reader.proofs.plain.across_words.Goals as goal

pub returns-then-begins_word : goal.returns-then-begins_word
returns-then-begins_word c = sym (across_word c.args.flow c.args.spaces c.args.text.now (sym c.begins_word.ensures ∙ c.if-begins_word.true))
