use Rattle.std.proofs.Common.{sym, subst, rules}
use Rattle.yq_scalar_reader.{specs.Folded.{folded_text, StripsText}, proofs.SameContentLaws.{strips_text, strips_char}}
use Rattle.yq_scalar_reader.proofs.same_content.strip_folded.Goals as goal

pub returns-in-Text : goal.returns-in-Text
returns-in-Text c = search (rules, strips_text)

pub returns-in-Char : goal.returns-in-Char
returns-in-Char c = search (rules, strips_char)

pub returns-in-Breaks : goal.returns-in-Breaks
returns-in-Breaks c = subst (λ f. StripsText (folded_text f) c.args.text.now c.strip_breaks.result) (sym c.in-Breaks.is) c.strip_breaks.ensures
