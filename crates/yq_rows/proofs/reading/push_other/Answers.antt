use Rattle.std.{proofs.Common.{append-nil, sym, ◌∙◌}, proofs.lemmas.Bool.false≢true}
use Rattle.yq_rows.proofs.reading.push_other.Goals as goal

pub returns-then-not-noted : goal.returns-then-not-noted
returns-then-not-noted c = λ noted. absurd (false≢true (sym c.if-not-noted.true ∙ noted))

pub returns-then-is_word : goal.returns-then-is_word
returns-then-is_word c = λ noted. rw c.if-is_word.true (sym (append-nil c.args.others.now.items))

pub returns : goal.returns
returns c = λ noted. rw c.if-is_word.false c.in_ok-push.ensures.items
