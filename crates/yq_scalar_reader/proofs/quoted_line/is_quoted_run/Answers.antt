use Rattle.std.proofs.Common.{sym, ◌∙◌}
use Rattle.yq_scalar_reader.proofs.QuotedLines.{quoted_line, some_front}
use Rattle.yq_scalar_reader.proofs.quoted_line.is_quoted_run.Goals as goal

pub split_at-requires : goal.split_at-requires
split_at-requires c = some_front c.args.text.now c.args.quote c.requires.front

pub returns-then-n-text : goal.returns-then-n-text
returns-then-n-text c = λ yes.
    quoted_line c.args.text.now c.split_at.result.1.now c.split_at-then-n-text.result.1.now c.args.quote c.run_len-n.result c.requires.quote
    c.requires.front c.split_at.ensures.back c.run_len-n.ensures.value c.split_at-then-n-text.ensures.back c.if-n-text.true
    (sym c.first_is.ensures ∙ yes)
