use Rattle.std.proofs.Common.{◌++◌, ◌∙◌, ap}
use Rattle.yq_commands.proofs.called.put_help.Goals as goal

pub returns-in-Ok-clause-taken : goal.returns-in-Ok-clause-taken
returns-in-Ok-clause-taken g c = λ observable.
    (c.deref.result.now, c.in-Ok.ensures.appended observable ∙ ap (λ l. g.W.Out.taken c.args.out.now ++ l) (c.as_bytes.ensures.value ∙ c.in_ok-text.ensures))
