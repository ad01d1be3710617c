use Rattle.yq_inline.proofs.short.quoted_key.Goals as goal

pub returns-clause-key : goal.returns-clause-key
returns-clause-key c = record { rest = c.in_ok-key.rest.now; scalar = c.in_ok-key.ensures.short; spaced = c.in_ok-value.ensures.colon }
