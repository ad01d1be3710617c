use Rattle.std.proofs.Common.{rules}
use Rattle.yq_history.proofs.pair.write_journal.Goals as goal

pub returns-in_err-replace-clause-leaves : goal.returns-in_err-replace-clause-leaves
returns-in_err-replace-clause-leaves g c = record {
  store = search rules;
  names = λ keeps. record { kept = search rules; others = c.replace.ensures.others keeps };
}

pub returns-clause-leaves : goal.returns-clause-leaves
returns-clause-leaves g c = record {
  store = search rules;
  names = λ keeps. record { kept = search rules; others = c.replace.ensures.others keeps };
}
