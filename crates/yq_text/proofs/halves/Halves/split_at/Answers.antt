use Rattle.std.{proofs.Math.Nat.le_of_lt, proofs.Common.rules}
use Rattle.yq_text.proofs.HalvesLaws.{drop_past, first_cut}
use Rattle.yq_text.proofs.halves.Halves.split_at.Goals as goal

pub split_at-requires : goal.split_at-requires
split_at-requires c = first_cut c.args.self.front.now c.args.self.back.now c.args.at c.if-at-self.true c.requires

pub returns-clause-back : goal.returns-clause-back
returns-clause-back c = search (rules, drop_past, le_of_lt)
