use Rattle.yq_semantics.specs.Operations.{operation_of}
use Rattle.yq_splice.proofs.FollowLaws.{done_by, why_refused}
use Rattle.yq_splice.proofs.session.Session.apply.Goals as goal

pub apply_valid-requires-clause-fits : goal.apply_valid-requires-clause-fits
apply_valid-requires-clause-fits c = c.requires

pub returns-clause-done : goal.returns-clause-done
returns-clause-done c =
    done_by (operation_of c.args.op.now) c.args.self.now.text c.apply_valid.new.self.text c.operand_holds.ensures c.requires c.apply_valid.result
    c.apply_valid.ensures.ok

pub returns-clause-refused : goal.returns-clause-refused
returns-clause-refused c =
    why_refused (operation_of c.args.op.now) c.args.self.now.text c.operand_holds.ensures c.requires c.apply_valid.result c.apply_valid.ensures.err
