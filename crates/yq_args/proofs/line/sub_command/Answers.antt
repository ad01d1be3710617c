use Rattle.std.proofs.Common.{ap, ◌∙◌, arith, length}
use Rattle.yq_args.{proofs.LineLaws.{argument_local, arguments_done, arguments_more}, specs.Line.with_arguments}
use Rattle.yq_args.proofs.line.sub_command.Goals as goal

pub arguments-preserved : goal.arguments-preserved
arguments-preserved c = record {
  app = arguments_more _ _ _ c.in_ok-command.ensures c.arg_of.ensures.local c.arguments.rest.now (length c.arguments.rest.now) c.arg_of.ensures.rule c.in-len1-up.len_at_least (omega arith)
      ∙ c.arguments.invariant.app;
  local = argument_local _ _ _ c.in_ok-command.ensures c.arg_of.ensures.local c.arguments.invariant.local;
}

pub returns-clause-app : goal.returns-clause-app
returns-clause-app c = arguments_done _ c.arguments.rest.now c.in_default.len_below ∙ c.arguments.invariant.app

pub arguments-init : goal.arguments-init
arguments-init c = record {
  app = ap (λ app. with_arguments app c.parts_of.result.1.now) c.new-command.ensures.app ∙ c.parts_of.ensures;
  local = c.new-command.ensures.local;
}
