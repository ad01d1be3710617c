use Rattle.std.proofs.Common.{◌∙◌, arith, length}
use Rattle.yq_args.proofs.LineLaws.{command_local, commands_done, commands_more}
use Rattle.yq_args.proofs.line.line.Goals as goal

pub commands-preserved : goal.commands-preserved
commands-preserved c = record {
  app = commands_more _ _ _ c.in_ok-command.ensures c.in_ok-sub_command.ensures.local c.commands.rest.now (length c.commands.rest.now) c.in_ok-sub_command.ensures.app c.in-len1-up.len_at_least (omega arith)
      ∙ c.commands.invariant.app;
  local = command_local _ _ _ c.in_ok-command.ensures c.in_ok-sub_command.ensures.local c.commands.invariant.local;
}

pub returns : goal.returns
returns c = record { app = commands_done _ c.commands.rest.now c.in_default.len_below ∙ c.commands.invariant.app }
