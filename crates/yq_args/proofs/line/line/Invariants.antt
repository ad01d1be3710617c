use Rattle.std.proofs.Common.{◌≡◌, false, length}
use Rattle.clap.{specs.Words.app_of, specs.declared.builder.command.Command.TheViews.out-Command as fields_of}
use Rattle.yq_args.specs.Line.{yq, with_commands}
use Rattle.yq_args.proofs.line.line.Given as goal

abbrev pub invariant-commands : goal.invariant-commands
invariant-commands l = record {
  app : with_commands (app_of l.command) l.rest ≡ yq;
  local : (fields_of l.command).has_globals ≡ false;
}

abbrev pub decreases-commands : goal.decreases-commands
decreases-commands l = length l.rest
