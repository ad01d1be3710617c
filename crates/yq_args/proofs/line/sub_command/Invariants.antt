use Rattle.std.proofs.Common.{◌≡◌, false, length}
use Rattle.clap.{specs.Words.app_of, specs.declared.builder.command.Command.TheViews.out-Command as fields_of}
use Rattle.yq_args.specs.Line.{command_app, with_arguments}
use Rattle.yq_args.proofs.line.sub_command.Given as goal

abbrev pub invariant-arguments : goal.invariant-arguments
invariant-arguments l = record {
  app : with_arguments (app_of l.command) l.rest ≡ command_app l.fn.word;
  local : (fields_of l.command).has_globals ≡ false;
}

abbrev pub decreases-arguments : goal.decreases-arguments
decreases-arguments l = length l.rest
