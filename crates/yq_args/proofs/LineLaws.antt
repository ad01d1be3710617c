-- The command line, one argument and one command more.
use Rattle.std.proofs.Common.{rules, ◌≡◌, ◌∙◌, ◌≤◌, ◌<◌, ◌-◌, ◌||◌, ℕ, List, [], ◌∷◌, false, ap, arith, drop, get_or, length, refl, take}
use Rattle.std.proofs.lemmas.List.{take_all}
use Rattle.clap.{specs.Words.{App, AddsArg, AddsSubcommand, app_of, rule_of}, specs.declared.builder.arg.Arg.Arg}
use Rattle.clap.{specs.declared.builder.command.Command.Command, specs.declared.builder.command.Command.TheViews.out-Command as fields_of}
use Rattle.yq_args.{specs.declared.line.Argument.Argument, specs.declared.line.Argument.TheVariants.Inplace}
use Rattle.yq_args.{specs.declared.line.SubCommand.SubCommand, specs.declared.line.SubCommand.TheVariants.Eval}
use Rattle.yq_args.specs.Line.{argument_rule, command_app, with_arguments, with_commands}

-- what is left of the arguments, one argument more
module _ (old : Command) (arg : Arg) (new : Command) (adds : AddsArg old arg new) (local : arg.global ≡ false) where
  pub arguments_more : (args : List Argument) (count : ℕ) → rule_of arg ≡ argument_rule (get_or args 0 Inplace) → 1 ≤ length args → length args ≤ count →
      with_arguments (app_of new) (take (count - 1) (drop 1 args)) ≡ with_arguments (app_of old) args
  arguments_more args count is some all = search (rules, take_all)

  -- and still none that holds everywhere
  pub argument_local : (fields_of old).has_globals ≡ false → (fields_of new).has_globals ≡ false
  argument_local none = adds.globals ∙ ap (λ has. has || arg.global) none ∙ local

-- what is left of the commands, one command more
module _ (old sub new : Command) (adds : AddsSubcommand old sub new) (local : (fields_of sub).has_globals ≡ false) where
  pub commands_more : (words : List SubCommand) (count : ℕ) → app_of sub ≡ command_app (get_or words 0 Eval) → 1 ≤ length words → length words ≤ count →
      with_commands (app_of new) (take (count - 1) (drop 1 words)) ≡ with_commands (app_of old) words
  commands_more words count is some all = search (rules, take_all)

  -- and still none that holds everywhere
  pub command_local : (fields_of old).has_globals ≡ false → (fields_of new).has_globals ≡ false
  command_local none = adds.globals ∙ ap (λ has. has || (fields_of sub).has_globals) none ∙ local

-- no argument is left
pub arguments_done : (app : App) (args : List Argument) → length args < 1 → app ≡ with_arguments app args
arguments_done app [] few = refl
arguments_done app (arg ∷ args) few = absurd (omega (arith, few))

-- no command is left
pub commands_done : (app : App) (words : List SubCommand) → length words < 1 → app ≡ with_commands app words
commands_done app [] few = refl
commands_done app (word ∷ words) few = absurd (omega (arith, few))
