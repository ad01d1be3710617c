-- The command line as clap takes it: the commands, with their options and positionals (own).
use Rattle.std.specs.Prelude.{ℕ, List, [], ◌∷◌, codes, true, Some}
use Rattle.clap.specs.Words.{App, Rule, new_app, new_rule, with_rule, with_subcommand}
use Rattle.clap.specs.declared.builder.ArgAction.TheVariants.{SetTrue}
use Rattle.yq_args.specs.declared.line.Argument.{Argument}
use Rattle.yq_args.specs.declared.line.Argument.TheVariants.{Inplace, ExitStatus, NoDoc, Diff, ExpectChange, Journal, Explain, Text, Expr}
use Rattle.yq_args.{specs.declared.line.Argument.TheVariants.{Count, File}, specs.declared.line.SubCommand.SubCommand}
use Rattle.yq_args.specs.declared.line.SubCommand.TheVariants.{Eval, Undo, Redo, History, Squash}

-- a word that has to be at a place of the command line
abbrev pub positional : List ℕ → Rule
positional id = record (new_rule id) { required = true }

-- the option `--journal PATH`
abbrev pub journal_option : Rule
journal_option = record (new_rule (codes "journal")) { long = Some (codes "journal") }

-- the option `--text TEXT`
abbrev pub text_option : Rule
text_option = record (new_rule (codes "text")) { long = Some (codes "text") }

-- an option without a value
abbrev pub switch : List ℕ → ℕ → Rule
switch id short = record (new_rule id) { short = Some short; long = Some id; action = Some SetTrue }

-- an option without a value, and without a letter
abbrev pub long_switch : List ℕ → Rule
long_switch id = record (new_rule id) { long = Some id; action = Some SetTrue }

-- the rule of an argument
abbrev pub argument_rule : Argument → Rule
argument_rule Inplace = switch (codes "inplace") 105
argument_rule ExitStatus = switch (codes "exit-status") 101
argument_rule NoDoc = switch (codes "no-doc") 78
argument_rule Diff = switch (codes "diff") 100
argument_rule ExpectChange = long_switch (codes "expect-change")
argument_rule Journal = journal_option
argument_rule Explain = long_switch (codes "explain")
argument_rule Text = text_option
argument_rule Expr = positional (codes "expr")
argument_rule Count = positional (codes "n")
argument_rule File = positional (codes "file")

-- a command with these arguments after those that it has
abbrev pub with_arguments : App → List Argument → App
with_arguments app [] = app
with_arguments app (arg ∷ args) = with_arguments (with_rule app (argument_rule arg)) args

-- the word of a command
abbrev pub name_of : SubCommand → List ℕ
name_of Eval = codes "eval"
name_of Undo = codes "undo"
name_of Redo = codes "redo"
name_of History = codes "history"
name_of Squash = codes "squash"

-- the arguments of a command
abbrev pub arguments_of : SubCommand → List Argument
arguments_of Eval = Inplace ∷ ExitStatus ∷ NoDoc ∷ Diff ∷ ExpectChange ∷ Journal ∷ Explain ∷ Text ∷ Expr ∷ File ∷ []
arguments_of Undo = Journal ∷ Explain ∷ File ∷ []
arguments_of Redo = Journal ∷ Explain ∷ File ∷ []
arguments_of History = Journal ∷ Explain ∷ Diff ∷ File ∷ []
arguments_of Squash = Journal ∷ Explain ∷ Count ∷ File ∷ []

-- a command with its arguments
abbrev pub command_app : SubCommand → App
command_app command = with_arguments (new_app (name_of command)) (arguments_of command)

-- a command with these ones below it, after those that it has
abbrev pub with_commands : App → List SubCommand → App
with_commands app [] = app
with_commands app (command ∷ commands) = with_commands (with_subcommand app (command_app command).top) commands

-- the commands `eval` and `undo`
unfoldable pub two_commands : App
two_commands = with_commands (new_app (codes "yq")) (Eval ∷ Undo ∷ [])

-- these two, and `redo` and `history`
unfoldable pub four_commands : App
four_commands = with_commands two_commands (Redo ∷ History ∷ [])

-- the whole command line: these four, and `squash`
unfoldable pub yq : App
yq = with_commands four_commands (Squash ∷ [])
