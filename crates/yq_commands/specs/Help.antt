-- What help prints, and how it is answered (own).
use Rattle.std.specs.Prelude.{◌≡◌, ◌⊎◌, ℕ, true, List, [], ◌∷◌, ◌++◌, Result, MatchResult}
use Rattle.yq_args.{specs.Named.named, specs.declared.command.Command.Command, specs.declared.command.Command.TheVariants.Help}
use Rattle.yq_fault.{specs.declared.fault.Fault.Fault, specs.declared.fault.Fault.TheVariants.{OutFailed, OutOfMemory}}
use Rattle.yq_history.specs.Report.{Report}
use Rattle.yq_commands.{specs.declared.answer.Answer.Answer, specs.declared.answer.Answer.TheVariants.{Done, NoMatch, Refused}}
use Rattle.yq_commands.specs.declared.help.TheConstants.{USAGE, DETAILS}

-- the help of a program of this name: the ways to call it, and what comes after them
abbrev pub help_of : List ℕ → List ℕ
help_of name = named name USAGE.now ++ named name DETAILS.now

-- the name `yq`
abbrev pub name_of_yq : List ℕ
name_of_yq = 121 ∷ 113 ∷ []

-- an output took the help of a program of some name
abbrev pub TookHelp : List ℕ → List ℕ → Type 0
TookHelp old new = (name : List ℕ) × (new ≡ old ++ help_of name)

-- help is shown; or memory ran out
abbrev pub ShowsHelp : {T : Type 0} → Result T Fault → Report → Type 0
ShowsHelp r s = MatchResult r (λ v. (s.printed ≡ help_of name_of_yq) × (s.is_match ≡ true)) (λ e. e ≡ OutOfMemory)

-- a command that asks for help is answered so
abbrev pub Helps : Command → {T : Type 0} → Result T Fault → Report → Type 0
Helps Help r s = ShowsHelp r s
Helps _ r s = Unit {0}

-- the answer is that help was printed; or that memory ran out or the output failed, and nothing was
abbrev pub IsHelpAnswer : Answer → List ℕ → Type 0
IsHelpAnswer Done printed = printed ≡ help_of name_of_yq
IsHelpAnswer NoMatch printed = ⊥
IsHelpAnswer (Refused e) printed = ((e ≡ OutOfMemory) ⊎ (e ≡ OutFailed)) × (printed ≡ [])

-- a command that asks for help is answered so
abbrev pub AnswersHelp : Command → Answer → List ℕ → Type 0
AnswersHelp Help a printed = IsHelpAnswer a printed
AnswersHelp _ a printed = Unit {0}
