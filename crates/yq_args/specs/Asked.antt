-- What the words of a command line ask for, by what clap finds in them (own).
use Rattle.std.specs.Prelude.{◌≡◌, ◌≢◌, ◌⊎◌, ◌&&◌, ◌||◌, ◌^◌, ℕ, Bool, true, false, not, List, [], ◌∷◌, ◌++◌, length, codes, nat_lt}
use Rattle.std.specs.Prelude.{if◌then◌else◌, Option, Some, None, is_some, option_and_then, option_map, MatchResult, Result, String}
use Rattle.std.{specs.List.list_any, specs.declared.alloc.Global.Global, specs.Option.option_map_or, specs.Str.{bytes_eq, all_ascii_digits}}
use Rattle.std.{specs.Str.Parse.digits_value, specs.String.string_bytes}
use Rattle.clap.specs.Words.{IsAmong, Row, Text, fault_of, first_of, one_of, subcommand_of, takes}
use Rattle.clap.{specs.declared.error.kind.ErrorKind.ErrorKind, specs.declared.error.kind.ErrorKind.TheVariants.DisplayHelp}
use Rattle.yq_args.{specs.declared.command.Command.Command, specs.declared.eval_options.EvalOptions.EvalOptions}
use Rattle.yq_args.specs.declared.eval_words.EvalWords.{EvalWords}
use Rattle.yq_args.specs.declared.command.Command.TheVariants.{Eval, Undo, Redo, History, Squash, Help}
use Rattle.yq_args.{specs.declared.cause.UsageCause.UsageCause, specs.CommandWords.with_command, specs.Line.yq}
use Rattle.yq_args.specs.Setting.{asked_expression}
use Rattle.yq_failure.{specs.declared.failure.Failure.Failure, specs.declared.failure.Failure.TheVariants.{Memory, Fault}}
use Rattle.clap.specs.declared.error.kind.ErrorKind.TheVariants as kinds

-- why words are no command
abbrev pub WordsError : Type 0
WordsError = Failure UsageCause

-- the words as clap reads them, after the program's name
abbrev pub full_words : List Text → List Text
full_words words = codes "yq" ∷ with_command words

-- what clap finds in the words: a command's word, and what comes after it
abbrev pub found_in : List Text → Option (Text × List Row)
found_in words = subcommand_of yq (full_words words)

-- clap takes the words
abbrev pub is_taken : List Text → Bool
is_taken words = takes yq (full_words words)

-- a word that asks for help
abbrev pub is_help_word : Text → Bool
is_help_word word = bytes_eq word (codes "-h") || bytes_eq word (codes "--help")

-- some word asks for help
abbrev pub asks_help : List Text → Bool
asks_help words = list_any is_help_word words

-- clap's reading of these words, with the program's name, may end at a call for help
abbrev pub MayEndAtHelp : List Text → Type 0
MayEndAtHelp full = IsAmong DisplayHelp (fault_of yq full)

-- it can end at a call for help alone
abbrev pub EndsAtHelp : List Text → Type 0
EndsAtHelp full = fault_of yq full ≡ DisplayHelp ∷ []

-- a word asks for help, and clap's reading of the words may end at a call for help
abbrev pub MayCallHelp : List Text → Type 0
MayCallHelp words = (asks_help words ≡ true) × MayEndAtHelp (full_words words)

-- a word asks for help, and clap's reading of the words can end at a call for help alone
abbrev pub CallsHelp : List Text → Type 0
CallsHelp words = (asks_help words ≡ true) × EndsAtHelp (full_words words)

-- the answer is help, or this error for lack of memory
abbrev pub IsHelpOr : {E : Type 0} → E → Result Command E → Type 0
IsHelpOr memory r = MatchResult r (λ c. c ≡ Help) (λ e. e ≡ memory)

-- the journal's name: the one that is given, else the file's followed by `.undo.json`
abbrev pub journal_name : Option Text → Text → Text
journal_name None file = file ++ codes ".undo.json"
journal_name (Some name) file = name

-- the number of a text of decimal digits, up to the last of 64 bits
abbrev pub count_in : Text → Option ℕ
count_in text =
    if all_ascii_digits text && (nat_lt 0 (length text) && nat_lt (digits_value 10 text) (2 ^ 64))
    then Some (digits_value 10 text) else None

-- the switch is on where clap finds `true`, and off where it finds `false`
abbrev pub IsSwitch : Option Text → Bool → Type 0
IsSwitch found on = (found ≡ Some (codes "true") → on ≡ true) × (found ≡ Some (codes "false") → on ≡ false)

-- the file and the journal have the names that are given, which differ, and the file's isn't `-`
pub record HasNames (rows : List Row) (file journal : Text) : Type 0 where
  pub file_is : first_of (codes "file") rows ≡ Some file
  pub journal_is : journal ≡ journal_name (first_of (codes "journal") rows) file
  pub not_dash : file ≢ codes "-"
  pub differ : journal ≢ file

-- these two texts are the names of the file and of the journal
abbrev pub AreNames : List Row → String Global × String Global → Type 0
AreNames rows names = HasNames rows (string_bytes names.0) (string_bytes names.1)

-- the options of `eval` are on where their switches are
pub record HasOptions (rows : List Row) (options : EvalOptions) : Type 0 where
  pub exit_status : IsSwitch (one_of (codes "exit-status") rows) options.exit_status
  pub no_doc : IsSwitch (one_of (codes "no-doc") rows) options.no_doc
  pub diff : IsSwitch (one_of (codes "diff") rows) options.diff
  pub expect_change : IsSwitch (one_of (codes "expect-change") rows) options.expect_change

-- the texts and options of `eval` are those that clap finds; with `--text` its expression is the one that puts that text to the places of EXPR
pub record AsksEval (rows : List Row) (words : EvalWords) : Type 0 where
  pub expr_is : option_map (asked_expression (first_of (codes "text") rows)) (first_of (codes "expr") rows) ≡ Some (string_bytes words.expr)
  pub names : HasNames rows (string_bytes words.file) (string_bytes words.journal)
  pub options : HasOptions rows words.options

-- the command's word is this one, and what comes after it has this property
abbrev pub CommandIs : Text → (List Row → Type 0) → Option (Text × List Row) → Type 0
CommandIs name holds None = ⊥
CommandIs name holds (Some found) = (found.0 ≡ name) × holds found.1

-- the command is the one that clap finds, with its texts and switches; of help nothing is said
abbrev pub IsAsked : Option (Text × List Row) → Command → Type 0
IsAsked found (Eval words in_place) =
    CommandIs (codes "eval") (λ rows. AsksEval rows words × IsSwitch (one_of (codes "inplace") rows) in_place) found
IsAsked found (Undo file journal) = CommandIs (codes "undo") (λ rows. HasNames rows (string_bytes file) (string_bytes journal)) found
IsAsked found (Redo file journal) = CommandIs (codes "redo") (λ rows. HasNames rows (string_bytes file) (string_bytes journal)) found
IsAsked found (History file journal diffs) = CommandIs (codes "history") (λ rows.
    HasNames rows (string_bytes file) (string_bytes journal)
    × IsSwitch (one_of (codes "diff") rows) diffs) found
IsAsked found (Squash n file journal) = CommandIs (codes "squash") (λ rows.
    (option_and_then count_in (first_of (codes "n") rows) ≡ Some n)
    × HasNames rows (string_bytes file) (string_bytes journal)) found
IsAsked found Help = Unit {0}

-- the file's name isn't `-`, and the journal's is another
abbrev pub name_fits : Option Text → Text → Bool
name_fits journal file = not (bytes_eq file (codes "-")) && not (bytes_eq (journal_name journal file) file)

-- the names are there, and allowed
abbrev pub names_fit : Option Text → Option Text → Bool
names_fit None journal = false
names_fit (Some file) journal = name_fits journal file

-- a word names a command, and what that needs apart from its names is there and allowed
abbrev pub words_fit : Text → List Row → Bool
words_fit name rows =
    if bytes_eq name (codes "eval") then is_some (first_of (codes "expr") rows)
    else if bytes_eq name (codes "squash") then is_some (option_and_then count_in (first_of (codes "n") rows))
    else list_any (λ x. bytes_eq name x) (codes "undo" ∷ codes "redo" ∷ codes "history" ∷ [])

-- the texts that a command needs are there, and allowed
abbrev pub passes : Text → List Row → Bool
passes name rows = names_fit (first_of (codes "file") rows) (first_of (codes "journal") rows) && words_fit name rows

-- the words are no command, whatever the cause
abbrev pub is_usage : WordsError → Bool
is_usage (Fault cause) = true
is_usage Memory = false

-- memory ran out, or the words are no command, and this is so
abbrev pub RefusedWhere : Type 0 → WordsError → Type 0
RefusedWhere so fault = (fault ≡ Memory) ⊎ ((is_usage fault ≡ true) × so)

-- memory ran out, or a name is missing or isn't allowed
abbrev pub AreNamesMissed : List Row → WordsError → Type 0
AreNamesMissed rows fault = RefusedWhere (names_fit (first_of (codes "file") rows) (first_of (codes "journal") rows) ≡ false) fault

-- memory ran out, or a text that the command needs is missing or isn't allowed
abbrev pub IsMissed : Text → List Row → WordsError → Type 0
IsMissed name rows fault = RefusedWhere (passes name rows ≡ false) fault

-- what answers clap's fault, where a word asks for help or none does: lack of memory answers that alone, and words that are no command any other,
-- but not a call for help where one asks for it
abbrev pub AnswersKind : ErrorKind → Bool → WordsError → Type 0
AnswersKind kind asked fault =
    ((fault ≡ Memory) × (kind ≡ kinds.OutOfMemory))
    ⊎ ((is_usage fault ≡ true) × (kind ≢ kinds.OutOfMemory) × (kind ≡ DisplayHelp → asked ≡ false))

-- clap finds a command, whose texts are there and may be
abbrev pub finds : Option (Text × List Row) → Bool
finds None = false
finds (Some found) = passes found.0 found.1

-- memory ran out, or clap doesn't take the words, or finds no such command in them
abbrev pub IsNotTaken : List Text → WordsError → Type 0
IsNotTaken full fault = RefusedWhere (takes yq full ≡ true → finds (subcommand_of yq full) ≡ false) fault

-- the words name a journal
abbrev pub names_journal : Option (Text × List Row) → Bool
names_journal None = false
names_journal (Some found) = is_some (first_of (codes "journal") found.1)

-- the program's own checks of the texts that clap finds: FILE isn't `-`, the journal has another name, and N is a number of 64 bits
abbrev pub checks : List Row → Bool
checks rows =
    option_map_or (name_fits (first_of (codes "journal") rows)) (first_of (codes "file") rows) true
    && option_map_or (λ text. is_some (count_in text)) (first_of (codes "n") rows) true

-- memory ran out, or clap doesn't take the words, or they fail the program's own checks
abbrev pub WordsRefused : List Text → WordsError → Type 0
WordsRefused full fault = RefusedWhere (takes yq full ≡ true → option_map_or (λ found. checks found.1) (subcommand_of yq full) true ≡ false) fault
