-- A command with another journal (own).
use Rattle.std.{specs.Prelude.{◌≡◌, ℕ, Bool, true, false, List, String, string_bytes}, specs.Str.bytes_eq}
use Rattle.std.specs.declared.alloc.Global.{Global}
use Rattle.yq_args.{specs.declared.cause.UsageCause.UsageCause, specs.declared.cause.UsageCause.TheVariants.JournalIsFile}
use Rattle.yq_args.specs.declared.command.Command.{Command}
use Rattle.yq_args.specs.declared.command.Command.TheVariants.{Eval, Undo, Redo, History, Squash, Help}

-- the same command, with this journal
abbrev pub with_journal : Command → String Global → Command
with_journal (Eval words in_place) journal = Eval (record words { journal = journal }) in_place
with_journal (Undo file old) journal = Undo file journal
with_journal (Redo file old) journal = Redo file journal
with_journal (History file old diffs) journal = History file journal diffs
with_journal (Squash n file old) journal = Squash n file journal
with_journal Help journal = Help

-- the file of the command has this name
abbrev pub names_file : Command → List ℕ → Bool
names_file (Eval words in_place) name = bytes_eq name (string_bytes words.file)
names_file (Undo file journal) name = bytes_eq name (string_bytes file)
names_file (Redo file journal) name = bytes_eq name (string_bytes file)
names_file (History file journal diffs) name = bytes_eq name (string_bytes file)
names_file (Squash n file journal) name = bytes_eq name (string_bytes file)
names_file Help name = false

-- the cause is that the journal has the name of the command's file, which it has
abbrev pub IsItsFile : Command → String Global → UsageCause → Type 0
IsItsFile c journal cause = (cause ≡ JournalIsFile) × (names_file c (string_bytes journal) ≡ true)
