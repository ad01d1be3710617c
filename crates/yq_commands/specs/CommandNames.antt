-- The file and the journal that a command names (own).
use Rattle.std.{specs.Prelude.{◌≡◌, ◌≢◌, ℕ, List, [], true, false}, specs.String.string_bytes}
use Rattle.yq_history.specs.Pair.{Differs}
use Rattle.yq_args.specs.declared.command.Command.{Command}
use Rattle.yq_args.specs.declared.command.Command.TheVariants.{Eval, Undo, Redo, History as Lists, Squash, Help}

-- the command works on this file with this journal; an expression that isn't carried out in place, with any
abbrev pub IsOn : List ℕ → List ℕ → Command → Type 0
IsOn file journal (Eval w true) = (string_bytes w.file ≡ file) × (string_bytes w.journal ≡ journal)
IsOn file journal (Eval w false) = string_bytes w.file ≡ file
IsOn file journal (Undo f j) = (string_bytes f ≡ file) × (string_bytes j ≡ journal)
IsOn file journal (Redo f j) = (string_bytes f ≡ file) × (string_bytes j ≡ journal)
IsOn file journal (Lists f j diffs) = (string_bytes f ≡ file) × (string_bytes j ≡ journal)
IsOn file journal (Squash n f j) = (string_bytes f ≡ file) × (string_bytes j ≡ journal)
IsOn file journal Help = ⊥

-- the command doesn't name this name; an expression that isn't carried out in place needs no journal
abbrev pub IsNotNamed : List ℕ → Command → Type 0
IsNotNamed q (Eval w true) = Differs q (string_bytes w.file) (string_bytes w.journal)
IsNotNamed q (Eval w false) = q ≢ string_bytes w.file
IsNotNamed q (Undo f j) = Differs q (string_bytes f) (string_bytes j)
IsNotNamed q (Redo f j) = Differs q (string_bytes f) (string_bytes j)
IsNotNamed q (Lists f j diffs) = Differs q (string_bytes f) (string_bytes j)
IsNotNamed q (Squash n f j) = Differs q (string_bytes f) (string_bytes j)
IsNotNamed q Help = Unit {0}

-- the file that the command names; help names none
abbrev pub file_of : Command → List ℕ
file_of (Eval w in_place) = string_bytes w.file
file_of (Undo f j) = string_bytes f
file_of (Redo f j) = string_bytes f
file_of (Lists f j diffs) = string_bytes f
file_of (Squash n f j) = string_bytes f
file_of Help = []
