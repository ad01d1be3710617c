-- Owner, group and mode of the file that replaces another one, or of a journal (own).
use Rattle.std.specs.Prelude.{ℕ, ◌≡◌, ◌*◌, ◌==◌, ◌||◌, List, [], ◌∷◌, Bool, bit_and, bit_or, if◌then◌else◌, Option, Some, None, Result, Ok}
use Rattle.std.{specs.Prelude.Err, specs.Fs.metadata_mode, specs.declared.fs.attrs.Metadata.Metadata, specs.declared.io.ErrorKind.ErrorKind}
use Rattle.std.specs.declared.io.ErrorKind.TheVariants.{InvalidInput, NotFound, PermissionDenied}
use Rattle.yq_store.{specs.Belief.is_trusted, specs.declared.disk.found.FoundFile.FoundFile, specs.declared.disk.ownership.Had.Had}
use Rattle.yq_store.{specs.declared.disk.ownership.Had.TheVariants.{All, Group, Nothing}, specs.declared.disk.ownership.Rights.Rights}
use Rattle.yq_store.{specs.declared.disk.trust.Trust.Trust, specs.declared.disk.trust.Writers.Writers}

-- the bits of a mode that say who may read, write and run
abbrev pub read_write_run : ℕ → ℕ
read_write_run mode = bit_and mode 0o777

-- those of the owner and of everyone, and of the group's those that everyone has too
abbrev pub mode_in_another_group : ℕ → ℕ
mode_in_another_group mode = bit_and (read_write_run mode) (bit_or 0o707 (bit_and mode 0o007 * 0o010))

-- those that the file has too
abbrev pub mode_within : ℕ → ℕ → ℕ
mode_within mode of_file = bit_and (read_write_run mode) of_file

-- of the file that replaces it: the same, with the bits that change the user or the group of a run
abbrev pub rights_of_file : Writers → Rights
rights_of_file f = record { owner = Some f.owner; group = f.group; mode = bit_and f.mode 0o7777 }

-- of a new journal: those of the file, but that in another folder its maker owns it
abbrev pub rights_of_new_journal : Writers → Bool → Rights
rights_of_new_journal f beside =
    record { owner = if beside then Some f.owner else None; group = f.group; mode = read_write_run f.mode }

-- the journal keeps its owner, and has what the file has too; next to the file it has its group, elsewhere another group has what everyone has
abbrev pub rights_of_old_journal : Writers → Writers → Bool → Rights
rights_of_old_journal j f beside =
    if beside || j.group == f.group
    then record { owner = Some j.owner; group = f.group; mode = mode_within j.mode f.mode }
    else record { owner = Some j.owner; group = j.group; mode = mode_in_another_group (mode_within j.mode f.mode) }

-- of the journal that replaces an old one or is new; a journal that is no regular file or isn't trusted is refused, and so is a link to nothing
abbrev pub rights_of_written : Option FoundFile → List (ℕ × ℕ) → Trust → Writers → Bool → Result Rights ErrorKind
rights_of_written None [] t f beside = Ok (rights_of_new_journal f beside)
rights_of_written None (link ∷ rest) t f beside = Err NotFound
rights_of_written (Some j) links t f beside =
    if j.is_file
    then (if is_trusted j links t then Ok (rights_of_old_journal j.writers f beside) else Err PermissionDenied)
    else Err InvalidInput

-- this is what the system reports of a file where it found one
abbrev pub IsFound : Option Metadata → Option FoundFile → Type 0
IsFound None None = Unit {0}
IsFound (Some m) (Some f) = f.writers.mode ≡ metadata_mode m
IsFound _ _ = ⊥

-- The rights are those of the journal that replaces what was found where links lead, or is new there, for the file and the folder as the system reports
-- them.
pub record AreOfWritten (found : Option Metadata) (links : List (ℕ × ℕ)) (t : Trust) (r : Rights) : Type 0 where
  pub old : Option FoundFile
  pub file : Writers
  pub is_beside : Bool
  pub reported : IsFound found old
  pub defined : rights_of_written old links t file is_beside ≡ Ok r

-- the mode of a new file that could have this of its owner and its group
abbrev pub mode_where : Had → ℕ → ℕ
mode_where All mode = mode
mode_where Group mode = read_write_run mode
mode_where Nothing mode = mode_in_another_group mode
