-- Which journals are believed, by what the system reports of them and of the links to them (own).
use Rattle.std.specs.Prelude.{◌≡◌, ℕ, ◌==◌, ◌&&◌, List, [], ◌∷◌, Bool, true, if◌then◌else◌, Option, Some, None}
use Rattle.std.{specs.declared.io.ErrorKind.ErrorKind, specs.declared.io.ErrorKind.TheVariants.{InvalidInput, PermissionDenied}}
use Rattle.yq_store.{specs.declared.disk.belief.BelievedJournal.BelievedJournal, specs.declared.disk.found.FoundFile.FoundFile}
use Rattle.yq_store.{specs.declared.disk.state.FileState.FileState, specs.Trust.{believes, covers, with_file}}
use Rattle.yq_store.specs.declared.disk.trust.Trust.{Trust}

-- the device and the inode are the same
abbrev pub is_same_file : FileState → FileState → Bool
is_same_file a b = a.device == b.device && a.inode == b.inode

-- each maker of a link may write the file, and the journal too
abbrev pub cover_links : Trust → Trust → List (ℕ × ℕ) → Bool
cover_links file journal [] = true
cover_links file journal (maker ∷ rest) =
    (covers file maker.0 maker.1 && covers journal maker.0 maker.1) && cover_links file journal rest

-- the links to the journal are of those who may write both, and nobody may write it who may not write the file
abbrev pub is_trusted : FoundFile → List (ℕ × ℕ) → Trust → Bool
is_trusted journal links t =
    cover_links t (with_file t journal.writers) links && believes t journal.writers journal.links

-- why a journal isn't read: it is the file, or isn't trusted
abbrev pub unbelieved : FoundFile → List (ℕ × ℕ) → Trust → FileState → Option ErrorKind
unbelieved journal links t file =
    if is_same_file file journal.state then Some InvalidInput
    else if is_trusted journal links t then None else Some PermissionDenied

-- a journal that was read is believed
abbrev pub IsBelieved : Trust → FileState → BelievedJournal → Type 0
IsBelieved trust file journal = unbelieved journal.found journal.links.items trust file ≡ None
