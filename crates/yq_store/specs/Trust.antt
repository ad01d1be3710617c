-- Whose journals are believed, and which users may replace files (own).
use Rattle.std.specs.Prelude.{ℕ, ◌==◌, ◌&&◌, ◌||◌, Bool, not, bit_and, nat_le, Option, Some, None}
use Rattle.yq_store.{specs.declared.disk.trust.Trust.Trust, specs.declared.disk.trust.Writers.Writers}

-- everyone may write the file: the bit 2 of its mode
abbrev pub everyone_writes : Writers → Bool
everyone_writes w = not (bit_and w.mode 2 == 0)

-- the group of the file may write it: the bit 16 of its mode
abbrev pub group_writes : Writers → Bool
group_writes w = not (bit_and w.mode 16 == 0)

-- a run of this user, or of root where the system doesn't report it, with this file
abbrev pub trust_of : Option ℕ → Writers → Trust
trust_of (Some user) file = record { user = user; file = file }
trust_of None file = record { user = 0; file = file }

-- the same run, with another file
abbrev pub with_file : Trust → Writers → Trust
with_file t file = record { user = t.user; file = file }

-- the owner is the user of the run, root or the file's owner, or could have written the file by its mode
abbrev pub covers : Trust → ℕ → ℕ → Bool
covers t owner group =
    owner == t.user || owner == 0 || owner == t.file.owner
    || everyone_writes t.file || group_writes t.file && group == t.file.group

-- but for its owner, nobody may write the journal by its mode who may not write the file by the file's
abbrev pub keeps_others_out : Writers → Writers → Bool
keeps_others_out file journal =
    everyone_writes file
    || not (everyone_writes journal)
    && (not (group_writes journal) || group_writes file && journal.group == file.group)

-- nobody may write the journal who may not write the file: neither its owner, nor by its mode, nor by another of its hard links
abbrev pub believes : Trust → Writers → ℕ → Bool
believes t journal links =
    nat_le links 1 && covers t journal.owner journal.group && keeps_others_out t.file journal

-- in a folder with the sticky bit, 512 of its mode, root, its owner and the file's owner alone may rename a file over another one
abbrev pub may_replace : Trust → Writers → ℕ → Bool
may_replace t folder owner =
    bit_and folder.mode 512 == 0 || t.user == 0 || t.user == folder.owner || t.user == owner
