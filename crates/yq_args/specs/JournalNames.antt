-- The journal of a file in a folder of journals, under a name that is made of the file's path (own).
use Rattle.std.specs.Prelude.{◌≡◌, ◌⊎◌, ◌<◌, ℕ, ◌==◌, Bool, not, if◌then◌else◌, List, [], ◌∷◌, ◌++◌, codes, length}
use Rattle.std.specs.List.{flat_map, list_all}
use Rattle.yq_args.{specs.Asked.WordsError, specs.declared.cause.UsageCause.TheVariants.LongJournalName}
use Rattle.yq_failure.specs.declared.failure.Failure.TheVariants.{Memory, Fault}

-- a byte of a path as it is in a name: `/` and `%` by `%` and two hexadecimal digits, as in RFC 3986, section 2.1
abbrev pub escaped_byte : ℕ → List ℕ
escaped_byte b = if b == 37 then codes "%25" else if b == 47 then codes "%2F" else b ∷ []

-- a path as a name
abbrev pub escaped_path : List ℕ → List ℕ
escaped_path path = flat_map escaped_byte path

-- the name of the journal of the file at a path
abbrev pub name_of_path : List ℕ → List ℕ
name_of_path path = escaped_path path ++ codes ".undo.json"

-- the most bytes that a name may have, as on the file systems of Linux
abbrev pub most_of_name : ℕ
most_of_name = 255

-- the journal in a folder
abbrev pub journal_in_folder : List ℕ → List ℕ → List ℕ
journal_in_folder folder path = folder ++ (47 ∷ name_of_path path)

-- bytes that are one name: no slash is among them
abbrev pub is_one_name : List ℕ → Bool
is_one_name name = list_all (λ b. not (b == 47)) name

-- no other path gives the journal this name
abbrev pub NamesOnePath : List ℕ → List ℕ → Type 0
NamesOnePath folder path = (other : List ℕ) → journal_in_folder folder other ≡ journal_in_folder folder path → other ≡ path

-- memory ran out, or the name is too long
abbrev pub IsTooLong : List ℕ → WordsError → Type 0
IsTooLong path e = (e ≡ Memory) ⊎ ((e ≡ Fault LongJournalName) × (most_of_name < length (name_of_path path)))
