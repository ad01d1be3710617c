-- The lines and texts of `history --diff` as the code has them (own).
use Rattle.std.specs.Prelude.{◌≡◌, ℕ, List, [], ◌∷◌, ◌++◌, map, Option, option_map, option_and_then, String, Vec}
use Rattle.std.{specs.String.string_bytes, specs.declared.alloc.Global.Global}
use Rattle.yq_journal.specs.Record.{Record, done, undone}
use Rattle.yq_history.specs.ListedDiffs.{IsAfterLine}

-- the bytes of a text, if it is there
abbrev pub bytes_of_some : Option (Vec ℕ Global) → Option (List ℕ)
bytes_of_some o = option_map (λ (v : Vec ℕ Global). v.items) o

-- the text before an edit is that from which it led to the text after it; none is known where none of these is
abbrev pub LeadsBack : Record → Option (Vec ℕ Global) → Option (Vec ℕ Global) → Type 0
LeadsBack r new old = bytes_of_some old ≡ option_and_then (undone r) (bytes_of_some new)

-- the text after an edit is that to which it leads from the text before it
abbrev pub LeadsOn : Record → Option (Vec ℕ Global) → Option (Vec ℕ Global) → Type 0
LeadsOn r old new = bytes_of_some new ≡ option_and_then (done r) (bytes_of_some old)

-- a text comes after the line of an edit, by the texts before and after that
abbrev pub IsChangeText : List ℕ → Option (Vec ℕ Global) → Option (Vec ℕ Global) → String Global → Type 0
IsChangeText file old new s = IsAfterLine file (bytes_of_some old) (bytes_of_some new) (string_bytes s)

-- the expressions of records
abbrev pub exprs_of : List Record → List (List ℕ)
exprs_of rs = map (λ (r : Record). r.expr) rs

-- the bytes of texts, the last one first
abbrev pub backwards : List (String Global) → List ℕ
backwards [] = []
backwards (s ∷ ss) = backwards ss ++ string_bytes s
