-- How a command on a file and its journal calls a store, by what that answers (own).
use Rattle.std.specs.Prelude.{◌≡◌, ◌⊎◌, ℕ, List, [], ◌∷◌, false, is_ok, if◌then◌else◌, Option, Some, None, Result, Ok, Err, Vec}
use Rattle.std.{specs.Str.bytes_eq, specs.declared.alloc.Global.Global}
use Rattle.yq_journal.{specs.Json.journal_text, specs.State.State}
use Rattle.yq_store.{specs.Calls.{Call, reads, writes}, specs.Count.{IsOfRead, IsOfWrite}}
use Rattle.yq_fault.{specs.declared.fault.Fault.Fault, specs.declared.fault.Fault.TheVariants.NotThere}
use Rattle.yq_history.specs.Effects.{Effect, refuses, writes_nothing, writes_both, from_pair}

-- the writes of a change of a file's text and journal: the journal with the move open, the text, and the journal after it; of a text that stays equal
-- the journal after it alone
abbrev pub writes_of : List ℕ → List ℕ → List ℕ → List ℕ → State → State → List (List ℕ × List ℕ)
writes_of file journal t u started s =
    if bytes_eq u t then (journal, journal_text s) ∷ []
    else (journal, journal_text started) ∷ (file, u) ∷ (journal, journal_text s) ∷ []

-- both were read, and no other call was made: an effect goes on from the text and the journal that were opened
abbrev pub IsOpened : {S : Type 0} → Result (Vec ℕ Global × State) Fault → List ℕ → Option (List ℕ) → S → S → Type 0
IsOpened (Ok p) text beside s t = (t ≡ s) × (p.0.items ≡ text) × ((go : List ℕ → State → Effect) → from_pair (Some text) beside go ≡ go text p.1)
IsOpened (Err e) text beside s t = t ≡ s

module _ {S T : Type 0} (leads : S → Call → S → Type 0) (r : Result T Fault) where
  -- what follows a file's bytes; where they couldn't be read, the command is refused without another call
  abbrev pub AfterFile : (List ℕ → S → S → Type 0) → Result (List ℕ) Fault → S → S → Type 0
  AfterFile next (Ok b) s t = next b s t
  AfterFile next (Err e) s t = IsOfRead e × (r ≡ Err e) × (t ≡ s)

  -- the same of a journal's, which need not be there
  abbrev pub AfterJournal : (Option (List ℕ) → S → S → Type 0) → Result (List ℕ) Fault → S → S → Type 0
  AfterJournal next (Ok b) s t = next (Some b) s t
  AfterJournal next (Err NotThere) s t = next None s t
  AfterJournal next (Err e) s t = IsOfRead e × (r ≡ Err e) × (t ≡ s)

  -- a file is read, and then goes on what follows
  abbrev pub ReadsFile : List ℕ → (List ℕ → S → S → Type 0) → S → S → Type 0
  ReadsFile file next s t = (a : Result (List ℕ) Fault) × (m : S) × leads s (reads file a) m × AfterFile next a m t

  -- the same of a journal
  abbrev pub ReadsJournal : List ℕ → (Option (List ℕ) → S → S → Type 0) → S → S → Type 0
  ReadsJournal journal next s t = (a : Result (List ℕ) Fault) × (m : S) × leads s (reads journal a) m × AfterJournal next a m t

  -- a file is read, and its journal after it
  abbrev pub ReadsPair : List ℕ → List ℕ → (List ℕ → Option (List ℕ) → S → S → Type 0) → S → S → Type 0
  ReadsPair file journal next s t = ReadsFile file (λ text. ReadsJournal journal (next text)) s t

  -- bytes are put under names in this order, up to the last, or up to one that fails; a fault may come before each
  abbrev pub Puts : List (List ℕ × List ℕ) → S → S → Type 0
  Puts [] s t = t ≡ s
  Puts (p ∷ ps) s t =
      ((is_ok r ≡ false) × (t ≡ s))
      ⊎ (((e : Fault) × IsOfWrite e × leads s (writes p.0 p.1 (Err e)) t × (r ≡ Err e))
      ⊎ ((m : S) × leads s (writes p.0 p.1 (Ok tt)) m × Puts ps m t))

  -- the text of a journal is put under its name
  abbrev pub PutsJournal : List ℕ → State → S → S → Type 0
  PutsJournal journal z s t = Puts ((journal, journal_text z) ∷ []) s t

  -- the calls by which an effect on a text comes about: none where it is refused or writes nothing
  abbrev pub Makes : List ℕ → List ℕ → List ℕ → Effect → S → S → Type 0
  Makes file journal text (refuses x) s t = (is_ok r ≡ false) × (t ≡ s)
  Makes file journal text (writes_nothing o) s t = t ≡ s
  Makes file journal text (writes_both u started z) s t = Puts (writes_of file journal text u started z) s t

  -- the calls of a command on a pair: both are read, and then its effect comes about
  abbrev pub CallsOnPair : List ℕ → List ℕ → (List ℕ → State → Effect) → S → S → Type 0
  CallsOnPair file journal go s t = ReadsPair file journal (λ text beside. Makes file journal text (from_pair (Some text) beside go)) s t
