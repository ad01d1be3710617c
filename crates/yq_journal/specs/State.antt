-- What a journal holds, and its moves.
use Rattle.std.specs.Prelude.{◌≡◌, ◌==◌, ℕ, ◌+◌, ◌-◌, Bool, false, List, [], ◌∷◌, ◌++◌, take, drop, if◌then◌else◌, Option, Some, None}
use Rattle.std.{specs.Prelude.{option_and_then, slice_get, IfOk, IfSome, Result, Vec}, specs.Str.bytes_eq}
use Rattle.std.specs.declared.alloc.Global.{Global}
use Rattle.yq_journal.{specs.declared.moves.Move.Move, specs.declared.moves.Move.TheVariants.{Edit, Undo, Redo}}
use Rattle.yq_journal.specs.Record.{Record, done, undone, records_joined}

-- an open move, with the whole text from which it starts (own)
pub record Pending : Type 0 where
  pub step : Move
  pub from : List ℕ

-- a journal: its records, a cursor, which says how many of them are done, and perhaps an open move (own)
pub record State : Type 0 where
  pub records : List Record
  pub at : ℕ
  pub pending : Option Pending

-- the journal of a text that was never edited (own)
abbrev pub empty_state : State
empty_state = record { records = []; at = 0; pending = None }

-- the text that a move leads to from this one, where it applies (own)
abbrev pub moved_text : List Record → ℕ → Move → List ℕ → Option (List ℕ)
moved_text records at (Edit r) t = done r t
moved_text records at Undo t = if at == 0 then None else option_and_then (λ r. undone r t) (slice_get records (at - 1))
moved_text records at Redo t = option_and_then (λ r. done r t) (slice_get records at)

-- the journal after a move: an edit drops the records past the cursor (own)
abbrev pub journal_after : State → Move → State
journal_after s (Edit r) = record { records = take s.at s.records ++ r ∷ []; at = s.at + 1; pending = None }
journal_after s Undo = record { records = s.records; at = s.at - 1; pending = None }
journal_after s Redo = record { records = s.records; at = s.at + 1; pending = None }

-- the journal with its open move dropped (own)
abbrev pub without_move : State → State
without_move s = record { records = s.records; at = s.at; pending = None }

-- the journal with a move opened on a text (own)
abbrev pub with_move : State → Move → List ℕ → State
with_move s step from = record { records = s.records; at = s.at; pending = Some (record { step = step; from = from }) }

-- whether that text was reached (own)
abbrev pub is_reached : Option (List ℕ) → List ℕ → Bool
is_reached None t = false
is_reached (Some u) t = bytes_eq u t

-- the journal that an open move leaves next to a text (own)
abbrev pub settled_pending : State → Option Pending → List ℕ → Option State
settled_pending s None t = Some s
settled_pending s (Some p) t =
    if bytes_eq p.from t then Some (without_move s)
    else if is_reached (moved_text s.records s.at p.step p.from) t then Some (journal_after s p.step)
    else None

-- the journal settled next to a text: an open move is dropped next to the text from which it starts, done next to the one to which it leads (own)
abbrev pub settled_beside : State → List ℕ → Option State
settled_beside s t = settled_pending s s.pending t

-- several records as one, none as none (own)
abbrev pub joined_of : List Record → List Record
joined_of [] = []
joined_of (r ∷ rs) = records_joined r rs ∷ []

-- the last n records up to the cursor (own)
abbrev pub last_done : List Record → ℕ → ℕ → List Record
last_done records at n = drop (at - n) (take at records)

-- the journal with its last n done records joined into one (own)
abbrev pub squashed : State → ℕ → State
squashed s n = record {
  records = take (s.at - n) s.records ++ (joined_of (last_done s.records s.at n) ++ drop s.at s.records);
  at = s.at - n + 1;
  pending = None;
}

-- a journal of these parts (own)
abbrev pub state : List Record → ℕ → Option Pending → State
state records at pending = record { records = records; at = at; pending = pending }

-- the records and the cursor of a journal with no open move (own)
abbrev pub settled_state : Vec Record Global → ℕ → State
settled_state records at = state records.items at None

-- the journal that a move makes of such a one (own)
abbrev pub moved_state : Vec Record Global → ℕ → Move → State
moved_state records at step = journal_after (settled_state records at) step

-- records and a cursor are the ones they were (own)
abbrev pub AreKept : (old new : Vec Record Global) → (old_at new_at : ℕ) → Type 0
AreKept old new old_at new_at = (new.items ≡ old.items) × (new_at ≡ old_at)

-- a move of a journal leads from a text to another (own)
abbrev pub MovesTo : State → Move → List ℕ → List ℕ → Type 0
MovesTo s step t u = moved_text s.records s.at step t ≡ Some u

-- an answer is the text to which a move of a journal leads, or an error (own)
abbrev pub GivesMoved : {E : Type 0} → Result (Vec ℕ Global) E → State → Move → List ℕ → Type 0
GivesMoved r s step t = IfOk r (λ v. MovesTo s step t v.items)

-- an open move leads to no such text, over records from a cursor (own)
abbrev pub LeadsElsewhere : List Record → ℕ → Pending → List ℕ → Type 0
LeadsElsewhere records at p t = is_reached (moved_text records at p.step p.from) t ≡ false

-- the open move of a journal, if it has one, leads to a text (own)
abbrev pub OpenLeads : State → List ℕ → Type 0
OpenLeads s t = IfSome s.pending (λ p. MovesTo s p.step p.from t)
