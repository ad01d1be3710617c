-- A text and a journal next to a history, at rest and with a move open.
use Rattle.std.specs.Prelude.{◌≡◌, ◌≢◌, ◌==◌, ◌⊎◌, ℕ, ◌≤◌, ◌&&◌, List, [], ◌∷◌, length, nat_le, if◌then◌else◌, Option, Some, None}
use Rattle.yq_journal.specs.declared.fault.JournalFault.{JournalFault}
use Rattle.yq_journal.specs.declared.fault.JournalFault.TheVariants.{NothingToUndo, NothingToRedo, JournalFull, BadCount}
use Rattle.yq_journal.{specs.declared.moves.Move.Move, specs.declared.moves.Move.TheVariants.{Edit, Undo, Redo}}
use Rattle.yq_journal.{specs.History.{History, Revision, text_at, after_edit, after_undo, after_redo}, specs.Record.{Record, done}}
use Rattle.yq_journal.{specs.Json.journal_in, specs.Refusals.most_records, specs.State.{State, Pending, empty_state, moved_text, MovesTo}}

-- each record leads from a text to the next, and has its expression (own)
abbrev pub Leads : List ℕ → List Record → List Revision → Type 0
Leads t [] [] = Unit {0}
Leads t (r ∷ rs) (e ∷ es) = (r.expr ≡ e.expr) × (done r t ≡ Some e.text) × Leads e.text rs es
Leads t [] (e ∷ es) = ⊥
Leads t (r ∷ rs) [] = ⊥

-- a journal's records lead through a history, and both have one cursor (own)
pub record LeadsAsHistory (s : State) (h : History) : Type 0 where
  pub leads : Leads h.first s.records h.later
  pub cursor : s.at ≡ h.at
  pub within : h.at ≤ length h.later

-- the history after a move that leads to a text (own)
abbrev pub after_move : History → Move → List ℕ → History
after_move h (Edit r) u = after_edit h r.expr u
after_move h Undo u = after_undo h
after_move h Redo u = after_redo h

-- no open move: the text is that at the cursor (own)
pub record AtRest (s : State) (t : List ℕ) (h : History) : Type 0 where
  pub reports : LeadsAsHistory s h
  pub text : t ≡ text_at h

-- an open move: the journal describes the history before it and keeps the text at its cursor, which the move changes; the text is that one, or the one to which
-- the move leads, with the history after it (own)
pub record Underway (s : State) (p : Pending) (t : List ℕ) (h : History) : Type 0 where
  pub before : History
  pub reports : LeadsAsHistory s before
  pub from : p.from ≡ text_at before
  pub to : List ℕ
  pub moves : moved_text s.records s.at p.step p.from ≡ Some to
  pub changes : to ≢ p.from
  pub is_located : ((t ≡ p.from) × (h ≡ before)) ⊎ ((t ≡ to) × (h ≡ after_move before p.step to))

-- the same, as a journal has an open move or none (own)
abbrev pub DescribesPending : State → Option Pending → List ℕ → History → Type 0
DescribesPending s None t h = AtRest s t h
DescribesPending s (Some p) t h = Underway s p t h

-- a journal next to a text describes a history (own)
abbrev pub Describes : State → List ℕ → History → Type 0
Describes s t h = DescribesPending s s.pending t h

-- a journal that settling gave has no open move, and the same history (own)
pub record Rests (settled : Option State) (t : List ℕ) (h : History) : Type 0 where
  pub rest : State
  pub is : settled ≡ Some rest
  pub at_rest : AtRest rest t h
  pub closed : rest.pending ≡ None

-- the fault of a move of a history: an edit needs room, an undo and a redo a text to move to (own)
abbrev pub step_fault : History → Move → Option JournalFault
step_fault h (Edit r) = if nat_le most_records h.at then Some JournalFull else None
step_fault h Undo = if h.at == 0 then Some NothingToUndo else None
step_fault h Redo = if nat_le (length h.later) h.at then Some NothingToRedo else None

-- the fault of a squash of a history's last n done edits (own)
abbrev pub squash_refusal : History → ℕ → Option JournalFault
squash_refusal h n = if nat_le 1 n && nat_le n h.at then None else Some BadCount

-- the journal that a name's bytes are; where there are none, that of a text that was never edited (own)
abbrev pub journal_beside : Option (List ℕ) → Option State
journal_beside None = Some empty_state
journal_beside (Some bytes) = journal_in bytes

-- a file is there, and its journal next to it describes the history (own)
pub record PairHolds (file journal : Option (List ℕ)) (h : History) : Type 0 where
  pub text : List ℕ
  pub state : State
  pub file_is : file ≡ Some text
  pub journal_is : journal_beside journal ≡ Some state
  pub describes : Describes state text h

-- a file and its journal are good for a history; for none, the file isn't there (own)
abbrev pub Good : Option (List ℕ) → Option (List ℕ) → Option History → Type 0
Good file journal None = file ≡ None
Good file journal (Some h) = PairHolds file journal h

-- this holds of every journal at rest with a history next to a text (own)
abbrev pub AllAtRest : (State → List ℕ → History → Type 0) → Type 0
AllAtRest P = (s : State) (t : List ℕ) (h : History) → AtRest s t h → P s t h

-- this holds of every journal at rest with a history next to a text, and a move that leads on from there to another text (own)
abbrev pub AllMoves : (State → History → List ℕ → List ℕ → Move → Type 0) → Type 0
AllMoves P = (s : State) (h : History) (t u : List ℕ) (step : Move) → AtRest s t h → MovesTo s step t u → P s h t u step
