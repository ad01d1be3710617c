-- The text of a journal: compact JSON and a line feed (RFC 8259), with the recorded bytes in padded standard base64 (RFC 4648).
use Rattle.std.specs.Prelude.{◌==◌, ℕ, ◌&&◌, List, [], ◌∷◌, ◌++◌, length, codes, nat_le, Bool, true, false, not, if◌then◌else◌, Option}
use Rattle.std.{specs.Prelude.{Some, None, option_map, option_and_then, is_some}, specs.Str.{bytes_eq, is_utf8}}
use Rattle.serde_json.{specs.Read.read, specs.Data.{unsigned, Data, null, number, string, array, object, Items, no_members, member}}
use Rattle.serde_json.{specs.Find.{get, as_null}, specs.Written.compact_text}
use Rattle.yq_journal.{specs.declared.moves.Move.Move, specs.declared.moves.Move.TheVariants.{Edit, Undo, Redo}, specs.Record.Record}
use Rattle.yq_journal.{specs.State.{Pending, State, state, moved_text, is_reached}, specs.Refusals.{most_records, way_fault}}
pub use Rattle.yq_journal.specs.RecordJson.{count_members, counts, has_keys, number_at, string_at, bytes_at, and_more, each_of, change_from, splices_of}
pub use Rattle.yq_journal.specs.RecordJson.{is_record, record_from, count_at, record_keys, records_of, bytes_data, list_data, change_data, record_data}
unfoldable pub use Rattle.yq_journal.specs.RecordJson.{splice_of, record_of}

-- ---- an open move

-- the kind of a move (own)
abbrev pub kind_text : Move → List ℕ
kind_text (Edit r) = codes "edit"
kind_text Undo = codes "undo"
kind_text Redo = codes "redo"

-- the move of a kind that has no record (own)
abbrev pub bare_move : List ℕ → Option Move
bare_move kind = if bytes_eq kind (codes "undo") then Some Undo else if bytes_eq kind (codes "redo") then Some Redo else None

-- the move of a kind, with the value of its record (own)
unfoldable pub move_of : Bool → List ℕ → Data → Option Move
move_of counted kind d =
    if bytes_eq kind (codes "edit") then option_map Edit (record_of counted d)
    else if is_some (as_null d) then bare_move kind
    else None

-- the move that is meant where a move of this kind is written (own)
abbrev pub move_again : Move → Data → Option Move
move_again step = move_of true (kind_text step)

-- an open move of these parts (own)
abbrev pub open_from : Option Move → Option (List ℕ) → Option Pending
open_from None from = None
open_from (Some step) None = None
open_from (Some step) (Some from) = Some (record { step = step; from = from })

-- the move under the keys kind and record (own)
abbrev pub move_at : Bool → Data → Option Move
move_at counted d = option_and_then (λ kind. option_and_then (move_of counted kind) (get (codes "record") d)) (string_at (codes "kind") d)

-- the open move that a value means: the keys are from, kind, record (own)
unfoldable pub open_move_of : Bool → Data → Option Pending
open_move_of counted d = if has_keys 3 d then open_from (move_at counted d) (bytes_at (codes "from") d) else None

-- an open move or, for null, none (own)
abbrev pub pending_of : Bool → Data → Option (Option Pending)
pending_of counted d = if is_some (as_null d) then Some None else option_map Some (open_move_of counted d)

-- ---- a journal

-- whether an open move applies to its text and changes it (own)
abbrev pub can_move : List Record → ℕ → Option Pending → Bool
can_move records at None = true
can_move records at (Some p) = not (is_some (way_fault records at p.step p.from)) && not (is_reached (moved_text records at p.step p.from) p.from)

-- whether a journal has no more records than it may, its cursor among them, and no open move but one that can be made (own)
unfoldable pub is_sound_journal : State → Bool
is_sound_journal s = nat_le (length s.records) most_records && nat_le s.at (length s.records) && can_move s.records s.at s.pending

-- a journal of these parts, if it is one (own)
abbrev pub state_from : Option ℕ → Option (Option Pending) → Option (List Record) → Option State
state_from None pending records = None
state_from (Some at) None records = None
state_from (Some at) (Some p) None = None
state_from (Some at) (Some p) (Some rs) = if is_sound_journal (state rs at p) then Some (state rs at p) else None

-- whether the records of a version have a count: version 1 or 2 (own)
abbrev pub has_count : ℕ → Option Bool
has_count v = if v == 1 then Some false else if v == 2 then Some true else None

-- the journal of a version that a value means (own)
unfoldable pub state_of : Bool → Data → Option State
state_of counted d =
    state_from (number_at (codes "at") d) (option_and_then (pending_of counted) (get (codes "pending") d))
    (option_and_then (records_of counted) (get (codes "records") d))

-- the journal that a value means: the keys are at, pending, records, version (own)
unfoldable pub journal_of : Data → Option State
journal_of d = if has_keys 4 d then option_and_then (λ counted. state_of counted d) (option_and_then has_count (number_at (codes "version") d)) else None

-- the value that bytes are: UTF-8 of a JSON text (RFC 8259)
abbrev pub json_value : List ℕ → Option Data
json_value bs = if is_utf8 bs then read bs else None

-- the journal that bytes are: UTF-8 of a JSON text whose value is one; of equal keys the last one counts, and at most 127 arrays and objects are nested
-- (RFC 8259)
abbrev pub journal_in : List ℕ → Option State
journal_in bs = if is_utf8 bs then option_and_then journal_of (read bs) else None

-- ---- what is written

-- the record of a move, null where it has none (own)
abbrev pub move_data : Move → Data
move_data (Edit r) = record_data r
move_data Undo = null
move_data Redo = null

-- an open move as a value, null where there is none (own)
abbrev pub pending_data : Option Pending → Data
pending_data None = null
pending_data (Some p) =
    object (member (codes "from") (bytes_data p.from) (member (codes "kind") (string (kind_text p.step))
    (member (codes "record") (move_data p.step) no_members)))

-- the object of a journal in version 2 (own)
abbrev pub journal_object : ℕ → Data → Items → Data
journal_object at open_value record_values = object (member (codes "at") (number (unsigned at)) (member (codes "pending") open_value
    (member (codes "records") (array record_values) (member (codes "version") (number (unsigned 2)) no_members))))

-- a journal as a value, in version 2 (own)
abbrev pub journal_data : State → Data
journal_data s = journal_object s.at (pending_data s.pending) (list_data record_data s.records)

-- the text of a journal: compact JSON and a line feed (own)
abbrev pub journal_text : State → List ℕ
journal_text s = compact_text (journal_data s) ++ 10 ∷ []
