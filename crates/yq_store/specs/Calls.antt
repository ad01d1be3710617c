-- Calls of a store, with what it answered (own).
use Rattle.std.{specs.Prelude.{◌≡◌, ℕ, List, Result, Ok, Err, Vec}, specs.declared.alloc.Global.Global}
use Rattle.yq_fault.specs.declared.fault.Fault.{Fault}
use Rattle.yq_store.{specs.Count.count_plus_one, specs.declared.store.Counts.Counts}

-- a name was read, or bytes were put under it
pub data Call : Type 0 where
  reads : List ℕ → Result (List ℕ) Fault → Call
  writes : List ℕ → List ℕ → Result (Unit {0}) Fault → Call

-- what was read
abbrev pub bytes_read : Result (Vec ℕ Global) Fault → Result (List ℕ) Fault
bytes_read (Ok v) = Ok v.items
bytes_read (Err e) = Err e

-- the counts before the first call
abbrev pub no_calls : Counts
no_calls = record { reads = 0; writes = 0; failures = 0 }

-- how many reads there were, after a call more
abbrev pub reads_after : Call → ℕ → ℕ
reads_after (reads q a) n = count_plus_one n
reads_after (writes q b a) n = n

-- how many writes there were, after a call more
abbrev pub writes_after : Call → ℕ → ℕ
writes_after (reads q a) n = n
writes_after (writes q b a) n = count_plus_one n

-- a call more was counted
abbrev pub CountsCall : Counts → Call → Counts → Type 0
CountsCall old call new = (new.reads ≡ reads_after call old.reads) × (new.writes ≡ writes_after call old.writes)
