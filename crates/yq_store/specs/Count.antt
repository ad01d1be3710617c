-- Counts of failures, which stay at their last value (own).
use Rattle.std.specs.Prelude.{ℕ, ◌+◌, ◌-◌, ◌^◌, min, if◌then◌else◌, Result, Ok, Err}
use Rattle.yq_fault.{specs.declared.fault.Fault.Fault, specs.Faults.is_failure}
use Rattle.yq_fault.specs.declared.fault.Fault.TheVariants.{NotThere, ReadFailed, WriteFailed, OutOfMemory}

-- one more, up to the last value of 64 bits
abbrev pub count_plus_one : ℕ → ℕ
count_plus_one n = min (n + 1) (2 ^ 64 - 1)

-- it may be said of a read
abbrev pub IsOfRead : Fault → Type 0
IsOfRead NotThere = Unit {0}
IsOfRead ReadFailed = Unit {0}
IsOfRead OutOfMemory = Unit {0}
IsOfRead _ = ⊥

-- it may be said of a write
abbrev pub IsOfWrite : Fault → Type 0
IsOfWrite WriteFailed = Unit {0}
IsOfWrite OutOfMemory = Unit {0}
IsOfWrite _ = ⊥

-- the count after a call of the store, or after a command
abbrev pub failures_after : {T : Type 0} → Result T Fault → ℕ → ℕ
failures_after (Ok v) n = n
failures_after (Err e) n = if is_failure e then count_plus_one n else n

-- the count after an output
abbrev pub after_put : {T E : Type 0} → Result T E → ℕ → ℕ
after_put (Ok v) n = n
after_put (Err e) n = count_plus_one n
