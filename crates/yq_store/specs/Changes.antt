-- What calls of a store read of it, and what they leave in it (own).
use Rattle.std.{specs.Prelude.{◌≡◌, ◌≢◌, ◌⊎◌, ℕ, IfOk, IsErrOf, List, None, Result, Some, Vec}, specs.FinMap.{get, insert}}
use Rattle.std.specs.declared.alloc.Global.{Global}
use Rattle.yq_store.specs.FileMap.{FileMap}
use Rattle.yq_fault.{specs.declared.fault.Fault.Fault, specs.declared.fault.Fault.TheVariants.{NotThere, OutOfMemory}}

-- what was read is what the name holds
abbrev pub ReadsHeld : FileMap → List ℕ → Result (Vec ℕ Global) Fault → Type 0
ReadsHeld content name r = IfOk r (λ bytes. get content name ≡ Some bytes.items)

-- a name that isn't there holds nothing
abbrev pub AbsentIfNotThere : {T : Type 0} → FileMap → List ℕ → Result T Fault → Type 0
AbsentIfNotThere content name r = IsErrOf r NotThere → get content name ≡ None

-- by the stores before and after a call, as files by their names
module _ {S : Type 0} (content : S → FileMap) (old new : S) where
  -- a name has these bytes, and all others hold what they held
  abbrev pub HasPut : List ℕ → List ℕ → Type 0
  HasPut name bytes = content new ≡ insert (content old) name bytes

  -- all names hold what they held, or that one has these bytes
  abbrev pub MayWrite : List ℕ → List ℕ → Type 0
  MayWrite name bytes = (content new ≡ content old) ⊎ (content new ≡ insert (content old) name bytes)

  -- where memory ran out all names hold what they held
  abbrev pub StaysWithoutMemory : {T : Type 0} → Result T Fault → Type 0
  StaysWithoutMemory r = IsErrOf r OutOfMemory → content new ≡ content old

  -- every name but this one holds what it held
  abbrev pub WritesOnly : List ℕ → Type 0
  WritesOnly name = (q : List ℕ) → q ≢ name → get (content new) q ≡ get (content old) q
