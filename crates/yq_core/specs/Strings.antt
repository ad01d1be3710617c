-- Bytes that calls add to strings, or give as strings (own).
use Rattle.std.{specs.Prelude.{◌≡◌, ◌++◌, ℕ, List, Result, OnOk, IfOk, String, string_bytes}, specs.declared.alloc.Global.Global}

-- a success adds these bytes to a text (own)
abbrev pub AddsText : {T E : Type 0} → Result T E → (old new : String Global) → List ℕ → Type 0
AddsText r old new bytes = OnOk r (string_bytes new ≡ string_bytes old ++ bytes)

-- an answer is a text of these bytes, or an error (own)
abbrev pub GivesText : {E : Type 0} → Result (String Global) E → List ℕ → Type 0
GivesText r bytes = IfOk r (λ s. string_bytes s ≡ bytes)
