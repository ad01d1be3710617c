-- What calls find, if they find anything (own).
use Rattle.std.{specs.Prelude.{◌≡◌, IfOk, IfSome, List, Option, Result, Vec, option_map}, specs.declared.alloc.Global.Global}

-- an answer's items, if it has any, are these, or it is an error
abbrev pub GivesItems : {A E : Type 0} → Result (Option (Vec A Global)) E → Option (List A) → Type 0
GivesItems r items = IfOk r (λ o. option_map (λ v. v.items) o ≡ items)

-- this holds of what an answer has, if it is no error and has anything
abbrev pub IfFound : {A E : Type 0} → Result (Option A) E → (A → Type 0) → Type 0
IfFound r P = IfOk r (λ o. IfSome o P)
