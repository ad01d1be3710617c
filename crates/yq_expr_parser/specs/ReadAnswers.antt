-- What an answer of the parser says of what reading gives.
use Rattle.std.{specs.Prelude.{◌≡◌, ℕ, ◌<◌, List, length, Option, Some, None, option_map, Result, Ok, Err, IfOk}, specs.Borrow.Bor}
use Rattle.yq_expr_parser.specs.Lexing.{tokens}
use Rattle.yq_semantics.{specs.Parsing.{ParseError, ill_formed, refusal}, specs.Tokens.Token}
use Rattle.yq_failure.specs.declared.failure.Failure.TheVariants as failure

-- A fault of syntax comes where reading gives nothing; lack of memory says nothing (own).
abbrev pub ParseFails : {Y : Type 0} → ParseError → Option Y → Type 0
ParseFails failure.Memory read = Unit {0}
ParseFails (failure.Fault f) read = (refusal f ≡ ill_formed) × (read ≡ None)

-- The answer, as it is seen, is what reading gives, unless memory ran out (own).
abbrev pub GivesForm : {X Y : Type 0} → (X → Y) → Result X ParseError → Option Y → Type 0
GivesForm view (Ok x) read = read ≡ Some (view x)
GivesForm view (Err e) read = ParseFails e read

-- An answer that fails only for lack of memory (own).
abbrev pub Succeeds : {X Y : Type 0} → (X → Y) → Result X ParseError → Y → Type 0
Succeeds view (Ok x) read = read ≡ view x
Succeeds view (Err e) read = e ≡ failure.Memory

-- a form and the text after it, as they are seen (own)
abbrev pub with_tokens : {X Y : Type 0} → (X → Y) → X × Bor (List ℕ) → Y × List Token
with_tokens view x = (view x.0, tokens x.1.now)

-- The answer is the form that reading gives and the text after it, unless memory ran out (own).
abbrev pub ReadsForm : {X Y : Type 0} → (X → Y) → Result (X × Bor (List ℕ)) ParseError → Option (Y × List Token) → Type 0
ReadsForm view r read = GivesForm (with_tokens view) r read

-- The same of a form that need not be there (own).
abbrev pub ReadsMaybe : {X Y : Type 0} → (X → Y) → Result (Option (X × Bor (List ℕ))) ParseError → Option (Option (Y × List Token)) → Type 0
ReadsMaybe view r read = GivesForm (option_map (with_tokens view)) r read

-- less text is after a form (own)
abbrev pub Shortens : {X : Type 0} → List ℕ → Result (X × Bor (List ℕ)) ParseError → Type 0
Shortens text r = IfOk r (λ x. length x.1.now < length text)

-- less text is after a form, if there is one (own)
abbrev pub IsShorter : {X : Type 0} → List ℕ → Option (X × Bor (List ℕ)) → Type 0
IsShorter text None = Unit {0}
IsShorter text (Some x) = length x.1.now < length text
