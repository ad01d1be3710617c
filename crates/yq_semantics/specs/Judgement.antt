-- What comes of a program.
use Rattle.std.specs.Prelude.{◌≡◌, Result, Ok, Err}
use Rattle.yq_failure.specs.declared.failure.Failure.{Failure}
use Rattle.yq_semantics.specs.declared.refusal.Refusal.{Refusal}
use Rattle.yq_failure.specs.declared.failure.Failure.TheVariants as errors

-- why an expression has no matches, or why no operations are planned for it (own)
abbrev pub ExprError : Type 0
ExprError = Failure Refusal

-- something, or a refusal (own)
pub data Judgement (A : Type 0) : Type 0 where
  gives : A → Judgement A
  refuses : Refusal → Judgement A

-- what comes of the second step, on what the first one gave (own)
abbrev pub and_then : {A B : Type 0} → (A → Judgement B) → Judgement A → Judgement B
and_then f (gives x) = f x
and_then f (refuses why) = refuses why

-- what an error says of what comes of something: the refusal; lack of memory says nothing (own)
abbrev pub MatchFails : {Y : Type 0} → ExprError → Judgement Y → Type 0
MatchFails (errors.Fault why) outcome = outcome ≡ refuses why
MatchFails errors.Memory outcome = Unit {0}

-- what matching or planning answers, as it is seen: what comes of something, or why nothing does (own)
abbrev pub Judges : {X Y : Type 0} → (X → Y) → Result X ExprError → Judgement Y → Type 0
Judges view (Ok x) outcome = outcome ≡ gives (view x)
Judges view (Err e) outcome = MatchFails e outcome
