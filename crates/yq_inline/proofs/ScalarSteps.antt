-- Steps of reading scalars, as the code takes them.
use Rattle.std.proofs.Common.{◌≡◌, ℕ, Bool, true, false, List, Option, Some, None, Result, refl, subst}
use Rattle.yq_core.{specs.Answers.ReadsAs, specs.Plain.{begins_plain, ends_plain, plain_at}, specs.Reading.{in_quotes_at, read_scalar}}
use Rattle.yq_core.{specs.Scalars.is_quoted, specs.Text.cut}

-- an answer that is what one reading gives is what the same reading gives
pub reads_same : {X Y E : Type 0} (view : X → Y) (r : Result X E) (o p : Option Y) → o ≡ p → ReadsAs view r o → ReadsAs view r p
reads_same view r o p = subst (ReadsAs view r)

-- a scalar in quotes, a plain one, or none
pub quoted_scalar : (flow : Bool) (spaces : Option ℕ) (t : List ℕ) → is_quoted t ≡ true → in_quotes_at spaces t ≡ read_scalar flow spaces t
unfolding read_scalar
quoted_scalar flow spaces t quote = rw quote refl

pub plain_scalar : (flow : Bool) (spaces : Option ℕ) (t : List ℕ) → is_quoted t ≡ false → begins_plain flow t ≡ true → read_scalar flow spaces t ≡ Some (cut (ends_plain flow spaces) t)
unfolding read_scalar plain_at
plain_scalar flow spaces t quote plain = rw (quote, plain) refl

pub no_scalar : (flow : Bool) (spaces : Option ℕ) (t : List ℕ) → is_quoted t ≡ false → begins_plain flow t ≡ false → read_scalar flow spaces t ≡ None
unfolding read_scalar plain_at
no_scalar flow spaces t quote plain = rw (quote, plain) refl
