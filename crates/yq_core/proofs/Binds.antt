-- Steps of reading one after the other.
use Rattle.std.proofs.Common.{rules, ◌≡◌, Bool, false, cond, Option, Some, None}
use Rattle.yq_core.specs.Answers.{◌>>=◌}

pub not_then : {A : Type 0} {x : Option A} {y : A} (b : Bool) → cond b None x ≡ Some y → (b ≡ false) × (x ≡ Some y)
not_then b h = search rules

pub bind_same : {A B : Type 0} (f g : A → Option B) (r : Option A) → ((x : A) → r ≡ Some x → f x ≡ g x) → (r >>= f) ≡ (r >>= g)
bind_same f g r h = search rules

pub bind_bind : {A B C : Type 0} (r : Option A) (f : A → Option B) (g : B → Option C) → ((r >>= f) >>= g) ≡ (r >>= λ x. f x >>= g)
bind_bind r f g = search rules
