-- What a refusal says.
use Rattle.std.proofs.Common.{rules, ◌≡◌, Option, None}
use Rattle.yq_core.specs.Answers.{ReadFails, ReadError}

-- where reading gives nothing, reading further gives nothing
pub fails_by : {A B : Type 0} (e : ReadError) (x : Option A) (y : Option B) → ReadFails e x → (x ≡ None → y ≡ None) → ReadFails e y
fails_by e x y h f = search rules
