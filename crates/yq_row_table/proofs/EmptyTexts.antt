-- Empty texts.
use Rattle.std.{proofs.Common.{rules, ◌≡◌, ◌⊎◌, ℕ, true, false, List, [], sym, ap, ◌∙◌}, proofs.lemmas.Bool.false≢true}
use Rattle.yq_core.specs.Text.{is_empty}

pub empty_is : (t : List ℕ) → is_empty t ≡ true → t ≡ []
empty_is t h = search (rules, false≢true)

pub none_is : (t : List ℕ) → is_empty t ≡ false → t ≡ [] → ⊥
none_is t some e = absurd (false≢true (sym some ∙ ap is_empty e))

pub empty_or : (t : List ℕ) → (is_empty t ≡ false) ⊎ (t ≡ [])
empty_or t = search rules
