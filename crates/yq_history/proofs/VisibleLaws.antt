-- A text of which JSON escapes no byte, and which has none from DEL on, is printed as it is.
use Rattle.std.proofs.Common.{rules, ◌≡◌, ◌==◌, ◌||◌, ◌<◌, ℕ, zero, suc, List, [], ◌∷◌, ◌++◌, Bool, false, nat_lt, flat_map, refl, ap, ap₂}
use Rattle.std.{proofs.Common.{◌∙◌, arith}, specs.Prelude.⊤, specs.Bool.OnTrue, specs.Str.IsAscii}
use Rattle.std.{proofs.lemmas.Str.{chars-IsAscii, encode_ascii}, proofs.lemmas.Bool.{agree_below_at, leb-false, or_parts}}
use Rattle.json.specs.Print.{quoted}
use Rattle.yq_journal.{specs.Bare.{IsBare, is_special}, proofs.LaneLaws.bare_escapes}
use Rattle.yq_history.specs.Visible.{in_quotes, visible, visible_char}

low_byte : (b : ℕ) → is_special 127 b ≡ false → b < 127
low_byte b e = leb-false 127 b (or_parts (nat_lt b 32 || b == 34 || b == 92) _ e).1

abbrev AreLow : List ℕ → Type 0
AreLow [] = ⊤
AreLow (b ∷ bs) = (b < 127) × AreLow bs

low_text : (t : List ℕ) → IsBare 127 t → AreLow (t ++ 34 ∷ [])
low_text [] h = (omega arith, tt)
low_text (b ∷ bs) h = (low_byte b (h 0 (omega arith) (omega arith)), low_text bs (λ k p q. h (suc k) (omega arith) (omega arith)))

low_ascii : (bs : List ℕ) → AreLow bs → IsAscii bs
low_ascii [] h i = omega arith
low_ascii (b ∷ bs) h zero = omega (arith, h.0)
low_ascii (b ∷ bs) h (suc i) = low_ascii bs h.1 i

low_char : (b : ℕ) → b < 127 → visible_char b ≡ b ∷ []
low_char b h = search (rules, agree_below_at, encode_ascii)

low_visible : (bs : List ℕ) → AreLow bs → flat_map visible_char bs ≡ bs
low_visible [] h = refl
low_visible (b ∷ bs) h = ap₂ (λ (x y : List ℕ). x ++ y) (low_char b h.0) (low_visible bs h.1)

bare_is : (t : List ℕ) → IsBare 127 t → visible (quoted t) ≡ in_quotes t
bare_is t h =
    let low : AreLow (in_quotes t) = (omega arith, low_text t h) in
    ap (λ e. visible (in_quotes e)) (bare_escapes 127 t h) ∙ ap (flat_map visible_char) (chars-IsAscii (in_quotes t) (low_ascii (in_quotes t) low)) ∙ low_visible (in_quotes t) low

pub bare_on : (b : Bool) (t : List ℕ) → OnTrue b (IsBare 127 t) → OnTrue b (visible (quoted t) ≡ in_quotes t)
bare_on b t h = search (rules, bare_is)
