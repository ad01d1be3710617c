-- Texts that begin alike: a piece that may come before one of them may come before the other.
use Rattle.std.specs.Prelude.{◌≡◌, ℕ, Bool, true, false, ◌||◌, ◌==◌, List, [], ◌∷◌, ◌++◌, Option, Some, None}
use Rattle.yq_core.{specs.Plain.{is_flow_indicator, is_safe}, specs.QuotedReading.is_quote}
use Rattle.yq_core.{specs.Text.{is_feed, is_space, is_marker, separates}, specs.Gaps.IsInlineGap}

-- no condition on a piece reaches beyond this byte: an indicator of flow, a quote, `&` or `*` (own)
abbrev pub ends_lookahead : ℕ → Bool
ends_lookahead b = is_flow_indicator b || (is_quote b || (b == 38 || b == 42))

-- The same text up to such a byte, to a `:`, or to a byte that is no white space and no break, before white space, a break or the end. Where plain
-- scalars matter (Some says whether in flow), none of them goes on after the `:` (own).
pub data Alike : Option Bool → List ℕ → List ℕ → Type 0 where
  stop : {f : Option Bool} {b : ℕ} {t u : List ℕ} → ends_lookahead b ≡ true → Alike f (b ∷ t) (b ∷ u)
  colon : {flow : Bool} {t u : List ℕ} → is_safe flow t ≡ false → is_safe flow u ≡ false → Alike (Some flow) (58 ∷ t) (58 ∷ u)
  any_colon : {t u : List ℕ} → Alike None (58 ∷ t) (58 ∷ u)
  byte : {f : Option Bool} {b : ℕ} {t u : List ℕ} → is_space (b ∷ t) ≡ false → is_space (b ∷ u) ≡ false → separates t ≡ true → separates u ≡ true →
      Alike f (b ∷ t) (b ∷ u)
  after : {f : Option Bool} {b : ℕ} {t u : List ℕ} → Alike f t u → Alike f (b ∷ t) (b ∷ u)

-- What comes after an item: a gap, and a comma or the closing bracket (YAML 1.2.2, section 7.4).
pub record EndsItem (k : ℕ) (t : List ℕ) : Type 0 where
  pub gap : List ℕ
  pub close : ℕ
  pub rest : List ℕ
  pub spelled : t ≡ gap ++ (close ∷ rest)
  pub is_gap : IsInlineGap gap (close ∷ rest)
  pub ends : (close == 44 || close == k) ≡ true

-- whether a line begins after this text, by whether one begins before it (own)
abbrev pub fresh : Bool → List ℕ → Bool
fresh line [] = line
fresh line (b ∷ p) = fresh (is_feed b) p

-- A piece that goes on before t goes on before u too: no byte of it becomes part of a break, and none in column 0 the beginning of a marker (own).
abbrev pub KeepsApart : Bool → List ℕ → List ℕ → List ℕ → Type 0
KeepsApart line [] t u = Unit {0}
KeepsApart line (b ∷ p) t u =
    (is_space (b ∷ (p ++ t)) ≡ false → is_space (b ∷ (p ++ u)) ≡ false)
    × (line ≡ true → is_marker (b ∷ (p ++ t)) ≡ false → is_marker (b ∷ (p ++ u)) ≡ false)
    × KeepsApart (is_feed b) p t u
