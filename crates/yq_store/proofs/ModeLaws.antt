-- Bits of modes.
use Rattle.std.{proofs.Common.{◌≡◌, ◌∙◌, ◌*◌, ◌%◌, ◌^◌, ◌<◌, ℕ, bit_and, ap, sym, arith}, specs.Int.Bits.and_self}
use Rattle.std.proofs.lemmas.Nat.{and_assoc, and_comm, and_le_r, shl_whole}

-- what is left of m has no bit that m hasn't
pub and_within : (m a : ℕ) → bit_and (bit_and m a) m ≡ bit_and m a
and_within m a = and_comm (bit_and m a) m ∙ sym (and_assoc a m m) ∙ ap (λ x. bit_and x a) (and_self m)

-- the same after a second cut
pub and_within_both : (m a b : ℕ) → bit_and (bit_and (bit_and m a) b) m ≡ bit_and (bit_and m a) b
and_within_both m a b = ap (λ x. bit_and x m) (and_assoc b m a) ∙ and_within m (bit_and a b) ∙ sym (and_assoc b m a)

-- what has no bit that x hasn't has none that f hasn't, where x has none
pub within_within : (r x f : ℕ) → bit_and r x ≡ r → bit_and x f ≡ x → bit_and r f ≡ r
within_within r x f p q = ap (λ y. bit_and y f) (sym p) ∙ (and_assoc f r x ∙ (ap (λ y. bit_and r y) q ∙ p))

-- the bits of everyone, where those of the group are
pub of_everyone : (m : ℕ) → (bit_and m 7 * 2 ^ 3) % 2 ^ 32 ≡ bit_and m 7 * 2 ^ 3
of_everyone m =
    let low : bit_and m 7 < 2 ^ 3 = omega (arith, and_le_r m 7) in
    shl_whole (bit_and m 7) 3 3 32 low (omega arith)
