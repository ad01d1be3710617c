-- A text and what follows its front.
use Rattle.std.proofs.Common.{◌≡◌, ℕ, ◌-◌, ◌≤◌, List, ◌++◌, length, take, drop, sym, ap, ◌∙◌, arith, append_assoc, length-append}
use Rattle.std.{proofs.Math.Seq.{take-append_seam, drop-append_seam}, proofs.lemmas.List.take-append-drop}
use Rattle.std.{proofs.lemmas.Str.IsCharBoundary-at_seam, specs.Str.{IsUtf8, IsCharBoundary}}

pub front_length : (t a b : List ℕ) → t ≡ a ++ b → length t - length b ≡ length a
front_length t a b h = rw h (omega (arith, length-append a b))

pub front_take : (t a b : List ℕ) → t ≡ a ++ b → take (length t - length b) t ≡ a
front_take t a b h = ap (λ n. take n t) (front_length t a b h) ∙ (ap (take (length a)) h ∙ take-append_seam a b)

pub front_drop : (t a b : List ℕ) → t ≡ a ++ b → drop (length t - length b) t ≡ b
front_drop t a b h = ap (λ n. drop n t) (front_length t a b h) ∙ (ap (drop (length a)) h ∙ drop-append_seam a b)

pub front_le : (t a b : List ℕ) → t ≡ a ++ b → length b ≤ length t
front_le t a b h = rw h (omega (arith, length-append a b))

pub front_boundary : (t a b : List ℕ) → t ≡ a ++ b → IsUtf8 b → IsCharBoundary t (length t - length b)
front_boundary t a b h u = rw (front_length t a b h) (IsCharBoundary-at_seam t a b h u)

-- a text by what follows its front
pub front_join : (t b : List ℕ) → drop (length t - length b) t ≡ b → t ≡ take (length t - length b) t ++ b
front_join t b h = sym (take-append-drop (length t - length b) t) ∙ ap (λ r. take (length t - length b) t ++ r) h

-- one piece further
pub front_next : (t b p c : List ℕ) → drop (length t - length b) t ≡ b → b ≡ p ++ c → t ≡ (take (length t - length b) t ++ p) ++ c
front_next t b p c h e = front_join t b h ∙ (ap (λ r. take (length t - length b) t ++ r) e ∙ sym (append_assoc (take (length t - length b) t) p c))
