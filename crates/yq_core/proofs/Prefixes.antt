-- Bytes in front that pass a test, counted by a loop.
use Rattle.std.proofs.Common.{◌≡◌, ℕ, ◌+◌, ◌<◌, ◌≤◌, Bool, true, false, List, length, drop, get_or, arith}
use Rattle.std.{proofs.lemmas.List.Sums.{prefix_len-drop_yes, prefix_len-drop_no, prefix_len-drop_all}, specs.List.prefix_len}

pub prefix_more : (p : ℕ → Bool) (t : List ℕ) (n all : ℕ) → n < length t → p (get_or t n 0) ≡ true → n + prefix_len p (drop n t) ≡ all → n + 1 + prefix_len p (drop (n + 1) t) ≡ all
prefix_more p t n all lt here e = omega (arith, prefix_len-drop_yes p t n 0 lt here, e)

pub prefix_stop : (p : ℕ → Bool) (t : List ℕ) (n all : ℕ) → n < length t → p (get_or t n 0) ≡ false → n + prefix_len p (drop n t) ≡ all → n ≡ all
prefix_stop p t n all lt here e = omega (arith, prefix_len-drop_no p t n 0 lt here, e)

pub prefix_end : (p : ℕ → Bool) (t : List ℕ) (n all : ℕ) → length t ≤ n → n + prefix_len p (drop n t) ≡ all → n ≡ all
prefix_end p t n all le e = omega (arith, prefix_len-drop_all p t n le, e)
