use Rattle.std.proofs.Common.{◌≡◌, ◌++◌, ℕ, List, codes, decimal}
use Rattle.yq_journal.proofs.FrontLaws.{and_then}
use Rattle.yq_journal.proofs.read.scan.numbers.Goals as goal

-- a key and a number after others
key_and_number : (front key value t x₁ x₂ x₃ : List ℕ) → t ≡ front ++ x₁ → x₁ ≡ key ++ x₂ → x₂ ≡ value ++ x₃ → t ≡ ((front ++ key) ++ value) ++ x₃
key_and_number front key value t x₁ x₂ x₃ e₁ e₂ e₃ = and_then t (front ++ key) value x₂ x₃ (and_then t front key x₁ x₂ e₁ e₂) e₃

pub returns-clause-text : goal.returns-clause-text
returns-clause-text c =
    let t = c.args.text.now in
    let first = codes "{\"after_len\":" ++ decimal c.in_ok-after_len.after_len in
    let second = (first ++ codes ",\"before_len\":") ++ decimal c.in_ok-before_len.before_len in
    let third = (second ++ codes ",\"count\":") ++ decimal c.in_ok-count.count in
    and_then t third (codes ",\"expr\":") c.in_ok-count.rest.now c.in_ok-after-4.field-0.now
    (key_and_number second (codes ",\"count\":") (decimal c.in_ok-count.count) t c.in_ok-before_len.rest.now c.in_ok-after-3.field-0.now c.in_ok-count.rest.now
    (key_and_number first (codes ",\"before_len\":") (decimal c.in_ok-before_len.before_len) t c.in_ok-after_len.rest.now c.in_ok-after-2.field-0.now c.in_ok-before_len.rest.now
    (and_then t (codes "{\"after_len\":") (decimal c.in_ok-after_len.after_len) c.in_ok-after.field-0.now c.in_ok-after_len.rest.now c.in_ok-after.ensures c.in_ok-after_len.ensures.text)
    c.in_ok-after-2.ensures c.in_ok-before_len.ensures.text) c.in_ok-after-3.ensures c.in_ok-count.ensures.text) c.in_ok-after-4.ensures
