-- A text cut in one of its halves.
use Rattle.std.{proofs.Common.{rules, ◌≡◌, ℕ, ◌-◌, ◌≤◌, List, ◌++◌, drop, length, length-append}, proofs.Math.Seq.drop-append-add}
use Rattle.std.{proofs.lemmas.List.get_or_append_left, specs.Str.IsCharBoundary}

-- where its first half is cut
pub first_cut : (a b : List ℕ) (n : ℕ) → n ≤ length a → IsCharBoundary (a ++ b) n → IsCharBoundary a n
first_cut a b n le h = search (rules, get_or_append_left, length-append)

pub drop_past : (a b : List ℕ) (n : ℕ) → length a ≤ n → drop (n - length a) b ≡ drop n (a ++ b)
drop_past a b n le = search (rules, drop-append-add)
