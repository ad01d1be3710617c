-- What a record does to a text is undone, and what was undone is done again.
use Rattle.std.proofs.Common.{◌≡◌, ◌==◌, ℕ, ◌-◌, ◌≤◌, ◌<◌, List, [], ◌∷◌, ◌++◌, length, take, Some, None, ap, ◌∙◌, arith, if◌then◌else◌}
use Rattle.std.{proofs.Common.{eq-eqb, get_or, rules}, proofs.lemmas.Bool.eqb-true, proofs.lemmas.Grind.common_steps}
use Rattle.yq_text.{specs.Splice.{Splice, swapped, all_done, flipped}, proofs.SpliceLaws.{taken_back, done_again, flipped-append}}
use Rattle.yq_journal.specs.Record.{Record, if_length, done, undone}

-- what a record that applies says of the two texts
pub record IsLocatedAt (before_len after_len : ℕ) (changes : List Splice) (b c : List ℕ) : Type 0 where
  pub starts : length b ≡ before_len
  pub leads : all_done changes b ≡ Some c
  pub ends : length c ≡ after_len

pub matching_of : (n m : ℕ) (ss : List Splice) (b c : List ℕ) → (if length b == n then if_length m (all_done ss b) else None) ≡ Some c → IsLocatedAt n m ss b c
matching_of n m ss b c h = search (rules, eqb-true)

-- what was done is undone, on every text on which it was done
pub undone_after_done : (r : Record) (b c : List ℕ) → done r b ≡ Some c → undone r c ≡ Some b
undone_after_done r b c e = search (rules, matching_of, eq-eqb, taken_back)

-- and the other way round
pub done_after_undone : (r : Record) (b c : List ℕ) → undone r c ≡ Some b → done r b ≡ Some c
done_after_undone r b c e = search (rules, matching_of, eq-eqb, done_again)

take_last : (ss : List Splice) (n : ℕ) (s : Splice) → 0 < n → n ≤ length ss → s ≡ get_or ss (n - 1) s → take n ss ≡ take (n - 1) ss ++ s ∷ []
take_last ss n s pos fits is = grind (arith, common_steps)

-- the splices taken back, from the last on
pub flipped_step : (ss : List Splice) (n : ℕ) (s : Splice) → 0 < n → n ≤ length ss → s ≡ get_or ss (n - 1) s
    → flipped (take n ss) ≡ swapped s ∷ flipped (take (n - 1) ss)
flipped_step ss n s pos fits is = ap flipped (take_last ss n s pos fits is) ∙ flipped-append (take (n - 1) ss) (s ∷ [])
