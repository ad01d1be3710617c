-- Splices done one after the other, each within the length that was reached.
use Rattle.std.proofs.Common.{rules, ◌≡◌, ◌≢◌, ℕ, ◌+◌, ◌-◌, ◌<◌, ◌≤◌, List, [], ◌∷◌, ◌++◌, length, take, drop, Bool, true, false, Option}
use Rattle.std.{proofs.Common.{Some, None, sym, ap, ap₂, ◌∙◌, get_or}, specs.Prelude.{◌^◌, if◌then◌else◌, option_and_then}}
use Rattle.std.{proofs.lemmas.List.take-append-drop, proofs.Math.Seq.drop-cons}
use Rattle.yq_text.specs.Splice.{Splice, change_done, all_done, flipped, length_done, lengths_done}
use Rattle.yq_text.proofs.SpliceLaws.{all_done-append, flipped-append, lengths_done-append}
use Rattle.yq_journal.{specs.Turned.flipped_if, proofs.MatchingLaws.{lengths_up_to, parts_of_length}}

-- ---- lengths

some_there : (o : Option ℕ) → o ≢ None → (m : ℕ) × (o ≡ Some m)
some_there o h = search rules

-- a splice lies within a length, and what it leaves is held by 64 bits
pub record Lies (s : Splice) (n : ℕ) : Type 0 where
  pub fits : s.at + length s.old ≤ n
  pub small : n - length s.old + length s.new < 2 ^ 64

pub lies : (s : Splice) (n : ℕ) → length_done s n ≢ None → Lies s n
lies s n h = search (rules, some_there, parts_of_length)

-- the first splice lies within the length
pub first_lies : (s : Splice) (ss : List Splice) (n : ℕ) → lengths_done (s ∷ ss) n ≢ None → length_done s n ≢ None
first_lies s ss n h = λ none. h (ap (option_and_then (lengths_done ss)) none)

-- and the others lie within the one that it leaves
pub others_lie : (s : Splice) (ss : List Splice) (b c : List ℕ) → lengths_done (s ∷ ss) (length b) ≢ None → Some c ≡ change_done s b
    → lengths_done ss (length c) ≢ None
others_lie s ss b c h e = (lengths_up_to (s ∷ []) ss b c h (ap (option_and_then (λ (d : List ℕ). Some d)) (sym e))).1

-- the first of splices in two lists lie within the length
pub first_lie : (all xs ys : List Splice) (n : ℕ) → all ≡ xs ++ ys → lengths_done all n ≢ None → lengths_done xs n ≢ None
first_lie all xs ys n e h = λ none. h (ap (λ l. lengths_done l n) e ∙ lengths_done-append xs ys n ∙ ap (option_and_then (lengths_done ys)) none)

-- and the others within the one that they leave
pub rest_lie : (all xs ys : List Splice) (b c : List ℕ) → all ≡ xs ++ ys → lengths_done all (length b) ≢ None → Some c ≡ all_done xs b
    → lengths_done ys (length c) ≢ None
rest_lie all xs ys b c e h is = (lengths_up_to xs ys b c (λ none. h (ap (λ l. lengths_done l (length b)) e ∙ none)) (sym is)).1

-- ---- texts

-- what a test says of a text that was made
pub is_done : (d : Bool) (c : List ℕ) (o : Option (List ℕ)) → d ≡ true → (if d then Some c else None) ≡ o → Some c ≡ o
is_done d c o h e = search rules

pub not_done : (d : Bool) (c : List ℕ) (o : Option (List ℕ)) → d ≡ false → (if d then Some c else None) ≡ o → None ≡ o
not_done d c o h e = search rules

-- where the first are done, the others lead on to the same text as all
pub goes_on : (all xs ys : List Splice) (b c : List ℕ) → all ≡ xs ++ ys → Some c ≡ all_done xs b → all_done ys c ≡ all_done all b
goes_on all xs ys b c e is = ap (option_and_then (all_done ys)) is ∙ sym (all_done-append xs ys b) ∙ ap (λ l. all_done l b) (sym e)

-- where the first are not done, not all are
pub stops : (all xs ys : List Splice) (b : List ℕ) → all ≡ xs ++ ys → None ≡ all_done xs b → None ≡ all_done all b
stops all xs ys b e none = ap (option_and_then (all_done ys)) none ∙ sym (all_done-append xs ys b) ∙ ap (λ l. all_done l b) (sym e)

-- ---- parts of splices

pub drop_next : (ss : List Splice) (j : ℕ) (s : Splice) → j < length ss → s ≡ get_or ss j s → drop j ss ≡ s ∷ drop (j + 1) ss
drop_next ss j s h is = search (rules, drop-cons)

-- the splices that are taken back first are the last ones
pub back_parts : (back : Bool) (n : ℕ) (ss first rest : List Splice) → back ≡ true → rest ≡ take n ss → first ≡ drop n ss
    → flipped_if back ss ≡ flipped_if back first ++ flipped_if back rest
back_parts false n ss first rest h r f = cc
back_parts true n ss first rest h r f =
    ap flipped (sym (take-append-drop n ss)) ∙ flipped-append (take n ss) (drop n ss)
    ∙ ap₂ (λ x y. flipped x ++ flipped y) (sym f) (sym r)
