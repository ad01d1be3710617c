-- What segments change of their text.
use Rattle.std.proofs.Common.{◌≡◌, ℕ, ◌+◌, ◌-◌, ◌^◌, ◌<◌, true, false, List, ◌++◌, length, take, drop, nat_le, Some, sym, ap, ◌∙◌, subst}
use Rattle.std.{proofs.Common.{arith, append_assoc, length-append, rules}, proofs.Math.Seq.{drop-append_seam, take-append_seam}}
use Rattle.std.{proofs.lemmas.Bool.leb-true, proofs.lemmas.Str.{IsCharBoundary-from_drop, IsCharBoundary-from_take}}
use Rattle.std.{specs.Str.{IsCharBoundary, IsUtf8}, specs.String.string_bytes}
use Rattle.yq_text.{specs.Limit.text_limit, specs.Changing.IsChange, specs.Exchanging.{gives, within_limit}}
use Rattle.yq_text.specs.Script.{Segment, old_text, new_text, changes, changes_after, are_kept, kept_front, kept_back, from_first, to_last}
use Rattle.yq_text.specs.declared.changed.ChangedMiddle.{ChangedMiddle}
use Rattle.yq_text.proofs.BetweenLaws.{back_first, old_first, changes_first, changes_last, new_first, new_last}
use Rattle.yq_text.proofs.KeptSegments.{after, between}

-- a new text that may be so long
limit_kept : (ss : List Segment) (n : ℕ) → within_limit (length (new_text ss)) ≡ Some n → nat_le (length (new_text ss)) text_limit ≡ true
limit_kept ss n is = search rules

module _ (ss : List Segment) where
  abbrev inner : List Segment
  inner = to_last (from_first ss)

  pub inner_small : (n : ℕ) (held : List Segment) → within_limit (length (new_text ss)) ≡ Some n → held ≡ inner → (front : ℕ) → front ≡ length (kept_front ss) → front + length (new_text held) < 2 ^ 64
  inner_small n held limit is front at = search (rules, new_first, new_last, length-append, leb-true, limit_kept)

  -- the text with another one between what stays
  inner_text : are_kept ss ≡ false → new_text ss ≡ take (length (kept_front ss)) (old_text ss) ++ (new_text inner ++ drop (length (old_text ss) - length (kept_back ss)) (old_text ss))
  inner_text puts =
      let h = between ss puts in
      let old : old_text ss ≡ (kept_front ss ++ h.old) ++ kept_back ss = h.old_is ∙ sym (append_assoc (kept_front ss) h.old (kept_back ss)) in
      let front : take (length (kept_front ss)) (old_text ss) ≡ kept_front ss = ap (take (length (kept_front ss))) h.old_is ∙ take-append_seam (kept_front ss) (h.old ++ kept_back ss) in
      let at : length (old_text ss) - length (kept_back ss) ≡ length (kept_front ss ++ h.old) = omega (arith, ap length old, length-append (kept_front ss ++ h.old) (kept_back ss)) in
      search (rules, new_first, new_last, back_first, drop-append_seam, at, front, h, old)

  pub change_is : (c : ChangedMiddle) (n : ℕ) (held : List Segment) → within_limit (length (new_text ss)) ≡ Some n → held ≡ inner → c.front ≡ length (kept_front ss) → c.back ≡ length (kept_back ss) →
      IsUtf8 (kept_front ss) → IsUtf8 (kept_back ss) → gives (new_text held) (changes_after c.front held) ≡ gives (string_bytes c.new) c.splices.items → IsChange ss c
  unfolding changes
  change_is c n held limit is front back front_text back_text so_far = search (rules, changes_last, changes_first, limit_kept, inner_text)

-- a text may be cut where what stays at its ends does
pub cut_front : (ss : List Segment) → IsUtf8 (old_text ss) → IsUtf8 (kept_front ss) → IsCharBoundary (old_text ss) (length (kept_front ss))
cut_front ss text front =
    let is : take (length (kept_front ss)) (old_text ss) ≡ kept_front ss = ap (take (length (kept_front ss))) (old_first ss) ∙ take-append_seam (kept_front ss) (old_text (from_first ss)) in
    IsCharBoundary-from_take (old_text ss) (length (kept_front ss)) text (omega (arith, ap length (old_first ss), length-append (kept_front ss) (old_text (from_first ss)))) (subst IsUtf8 (sym is) front)

pub cut_back : (ss : List Segment) → IsUtf8 (kept_back ss) → IsCharBoundary (old_text ss) (length (old_text ss) - length (kept_back ss))
cut_back ss back =
    let h = after ss in
    let at : length (old_text ss) - length (kept_back ss) ≡ length h.old = omega (arith, ap length h.old_is, length-append h.old (kept_back ss)) in
    let is : drop (length (old_text ss) - length (kept_back ss)) (old_text ss) ≡ kept_back ss = ap (λ n. drop n (old_text ss)) at ∙ (ap (drop (length h.old)) h.old_is ∙ drop-append_seam h.old (kept_back ss)) in
    IsCharBoundary-from_drop (old_text ss) (length (old_text ss) - length (kept_back ss)) (omega arith) (subst IsUtf8 (sym is) back)
