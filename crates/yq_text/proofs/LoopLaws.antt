-- The segments so far and one more.
use Rattle.std.proofs.Common.{◌≡◌, ℕ, ◌+◌, List, [], ◌∷◌, ◌++◌, ◌-◌, ◌≤◌, length, length-take-le, take, get_or, sym, ap, ◌∙◌, arith, rules}
use Rattle.std.{proofs.Common.{subst, String, Global}, proofs.lemmas.List.{map-append, take_all, take_more}}
use Rattle.std.{proofs.lemmas.Str.IsUtf8-append, specs.Str.IsUtf8, specs.String.string_bytes}
use Rattle.yq_text.{specs.Halves.whole, specs.declared.halves.Halves.Halves, specs.Script.{Segment, keep, kept_front, kept_back, to_last}}
use Rattle.yq_text.{specs.Segments.{segment_of, segments_of}, specs.declared.segment.Segment.Segment as Held}
use Rattle.yq_text.{proofs.BetweenLaws.{back_gives, to_last_put, last_stays}, proofs.KeptSegments.back_last}
use Rattle.yq_text.specs.declared.segment.Segment.TheVariants as held

-- those in front of the last one are fewer
pub but_last_long : {A : Type 0} (xs : List A) → 1 ≤ length xs → length xs - 1 ≡ length (take (length xs - 1) xs)
but_last_long xs some = sym (length-take-le (length xs - 1) xs (omega (arith, some)))

-- segments with the last one after the others
module _ (xs : List Held) (x d : Held) (some : 1 ≤ length xs) (is : x ≡ get_or xs (length xs - 1) d) where
  abbrev but_last : List Held
  but_last = take (length xs - 1) xs

  with_last : segments_of xs ≡ segments_of but_last ++ (segment_of x ∷ [])
  with_last =
      ap segments_of (sym (take_all (length xs - 1 + 1) xs (omega (arith, some))) ∙ (take_more xs (length xs - 1) d (omega (arith, some)) ∙ ap (λ y. but_last ++ (y ∷ [])) (sym is)))
      ∙ map-append segment_of but_last (x ∷ [])

  pub last_kept_goes : (t : Halves) → x ≡ held.Keep t → to_last (segments_of but_last) ≡ to_last (segments_of xs)
  last_kept_goes t keeps = sym (ap to_last (with_last ∙ ap (λ y. segments_of but_last ++ (segment_of y ∷ [])) keeps) ∙ last_stays (segments_of but_last) (whole t))

  pub last_put_is : (o : Halves) (w : String Global) → x ≡ held.Put o w → segments_of xs ≡ to_last (segments_of xs)
  last_put_is o w puts = search (rules, with_last, to_last_put)

  pub back_kept : (t : Halves) → x ≡ held.Keep t → kept_back (segments_of xs) ≡ kept_back (segments_of but_last) ++ whole t
  back_kept t keeps = ap kept_back (with_last ∙ ap (λ y. segments_of but_last ++ (segment_of y ∷ [])) keeps) ∙ back_last (segments_of but_last) (whole t)

  pub back_put : (o : Halves) (w : String Global) → x ≡ held.Put o w → kept_back (segments_of xs) ≡ []
  back_put o w puts = ap kept_back (with_last ∙ ap (λ y. segments_of but_last ++ (segment_of y ∷ [])) puts) ∙ back_gives (segments_of but_last) (whole o) (string_bytes w)

-- a text after another one
pub texts_joined : (t u : List ℕ) → IsUtf8 t → IsUtf8 u → IsUtf8 (t ++ u)
texts_joined = IsUtf8-append

-- what is kept in front with one more
pub front_more : (ss us : List Segment) (t : List ℕ) → IsUtf8 t → IsUtf8 (kept_front us) → ss ≡ keep t ∷ us → IsUtf8 (kept_front ss)
front_more ss us t text more is = subst (λ x. IsUtf8 (kept_front x)) (sym is) (IsUtf8-append t (kept_front us) text more)
