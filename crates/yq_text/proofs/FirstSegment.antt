-- The first segment and those after it, as a loop over them takes it apart.
use Rattle.std.proofs.Common.{rules, ◌≡◌, ℕ, ◌+◌, ◌-◌, ◌<◌, ◌≤◌, List, [], ◌∷◌, ◌++◌, length, take, drop, get_or, false, nat_eq, refl, sym}
use Rattle.std.{proofs.Common.{ap, ◌∙◌, arith, append-nil, length-drop, length-take-le, String, Global}, proofs.lemmas.List.take_rest}
use Rattle.std.specs.String.{string_bytes}
use Rattle.yq_text.{specs.Halves.whole, specs.declared.halves.Halves.Halves, specs.Exchanging.gives}
use Rattle.yq_text.specs.Script.{Segment, keep, put, new_text, put_before, merged, splice_at, splices_at}
use Rattle.yq_text.{specs.Segments.{segment_of, segments_of}, specs.Splice.Splice, specs.declared.segment.Segment.Segment as Held}
use Rattle.yq_text.{proofs.BetweenLaws.loop_kept, proofs.TouchLaws.put_twice}
use Rattle.yq_text.specs.declared.segment.Segment.TheVariants as held

-- those after the first one
abbrev pub later : List Held → List Held
later xs = take (length xs - 1) (drop 1 xs)

-- no bytes
pub none_long : (t : List ℕ) → length t ≡ 0 → t ≡ []
none_long [] none = refl
none_long (b ∷ t) none = absurd (omega (arith, none))

-- no segments are left
pub none_left : (xs : List Held) → length xs < 1 → segments_of xs ≡ []
none_left [] few = refl
none_left (x ∷ xs) few = absurd (omega (arith, few))

module _ (xs : List Held) (x : Held) (some : 1 ≤ length xs) (is : x ≡ get_or xs 0 x) where
  first_apart : segments_of xs ≡ segment_of x ∷ segments_of (later xs)
  first_apart = go xs some is
    where
      go : (ys : List Held) → 1 ≤ length ys → x ≡ get_or ys 0 x → segments_of ys ≡ segment_of x ∷ segments_of (later ys)
      go [] some at = absurd (omega (arith, some))
      go (y ∷ ys) some at = (λ i. segment_of (sym at i) ∷ segments_of (sym (take_rest (y ∷ ys) 1) i))

  pub keeps_first : (t : Halves) → x ≡ held.Keep t → segments_of xs ≡ keep (whole t) ∷ segments_of (later xs)
  keeps_first t keeps = first_apart ∙ ap (λ y. segment_of y ∷ segments_of (later xs)) keeps

  pub puts_first : (o : Halves) (w : String Global) → x ≡ held.Put o w → segments_of xs ≡ put (whole o) (string_bytes w) ∷ segments_of (later xs)
  puts_first o w puts = first_apart ∙ ap (λ y. segment_of y ∷ segments_of (later xs)) puts

-- what is kept, where the segment is looked at twice
pub kept_once : (x : Held) (t u : Halves) → x ≡ held.Keep t → x ≡ held.Keep u → whole t ≡ whole u
kept_once x t u first second = let same : t ≡ u = cc in ap whole same

-- they are fewer
pub later_fewer : (xs : List Held) → 1 ≤ length xs → length (later xs) < length xs
later_fewer xs some = omega (arith, some, length-take-le (length xs - 1) (drop 1 xs) (omega (arith, length-drop 1 xs)), length-drop 1 xs)

-- the splices so far, where what is kept ends the exchange in front of it
pub kept_found : (done more all : List Splice) (n m : ℕ) (o w o2 w2 t : List ℕ) (ss us : List Segment) → nat_eq (length t) 0 ≡ false → ss ≡ keep t ∷ us →
    done ++ splices_at n (put_before o w (merged ss)) ≡ all → more ≡ done ++ splice_at n o w → m ≡ n + length w + length t → o2 ≡ [] → w2 ≡ [] →
    more ++ splices_at m (put_before o2 w2 (merged us)) ≡ all
kept_found done more all n m o w o2 w2 t ss us some is so_far adds at gone come =
    (λ i. more ++ splices_at m (put_before (gone i) (come i) (merged us)))
    ∙ loop_kept done more all n m o w t us some (ap (λ s. done ++ splices_at n (put_before o w (merged s))) (sym is) ∙ so_far) adds at

-- and where one more is replaced, which that exchange goes on with
pub put_found : (done more all : List Splice) (n m : ℕ) (o w p u o2 w2 : List ℕ) (ss us : List Segment) → ss ≡ put p u ∷ us →
    done ++ splices_at n (put_before o w (merged ss)) ≡ all →
    more ≡ done → m ≡ n → o2 ≡ o ++ p → w2 ≡ w ++ u → more ++ splices_at m (put_before o2 w2 (merged us)) ≡ all
put_found done more all n m o w p u o2 w2 ss us is so_far same at gone come = search (rules, put_twice)

-- the text and the splices at the end
pub build_gives : (text all : List ℕ) (done pushed total : List Splice) (n : ℕ) (o w : List ℕ) (xs : List Held) → length xs < 1 →
    text ++ new_text (segments_of xs) ≡ all →
    done ++ splices_at n (put_before o w (merged (segments_of xs))) ≡ total → pushed ≡ done ++ splice_at n o w → gives all total ≡ gives text pushed
build_gives text all done pushed total n o w [] none so_far found adds = search (rules, append-nil)
build_gives text all done pushed total n o w (x ∷ xs) none so_far found adds = absurd (omega (arith, none))
