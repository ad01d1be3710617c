-- Ends of lines, read and spelled.
use Rattle.std.proofs.Common.{◌≡◌, ℕ, suc, ◌+◌, true, false, ◌&&◌, ◌||◌, List, [], ◌∷◌, ◌++◌, length, take, drop, refl, sym, ap, ◌∙◌, subst}
use Rattle.std.proofs.Common.{inl, inr, ⊎_elim, arith, eqb-true, append_assoc, append-nil, rules}
use Rattle.std.proofs.lemmas.Bool.{false≢true, cond_both, or_cases, not-false, and_parts, cases_Bool, or_parts}
use Rattle.std.{proofs.Math.Bool.and-false, proofs.Math.Seq.{take-append_seam, drop-append_seam, take-append-add, drop-append-add}}
use Rattle.yq_core.specs.Text.{upto, cut, NoneIn, no_white, is_white, is_feed, is_return, front, ends_line, is_empty, is_line, line_len}
use Rattle.yq_core.{specs.Text.cut_line, proofs.Bools.at_byte, proofs.LineLaws.line_cut, proofs.Upto.cut-append, specs.Lines.is_hash}
use Rattle.yq_row_table.specs.Gap.{IsWhite, IsBreak, IsComment, IsLineEnd}

-- white space
pub none_in_white : (w rest : List ℕ) → IsWhite w → NoneIn no_white w rest
none_in_white [] rest h = tt
none_in_white (b ∷ w) rest h = (rw h.0 refl, none_in_white w rest h.1)

pub white_cut : (t : List ℕ) → IsWhite (cut no_white t).0
unfolding upto
white_cut [] = tt
white_cut (b ∷ bs) = search (rules, cond_both, not-false, white_cut bs)

pub white_again : (w rest : List ℕ) → IsWhite w → no_white rest ≡ true → cut no_white (w ++ rest) ≡ (w, rest)
white_again w rest h here = cut-append no_white w rest (none_in_white w rest h) here

-- a line of a text: bytes before a break, and the break
pub record IsLine (l rest : List ℕ) : Type 0 where
  pub text : List ℕ
  pub break : List ℕ
  pub spelled : l ≡ text ++ break
  pub inside : NoneIn ends_line text break
  pub ends : IsBreak break rest

pub feed_is : (b : ℕ) → is_feed b ≡ true → b ≡ 10
feed_is b h = eqb-true b 10 h

-- the break in front of a line has a CR before it, or there is one more byte before the line
return_before : (b : ℕ) (break rest : List ℕ) → is_feed b ≡ false → (is_return b && front is_feed break) ≡ true → IsBreak break rest → IsBreak (b ∷ break) rest
unfolding is_line
return_before b break rest n r h = search (rules, and_parts, false≢true, and-false)

line_more : (b : ℕ) (text break l rest : List ℕ) → is_feed b ≡ false → l ≡ text ++ break → NoneIn ends_line text break → IsBreak break rest → IsLine (b ∷ l) rest
line_more b [] break l rest n s inside ends = ⊎_elim {0, 0, 0}
    (λ r. record { text = []; break = b ∷ break; spelled = ap (λ x. b ∷ x) s; inside = tt; ends = return_before b break rest n r ends })
    (λ r. record { text = b ∷ []; break = break; spelled = ap (λ x. b ∷ x) s; inside = (rw n r, tt); ends = ends })
    (cases_Bool (is_return b && front is_feed break))
line_more b (x ∷ text) break l rest n s inside ends =
    let f = or_parts (is_feed x) (is_return x && front is_feed (text ++ break)) inside.0 in
    record { text = b ∷ (x ∷ text); break = break; spelled = ap (λ y. b ∷ y) s; inside = (rw (n, f.0) (and-false (is_return b)), inside); ends = ends }

pub line_takes : (t : List ℕ) → IsLine (cut_line t).0 (cut_line t).1
unfolding line_len is_line
line_takes [] = record { text = []; break = []; spelled = refl; inside = tt; ends = inr (refl, refl) }
line_takes (b ∷ bs) = let again = line_takes bs in
    cond_both (is_feed b) 1 (suc (line_len bs)) (λ n. IsLine (take n (b ∷ bs)) (drop n (b ∷ bs)))
    (λ h. record { text = []; break = b ∷ []; spelled = refl; inside = tt; ends = inl (rw h refl) })
    (λ h. line_more b again.text again.break (cut_line bs).0 (cut_line bs).1 h again.spelled again.inside again.ends)

-- how long a line is, by its parts
pub text_line : (text break : List ℕ) → NoneIn ends_line text break → is_line (text ++ break) ≡ is_line break
unfolding is_line
text_line [] break h = refl
text_line (b ∷ text) break h = search (rules, or_parts, text_line text break h.1)

text_len : (text : List ℕ) → NoneIn ends_line text [] → line_len text ≡ length text
unfolding line_len
text_len [] h = refl
text_len (b ∷ text) h = search (rules, or_parts, text_len text h.1)

pub line_again : (l rest : List ℕ) → IsLine l rest → cut_line (l ++ rest) ≡ (l, rest)
line_again l rest h = search (rules, ⊎_elim, line_cut, text_line, and_parts, append-nil, text_len, take-append_seam, drop-append_seam)

-- bytes that are no LF, before a text
abbrev NoFeed : List ℕ → Type 0
NoFeed [] = Unit {0}
NoFeed (b ∷ bs) = (is_feed b ≡ false) × NoFeed bs

white_no_feed : (w : List ℕ) → IsWhite w → NoFeed w
white_no_feed [] h = tt
white_no_feed (b ∷ w) h = (at_byte is_white b 10 h.0 refl, white_no_feed w h.1)

line_len-append : (w t : List ℕ) → NoFeed w → line_len (w ++ t) ≡ length w + line_len t
unfolding line_len
line_len-append [] t h = omega arith
line_len-append (b ∷ w) t h = rw h.0 (let again = line_len-append w t h.1 in omega arith)

pub white_none : (w c break : List ℕ) → IsWhite w → NoneIn ends_line c break → NoneIn ends_line (w ++ c) break
white_none [] c break h n = n
white_none (b ∷ w) c break h n = (rw (at_byte is_white b 10 h.0 refl, at_byte is_white b 13 h.0 refl) refl, white_none w c break h.1 n)

-- the end of a line, after white space
abbrev pub EndsLine : List ℕ → List ℕ → List ℕ × List ℕ → Type 0
EndsLine w u x = (c : List ℕ) × IsLineEnd w c x.0 x.1 × (is_empty c ≡ ends_line u)

line_at_break : (u : List ℕ) → ends_line u ≡ true → IsBreak (cut_line u).0 (cut_line u).1
unfolding line_len is_line
line_at_break u h1 = search (rules, ⊎_elim, false≢true, and-false, or_cases, and_parts, cases_Bool)

hash_is : (u : List ℕ) → is_hash u ≡ true → (bs : List ℕ) × (u ≡ 35 ∷ bs)
hash_is [] h = absurd (false≢true h)
hash_is (b ∷ bs) h = (bs, ap (λ x. x ∷ bs) (eqb-true b 35 h))

hash_line : (w bs : List ℕ) → IsWhite w → EndsLine w (35 ∷ bs) (w ++ (cut_line (35 ∷ bs)).0, (cut_line (35 ∷ bs)).1)
unfolding line_len
hash_line w bs blank =
    let l = line_takes bs in
    (35 ∷ l.text, record { break = l.break; spelled = ap (λ x. w ++ (35 ∷ x)) l.spelled; blank = blank; as_comment = (refl, l.inside); ends = l.ends }, refl)

line_end_takes_at : (w u : List ℕ) → IsWhite w → (ends_line u || is_hash u) ≡ true → EndsLine w u (w ++ (cut_line u).0, (cut_line u).1)
line_end_takes_at w u blank h = ⊎_elim {0, 0, 0}
    (λ e. ([], record { break = (cut_line u).0; spelled = refl; blank = blank; as_comment = tt; ends = line_at_break u e }, sym e))
    (λ e. let is = hash_is u e in subst (λ (v : List ℕ). EndsLine w v (w ++ (cut_line v).0, (cut_line v).1)) (sym is.1) (hash_line w is.0 blank))
    (or_cases (ends_line u) (is_hash u) h)

pub line_end_takes : (w u : List ℕ) → IsWhite w → (ends_line u || is_hash u) ≡ true → EndsLine w u (cut_line (w ++ u))
line_end_takes w u blank h =
    subst (EndsLine w u) (sym (rw (line_len-append w u (white_no_feed w blank)) (rw (take-append-add, drop-append-add) refl))) (line_end_takes_at w u blank h)

-- its parts again
pub one_feed : (b : ℕ) → (is_feed b || (is_return b && false)) ≡ true → is_feed b ≡ true
one_feed b h = ⊎_elim {0, 0, 0} (λ e. e) (λ e. absurd (false≢true (sym (and-false (is_return b)) ∙ e))) (or_cases (is_feed b) (is_return b && false) h)

pub after_comment : (c break rest : List ℕ) → IsComment c break → IsBreak break rest → (no_white (c ++ (break ++ rest)) ≡ true)
    × ((ends_line (c ++ (break ++ rest)) || is_hash (c ++ (break ++ rest))) ≡ true) × (ends_line (c ++ (break ++ rest)) ≡ is_empty c)
after_comment c break rest h e = search (rules, ⊎_elim, false≢true, one_feed, and_parts, feed_is, eqb-true, or_cases)

pub comment_none : (c break : List ℕ) → IsComment c break → NoneIn ends_line c break
comment_none c break h = search rules

pub line_end_line : (w c p rest : List ℕ) → IsLineEnd w c p rest → IsLine p rest
line_end_line w c p rest h = record { text = w ++ c; break = h.break; spelled = h.spelled ∙ sym (append_assoc w c h.break); inside = white_none w c h.break h.blank (comment_none c h.break h.as_comment); ends = h.ends }

-- what comes after the white space of such an end
pub following_line_end : (w c p rest : List ℕ) → IsLineEnd w c p rest → (u : List ℕ) × (p ++ rest ≡ w ++ u) × (no_white u ≡ true) × ((ends_line u || is_hash u) ≡ true) × (ends_line u ≡ is_empty c)
following_line_end w c p rest h =
    let regroup : p ++ rest ≡ w ++ (c ++ (h.break ++ rest)) = rw h.spelled (simp append_assoc) in
    let parts = after_comment c h.break rest h.as_comment h.ends in
    (c ++ (h.break ++ rest), regroup, parts.0, parts.1, parts.2)
