-- The end of a line, by its white space, its comment and its break.
use Rattle.std.proofs.Common.{◌≡◌, ◌⊎◌, inl, ℕ, ◌<◌, ℤ, true, false, ◌&&◌, ◌||◌, List, [], ◌∷◌, ◌++◌, length, refl, sym, ap, ◌∙◌, subst}
use Rattle.std.{proofs.Common.{arith, append_assoc, append-nil, ⊎_elim, rules}, proofs.lemmas.Bool.{false≢true, or_cases, and_parts}}
use Rattle.yq_core.{specs.Block.is_tail, specs.Lines.{is_blank, is_hash}}
use Rattle.yq_core.specs.Text.{front, is_white, is_feed, is_return, is_break, is_line, is_empty, ends_line, no_white, past_white, NoneIn}
use Rattle.yq_core.proofs.Upto.{upto_ends, none_in_cut, cut-append, cut_takes}
use Rattle.yq_row_table.{specs.Gap.{IsWhite, IsBreak, IsComment}, specs.Grammar.{IsTail, IsContent}, specs.Rows.Content}
use Rattle.yq_row_table.specs.View.{content_cut}
use Rattle.yq_row_table.proofs.LineEnds.{white_cut, white_again, white_none, text_line, after_comment, comment_none}
use Rattle.yq_places.specs.CommentPlaces.{LineEnd, end_in_line}
use Rattle.yq_core.specs.Text as text

-- more text after a break
front_more : (p : ℕ → Rattle.std.proofs.Common.Bool) (c break more : List ℕ) → 0 < length break → front p (c ++ (break ++ more)) ≡ front p (c ++ break)
front_more p [] [] more some = absurd (omega (arith, some))
front_more p _ _ more some = refl

none_more : (c break more : List ℕ) → 0 < length break → NoneIn ends_line c break → NoneIn ends_line c (break ++ more)
none_more [] break more some h = tt
none_more (b ∷ c) break more some h = (ap (λ x. is_feed b || (is_return b && x)) (front_more is_feed c break more some) ∙ h.0, none_more c break more some h.1)

pub comment_more : (c break more : List ℕ) → IsComment c break → IsBreak break more → NoneIn ends_line c (break ++ more)
comment_more c break more h1 h2 = search (rules, none_more, false≢true, comment_none, append-nil)

-- the end of a line that a tail is
abbrev pub end_of_tail : (before tail more : List ℕ) → IsTail tail more → LineEnd
end_of_tail before tail more h = record { before = before; white = h.white; comment = h.comment; after = h.line.break ++ more }

pub tail_is_end : (before tail more : List ℕ) (h : IsTail tail more) → end_in_line before (tail ++ more) ≡ end_of_tail before tail more h
tail_is_end before tail more h =
    let rest : List ℕ = h.line.break ++ more in
    let whole : tail ++ more ≡ h.white ++ (h.comment ++ rest) = ap (λ x. x ++ more) h.line.spelled ∙ (append_assoc h.white (h.comment ++ h.line.break) more ∙ ap (λ x. h.white ++ x) (append_assoc h.comment h.line.break more)) in
    let white : text.cut no_white (h.white ++ (h.comment ++ rest)) ≡ (h.white, h.comment ++ rest) = white_again h.white (h.comment ++ rest) h.line.blank (after_comment h.comment h.line.break more h.line.as_comment h.line.ends).0 in
    let break : ends_line rest ≡ true = (after_comment [] h.line.break more tt h.line.ends).2 in
    search (rules, cut-append, comment_more, rest, whole, white, break)

-- the rest of a header's line is a tail
line_some : (p : List ℕ) → ends_line p ≡ true → is_line p ≡ true → (is_break p && is_line p) ≡ true
unfolding is_line
line_some p h1 h2 = search (rules, false≢true)

hash_comment : (p : List ℕ) → is_hash p ≡ true → IsComment (text.cut ends_line p).0 (text.cut ends_line p).1 × (is_empty (text.cut ends_line p).0 ≡ false)
unfolding text.upto
hash_comment p h1 = search (rules, false≢true, none_in_cut)

white_some : (tail : List ℕ) → front is_white tail ≡ true → is_empty (text.cut no_white tail).0 ≡ false
unfolding text.upto
white_some tail h1 = search (rules, false≢true)

pub header_tail : (tail more : List ℕ) → is_tail tail ≡ true → IsTail tail more
header_tail tail more h =
    let parts = and_parts (is_line tail) (is_blank tail || (front is_white tail && is_hash (past_white tail))) h in
    let white : List ℕ = (text.cut no_white tail).0 in
    let p : List ℕ = past_white tail in
    let blank : IsWhite white = white_cut tail in
    let whole : tail ≡ white ++ p = cut_takes no_white tail in
    ⊎_elim {0, 0, 0}
    (λ (e : is_blank tail ≡ true).
    let line : is_line p ≡ true = sym (ap is_line whole ∙ text_line white p (subst (λ (x : List ℕ). NoneIn ends_line x p) (append-nil white) (white_none white [] p blank tt))) ∙ parts.0 in
    record {
      white = white;
      comment = [];
      line = record { break = p; spelled = whole; blank = blank; as_comment = tt; ends = inl (line_some p e line) };
      apart = refl;
    })
    (λ (e : (front is_white tail && is_hash (past_white tail)) ≡ true).
    let both = and_parts (front is_white tail) (is_hash p) e in
    let comment : List ℕ = (text.cut ends_line p).0 in
    let break : List ℕ = (text.cut ends_line p).1 in
    let as_comment = hash_comment p both.1 in
    let spelled : tail ≡ white ++ (comment ++ break) = whole ∙ ap (λ x. white ++ x) (cut_takes ends_line p) in
    let line : is_line break ≡ true =
    sym (ap is_line (spelled ∙ sym (append_assoc white comment break)) ∙ text_line (white ++ comment) break (white_none white comment break blank (none_in_cut ends_line p))) ∙ parts.0 in
    record {
      white = white;
      comment = comment;
      line = record { break = break; spelled = spelled; blank = blank; as_comment = as_comment.0; ends = inl (line_some break (upto_ends ends_line p refl) line) };
      apart = rw (white_some tail both.0) (rw as_comment.1 refl);
    })
    (or_cases (is_blank tail) (front is_white tail && is_hash (past_white tail)) parts.1)

-- the tail after what is written on the line of a content
pub line_tail : (n : ℤ) (x : Content) (rest : List ℕ) → IsContent n x rest → IsTail (content_cut x).4 ((content_cut x).5 ++ rest)
line_tail n x rest h1 = search (rules, header_tail)
