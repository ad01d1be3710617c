-- The end of a line with another break.
use Rattle.std.proofs.Common.{◌≡◌, ◌⊎◌, ℕ, true, false, ◌&&◌, List, [], ◌∷◌, ◌++◌, refl, sym, ap, ◌∙◌, append_assoc, rules}
use Rattle.std.proofs.lemmas.Bool.{false≢true, and_parts, cases_Bool, or_parts}
use Rattle.yq_core.{specs.Characters.pairs_returns, specs.Text.{front, is_feed, is_return, is_empty, ends_line, NoneIn}}
use Rattle.yq_outline.specs.Comments.{line_comment}
use Rattle.yq_row_table.{specs.Gap.{IsBreak, IsComment}, specs.Grammar.IsTail, proofs.CharacterLaws.pairs_back}
use Rattle.yq_row_table.proofs.seams.ScalarSeams.{ends_return}
use Rattle.yq_edit_rules.proofs.EndLaws.{after_hash, comment_is}

-- what is in front of a break ends in no CR
front_clean : (c rest : List ℕ) → pairs_returns (c ++ rest) ≡ true → NoneIn ends_line c rest → ends_return c ≡ false
unfolding pairs_returns
front_clean [] rest h n = refl
front_clean (b ∷ []) rest h n = go (cases_Bool (is_return b))
  where
    go : (is_return b ≡ true) ⊎ (is_return b ≡ false) → is_return b ≡ false
    go h1 = search (rules, or_parts, false≢true, and_parts)
front_clean (b ∷ (d ∷ c)) rest h n = front_clean (d ∷ c) rest (pairs_back (b ∷ []) (d ∷ (c ++ rest)) h) n.1

none_other : (c old new : List ℕ) → NoneIn ends_line c old → ends_return c ≡ false → NoneIn ends_line c new
none_other [] old new n e = tt
none_other (b ∷ []) old new n e = let f = or_parts (is_feed b) (is_return b && front is_feed old) n.0 in (rw (f.0, e) refl, tt)
none_other (b ∷ (d ∷ c)) old new n e = (n.0, none_other (d ∷ c) old new n.1 e)

-- so a comment there goes up to another break
pub comment_other : (c old rest new : List ℕ) → pairs_returns (c ++ (old ++ rest)) ≡ true → IsComment c old → IsBreak old rest → IsComment c new
comment_other [] old rest new p h e = tt
comment_other (b ∷ c) old rest new p h e =
    (h.0, none_other c (old ++ rest) new more (front_clean c (old ++ rest) (pairs_back (b ∷ []) (c ++ (old ++ rest)) p) more))
  where
    more : NoneIn ends_line c (old ++ rest)
    more = (Rattle.yq_places.proofs.LineEndLaws.comment_more (b ∷ c) old rest h e).1

-- the end of a line, with another break after its white space and its comment
module _ (tail more : List ℕ) (h : IsTail tail more) (pairs : pairs_returns (tail ++ more) ≡ true) (break after : List ℕ) (ends : IsBreak break after) where
  alone : (b z : List ℕ) → IsBreak b z → IsBreak b []
  alone b z h1 = search rules

  split : tail ++ more ≡ h.white ++ (h.comment ++ (h.line.break ++ more))
  split = ap (λ x. x ++ more) h.line.spelled ∙ (append_assoc h.white (h.comment ++ h.line.break) more ∙ ap (λ x. h.white ++ x) (append_assoc h.comment h.line.break more))

  as_comment : IsComment h.comment break
  as_comment = comment_other h.comment h.line.break more break (pairs_back h.white (h.comment ++ (h.line.break ++ more)) (ap pairs_returns (sym split) ∙ pairs)) h.line.as_comment h.line.ends

  pub other_tail : IsTail (h.white ++ (h.comment ++ break)) after
  other_tail = record { white = h.white; comment = h.comment; line = record { break = break; spelled = refl; blank = h.line.blank; as_comment = as_comment; ends = ends }; apart = h.apart }

  -- it has the same comment
  pub other_comment : line_comment (h.white ++ (h.comment ++ break)) ≡ line_comment tail
  other_comment = search (rules, comment_is, as_comment, alone)

-- a tail without a comment has none
pub uncommented_tail : (tail rest : List ℕ) (h : IsTail tail rest) → is_empty h.comment ≡ true → line_comment tail ≡ Rattle.std.proofs.Common.None
uncommented_tail tail rest h e = search (rules, comment_is, alone, after_hash, false≢true)
