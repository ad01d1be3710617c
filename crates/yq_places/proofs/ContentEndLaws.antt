-- A content ends in a break, or the text ends after it.
use Rattle.std.proofs.Common.{◌≡◌, ◌⊎◌, inl, inr, ℕ, ℤ, Bool, true, false, ◌&&◌, List, [], ◌∷◌, ◌++◌, refl, sym, ap, ◌∙◌, subst, append-nil}
use Rattle.std.{proofs.Common.rules, proofs.lemmas.Bool.{eqb-true, false_from_ne_true, false≢true, and_parts, or_parts}}
use Rattle.yq_core.specs.Text.{front, is_white, is_feed, is_return, is_break, is_line, ends_line, NoneIn}
use Rattle.yq_row_table.{specs.Gap.{IsBreak, IsComment, IsWhite}, specs.Grammar.{IsContent, IsTail}}
use Rattle.yq_row_table.{specs.Rows.{Content, Nothing, Inline, Block}, proofs.seams.SeamLaws.line_by_break}
use Rattle.yq_places.{specs.CollectionEnds.is_broken, specs.PrintedLines.{last_break, end_break}}
use Rattle.yq_places.proofs.LastBreakLaws.{HasNoFeed, line_last, raw_last, no_last}

-- a text ends in a break that is a line, or has none, and nothing is after it
abbrev pub Ends : Bool → List ℕ → List ℕ → Type 0
Ends broken break rest = ((broken ≡ true) × (is_line break ≡ true)) ⊎ ((broken ≡ false) × (break ≡ []) × (rest ≡ []))

-- white space and comments have no LF
white_no_feed : (w : List ℕ) → IsWhite w → HasNoFeed w
white_no_feed [] h = tt
white_no_feed (b ∷ w) h = (false_from_ne_true (is_feed b) (λ e. let is : b ≡ 10 = eqb-true b 10 e in false≢true (subst (λ (x : ℕ). is_white x ≡ true) is h.0)), white_no_feed w h.1)

rest_no_feed : (c : List ℕ) → NoneIn ends_line c [] → HasNoFeed c
rest_no_feed [] h = tt
rest_no_feed (b ∷ c) h = ((or_parts (is_feed b) (is_return b && front is_feed (c ++ [])) h.0).0, rest_no_feed c h.1)

comment_no_feed : (c : List ℕ) → IsComment c [] → HasNoFeed c
comment_no_feed c h1 = search (rules, rest_no_feed)

both_no_feed : (a b : List ℕ) → HasNoFeed a → HasNoFeed b → HasNoFeed (a ++ b)
both_no_feed [] b h k = k
both_no_feed (x ∷ a) b h k = (h.0, both_no_feed a b h.1 k)

no_line : is_line [] ≡ false
unfolding is_line
no_line = refl

pub tail_ends : (tail rest : List ℕ) → IsTail tail rest → Ends (is_line tail) (last_break tail) rest
tail_ends tail rest h = go h.line.ends
  where
    same : is_line tail ≡ is_line h.line.break
    same = line_by_break h.white h.comment tail rest h.line

    go : IsBreak h.line.break rest → Ends (is_line tail) (last_break tail) rest
    go (inl e) =
        let line : is_line tail ≡ true = same ∙ (and_parts (is_break h.line.break) (is_line h.line.break) e).1 in
        inl (line, line_last tail line)
    go (inr e) =
        let text : tail ≡ h.white ++ h.comment = h.line.spelled ∙ (ap (λ l. h.white ++ (h.comment ++ l)) e.0 ∙ ap (λ l. h.white ++ l) (append-nil h.comment)) in
        let none : HasNoFeed tail = subst HasNoFeed (sym text) (both_no_feed h.white h.comment (white_no_feed h.white h.line.blank) (comment_no_feed h.comment (subst (IsComment h.comment) e.0 h.line.as_comment))) in
        inr (same ∙ (ap is_line e.0 ∙ no_line), no_last tail none, e.1)

pub content_ends : (n : ℤ) (c : Content) (rest : List ℕ) → IsContent n c rest → Ends (is_broken c) (end_break c) rest
content_ends n (Nothing tail) rest h = tail_ends tail rest h
content_ends n (Inline space node tail) rest h = tail_ends tail rest h.2
content_ends n (Block space anchor block) rest h = search (rules, raw_last, and_parts)
