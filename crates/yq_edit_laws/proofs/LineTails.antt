-- The end of a line with another comment, and rows and parts with such a line.
use Rattle.std.proofs.Common.{◌≡◌, ◌⊎◌, ⊎_elim, ℕ, Bool, true, false, ◌||◌, not, cond, eqb, List, [], ◌∷◌, ◌++◌, drop, Some, None, refl}
use Rattle.std.proofs.Common.{sym, ap, ◌∙◌, subst, append_assoc, append-nil, rules}
use Rattle.std.proofs.lemmas.Bool.{false≢true, eqb-true, and_parts, cases_Bool, not-true}
use Rattle.yq_core.{specs.Block.is_tail, specs.Lines.is_hash}
use Rattle.yq_core.specs.Text.{front, is_white, is_line, is_empty, ends_line, no_white, past_white}
use Rattle.yq_outline.specs.Comments.{line_comment as comment_in}
use Rattle.yq_row_table.{proofs.NothingLaws.some_after, specs.Gap.{IsWhite, IsBreak, IsComment}, specs.Grammar.{IsTail, IsContent}}
use Rattle.yq_row_table.{specs.Rows.{Content, Nothing, Inline, Block, Row}, specs.View.{content_cut, slices}}
use Rattle.yq_row_table.proofs.LineEnds.{white_none, text_line, white_again, after_comment}
use Rattle.yq_edit_rules.{specs.PathTails.{IsLineTail, tailed}, specs.Rooms.row_shape}
use Rattle.yq_edit_rules.proofs.CommentReadLaws.{no_breaks_none, comment_after, comment_is}
use Rattle.yq_semantics.specs.Meaning.{line_comment_text}

-- ---- what is there then

abbrev pub written : List ℕ → List ℕ
written text = 35 ∷ (32 ∷ text)

-- the white space and the comment that end the line then
abbrev pub new_white : List ℕ → List ℕ → List ℕ → List ℕ
new_white text white comment = cond (is_empty text) (cond (is_empty comment) white []) (cond (is_empty comment) (white ++ 32 ∷ []) white)

abbrev pub new_comment : List ℕ → List ℕ
new_comment text = cond (is_empty text) [] (written text)

-- ---- the new end is one

white_more : (w : List ℕ) → IsWhite w → IsWhite (w ++ 32 ∷ [])
white_more [] h = (refl, tt)
white_more (b ∷ w) h = (h.0, white_more w h.1)

module _ (text tail more : List ℕ) (h : IsTail tail more) (no_breaks : Rattle.yq_core.proofs.Bytes.Each Rattle.yq_core.proofs.WrittenText.no_break text) where
  abbrev white : List ℕ
  white = new_white text h.white h.comment

  abbrev pub tail_then : List ℕ
  tail_then = new_white text h.white h.comment ++ (new_comment text ++ h.line.break)

  pub blank : IsWhite (new_white text h.white h.comment)
  blank = search (rules, white_more)

  pub as_comment : IsComment (new_comment text) h.line.break
  as_comment = go (is_empty text)
    where
      go : (a : Bool) → IsComment (cond a [] (written text)) h.line.break
      go true = tt
      go false = (refl, (refl, no_breaks_none text h.line.break no_breaks))

  pub apart : (is_empty (new_comment text) || not (is_empty (new_white text h.white h.comment))) ≡ true
  apart = search (rules, some_after)

  abbrev pub new_tail : IsTail tail_then more
  new_tail = record { white = new_white text h.white h.comment; comment = new_comment text; line = record { break = h.line.break; spelled = refl; blank = blank; as_comment = as_comment; ends = h.line.ends }; apart = apart }

  -- its comment is the text
  alone : IsBreak h.line.break more → IsBreak h.line.break []
  alone e = search rules

  no_hash : (t : List ℕ) → ends_line t ≡ true → front (λ b. eqb b 35) t ≡ false
  no_hash t e = search (rules, false≢true, cases_Bool, eqb-true)

  no_comment : (w : List ℕ) → IsWhite w → comment_in (w ++ h.line.break) ≡ None
  no_comment w b =
      let parts = after_comment [] h.line.break [] tt (alone h.line.ends) in
      let front_white : no_white h.line.break ≡ true = ap no_white (sym (append-nil h.line.break)) ∙ parts.0 in
      let front_end : ends_line h.line.break ≡ true = ap ends_line (sym (append-nil h.line.break)) ∙ parts.2 in
      let past : past_white (w ++ h.line.break) ≡ h.line.break = ap (λ (x : List ℕ × List ℕ). x.1) (white_again w h.line.break b front_white) in
      ap (λ x. cond (front (λ b. eqb b 35) x) (Some (Rattle.yq_outline.specs.Comments.less_space (Rattle.yq_core.specs.Text.cut ends_line (drop 1 x)).0)) None) past
      ∙ ap (λ b. cond b (Some (Rattle.yq_outline.specs.Comments.less_space (Rattle.yq_core.specs.Text.cut ends_line (drop 1 h.line.break)).0)) None) (no_hash h.line.break front_end)

  pub new_comment_is : comment_in tail_then ≡ line_comment_text text
  new_comment_is = go text refl
    where
      go : (u : List ℕ) → text ≡ u → comment_in (new_white text h.white h.comment ++ (new_comment text ++ h.line.break)) ≡ line_comment_text u
      go [] e = ap (λ t. comment_in (new_white text h.white h.comment ++ (new_comment t ++ h.line.break))) e ∙ no_comment (new_white text h.white h.comment) blank
      go (b ∷ u) e =
          let parts = after_comment [] h.line.break [] tt (alone h.line.ends) in
          let front_end : ends_line h.line.break ≡ true = ap ends_line (sym (append-nil h.line.break)) ∙ parts.2 in
          ap (λ t. comment_in (new_white text h.white h.comment ++ (new_comment t ++ h.line.break))) e
          ∙ (comment_after (new_white text h.white h.comment) h.line.break (32 ∷ (b ∷ u)) blank
          ∙ comment_is (32 ∷ (b ∷ u)) h.line.break (refl, no_breaks_none (b ∷ u) h.line.break (subst (Rattle.yq_core.proofs.Bytes.Each Rattle.yq_core.proofs.WrittenText.no_break) e no_breaks)) front_end)

  -- it may end a header
  hash_front : (c : List ℕ) → IsComment c h.line.break → is_empty c ≡ false → is_hash (c ++ h.line.break) ≡ true
  hash_front c k e = search (rules, false≢true)

  white_front : (w rest : List ℕ) → IsWhite w → is_empty w ≡ false → front is_white (w ++ rest) ≡ true
  white_front w rest k e = search (rules, false≢true)

  in_header : is_line tail ≡ true → is_tail tail_then ≡ true
  in_header line =
      let break_line : is_line h.line.break ≡ true =
      sym (ap is_line (h.line.spelled ∙ sym (append_assoc h.white h.comment h.line.break))
      ∙ text_line (h.white ++ h.comment) h.line.break (white_none h.white h.comment h.line.break h.line.blank (Rattle.yq_row_table.proofs.LineEnds.comment_none h.comment h.line.break h.line.as_comment))) ∙ line in
      let new_line : is_line tail_then ≡ true =
      ap is_line (sym (append_assoc (new_white text h.white h.comment) (new_comment text) h.line.break))
      ∙ (text_line (new_white text h.white h.comment ++ new_comment text) h.line.break
      (white_none (new_white text h.white h.comment) (new_comment text) h.line.break blank
      (Rattle.yq_row_table.proofs.LineEnds.comment_none (new_comment text) h.line.break as_comment)) ∙ break_line) in
      let parts = after_comment (new_comment text) h.line.break [] as_comment (alone h.line.ends) in
      let no_front : no_white (new_comment text ++ h.line.break) ≡ true = ap (λ x. no_white (new_comment text ++ x)) (sym (append-nil h.line.break)) ∙ parts.0 in
      let past : past_white tail_then ≡ new_comment text ++ h.line.break = ap (λ (x : List ℕ × List ℕ). x.1) (white_again (new_white text h.white h.comment) (new_comment text ++ h.line.break) blank no_front) in
      search (rules, append-nil, ⊎_elim, not-true, apart, white_front, blank, hash_front, as_comment, cases_Bool)

-- a content with that end of its line
pub line_tail_is : (n : Rattle.std.proofs.Common.ℤ) (text : List ℕ) (c : Content) (rest : List ℕ)
    (h : IsTail (content_cut c).4 ((content_cut c).5 ++ rest)) → IsContent n c rest →
    (no_breaks : Rattle.yq_core.proofs.Bytes.Each Rattle.yq_core.proofs.WrittenText.no_break text) →
    IsLineTail (tail_then text (content_cut c).4 ((content_cut c).5 ++ rest) h no_breaks) c rest
line_tail_is n text (Nothing tail) rest h k no_breaks = new_tail text tail rest h no_breaks
line_tail_is n text (Inline space node tail) rest h k no_breaks = new_tail text tail rest h no_breaks
line_tail_is n text (Block space anchor block) rest h k no_breaks = in_header text block.tail _ h no_breaks (and_parts (is_line block.tail) _ k.2.tail).0

-- ---- the row and the part then

pub slices_tailed : (r : Row) (tail : List ℕ) → slices (tailed tail r) ≡ record (slices r) { tail = tail }
slices_tailed r tail = search rules

pub shape_same : (r : Row) (tail : List ℕ) → row_shape (tailed tail r) ≡ row_shape r
shape_same r tail = search rules
