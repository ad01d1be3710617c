-- What is written for comments reads as their texts.
use Rattle.std.proofs.Common.{◌≡◌, ◌⊎◌, inl, inr, ℕ, true, ◌&&◌, cond, eqb, List, [], ◌∷◌, ◌++◌, replicate, Some, refl, sym, ap, ◌∙◌}
use Rattle.std.{proofs.Common.{append-nil, append_assoc, rules}, proofs.lemmas.Bool.{and_parts, not-true}}
use Rattle.yq_core.specs.BlockWritten.{break_text}
use Rattle.yq_core.specs.Text.{front, is_empty, is_break, is_line, ends_line, past_white, joined, text_lines, NoneIn}
use Rattle.yq_core.{specs.declared.block_types.Break.Break, proofs.Bytes.Each, proofs.LineLaws.lines_again, proofs.Upto.cut-append}
use Rattle.yq_core.proofs.WrittenText.{no_break}
use Rattle.yq_outline.specs.Comments.{less_space, comment_text, are_comments, last_comments, head_comment as head_texts}
use Rattle.yq_row_table.{specs.Gap.{IsWhite, IsGap, IsGapLine, AreGapLines}, proofs.LineEnds.{text_line, white_again, white_none}}
use Rattle.yq_row_table.proofs.RowAgain.{white_spaces}
use Rattle.yq_edit_rules.{specs.CommentEdits.{comment_line, head_lines}, proofs.CommentPieceLaws.AreParts}
use Rattle.yq_core.specs.Text as text

-- a text without breaks, before more
pub no_breaks_none : (t rest : List ℕ) → Each no_break t → NoneIn ends_line t rest
no_breaks_none [] rest h = tt
no_breaks_none (b ∷ t) rest h = search (rules, and_parts, not-true, no_breaks_none t rest h.1)

-- the comment after white space
no_white_there : (r : List ℕ) → past_white (35 ∷ r) ≡ 35 ∷ r
unfolding text.upto
no_white_there r = refl

pub comment_after : (white rest t : List ℕ) → IsWhite white → comment_text (white ++ (35 ∷ (t ++ rest))) ≡ comment_text (35 ∷ (t ++ rest))
comment_after white rest t h = search (rules, ap (λ (x : List ℕ × List ℕ). x.1) (white_again white (35 ∷ (t ++ rest)) h refl), no_white_there)

-- the text after a `#`, up to a break
pub comment_is : (t rest : List ℕ) → NoneIn ends_line t rest → ends_line rest ≡ true → comment_text (35 ∷ (t ++ rest)) ≡ Some (less_space t)
unfolding text.upto
comment_is t rest none here = ap (λ (x : List ℕ × List ℕ). Some (less_space x.0)) (cut-append ends_line t rest none here)

-- what comes after the `#` of a line
abbrev past_hash : List ℕ → List ℕ
past_hash t = cond (is_empty t) [] (32 ∷ t)

hash_none : (t rest : List ℕ) → Each no_break t → NoneIn ends_line (past_hash t) rest
hash_none t rest h1 = search (rules, no_breaks_none)

pub break_is : (br : Break) → (is_break (break_text br) && is_line (break_text br)) ≡ true
unfolding is_line
break_is br = search rules

-- a line of a head comment
line_is : (column : ℕ) (br : Break) (t : List ℕ) → Each no_break t → is_line (comment_line column (break_text br) t) ≡ true
line_is column br t h =
    let white : List ℕ = replicate column 32 in
    let comment : List ℕ = 35 ∷ past_hash t in
    let none : NoneIn ends_line comment (break_text br) = (refl, hash_none t (break_text br) h) in
    ap is_line (sym (append_assoc white comment (break_text br)))
    ∙ (text_line (white ++ comment) (break_text br) (white_none white comment (break_text br) (white_spaces column) none) ∙ (and_parts (is_break (break_text br)) (is_line (break_text br)) (break_is br)).1)

line_agrees_with : (column : ℕ) (br : Break) (t : List ℕ) → Each no_break t → comment_text (comment_line column (break_text br) t) ≡ Some t
line_agrees_with column br t h = search (rules, comment_after, white_spaces, comment_is, hash_none, append-nil)

line_begins : (column : ℕ) (br : Break) (t : List ℕ) → front (λ b. eqb b 35) (past_white (comment_line column (break_text br) t)) ≡ true
line_begins column br t = ap (λ (x : List ℕ × List ℕ). front (λ b. eqb b 35) x.1) (white_again (replicate column 32) (35 ∷ (past_hash t ++ break_text br)) (white_spaces column) refl)

lines_are : (column : ℕ) (br : Break) (t : List ℕ) (ts : List (List ℕ)) → Each no_break t → text_lines (head_lines column (break_text br) (t ∷ ts)) ≡ comment_line column (break_text br) t ∷ text_lines (head_lines column (break_text br) ts)
lines_are column br t ts h = lines_again (comment_line column (break_text br) t) (head_lines column (break_text br) ts) (line_is column br t h)

no_lines : text_lines [] ≡ []
unfolding text_lines
no_lines = refl

all_comments : (column : ℕ) (br : Break) (ts : List (List ℕ)) → AreParts ts → are_comments (text_lines (head_lines column (break_text br) ts)) ≡ true
all_comments column br [] h = ap are_comments no_lines
all_comments column br (t ∷ ts) h = ap are_comments (lines_are column br t ts h.0) ∙ rw (line_begins column br t, all_comments column br ts h.2) refl

pub lines_agree : (column : ℕ) (br : Break) (ts : List (List ℕ)) → AreParts ts → head_texts (head_lines column (break_text br) ts) ≡ ts
lines_agree column br [] h = ap last_comments no_lines
lines_agree column br (t ∷ ts) h = search (rules, lines_are, all_comments, line_agrees_with, lines_agree column br ts h.2)

-- such lines are a gap
abbrev all_lines : ℕ → List ℕ → List (List ℕ) → List (List ℕ)
all_lines column br [] = []
all_lines column br (t ∷ ts) = comment_line column br t ∷ all_lines column br ts

lines_joined : (column : ℕ) (br : List ℕ) (ts : List (List ℕ)) → head_lines column br ts ≡ joined (all_lines column br ts)
lines_joined column br [] = refl
lines_joined column br (t ∷ ts) = ap (λ l. comment_line column br t ++ l) (lines_joined column br ts)

gap_line : (column : ℕ) (br : Break) (t rest : List ℕ) → Each no_break t → IsGapLine (comment_line column (break_text br) t) rest
gap_line column br t rest h = record {
  white = replicate column 32;
  comment = 35 ∷ past_hash t;
  line = record { break = break_text br; spelled = refl; blank = white_spaces column; as_comment = (refl, hash_none t (break_text br) h); ends = inl (break_is br) };
  some = search rules;
}

gap_lines : (column : ℕ) (br : Break) (ts : List (List ℕ)) (rest : List ℕ) → AreParts ts → AreGapLines (all_lines column (break_text br) ts) rest
gap_lines column br [] rest h = tt
gap_lines column br (t ∷ ts) rest h = (gap_line column br t _ h.0, gap_lines column br ts rest h.2)

pub lines_gap : (column : ℕ) (br : Break) (ts : List (List ℕ)) (rest : List ℕ) → AreParts ts → IsGap (head_lines column (break_text br) ts) rest
lines_gap column br ts rest h = record { lines = all_lines column (break_text br) ts; spelled = lines_joined column (break_text br) ts; each = gap_lines column br ts rest h }

pub lines_are_in : (column : ℕ) (br : List ℕ) (ts : List (List ℕ)) → (head_lines column br ts ≡ []) ⊎ ((v : List ℕ) × (head_lines column br ts ≡ replicate column 32 ++ (35 ∷ v)))
lines_are_in column br [] = inl refl
lines_are_in column br (t ∷ ts) = inr ((past_hash t ++ br) ++ head_lines column br ts, append_assoc (replicate column 32) (35 ∷ (past_hash t ++ br)) (head_lines column br ts))
