-- What is written for comments is made of pieces of texts.
use Rattle.std.proofs.Common.{◌≡◌, ◌≢◌, get_or, ◌⊎◌, inl, inr, ℕ, zero, suc, ◌+◌, ◌<◌, ◌≤◌, Bool, true, false, ◌&&◌, not, cond, List, []}
use Rattle.std.proofs.Common.{◌∷◌, ◌++◌, length, replicate, refl, sym, ap, ◌∙◌, subst, arith, append-nil, append_assoc, length-append}
use Rattle.std.{proofs.Common.rules, proofs.lemmas.Bool.{false≢true, ltb-true, and_parts, cases_Bool}}
use Rattle.std.{proofs.lemmas.Str.{encode_ascii, IsUtf8-take}, proofs.Math.Seq.take-append_seam}
use Rattle.std.{proofs.Math.Utf8.{encodes, encode, scalars, low_scalar}, specs.List.list_all, specs.Str.{chars, IsUtf8}}
use Rattle.yq_core.{specs.BlockWritten.break_text, specs.Characters.{is_text_char, pairs_returns}}
use Rattle.yq_core.{specs.Text.{is_feed, is_return, is_empty}, specs.declared.block_types.Break.Break, proofs.Bools.not_byte}
use Rattle.yq_core.{proofs.Bytes.{Each, each_byte}, proofs.WrittenText.{no_break, is_line_ascii, IsLine, line_is_text}}
use Rattle.yq_row_table.{proofs.NodePieces.before_ascii, proofs.seams.ScalarSeams.ends_return}
use Rattle.yq_edit_rules.{specs.TextPieces.IsPiece, proofs.LineFrontLaws.{clean_byte, clean_cut}}
use Rattle.yq_edit_rules.{proofs.TextPieceLaws.{pieces_joined, line_cut, nothing}, proofs.RemovalPieceLaws.spaces_piece}
use Rattle.yq_edit_rules.specs.CommentEdits.{comment_line, head_lines}
use Rattle.yq_semantics.{specs.Changes.can_be_comment, specs.Meaning.{head_comment_lines, split_lines}}
use Rattle.yq_semantics.specs.declared.program.CommentPlace.TheVariants as comments

-- ---- single bytes

low_line : (b : ℕ) → is_line_ascii b ≡ true → IsLine (b ∷ []) × IsUtf8 (b ∷ [])
low_line b h =
    let p = and_parts (Rattle.std.proofs.Common.ltb b 128 && is_text_char b) (no_break b) h in
    let r = and_parts (Rattle.std.proofs.Common.ltb b 128) (is_text_char b) p.0 in
    let low : b < 128 = ltb-true b 128 r.0 in
    let spelled : encodes (b ∷ []) ≡ b ∷ [] = append-nil (encode b) ∙ encode_ascii b low in
    let valid : scalars (b ∷ []) ≡ true = rw (low_scalar b (omega (arith, low))) refl in
    (record { chars = b ∷ []; spelled = spelled; valid = valid; text = rw r.1 refl; bytes = (p.1, tt) }, (b ∷ [], (valid, spelled)))

pub byte_then : (b : ℕ) (t : List ℕ) → is_line_ascii b ≡ true → IsPiece t → IsPiece (b ∷ t)
byte_then b t h k = pieces_joined (b ∷ []) t (let x = low_line b h in record { utf8 = x.1; characters = line_is_text (b ∷ []) x.0 }) k

break_chars : (br : Break) → (encodes (break_text br) ≡ break_text br) × (scalars (break_text br) ≡ true) × (list_all is_text_char (break_text br) ≡ true) × (pairs_returns (break_text br) ≡ true)
unfolding pairs_returns
break_chars br = search (rules, append-nil, encode, encode_ascii)

pub break_piece : (br : Break) → IsPiece (break_text br)
break_piece br =
    let x = break_chars br in
    record {
      utf8 = (break_text br, (x.1, x.0));
      characters = rw (subst (λ (t : List ℕ). chars t ≡ break_text br) x.0 (Rattle.std.proofs.lemmas.Str.chars-encodes (break_text br) x.1)) (rw (x.2, x.3) refl);
    }

-- ---- texts of comments

-- a byte that is no CR
abbrev pub no_return : ℕ → Bool
no_return b = not (is_return b)

all_weaker : (p q : ℕ → Bool) → ((c : ℕ) → p c ≡ true → q c ≡ true) → (cs : List ℕ) → list_all p cs ≡ true → list_all q cs ≡ true
all_weaker p q f [] h = refl
all_weaker p q f (c ∷ cs) h = let x = and_parts (p c) (list_all p cs) h in rw (f c x.0, all_weaker p q f cs x.1) refl

no_pairs : (t : List ℕ) → Each no_return t → pairs_returns t ≡ true
unfolding pairs_returns
no_pairs [] h = refl
no_pairs (b ∷ t) h = search (rules, cases_Bool, false≢true, no_pairs t h.1)

pub text_piece : (p : ℕ → Bool) (t : List ℕ) → IsUtf8 t → ((c : ℕ) → p c ≡ true → is_text_char c ≡ true) → list_all p (chars t) ≡ true → Each no_return t → IsPiece t
text_piece p t u f h e = record { utf8 = u; characters = rw (all_weaker p is_text_char f (chars t) h) (no_pairs t e) }

-- a text of a line comment
pub line_text_is : (t : List ℕ) → IsUtf8 t → can_be_comment comments.Line t ≡ true → Each no_break t × IsPiece t
line_text_is t u h = search (rules, no_break, each_byte, and_parts, not_byte, text_piece)

-- a text of a head comment
head_text_is : (t : List ℕ) → IsUtf8 t → can_be_comment comments.Head t ≡ true → Each no_return t × IsPiece t
head_text_is t u h = search (rules, each_byte, and_parts, not_byte, text_piece)

-- ---- the parts of a text

-- each is a piece without a break
abbrev pub AreParts : List (List ℕ) → Type 0
AreParts [] = Unit {0}
AreParts (t ∷ ts) = Each no_break t × IsPiece t × AreParts ts

-- a text is one part, or a part before an LF and more
data Lines : List ℕ → Type 0 where
  one : {t : List ℕ} → Each (λ b. not (is_feed b)) t → Lines t
  more : {t : List ℕ} (a b : List ℕ) → Each (λ b. not (is_feed b)) a → t ≡ a ++ 10 ∷ b → Lines t

lines : (t : List ℕ) → Lines t
lines [] = one tt
lines (b ∷ t) = go (lines t) (cases_Bool (is_feed b))
  where
    go : Lines t → (is_feed b ≡ true) ⊎ (is_feed b ≡ false) → Lines (b ∷ t)
    go x (inl e) = more [] t tt (ap (λ y. y ∷ t) (Rattle.std.proofs.Common.eqb-true b 10 e))
    go (one h) (inr e) = one (rw e refl, h)
    go (more c d h is) (inr e) = more (b ∷ c) d (rw e refl, h) (ap (λ x. b ∷ x) is)

one_part : (t : List ℕ) → Each (λ b. not (is_feed b)) t → split_lines t ≡ t ∷ []
one_part [] h = refl
one_part (b ∷ t) h = search (rules, cases_Bool, false≢true, one_part t h.1)

more_parts : (a b : List ℕ) → Each (λ b. not (is_feed b)) a → split_lines (a ++ 10 ∷ b) ≡ a ∷ split_lines b
more_parts [] b h = refl
more_parts (x ∷ a) b h = search (rules, cases_Bool, false≢true, more_parts a b h.1)

both : (t : List ℕ) → Each (λ b. not (is_feed b)) t → Each no_return t → Each no_break t
both [] h k = tt
both (b ∷ t) h k = (rw (h.0, k.0) refl, both t h.1 k.1)

each_cut : (p : ℕ → Bool) (a b : List ℕ) → Each p (a ++ b) → Each p a × Each p b
each_cut p [] b h = (tt, h)
each_cut p (x ∷ a) b h = let y = each_cut p a b h.1 in ((h.0, y.0), y.1)

no_return_end : (t : List ℕ) → Each no_return t → ends_return t ≡ false
no_return_end [] h = refl
no_return_end (b ∷ t) h = search (rules, clean_byte, cases_Bool, false≢true, no_return_end t h.1)

pub front_piece : (a : List ℕ) → IsPiece (a ++ 10 ∷ []) → Each no_return a → IsPiece a
front_piece a h e =
    let u : IsUtf8 a = subst IsUtf8 (take-append_seam a (10 ∷ [])) (IsUtf8-take (a ++ 10 ∷ []) (length a) h.utf8 (before_ascii a (10 ∷ []) (let low : 10 < 128 = omega arith in low))) in
    (clean_cut a (10 ∷ []) h u (λ f. no_return_end a e)).0

parts_of : (n : ℕ) (t : List ℕ) → length t ≤ n → IsPiece t → Each no_return t → AreParts (split_lines t)
parts_of zero t small h e = go (lines t)
  where
    go : Lines t → AreParts (split_lines t)
    go h1 = search (rules, one_part, both, length-append)
parts_of (suc n) t small h e = go (lines t) (λ b less k f. parts_of n b less k f)
  where
    go : Lines t → ((b : List ℕ) → length b ≤ n → IsPiece b → Each no_return b → AreParts (split_lines b)) → AreParts (split_lines t)
    go (one f) again = subst AreParts (sym (one_part t f)) (both t f e, h, tt)
    go (more a b f is) again =
        let whole : t ≡ (a ++ 10 ∷ []) ++ b = is ∙ sym (append_assoc a (10 ∷ []) b) in
        let k = line_cut a b (subst IsPiece whole h) in
        let x = each_cut no_return a (10 ∷ b) (subst (Each no_return) is e) in
        subst AreParts (sym (ap split_lines is ∙ more_parts a b f)) (both a f x.0, front_piece a k.0 x.0, again b (omega (arith, small, ap length is, length-append a (10 ∷ b))) k.1 x.1.1)

-- ---- the parts of a text, as it is cut at each LF

-- a text without LF, by its bytes
no_breaks_by : (t : List ℕ) → ((i : ℕ) → i < length t → get_or t i 0 ≢ 10) → Each (λ b. not (is_feed b)) t
no_breaks_by [] h = tt
no_breaks_by (b ∷ t) h = (go (cases_Bool (is_feed b)), no_breaks_by t (λ i less. h (suc i) (omega (arith, less))))
  where
    go : (is_feed b ≡ true) ⊎ (is_feed b ≡ false) → not (is_feed b) ≡ true
    go h1 = search rules

-- a line more of a head comment
pub loop_more : (column : ℕ) (br out outs text rest line after : List ℕ) → rest ≡ line ++ 10 ∷ after → ((i : ℕ) → i < length line → get_or line i 0 ≢ 10) →
    out ++ head_lines column br (split_lines rest) ≡ head_lines column br (split_lines text) → outs ≡ out ++ comment_line column br line → outs ++ head_lines column br (split_lines after) ≡ head_lines column br (split_lines text)
loop_more column br out outs text rest line after is none before pushed = search (rules, append_assoc, more_parts, no_breaks_by)

-- the last one
pub loop_done : (column : ℕ) (br out outs text rest : List ℕ) → ((i : ℕ) → i < length rest → get_or rest i 0 ≢ 10) →
    out ++ head_lines column br (split_lines rest) ≡ head_lines column br (split_lines text) → outs ≡ out ++ comment_line column br rest → 0 < length text → outs ≡ head_lines column br (head_comment_lines text)
loop_done column br out outs text rest none before pushed some = search (rules, append-nil, one_part, no_breaks_by)

pub head_parts : (t : List ℕ) → IsUtf8 t → can_be_comment comments.Head t ≡ true → AreParts (head_comment_lines t)
head_parts [] u h = tt
head_parts (b ∷ t) u h = let x = head_text_is (b ∷ t) u h in parts_of (length (b ∷ t)) (b ∷ t) (omega arith) x.1 x.0

-- ---- lines

text_after : (t : List ℕ) → IsPiece t → IsPiece (cond (is_empty t) [] (32 ∷ t))
text_after [] h = nothing
text_after (b ∷ t) h = byte_then 32 (b ∷ t) refl h

pub line_piece : (column : ℕ) (br : Break) (t : List ℕ) → IsPiece t → IsPiece (comment_line column (break_text br) t)
line_piece column br t h = pieces_joined (replicate column 32) _ (spaces_piece column) (byte_then 35 _ refl (pieces_joined (cond (is_empty t) [] (32 ∷ t)) (break_text br) (text_after t h) (break_piece br)))

pub lines_piece : (column : ℕ) (br : Break) (ts : List (List ℕ)) → AreParts ts → IsPiece (head_lines column (break_text br) ts)
lines_piece column br [] h = nothing
lines_piece column br (t ∷ ts) h = pieces_joined (comment_line column (break_text br) t) _ (line_piece column br t h.1) (lines_piece column br ts h.2)
