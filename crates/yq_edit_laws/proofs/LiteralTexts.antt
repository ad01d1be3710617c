-- What literal block scalars hold and how they are written: line breaks alone without a known indentation, pieces of a text.
use Rattle.std.proofs.Common.{◌≡◌, ◌⊎◌, inl, inr, ℕ, zero, suc, ◌+◌, not, ◌&&◌, List, [], ◌∷◌, ◌++◌, replicate, Bool, true, false, refl}
use Rattle.std.{proofs.Common.{sym, ap, ◌∙◌, subst, append-nil, eqb-true, rules}, proofs.lemmas.Bool.{false≢true, and_parts, cases_Bool}}
use Rattle.std.{proofs.lemmas.List.Folds.list_all-append, specs.List.{list_all, list_any}, specs.Str.{IsUtf8, chars}}
use Rattle.yq_core.specs.Block.{BlockText, RawLines, AreRaw, ends_block}
use Rattle.yq_core.specs.BlockContent.{block_content, optional_break, folded, literal, text_of_line}
use Rattle.yq_core.{specs.BlockWritten.{break_text, header_text, indented_text, raw_written, written_line}, specs.Characters.is_text_char}
use Rattle.yq_core.{specs.Scalar.ScalarText, specs.Text.{ends_line, is_feed, is_line, joined, text_lines, upto}}
use Rattle.yq_core.specs.Writable.{can_write, is_literal_char, is_literal_text, is_string}
use Rattle.yq_core.{specs.declared.block_types.LineBefore.LineBefore, specs.declared.block_header.Chomping.Chomping}
use Rattle.yq_core.{specs.declared.block_lines.TextIndent.TextIndent, specs.declared.block_types.Break.Break}
use Rattle.yq_core.{proofs.BlockWrittenLines.{Good, IsText, NoCr, indented_some, lines_good}, proofs.Bytes.Each}
use Rattle.yq_core.{proofs.LineLaws.{AreLines, joined_lines, lines_are}, proofs.LiteralText.literal_can}
use Rattle.yq_edit_rules.{specs.TextPieces.IsPiece, proofs.TextPieceLaws.{line_cut, pieces_joined, nothing}}
use Rattle.yq_edit_rules.proofs.RemovalPieceLaws.{spaces_piece}
use Rattle.yq_edit_rules.proofs.CommentPieceLaws.{break_piece, byte_then, front_piece, no_return, text_piece}
use Rattle.yq_core.specs.declared.block_header.Chomping.TheVariants as chompings
use Rattle.yq_core.specs.declared.style.Place.TheVariants as places
use Rattle.yq_core.specs.declared.style.Style.TheVariants as styles

-- ---- without a known indentation a block scalar holds line breaks alone

no_part : (t : List ℕ) → ends_line t ≡ true → text_of_line t ≡ []
unfolding upto
no_part t h = search rules

feeds : (k : ℕ) → list_all is_feed (replicate k 10) ≡ true
feeds zero = refl
feeds (suc k) = feeds k

broken_feeds : (b : Bool) → list_all is_feed (optional_break b) ≡ true
broken_feeds b = search rules

literal_feeds : (strip : Bool) (f : TextIndent) (ls : RawLines) → f.known ≡ false → AreRaw f ls → list_all is_feed (literal strip f ls) ≡ true
unfolding literal
literal_feeds strip f [] known raw = refl
literal_feeds strip f (l ∷ ls) known raw = search (rules, no_part, and_parts, false≢true, list_all-append, broken_feeds, literal_feeds strip f ls known raw.1)

folded_feeds : (c : Chomping) (f : TextIndent) (b : LineBefore) (k : ℕ) (ls : RawLines) → f.known ≡ false → AreRaw f ls → list_all is_feed (folded c f b k ls) ≡ true
unfolding folded
folded_feeds c f b k [] known raw = search (rules, feeds)
folded_feeds c f b k (l ∷ ls) known raw = search (rules, no_part, and_parts, false≢true, folded_feeds c f b (k + 1) ls known raw.1)

no_others : (t : List ℕ) → list_all is_feed t ≡ true → list_any (λ b. not (is_feed b)) t ≡ false
no_others [] h = refl
no_others (b ∷ t) h = let both = and_parts (is_feed b) (list_all is_feed t) h in rw (both.0, no_others t both.1) refl

pub known_text : (b : BlockText) → AreRaw b.indent b.raw → list_any (λ x. not (is_feed x)) (block_content b) ≡ true → b.indent.known ≡ true
known_text b raw h = search (rules, cases_Bool, false≢true, no_others, literal_feeds, folded_feeds)

-- ---- its indentation, and what comes after it

pub loose : (keep : Bool) (f : TextIndent) (ls : RawLines) → ends_block keep f ls ≡ true → ends_block false f ls ≡ true
unfolding ends_block
loose false f ls h = h
loose true f [] h = refl
loose true f (l ∷ ls) h = search (rules, false≢true)

-- ---- pieces

text_no_return : (t : List ℕ) → IsText t → Each no_return t
text_no_return [] h = tt
text_no_return (b ∷ t) h = (ap not h.1, text_no_return t h.2)

whole_no_return : (t : List ℕ) → NoCr t → Each no_return t
whole_no_return [] h = tt
whole_no_return (b ∷ t) h = (ap not h.0, whole_no_return t h.1)

literal_is_text : (c : ℕ) → is_literal_char c ≡ true → is_text_char c ≡ true
literal_is_text c h = search (rules, and_parts, eqb-true, false≢true)

string_piece : (s : ScalarText) → IsUtf8 s.text → can_write s styles.Literal places.Block ≡ true → IsPiece s.text
string_piece s u can =
    let t : List ℕ = s.text in
    let text : is_literal_text t ≡ true = (and_parts (is_string s.kind && true) (is_literal_text t) can).1 in
    text_piece is_literal_char t u literal_is_text (and_parts _ (list_all is_literal_char (chars t)) text).1 (whole_no_return t (literal_can t u text).plain)

indented_piece : (m : ℕ) (t : List ℕ) → IsPiece t → IsPiece (indented_text m t)
indented_piece m [] h = nothing
indented_piece m (b ∷ t) h = subst IsPiece (sym (indented_some m b t)) (pieces_joined (replicate m 32) (b ∷ t) (spaces_piece m) h)

line_piece : (m : ℕ) (br : Break) (l : List ℕ) → IsPiece (text_of_line l) → IsPiece (written_line m (break_text br) l)
line_piece m br l h = pieces_joined (indented_text m (text_of_line l)) (break_text br) (indented_piece m (text_of_line l) h) (break_piece br)

written_piece : (m : ℕ) (br : Break) (ls : RawLines) → AreLines ls → Good ls → IsPiece (joined ls) → IsPiece (joined (raw_written m (break_text br) ls))
unfolding raw_written
written_piece m br [] are good h = nothing
written_piece m br (l ∷ ls) are good h =
    go (λ a b. pieces_joined (written_line m (break_text br) l) (joined (raw_written m (break_text br) ls)) (line_piece m br l a) (written_piece m br ls are.1 good.1 b)) (is_line l) refl are.0
  where
    go : (IsPiece (text_of_line l) → IsPiece (joined ls) → IsPiece (joined (raw_written m (break_text br) (l ∷ ls)))) → (b : Bool) → is_line l ≡ b → (is_line l ≡ true) ⊎ (ls ≡ []) → IsPiece (joined (raw_written m (break_text br) (l ∷ ls)))
    go join true e more =
        let own : l ≡ text_of_line l ++ 10 ∷ [] = good.0.1 ∙ ap (λ b. text_of_line l ++ optional_break b) e in
        let cut = line_cut (text_of_line l) (joined ls) (subst IsPiece (ap (λ x. x ++ joined ls) own) h) in
        join (front_piece (text_of_line l) cut.0 (text_no_return (text_of_line l) good.0.0)) cut.1
    go join false e (inl more) = absurd (false≢true (sym e ∙ more))
    go join false e (inr none) = search (rules, append-nil, nothing)

pub raw_piece : (m : ℕ) (br : Break) (s : ScalarText) → IsUtf8 s.text → can_write s styles.Literal places.Block ≡ true → IsPiece (joined (raw_written m (break_text br) (text_lines s.text)))
raw_piece m br s u can =
    let text : is_literal_text s.text ≡ true = (and_parts (is_string s.kind && true) (is_literal_text s.text) can).1 in
    written_piece m br (text_lines s.text) (lines_are s.text) (lines_good s.text (literal_can s.text u text).plain) (subst IsPiece (sym (joined_lines s.text)) (string_piece s u can))

pub header_piece : (c : Chomping) → IsPiece (header_text c)
header_piece chompings.Strip = byte_then 124 (45 ∷ []) refl (byte_then 45 [] refl nothing)
header_piece chompings.Clip = byte_then 124 [] refl nothing
header_piece chompings.Keep = byte_then 124 (43 ∷ []) refl (byte_then 43 [] refl nothing)
