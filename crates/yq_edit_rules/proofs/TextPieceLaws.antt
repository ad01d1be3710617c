-- Pieces of a text, joined and cut.
use Rattle.std.proofs.Common.{arith, ◌≡◌, ℕ, false, List, [], ◌∷◌, ◌++◌, length, refl, sym, ◌∙◌, subst, append_assoc, length-append, rules}
use Rattle.std.proofs.Math.Seq.{take-append_seam, drop-append_seam}
use Rattle.std.proofs.lemmas.Str.{IsCharBoundary-from_take, IsUtf8-append, IsUtf8-drop, IsUtf8-from_is_utf8, IsUtf8-take, IsUtf8-nil}
use Rattle.std.{proofs.lemmas.Bool.{and_from, and_parts}, specs.Str.{IsUtf8, IsCharBoundary, chars}}
use Rattle.yq_core.{specs.Characters.pairs_returns, specs.Text.{front, is_feed}, proofs.Bools.guard_then}
use Rattle.yq_row_table.specs.Rows.{cut_text}
use Rattle.yq_row_table.proofs.CharacterLaws.{all_text, all_join, pairs_join, pairs_back, pairs_front, pairs_cut, EndsBlack}
use Rattle.yq_row_table.proofs.NodePieces.{EndsAscii, BeginsAscii, following_ascii, before_ascii}
use Rattle.yq_documents.{specs.Reading.read_at, proofs.ReadLaws.text_takes}
use Rattle.yq_edit_rules.specs.TextPieces.{IsPiece, TextIsPiece, PiecesJoined, LineCut, BeginsPiece, ByteCut}

pub nothing : IsPiece []
unfolding chars pairs_returns
nothing = record { utf8 = IsUtf8-nil; characters = refl }

pub pieces_joined : PiecesJoined
pieces_joined a b h k =
    let x = and_parts (all_text a) (pairs_returns a) h.characters in
    let y = and_parts (all_text b) (pairs_returns b) k.characters in
    record {
      utf8 = IsUtf8-append a b h.utf8 k.utf8;
      characters = and_from _ _ (all_join a b h.utf8 ∙ and_from _ _ x.0 y.0) (pairs_join a b x.1 y.1);
    }

-- the text of a cut that reads
pub text_is_piece : TextIsPiece
unfolding read_at
text_is_piece c h =
    let x = guard_then _ h in
    record { utf8 = IsUtf8-from_is_utf8 (cut_text c) x.0; characters = (text_takes (cut_text c) c x.1).0.characters }

-- ---- a text cut in two

-- What is on both sides of a place in a text: no LF comes after it, or a byte other than CR before it.
data MayCut : List ℕ → List ℕ → Type 0 where
  before : {a b : List ℕ} → front is_feed b ≡ false → MayCut a b
  after : {a b : List ℕ} → EndsBlack a → MayCut a b

-- after a text that is UTF-8
pub piece_back : (a b : List ℕ) → IsUtf8 a → IsPiece (a ++ b) → IsPiece b
piece_back a b u h =
    let x = and_parts (all_text (a ++ b)) (pairs_returns (a ++ b)) h.characters in
    let y = and_parts (all_text a) (all_text b) (sym (all_join a b u) ∙ x.0) in
    let start : IsCharBoundary (a ++ b) (length a) = IsCharBoundary-from_take (a ++ b) (length a) h.utf8 (omega (arith, length-append a b)) (subst IsUtf8 (sym (take-append_seam a b)) u) in
    record { utf8 = subst IsUtf8 (drop-append_seam a b) (IsUtf8-drop (a ++ b) (length a) h.utf8 start); characters = and_from _ _ y.1 (pairs_back a b x.1) }

pieces_cut : (a b : List ℕ) → IsPiece (a ++ b) → IsUtf8 a → MayCut a b → IsPiece a × IsPiece b
pieces_cut a b h u may = search (rules, and_parts, all_text, all_join, and_from, pairs_front, append_assoc, pairs_cut, piece_back)

-- after an ASCII byte that is no CR
pub cut_after : (a b : List ℕ) → IsPiece (a ++ b) → EndsAscii a → EndsBlack a → IsPiece a × IsPiece b
cut_after a b h e k = pieces_cut a b h (subst IsUtf8 (take-append_seam a b) (IsUtf8-take (a ++ b) (length a) h.utf8 (following_ascii a b h.utf8 e))) (after k)

pub line_cut : LineCut
line_cut a b h = cut_after (a ++ 10 ∷ []) b h (record { front = a; last = 10; is = refl; ascii = omega arith }) (record { front = a; last = 10; is = refl; no_return = refl })

-- before an ASCII byte that is no LF, or at the end
ascii_front : (b : List ℕ) → BeginsPiece b → BeginsAscii b × (front is_feed b ≡ false)
ascii_front b h = search rules

pub byte_cut : ByteCut
byte_cut a b h e =
    let x = ascii_front b e in
    pieces_cut a b h (subst IsUtf8 (take-append_seam a b) (IsUtf8-take (a ++ b) (length a) h.utf8 (before_ascii a b x.0))) (before x.1)
