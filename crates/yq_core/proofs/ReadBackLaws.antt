-- What is written is read back.
use Rattle.std.proofs.Common.{◌≡◌, ℕ, ◌≤◌, true, false, ◌&&◌, eqb, List, [], ◌∷◌, ◌++◌, length, refl, sym, ap, ◌∙◌, append-nil, ℤ, rules}
use Rattle.std.{proofs.Math.Bool.and-false, proofs.Math.Seq.drop-append_seam, proofs.lemmas.Bool.{and_parts, or_parts}, specs.List.list_all}
use Rattle.std.specs.Str.{IsUtf8, chars}
use Rattle.yq_core.{specs.declared.block_types.Break.Break, specs.declared.style.Place.Place}
use Rattle.yq_core.specs.Block.{BlockText, IsBlock, IsBlockPiece, block_text, block_piece, ends_block, is_tail}
use Rattle.yq_core.{specs.BlockWritten.{break_text, written_block}, specs.ScalarPiece.piece_content}
use Rattle.yq_core.{specs.Piece.{IsPlainPiece, deeper, further_spaces}, specs.Plain.{ends_plain, holds_break}}
use Rattle.yq_core.{specs.PlainContent.{ArePlain, IsPlainLines}, specs.Quoted.{Char, itself, spell_chars, chars_text, last}}
use Rattle.yq_core.{specs.QuotedPiece.IsQuotedPiece, specs.ReadBack.{string_between, put_piece, put_block, put_block_piece}}
use Rattle.yq_core.{specs.Scalar.{IsScalar, ScalarText, plain_of, string_of}, specs.Text.{is_feed, is_break, front, text_lines}}
use Rattle.yq_core.{specs.Writable.{can_write, in_flow, is_string, is_single_char}, specs.Written.{single, double}}
use Rattle.yq_core.proofs.LiteralText.{literal_block, literal_content}
use Rattle.yq_core.proofs.PieceContentLaws.{plain_piece_content, quoted_piece_content, block_piece_content}
use Rattle.yq_core.proofs.PlainSpells.{plain_line, string_kind, writable_text, writable_same, writable_piece}
use Rattle.yq_core.proofs.WrittenLaws.{Spells, single_spells, double_spells}
use Rattle.yq_core.specs.declared.style.Place.TheVariants as places
use Rattle.yq_core.specs.declared.style.Style.TheVariants as styles

string_same : (s : ScalarText) → is_string s.kind ≡ true → string_of s.text ≡ s
string_same s h = ap (λ k. record { kind = k; text = s.text }) (sym (string_kind s.kind h))

-- bytes that mean themselves
itselves : List ℕ → List Char
itselves [] = []
itselves (b ∷ t) = itself b ∷ itselves t

itselves_spelled : (t : List ℕ) → spell_chars (itselves t) ≡ t
unfolding itselves
itselves_spelled [] = refl
itselves_spelled (b ∷ t) = ap (λ x. b ∷ x) (itselves_spelled t)

itselves_text : (t : List ℕ) → chars_text (itselves t) ≡ t
unfolding itselves
itselves_text [] = refl
itselves_text (b ∷ t) = ap (λ x. b ∷ x) (itselves_text t)

no_break : (b : ℕ) (t : List ℕ) → holds_break (b ∷ t) ≡ false → is_break (b ∷ t) ≡ false
no_break b t h1 = search (rules, or_parts, and-false)

itselves_plain : (t : List ℕ) → holds_break t ≡ false → ArePlain (itselves t) []
unfolding itselves
itselves_plain [] h = tt
itselves_plain (b ∷ t) h = (ap (λ x. is_break (b ∷ x)) (append-nil (spell_chars (itselves t)) ∙ itselves_spelled t) ∙ no_break b t h, itselves_plain t (or_parts (is_feed b) (holds_break t) h).1)

one_line : (t : List ℕ) → holds_break t ≡ false → IsPlainLines (last (itselves t)) t
one_line t h = record { spelled = sym (itselves_spelled t); lines = itselves_plain t h }

-- plain
plain_is : (s : ScalarText) (place : Place) (n : ℤ) (before rest : List ℕ) → IsUtf8 s.text → IsScalar s.kind s.text → can_write s styles.Plain place ≡ true → ends_plain (in_flow place) (further_spaces place n) rest ≡ true →
    IsPlainPiece place n (length before) (string_between styles.Plain s.text before rest) (put_piece styles.Plain s.text before)
plain_is s place n before rest u i h e = record {
  scalar = s.text;
  rest = rest;
  is_located = drop-append_seam before (s.text ++ rest);
  plain = writable_piece s (in_flow place) (further_spaces place n) rest u i h e;
  piece = refl;
}

pub plain_back : (s : ScalarText) (place : Place) (n : ℤ) (before rest : List ℕ) → IsUtf8 s.text → IsScalar s.kind s.text → can_write s styles.Plain place ≡ true → ends_plain (in_flow place) (further_spaces place n) rest ≡ true →
    IsPlainPiece place n (length before) (string_between styles.Plain s.text before rest) (put_piece styles.Plain s.text before)
    × (piece_content (string_between styles.Plain s.text before rest) (put_piece styles.Plain s.text before) ≡ s.text)
    × (plain_of s.text ≡ s)
unfolding plain_is
plain_back s place n before rest u i h e =
    let is = plain_is s place n before rest u i h e in
    let line : holds_break s.text ≡ false = plain_line (in_flow place) s.text u (writable_text s.kind s.text (in_flow place) i h) in (
      is,
      plain_piece_content place n (length before) (string_between styles.Plain s.text before rest) (put_piece styles.Plain s.text before) is (last (itselves s.text)) (one_line s.text line) ∙ itselves_text s.text,
      writable_same s.kind s.text (in_flow place) i h,
    )

-- in quotes
single_is : (t before rest : List ℕ) → Spells 39 t (single t) rest → IsQuotedPiece (length before) (string_between styles.Single t before rest) (put_piece styles.Single t before)
single_is t before rest h = record { quote = 39; ls = last h.chars; scalar = single t; rest = rest; is_located = drop-append_seam before (single t ++ rest); quoted = h.is; piece = refl }

double_is : (t before rest : List ℕ) → Spells 34 t (double t) rest → IsQuotedPiece (length before) (string_between styles.Double t before rest) (put_piece styles.Double t before)
double_is t before rest h = record { quote = 34; ls = last h.chars; scalar = double t; rest = rest; is_located = drop-append_seam before (double t ++ rest); quoted = h.is; piece = refl }

pub single_back : (s : ScalarText) (place : Place) (before rest : List ℕ) → IsUtf8 s.text → can_write s styles.Single place ≡ true → front (λ b. eqb b 39) rest ≡ false →
    IsQuotedPiece (length before) (string_between styles.Single s.text before rest) (put_piece styles.Single s.text before)
    × (piece_content (string_between styles.Single s.text before rest) (put_piece styles.Single s.text before) ≡ s.text)
    × (string_of s.text ≡ s)
unfolding single_is
single_back s place before rest u h front_is =
    let can = and_parts (is_string s.kind) (list_all is_single_char (chars s.text)) h in
    let spells = single_spells s.text rest u can.1 front_is in
    let is = single_is s.text before rest spells in
    (is, quoted_piece_content (length before) (string_between styles.Single s.text before rest) (put_piece styles.Single s.text before) is ∙ spells.same, string_same s can.0)

pub double_back : (s : ScalarText) (place : Place) (before rest : List ℕ) → IsUtf8 s.text → can_write s styles.Double place ≡ true →
    IsQuotedPiece (length before) (string_between styles.Double s.text before rest) (put_piece styles.Double s.text before)
    × (piece_content (string_between styles.Double s.text before rest) (put_piece styles.Double s.text before) ≡ s.text)
    × (string_of s.text ≡ s)
unfolding double_is
double_back s place before rest u h =
    let spells = double_spells s.text rest u in
    let is = double_is s.text before rest spells in
    (is, quoted_piece_content (length before) (string_between styles.Double s.text before rest) (put_piece styles.Double s.text before) is ∙ spells.same, string_same s h)

-- literal
block_is : (n : ℤ) (b : BlockText) (before rest : List ℕ) → IsBlock (deeper n) b rest → IsBlockPiece n (length before) (before ++ block_text b rest) (block_piece (length before) b)
block_is n b before rest h = record { block = b; rest = rest; is_located = drop-append_seam before (block_text b rest); scalar = h; piece = refl }

pub literal_back : (s : ScalarText) (n : ℤ) (m : ℕ) (br : Break) (before tail rest : List ℕ) → IsUtf8 s.text → can_write s styles.Literal places.Block ≡ true → deeper n ≤ m → is_tail tail ≡ true →
    ends_block false (record { columns = m; known = true }) (text_lines rest) ≡ true →
    IsBlockPiece n (length before) (put_block s.text m br tail before rest) (put_block_piece s.text m br tail before)
    × (piece_content (put_block s.text m br tail before rest) (put_block_piece s.text m br tail before) ≡ s.text)
    × (string_of s.text ≡ s)
unfolding block_is
literal_back s n m br before tail rest u h deep line after =
    let b = written_block s.text m (break_text br) tail in
    let is = block_is n b before rest (literal_block (deeper n) m br s tail rest u h deep line after) in
    let can = and_parts (is_string s.kind && true) _ h in (
      is,
      block_piece_content n (put_block s.text m br tail before rest) (put_block_piece s.text m br tail before) is ∙ literal_content m br s tail u h,
      string_same s (and_parts (is_string s.kind) true can.0).0,
    )
