-- Where a piece may be cut out of its text.
use Rattle.std.proofs.Common.{◌≡◌, ℕ, suc, ◌+◌, ◌-◌, ◌<◌, ◌≤◌, true, eqb, List, [], ◌∷◌, ◌++◌, length, take, drop, get_or, refl, sym, ap}
use Rattle.std.proofs.Common.{◌∙◌, subst, inl, ◌⊎◌, ⊎_elim, arith, eqb-true, append_assoc, append-nil, length-append, length-take}
use Rattle.std.{proofs.Common.{length-drop, min, ℤ, rules}, proofs.lemmas.Bool.{false≢true, and_parts, cases_Bool}}
use Rattle.std.{proofs.lemmas.List.{take-append-drop, drop-drop}, proofs.Math.Seq.{take-append_seam, drop-append_seam}}
use Rattle.std.{specs.Str.{IsUtf8, IsCharBoundary}, proofs.lemmas.Str.IsCharBoundary-after_ascii}
use Rattle.yq_core.{proofs.DetectedLaws.detect_back, proofs.HeaderLaws.{tail_no_indicator, indicators_again}, proofs.RawLaws.raw_lines}
use Rattle.yq_core.specs.Block.{RawLines, AreRaw, style_indicator, is_tail, BlockText, block_text, IsBlock, IsBlockPiece}
use Rattle.yq_core.{specs.BlockContent.block_content, specs.BlockReading.{indent_of, block_piece_content, indicators_at, values}}
use Rattle.yq_core.{specs.Piece.deeper, specs.Text.{joined, is_line}, specs.declared.block_lines.TextIndent.TextIndent}
use Rattle.yq_core.{specs.declared.piece.Piece.Piece, proofs.LineLaws.is_empty_is}

-- a text that ends in LF
abbrev pub IsLf : List ℕ → Type 0
IsLf t = (front : List ℕ) × (t ≡ front ++ 10 ∷ [])

pub line_lf : (l : List ℕ) → is_line l ≡ true → IsLf l
unfolding is_line
line_lf [] h = absurd (false≢true h)
line_lf (b ∷ l) h = ⊎_elim {0, 0, 0}
    (λ e. let last : l ≡ [] = is_empty_is l (rw e at h) in ([], rw last (ap (λ x. x ∷ []) (eqb-true b 10 e))))
    (λ e. let again = line_lf l (rw e at h) in (b ∷ again.0, ap (λ x. b ∷ x) again.1))
    (cases_Bool (eqb b 10))

pub append_lf : (a t : List ℕ) → IsLf t → IsLf (a ++ t)
append_lf a t h = (a ++ h.0, ap (λ x. a ++ x) h.1 ∙ sym (append_assoc a h.0 (10 ∷ [])))

pub raw_lf : (f : TextIndent) (raw : RawLines) → AreRaw f raw → (joined raw ≡ []) ⊎ IsLf (joined raw)
raw_lf f [] h = inl refl
raw_lf f (l ∷ raw) h = search (rules, ⊎_elim, line_lf, append-nil, append_lf, raw_lf f raw h.1)

seam_byte : (a r : List ℕ) → (get_or (a ++ (10 ∷ r)) (length a) 0 ≡ 10) × (length a < length (a ++ (10 ∷ r)))
seam_byte [] r = (refl, omega arith)
seam_byte (b ∷ a) r = let again = seam_byte a r in (again.0, let lt : length a < length (a ++ (10 ∷ r)) = again.1 in omega arith)

pub cut_lf : (t a r : List ℕ) (n : ℕ) → t ≡ a ++ r → IsLf a → n ≡ length a → IsUtf8 t → IsCharBoundary t n
cut_lf t a r n is lf at_ u =
    let text : t ≡ lf.0 ++ (10 ∷ r) = is ∙ (ap (λ x. x ++ r) lf.1 ∙ append_assoc lf.0 (10 ∷ []) r) in
    let byte = seam_byte lf.0 r in
    let ten : get_or t (length lf.0) 0 ≡ 10 = ap (λ x. get_or x (length lf.0) 0) text ∙ byte.0 in
    let low : get_or t (length lf.0) 0 < 128 = omega arith in
    let all : length t ≡ length (lf.0 ++ (10 ∷ r)) = ap length text in
    let within : length lf.0 < length t = omega (arith, byte.1) in
    let long : length a ≡ length lf.0 + 1 = ap length lf.1 ∙ length-append lf.0 (10 ∷ []) in
    let same : length lf.0 + 1 ≡ n = omega arith in
    subst (IsCharBoundary t) same (IsCharBoundary-after_ascii t (length lf.0) u within low)

-- the header of a block scalar, read again
pub indicators_back : (least : ℕ) (b : BlockText) (rest : List ℕ) → IsBlock least b rest → values (indicators_at (drop 1 (block_text b rest))) ≡ (b.digit, b.chomping, b.tail ++ (joined b.raw ++ rest))
indicators_back least b rest h =
    ap values (indicators_again b.digit b.chomping b.indicators (b.tail ++ (joined b.raw ++ rest)) h.indicators (tail_no_indicator b.tail (joined b.raw ++ rest) h.tail))

-- the raw lines, cut out
pub raw_back : (b : BlockText) (rest : List ℕ) → take (length (joined b.raw)) (drop (1 + length b.indicators + length b.tail) (block_text b rest)) ≡ joined b.raw
raw_back b rest =
    let after = joined b.raw ++ rest in
    let cut : drop (suc (length (b.indicators ++ b.tail))) (block_text b rest) ≡ after = ap (drop (length (b.indicators ++ b.tail))) (sym (append_assoc b.indicators b.tail after)) ∙ drop-append_seam (b.indicators ++ b.tail) after in
    search (rules, length-append, take-append_seam, cut)

-- where the pieces of a block scalar at an offset are
pub record IsLocatedAt (text : List ℕ) (p : Piece) : Type 0 where
  pub header : p.start < length text
  pub order : p.raw_start ≤ p.end
  pub begins : IsCharBoundary text p.raw_start
  pub ends : IsCharBoundary text p.end

head_lf : (b : BlockText) → is_tail b.tail ≡ true → IsLf ((style_indicator b.style ∷ b.indicators) ++ b.tail)
head_lf b h = append_lf (style_indicator b.style ∷ b.indicators) b.tail (line_lf b.tail (and_parts (is_line b.tail) _ h).0)

pub is_located : (n : ℤ) (text : List ℕ) (p : Piece) → IsUtf8 text → IsBlockPiece n p.start text p → IsLocatedAt text p
is_located n text p u h =
    let b = h.block in
    let before = take p.start text in
    let head : List ℕ = (style_indicator b.style ∷ b.indicators) ++ b.tail in
    let raw = joined b.raw in
    let raw_is : p.raw_start ≡ p.start + 1 + length b.indicators + length b.tail = ap (λ (q : Piece). q.raw_start) h.piece in
    let end_is : p.end ≡ p.start + 1 + length b.indicators + length b.tail + length raw = ap (λ (q : Piece). q.end) h.piece in
    let after : length text - p.start ≡ suc (length (b.indicators ++ (b.tail ++ (raw ++ h.rest)))) = sym (length-drop p.start text) ∙ ap length h.is_located in
    let start_len : length before ≡ min p.start (length text) = length-take p.start text in
    let head_len : length head ≡ suc (length b.indicators) + length b.tail = length-append (style_indicator b.style ∷ b.indicators) b.tail in
    let to_raw : text ≡ (before ++ head) ++ (raw ++ h.rest) = search (rules, take-append-drop, append_assoc, before) in
    let to_end : text ≡ ((before ++ head) ++ raw) ++ h.rest = to_raw ∙ sym (append_assoc (before ++ head) raw h.rest) in
    search (rules, ⊎_elim, cut_lf, append_lf, raw_lf, head_lf, length-append, b, head, to_raw, before, to_end, raw)

-- what is read at the piece of a block scalar is what that means
pub content_is : (n : ℤ) (text : List ℕ) (p : Piece) (h : IsBlockPiece n p.start text p) → block_piece_content text p ≡ block_content h.block
unfolding block_piece_content indent_of
content_is n text p h =
    let b = h.block in
    let least = deeper n in
    let raw_len_ : p.end - p.raw_start ≡ length (joined b.raw) = (let e = ap (λ (q : Piece). q.end) h.piece in let s = ap (λ (q : Piece). q.raw_start) h.piece in omega (arith, e, s)) in
    let header : drop (p.start + 1) text ≡ drop 1 (block_text b h.rest) = sym (drop-drop 1 p.start text) ∙ ap (drop 1) h.is_located in
    let after : drop p.raw_start text ≡ drop (1 + length b.indicators + length b.tail) (block_text b h.rest) = search (rules, drop-drop, b) in
    search (rules, indicators_back, raw_back, raw_lines, detect_back, raw_len_, header, least, b, after)
