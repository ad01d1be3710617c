-- Spaces that end a text, and the text around an item or entry.
use Rattle.std.proofs.Common.{◌≡◌, inl, ℕ, zero, suc, ◌+◌, ◌-◌, ◌<◌, ◌≤◌, eqb, Bool, true, false, cond, ◌&&◌, List, [], ◌∷◌, ◌++◌, length}
use Rattle.std.proofs.Common.{take, drop, slice_index, Option, Some, None, option_map, refl, sym, ap, ◌∙◌, subst, arith, append_assoc}
use Rattle.std.{proofs.Common.{length-append, rules}, proofs.Math.Seq.{drop-append_seam, take-append_seam}}
use Rattle.std.{proofs.lemmas.Bool.{eqb-true, ne_eqb, and_parts}, proofs.lemmas.List.length-take-le}
use Rattle.std.proofs.lemmas.Str.{IsCharBoundary-at_seam, IsUtf8-drop, IsUtf8-from_ascii}
use Rattle.std.{proofs.lemmas.Str.Ascii.{IsAscii-nil, IsAscii-cons}, specs.Str.{IsAscii, IsUtf8, IsCharBoundary}}
use Rattle.yq_core.{specs.Answers.◌>>=◌, proofs.Bools.bind_some, specs.Spans.IsSpan}
use Rattle.yq_row_table.{specs.Grammar.IsCut, specs.Rows.Cut}
use Rattle.yq_documents.{specs.declared.path.Path.Path, specs.Located.steps_of, specs.Pieces.{TextPiece, piece_span}}
use Rattle.yq_documents.{specs.Reading.all_documents, specs.LinesInRows.{RowLine, row_line_at}}
use Rattle.yq_outline.specs.declared.line_position.Position.{Position}
use Rattle.yq_places.specs.FirstPlaces.{are_spaces, less_spaces, end_spaces, first_out, first_removal}
use Rattle.yq_places.{specs.PathPieces.{printed_document, path_piece}, specs.RowLineReading.position_in, specs.EntryReading.line_entry_at}
use Rattle.yq_places.{proofs.EntryPlaceLaws.row_line_entry, proofs.EntryPlacedLaws.entries_placed, proofs.PieceHolds.spans_are}
use Rattle.yq_places.{proofs.PieceTexts.{document_whole, piece_whole}, proofs.PrintedTexts.map_some}
use Rattle.yq_documents.specs.declared.path.Part.TheVariants as parts

-- ---- the spaces that end a text

spaces_more : (b : ℕ) (t : List ℕ) → are_spaces t ≡ false → are_spaces (b ∷ t) ≡ false
spaces_more b t e = search rules

-- a space after a text
spaces_stay : (t : List ℕ) (n : ℕ) → n < length t → slice_index t n ≡ 32 → are_spaces (take (suc n) t) ≡ are_spaces (take n t)
spaces_stay [] n h e = absurd (omega (arith, h))
spaces_stay (b ∷ t) zero h e = ap (λ (c : ℕ). eqb c 32 && true) e
spaces_stay (b ∷ t) (suc n) h e = ap (λ (c : Bool). eqb b 32 && c) (spaces_stay t n (omega (arith, h)) e)

pub space_less : (t : List ℕ) (n : ℕ) → n < length t → slice_index t n ≡ 32 → less_spaces (take (suc n) t) ≡ less_spaces (take n t)
unfolding less_spaces
space_less [] n h e = absurd (omega (arith, h))
space_less (b ∷ t) zero h e = ap (λ (c : ℕ). cond (eqb c 32 && true) [] (c ∷ [])) e
space_less (b ∷ t) (suc n) h e = λ i. cond (spaces_stay (b ∷ t) (suc n) h e i) [] (b ∷ space_less t n (omega (arith, h)) e i)

-- another byte after it
other_spaces : (t : List ℕ) (n : ℕ) → n < length t → (slice_index t n ≡ 32 → ⊥) → are_spaces (take (suc n) t) ≡ false
other_spaces [] n h e = absurd (omega (arith, h))
other_spaces (b ∷ t) zero h e = ap (λ c. c && true) (ne_eqb b 32 e)
other_spaces (b ∷ t) (suc n) h e = spaces_more b (take (suc n) t) (other_spaces t n (omega (arith, h)) e)

pub other_less : (t : List ℕ) (n : ℕ) → n < length t → (slice_index t n ≡ 32 → ⊥) → less_spaces (take (suc n) t) ≡ take (suc n) t
unfolding less_spaces
other_less [] n h e = absurd (omega (arith, h))
other_less (b ∷ t) zero h e = ap (λ c. cond c [] (b ∷ [])) (other_spaces (b ∷ t) zero h e)
other_less (b ∷ t) (suc n) h e = λ i. cond (other_spaces (b ∷ t) (suc n) h e i) [] (b ∷ other_less t n (omega (arith, h)) e i)

pub none_less : (t : List ℕ) (n : ℕ) → n ≡ 0 → length (less_spaces (take n t)) ≡ n
unfolding less_spaces
none_less t n e = ap (λ k. length (less_spaces (take k t))) e ∙ sym e

pub some_less : (t : List ℕ) (n : ℕ) → 0 < n → n ≤ length t → (slice_index t (n - 1) ≡ 32 → ⊥) → length (less_spaces (take n t)) ≡ n
some_less t n h1 h2 h3 = search (rules, other_less, slice_index, length-take-le)

pub step_less : (t : List ℕ) (n : ℕ) → 0 < n → n ≤ length t → slice_index t (n - 1) ≡ 32 → less_spaces (take n t) ≡ less_spaces (take (n - 1) t)
step_less t n h1 h2 h3 = search (rules, space_less, slice_index)

-- a text in two
pub spaces_parts : (t : List ℕ) → t ≡ less_spaces t ++ end_spaces t
unfolding less_spaces
spaces_parts [] = refl
spaces_parts (b ∷ t) = go (are_spaces (b ∷ t)) (spaces_parts t)
  where
    go : (c : Bool) → t ≡ less_spaces t ++ drop (length (less_spaces t)) t → b ∷ t ≡ cond c [] (b ∷ less_spaces t) ++ drop (length (cond c [] (b ∷ less_spaces t))) (b ∷ t)
    go c h1 = search rules

end_is : (t : List ℕ) → are_spaces (end_spaces t) ≡ true
unfolding less_spaces
end_is [] = refl
end_is (b ∷ t) = go (are_spaces (b ∷ t)) refl (end_is t)
  where
    go : (c : Bool) → are_spaces (b ∷ t) ≡ c → are_spaces (drop (length (less_spaces t)) t) ≡ true → are_spaces (drop (length (cond c [] (b ∷ less_spaces t))) (b ∷ t)) ≡ true
    go c h1 h2 = search rules

spaces_ascii : (t : List ℕ) → are_spaces t ≡ true → IsAscii t
spaces_ascii [] e = IsAscii-nil
spaces_ascii (b ∷ t) e =
    let x = and_parts (eqb b 32) (are_spaces t) e in
    let same : b ≡ 32 = eqb-true b 32 x.0 in
    IsAscii-cons b t (omega (arith, same)) (spaces_ascii t x.1)

pub spaces_boundary : (t : List ℕ) (n : ℕ) → n ≡ length (less_spaces t) → IsCharBoundary t n
spaces_boundary t n e =
    subst (IsCharBoundary t) (sym e) (IsCharBoundary-at_seam t (less_spaces t) (end_spaces t) (spaces_parts t) (IsUtf8-from_ascii (end_spaces t) (spaces_ascii (end_spaces t) (end_is t))))

pub front_less : (t : List ℕ) (n : ℕ) → n ≡ length (less_spaces t) → take n t ≡ less_spaces t
front_less t n e = (λ i. take (e i) (spaces_parts t i)) ∙ take-append_seam (less_spaces t) (end_spaces t)

-- ---- the text around an item or entry

-- An item or entry at a path is between two places of a text.
pub record EntryIsThere (t : List ℕ) (c : Cut) (path : Path) (start end : ℕ) : Type 0 where
  pub piece : TextPiece
  pub is : path_piece path parts.Entry c ≡ Some piece
  pub order : start ≤ end
  pub begins : IsCharBoundary t start
  pub ends : IsCharBoundary (drop start t) (end - start)
  pub before_is : take start t ≡ piece.before
  pub text_is : take (end - start) (drop start t) ≡ piece.text
  pub following_is : drop (end - start) (drop start t) ≡ piece.after

-- the place of a line's entry or item is that of the piece
entry_is : (t : List ℕ) (c : Cut) (path : Path) (k : ℕ) (n : Position) → IsCut t c → all_documents c ≡ true →
    Some n ≡ option_map (position_in k) (row_line_at path c) → line_entry_at path c ≡ option_map piece_span (path_piece path parts.Entry c)
entry_is t c path k n cut sound there = row_line_entry path c k n there ∙ sym (spans_are t c path cut sound).1

pub entry_is_there : (t : List ℕ) (c : Cut) (path : Path) (start end : ℕ) → IsUtf8 t → IsCut t c → all_documents c ≡ true → (k : ℕ) (n : Position) →
    Some n ≡ option_map (position_in k) (row_line_at path c) → Some (start, end) ≡ line_entry_at path c →
    EntryIsThere t c path start end
entry_is_there t c path start end u cut sound k n there at =
    let e : Some (start, end) ≡ option_map piece_span (path_piece path parts.Entry c) = at ∙ entry_is t c path k n cut sound there in
    let w = map_some (path_piece path parts.Entry c) (sym e) in
    let x : TextPiece = w.0 in
    let s = bind_some (printed_document path.doc c) w.1 in
    let text : t ≡ x.before ++ (x.text ++ x.after) = cut.text ∙ sym (piece_whole parts.Entry (steps_of path) s.0 x s.2 ∙ document_whole path.doc c s.0 s.1) in
    let span : IsSpan t start end = entries_placed t c path (start, end) cut u (inl (sym (spans_are t c path cut sound).1 ∙ sym e)) in
    let from : start ≡ length x.before = ap (λ (y : ℕ × ℕ). y.0) (sym w.2) in
    let to : end ≡ length x.before + length x.text = ap (λ (y : ℕ × ℕ). y.1) (sym w.2) in
    let size : end - start ≡ length x.text = omega (arith, from, to) in
    let whole : t ≡ (x.before ++ x.text) ++ x.after = text ∙ sym (append_assoc x.before x.text x.after) in
    let stop : end ≡ length (x.before ++ x.text) = omega (arith, to, length-append x.before x.text) in
    let tail : drop end t ≡ x.after = (λ i. drop (stop i) (whole i)) ∙ drop-append_seam (x.before ++ x.text) x.after in
    let rest : drop start t ≡ x.text ++ x.after = (λ i. drop (from i) (text i)) ∙ drop-append_seam x.before (x.text ++ x.after) in
    record {
      piece = x;
      is = w.1;
      order = span.ordered;
      begins = span.begins;
      ends = subst (IsCharBoundary (drop start t)) (sym size) (IsCharBoundary-at_seam (drop start t) x.text x.after rest (subst IsUtf8 tail (IsUtf8-drop t end u span.ends)));
      before_is = (λ i. take (from i) (text i)) ∙ take-append_seam x.before (x.text ++ x.after);
      text_is = (λ i. take (size i) (rest i)) ∙ take-append_seam x.text x.after;
      following_is = (λ i. drop (size i) (rest i)) ∙ drop-append_seam x.text x.after;
    }

-- ---- what the code tells of it

-- what is known of the line of an item or entry
abbrev first_out_of : Option RowLine → Option TextPiece → Option TextPiece
first_out_of o e = option_map first_out (o >>= λ s. cond (eqb s.line 0) None e)

pub no_first_row_line : (path : Path) (c : Cut) (k : ℕ) → None ≡ option_map (position_in k) (row_line_at path c) → None ≡ first_removal path.doc (steps_of path) c
no_first_row_line path c k e = search rules

pub other_first_line : (path : Path) (c : Cut) (k : ℕ) (n : Position) → Some n ≡ option_map (position_in k) (row_line_at path c) → n.line ≡ 0 → None ≡ first_removal path.doc (steps_of path) c
other_first_line path c k n e zero_is = search rules

pub no_first_entry : (t : List ℕ) (c : Cut) (path : Path) (k : ℕ) (n : Position) → IsCut t c → all_documents c ≡ true →
    Some n ≡ option_map (position_in k) (row_line_at path c) → None ≡ line_entry_at path c → None ≡ first_removal path.doc (steps_of path) c
no_first_entry t c path k n cut sound there e =
    let either : (b : Bool) → None ≡ option_map first_out (cond b None None) = λ b. search rules in
    let go : (x : Option TextPiece) → None ≡ option_map piece_span x → (o : Option RowLine) → None ≡ first_out_of o x = λ x h1 o. search rules in
    go (path_piece path parts.Entry c) (e ∙ entry_is t c path k n cut sound there) (row_line_at path c)

pub first_is : (path : Path) (c : Cut) (k : ℕ) (n : Position) (x : TextPiece) → Some n ≡ option_map (position_in k) (row_line_at path c) →
    (n.line ≡ 0 → ⊥) → path_piece path parts.Entry c ≡ Some x → Some (first_out x) ≡ first_removal path.doc (steps_of path) c
first_is path c k n x e other is = search rules
