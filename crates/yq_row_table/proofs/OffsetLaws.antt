-- Rows by where they are in a text.
use Rattle.std.proofs.Common.{rules, ◌≡◌, ◌<◌, ◌≤◌, ℕ, zero, suc, ◌-◌, if◌then◌else◌, List, [], ◌∷◌, ◌++◌, length, map, take, drop}
use Rattle.std.{proofs.Common.{replicate, refl, sym, ap, ◌∙◌, subst, arith, append_assoc, length-append}, proofs.Math.Seq.drop-append_seam}
use Rattle.std.proofs.lemmas.List.{length-map, length-replicate, map-append, take-append-drop, take_at}
use Rattle.std.proofs.lemmas.Str.{IsCharBoundary-from_take, IsUtf8-drop, IsUtf8-from_ascii}
use Rattle.std.{proofs.lemmas.Str.Ascii.{IsAscii-nil, IsAscii-cons}, specs.Str.{IsAscii, IsUtf8, IsCharBoundary}}
use Rattle.yq_core.specs.Text.{is_empty}
use Rattle.yq_row_table.specs.Offsets.{Ends, pieces_of, slices_in, rows_in, AreCuts, IsCutIn, AreTexts, ParentAgrees, offsets_of}
use Rattle.yq_row_table.{specs.View.{Slices, slices_text}, proofs.FrontLaws.{front_drop, front_next, front_boundary}}
use Rattle.yq_row_table.specs.declared.offsets.Offsets as declared

-- what comes after a piece of the end of a text is one
pub ends_next : (whole t p rest : List ℕ) → Ends t whole → t ≡ p ++ rest → Ends rest whole
ends_next whole t p rest h e = front_drop whole _ rest (front_next whole t p rest h e)

-- pieces in front of a text
abbrev pub pieces_text : List (List ℕ) → List ℕ → List ℕ
pieces_text [] rest = rest
pieces_text (p ∷ ps) rest = p ++ pieces_text ps rest

abbrev pub AreAll : List (List ℕ) → Type 0
AreAll [] = Unit {0}
AreAll (p ∷ ps) = IsUtf8 p × AreAll ps

abbrev pub pieces : Slices → List (List ℕ)
pieces s = s.gap ∷ replicate s.column 32 ∷ s.dashes ∷ s.key ∷ s.colon ∷ s.space ∷ s.anchor ∷ s.apart ∷ s.head ∷ s.tail ∷ s.raw ∷ []

pieces_then : (ps : List (List ℕ)) (rest : List ℕ) → pieces_text ps rest ≡ pieces_text ps [] ++ rest
pieces_then [] rest = refl
pieces_then (p ∷ ps) rest = ap (λ l. p ++ l) (pieces_then ps rest) ∙ sym (append_assoc p (pieces_text ps []) rest)

pub row_then : (s : Slices) (rest : List ℕ) → slices_text s rest ≡ slices_text s [] ++ rest
row_then s rest = pieces_then (pieces s) rest

-- they are cut between characters
pub cuts : (ps : List (List ℕ)) (t rest : List ℕ) → t ≡ pieces_text ps rest → IsUtf8 t → AreAll ps → AreCuts t (map length ps)
cuts [] t rest e whole each = tt
cuts (p ∷ ps) t rest e whole each =
    let front : take (length p) t ≡ p = ap (take (length p)) e ∙ take_at p (pieces_text ps rest) (length p) refl in
    let after : drop (length p) t ≡ pieces_text ps rest = ap (drop (length p)) e ∙ drop-append_seam p (pieces_text ps rest) in
    let long = ap length e in
    let place : IsCharBoundary t (length p) = IsCharBoundary-from_take t (length p) whole (omega (arith, long, length-append p (pieces_text ps rest))) (subst IsUtf8 (sym front) each.0) in
    (place, cuts ps (drop (length p) t) rest after (IsUtf8-drop t (length p) whole place) each.1)

pub spaces_ascii : (n : ℕ) → IsAscii (replicate n 32)
spaces_ascii zero = IsAscii-nil
spaces_ascii (suc n) = IsAscii-cons 32 (replicate n 32) (omega arith) (spaces_ascii n)

pub spaces_text : (n : ℕ) → IsUtf8 (replicate n 32)
spaces_text n = IsUtf8-from_ascii (replicate n 32) (spaces_ascii n)

pub texts : (s : Slices) → AreTexts s → AreAll (pieces s)
texts s h = (h.gap, (spaces_text s.column, (h.dashes, (h.key, (h.colon, (h.space, (h.anchor, (h.apart, (h.head, (h.tail, (h.raw, tt)))))))))))

-- where a row is that was read in front of the end of a text
pub row_is_there : (whole t rest : List ℕ) (s : Slices) → Ends t whole → IsUtf8 t → t ≡ slices_text s rest → AreTexts s → IsCutIn whole (offsets_of (length whole - length t) s)
row_is_there whole t rest s h text e each =
    let start = length whole - length t in
    let split : whole ≡ take start whole ++ t = sym (take-append-drop start whole) ∙ ap (λ l. take start whole ++ l) h in (
      front_boundary whole (take start whole) t split text,
      subst (λ (u : List ℕ). AreCuts u (length s.gap ∷ s.column ∷ length s.dashes ∷ length s.key ∷ length s.colon ∷ length s.space ∷ length s.anchor ∷ length s.apart ∷ length s.head ∷ length s.tail ∷ length s.raw ∷ [])) (sym h)
          (subst (λ (n : ℕ). AreCuts t
          (length s.gap ∷ n ∷ length s.dashes ∷ length s.key ∷ length s.colon ∷ length s.space ∷ length s.anchor ∷ length s.apart ∷ length s.head
          ∷ length s.tail ∷ length s.raw ∷ [])) (length-replicate {A = ℕ} s.column 32)
          (cuts (pieces s) t rest e text (texts s each))),
    )

-- and that row again
piece : (t p rest : List ℕ) (n : ℕ) → length p ≡ n → t ≡ p ++ rest → (take n t ≡ p) × (drop n t ≡ rest)
piece t p rest n long e = (ap (take n) e ∙ take_at p rest n long, ap (drop n) e ∙ (ap (λ (k : ℕ). drop k (p ++ rest)) (sym long) ∙ drop-append_seam p rest))

pub row_same : (whole t rest : List ℕ) (s : Slices) → Ends t whole → t ≡ slices_text s rest → ParentAgrees s → slices_in whole (offsets_of (length whole - length t) s) ≡ s
unfolding pieces_of
row_same whole t rest s h e parent =
    let gap = piece _ s.gap _ (length s.gap) refl (h ∙ e) in
    let indent = piece _ (replicate s.column 32) _ s.column (length-replicate {A = ℕ} s.column 32) gap.1 in
    let dashes = piece _ s.dashes _ (length s.dashes) refl indent.1 in
    let key = piece _ s.key _ (length s.key) refl dashes.1 in
    let colon = piece _ s.colon _ (length s.colon) refl key.1 in
    let space = piece _ s.space _ (length s.space) refl colon.1 in
    let anchor = piece _ s.anchor _ (length s.anchor) refl space.1 in
    let apart = piece _ s.apart _ (length s.apart) refl anchor.1 in
    let head = piece _ s.head _ (length s.head) refl apart.1 in
    let tail = piece _ s.tail _ (length s.tail) refl head.1 in
    let raw = piece _ s.raw _ (length s.raw) refl tail.1 in
    rw (gap.0, dashes.0, key.0, colon.0, space.0, anchor.0, apart.0, head.0, tail.0, raw.0, parent) refl

-- several rows
pub rows_push : (whole : List ℕ) (offsets items : List declared.Offsets) (o : declared.Offsets) (s : Slices) → items ≡ offsets ++ o ∷ [] → slices_in whole o ≡ s → rows_in whole items ≡ rows_in whole offsets ++ s ∷ []
rows_push whole offsets items o s e same = ap (rows_in whole) e ∙ (map-append (slices_in whole) offsets (o ∷ []) ∙ ap (λ (x : Slices). rows_in whole offsets ++ x ∷ []) same)

pub rows_length : (whole : List ℕ) (offsets : List declared.Offsets) → length offsets ≡ length (rows_in whole offsets)
rows_length whole offsets = sym (length-map offsets (slices_in whole))

-- how deep a row begins, by its lengths
marks_dash : (dashes colon : List ℕ) → 0 < length dashes → ◌≡◌ {A = ℕ} 3 (if is_empty dashes then (if is_empty colon then 1 else 2) else 3)
marks_dash dashes colon less = search rules

-- The mark of a row by its lengths, as a number: a dash, a key, or a node itself.
pub data MarkIs (o : declared.Offsets) (mark : ℕ) : Type 0 where
  dash : 0 < o.dashes → mark ≡ 3 → MarkIs o mark
  key : o.dashes ≤ 0 → 0 < o.colon → mark ≡ 2 → MarkIs o mark
  bare : o.dashes ≤ 0 → o.colon ≤ 0 → mark ≡ 1 → MarkIs o mark

marks : (o : declared.Offsets) (s : Slices) (mark : ℕ) → o ≡ offsets_of o.start s → MarkIs o mark
    → mark ≡ (if is_empty s.dashes then (if is_empty s.colon then 1 else 2) else 3)
marks o s mark e is = search (rules, marks_dash)
