-- A block scalar before one text is one before a text that is alike.
use Rattle.std.proofs.Common.{◌≡◌, inl, inr, ℕ, suc, Bool, false, cond, not, ◌&&◌, eqb, List, [], ◌∷◌, ◌++◌, refl, sym, ap, ◌∙◌, Some}
use Rattle.std.{proofs.Common.rules, proofs.Math.Bool.and-false, proofs.lemmas.Bool.{false≢true, not-true, cases_Bool, or_parts}}
use Rattle.yq_core.{specs.Block.{is_empty_line, is_less_indented, ends_block}, specs.Lines.{spaces, without_spaces, is_tab}}
use Rattle.yq_core.specs.Text.{front, is_feed, is_return, is_break, ends_line, text_lines, put_byte}
use Rattle.yq_core.{specs.declared.block_lines.TextIndent.TextIndent, proofs.Bools.at_byte}
use Rattle.yq_core.{proofs.SpaceLaws.{prefix_drop, prefix_next, prefix_none}, specs.Alike.{Alike, stop, colon, after}}
use Rattle.yq_core.proofs.Alikes.{stop_break}
use Rattle.yq_row_table.proofs.Fronts.{Starts}
use Rattle.yq_core.specs.Alike as texts

-- two lines that are the same up to bytes that are no spaces and begin no break, of which both or none are tabs
pub data LineAlike : List ℕ → List ℕ → Type 0 where
  byte : {b c : ℕ} {t u : List ℕ} → ends_line (b ∷ t) ≡ false → ends_line (c ∷ u) ≡ false → eqb b 32 ≡ false → eqb c 32 ≡ false → eqb b 9 ≡ eqb c 9 → LineAlike (b ∷ t) (c ∷ u)
  after_byte : {b : ℕ} {t u : List ℕ} → is_feed b ≡ false → LineAlike t u → LineAlike (b ∷ t) (b ∷ u)

-- lines that are the same up to two such lines
pub data LinesAlike : List (List ℕ) → List (List ℕ) → Type 0 where
  here : {l m : List ℕ} {ls ms : List (List ℕ)} → LineAlike l m → LinesAlike (l ∷ ls) (m ∷ ms)
  after_line : {l : List ℕ} {ls ms : List (List ℕ)} → LinesAlike ls ms → LinesAlike (l ∷ ls) (l ∷ ms)

-- The first line of a text with a byte before it.
pub record Put (b : ℕ) (t : List ℕ) : Type 0 where
  pub line : List ℕ
  pub lines : List (List ℕ)
  pub is : put_byte b (text_lines t) ≡ (b ∷ line) ∷ lines
  pub front_is : front is_feed line ≡ front is_feed t

pub put_first : (b : ℕ) (t : List ℕ) → Put b t
unfolding text_lines
put_first b [] = record { line = []; lines = []; is = refl; front_is = refl }
put_first b (c ∷ t) = elim (cases_Bool (is_feed c)) [
  | inl e ↦ record { line = c ∷ []; lines = text_lines t; is = rw e refl; front_is = refl }
  | inr e ↦ (
      let again = put_first c t in
      record { line = c ∷ again.line; lines = again.lines; is = rw e (rw again.is refl); front_is = refl })
]

put_seam : (b c : ℕ) (t u : List ℕ) → is_break (b ∷ t) ≡ false → is_break (c ∷ u) ≡ false → eqb b 32 ≡ false → eqb c 32 ≡ false → eqb b 9 ≡ eqb c 9 → LinesAlike (put_byte b (text_lines t)) (put_byte c (text_lines u))
put_seam b c t u x y s r tab =
    let p = put_first b t in
    let q = put_first c u in
    let one : ends_line (b ∷ p.line) ≡ false = rw p.front_is x in
    let two : ends_line (c ∷ q.line) ≡ false = rw q.front_is y in
    rw (p.is, q.is) (here (byte {b = b} {c = c} {t = p.line} {u = q.line} one two s r tab))

put_alike : (b : ℕ) (ls ms : List (List ℕ)) → is_feed b ≡ false → LinesAlike ls ms → LinesAlike (put_byte b ls) (put_byte b ms)
put_alike b _ _ e (here {l} {m} {ls} {ms} h) = here (after_byte e h)
put_alike b _ _ e (after_line {l} {ls} {ms} h) = after_line h

-- lines after the same text
pub lines_after : (p t u : List ℕ) → LinesAlike (text_lines t) (text_lines u) → LinesAlike (text_lines (p ++ t)) (text_lines (p ++ u))
unfolding text_lines
lines_after [] t u h = h
lines_after (b ∷ p) t u h = elim (cases_Bool (is_feed b)) [
  | inl e ↦ rw e (after_line (lines_after p t u h))
  | inr e ↦ rw e (put_alike b (text_lines (p ++ t)) (text_lines (p ++ u)) e (lines_after p t u h))
]

pub lines_alike : (t u : List ℕ) → Alike (Some false) t u → LinesAlike (text_lines t) (text_lines u)
unfolding text_lines
lines_alike _ _ (texts.byte {b} {t} {u} v w x y) = search (rules, or_parts, put_seam)
lines_alike _ _ (stop {b = b} {t = t} {u = u} x) = search (rules, at_byte, put_seam, stop_break)
lines_alike _ _ (colon {t = t} {u = u} x y) = put_seam 58 58 t u refl refl refl refl refl
lines_alike _ _ (after {f = f} {b = b} {t = t} {u = u} h) = lines_after (b ∷ []) t u (lines_alike t u h)

-- texts with which no white space and no break begins
pub starts_alike : (t u : List ℕ) → Starts t → Starts u → LinesAlike (text_lines t) (text_lines u)
unfolding text_lines
starts_alike t u h1 h2 = search (rules, false≢true, or_parts, not-true, put_seam)

-- a space
abbrev is_blank : ℕ → Bool
is_blank b = eqb b 32

-- such lines begin with as many spaces, and with no break after these
line_spaces : (l m : List ℕ) → LineAlike l m → (spaces l ≡ spaces m) × LineAlike (without_spaces l) (without_spaces m)
line_spaces _ _ (byte {b} {c} {t} {u} x y s r tab) = (prefix_none is_blank b t s ∙ sym (prefix_none is_blank c u r), rw (prefix_drop is_blank b t, prefix_drop is_blank c u) (rw (s, r) (byte x y s r tab)))
line_spaces _ _ (after_byte {b} {t} {u} e h) =
    let again = line_spaces t u h in
    elim (cases_Bool (eqb b 32)) [
      | inl s ↦ (prefix_next is_blank b t s ∙ (ap suc again.0 ∙ sym (prefix_next is_blank b u s)), rw (prefix_drop is_blank b t, prefix_drop is_blank b u) (rw s again.1))
      | inr s ↦ (prefix_none is_blank b t s ∙ sym (prefix_none is_blank b u s), rw (prefix_drop is_blank b t, prefix_drop is_blank b u) (rw s (after_byte e h)))
    ]

no_feed : (l m : List ℕ) → LineAlike l m → (front is_feed l ≡ false) × (front is_feed m ≡ false)
no_feed l m tab = search (rules, or_parts)

line_no_end : (l m : List ℕ) → LineAlike l m → (ends_line l ≡ false) × (ends_line m ≡ false)
line_no_end _ _ (byte {b} {c} {t} {u} x y s r tab) = (x, y)
line_no_end _ _ (after_byte {b} {t} {u} e h) = let n = no_feed t u h in (rw (e, n.0) (and-false (is_return b)), rw (e, n.1) (and-false (is_return b)))

line_tab : (l m : List ℕ) → LineAlike l m → is_tab l ≡ is_tab m
line_tab _ _ (byte {b} {c} {t} {u} x y s r tab) = tab
line_tab _ _ (after_byte {b} {t} {u} e h) = refl

line_less : (f : TextIndent) (l m : List ℕ) → LineAlike l m → (is_empty_line f l ≡ false) × (is_empty_line f m ≡ false) × (is_less_indented f l ≡ is_less_indented f m)
line_less f l m h =
    let s = line_spaces l m h in
    let n = line_no_end (without_spaces l) (without_spaces m) s.1 in
    (rw n.0 refl, rw n.1 refl, rw (n.0, n.1, line_tab (without_spaces l) (without_spaces m) s.1, s.0) refl)

pub ends_alike : (keep : Bool) (f : TextIndent) (ls ms : List (List ℕ)) → LinesAlike ls ms → ends_block keep f ls ≡ ends_block keep f ms
unfolding ends_block
ends_alike keep f _ _ (here {l} {m} {ls} {ms} h) = let e = line_less f l m h in rw (e.0, e.1) e.2
ends_alike keep f _ _ (after_line {l} {ls} {ms} h) = ap (λ b. cond (is_empty_line f l) (not keep && b) (is_less_indented f l)) (ends_alike keep f ls ms h)
