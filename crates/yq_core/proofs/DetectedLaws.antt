-- The indentation of a block scalar's text, both ways.
use Rattle.std.proofs.Common.{rules, ◌≡◌, ℕ, ◌<◌, ◌≤◌, Bool, true, false, cond, not, ◌&&◌, ◌||◌, leb, ltb, List, [], ◌∷◌, ◌++◌, Option}
use Rattle.std.proofs.Common.{Some, refl, sym, ap, ◌∙◌, subst, inl, inr, ⊎_elim, arith, append-nil, ltb-true}
use Rattle.std.{proofs.lemmas.Grind.common_steps, proofs.lemmas.Bool.{false≢true, cond_both, not-true, lt-ltb, and_parts, le-ltb}}
use Rattle.std.proofs.lemmas.Option.{same_Some}
use Rattle.yq_core.{proofs.Bools.{chosen, bind_some}, proofs.LineLaws.AreLines, proofs.RawLaws.{joined_none, raw_takes, raw_lines}}
use Rattle.yq_core.proofs.SpaceLaws.{spaces_blank, char_not_blank}
use Rattle.yq_core.specs.Block.{RawLines, is_empty_line, is_less_indented, ends_block, AreRaw, IsDetected, IsTextIndent}
use Rattle.yq_core.specs.BlockReading.{is_empty_at, is_text_at, raw_at, detected_at, indent_at}
use Rattle.yq_core.{specs.Lines.{spaces, without_spaces, is_blank}, specs.Text.{is_empty, ends_line, text_lines, joined, is_line}}
use Rattle.yq_core.specs.declared.block_lines.TextIndent.{TextIndent}

pub empty_blank : (f : TextIndent) (l : List ℕ) → is_empty_line f l ≡ true → is_blank l ≡ true
empty_blank f l h = spaces_blank l (and_parts (ends_line (without_spaces l)) (not f.known || leb (spaces l) f.columns) h).0

next_parts : (f : TextIndent) (l : List ℕ) → is_less_indented f l ≡ true → (is_blank l ≡ false) × (spaces l < f.columns)
next_parts f l h = search (rules, and_parts, char_not_blank, not-true, ltb-true)

-- the greater of two
abbrev most_of : ℕ → ℕ → ℕ
most_of most i = cond (ltb most i) i most

most_bounds : (most i : ℕ) → (most ≤ most_of most i) × (i ≤ most_of most i)
most_bounds most i = search rules

-- the indent
abbrev low : ℕ → TextIndent
low least = record { columns = least; known = false }

abbrev Detects : ℕ → ℕ → TextIndent → RawLines → Type 0
Detects least most f raw = IsDetected least f raw × (f.known ≡ true → most ≤ f.columns)

detects_blank : (least most : ℕ) (f : TextIndent) (l : List ℕ) (raw : RawLines) → is_blank l ≡ true → Detects least (most_of most (spaces l)) f raw → Detects least most f (l ∷ raw)
detects_blank least most f l raw is h = search rules

detects_less : (least most i : ℕ) (f : TextIndent) (raw : RawLines) → Detects least (most_of most i) f raw → Detects least most f raw
detects_less least most i f raw h = let m = most_bounds most i in (h.0, λ b. let k = h.1 b in omega (arith, m.0))

detect_takes : (least most : ℕ) (ls : RawLines) (f : TextIndent) (keep : Bool) (x : RawLines × RawLines) → AreLines ls → detected_at least most ls ≡ Some f → raw_at keep f ls ≡ Some x → Detects least most f x.0
unfolding detected_at raw_at
detect_takes least most [] f keep x a h r =
    let is : f ≡ low least = sym (same_Some _ _ h) in
    subst (λ (y : RawLines × RawLines). Detects least most f y.0) (same_Some _ _ r) (is, λ b. absurd (false≢true (sym (ap (λ (g : TextIndent). g.known) is) ∙ b)))
detect_takes least most (l ∷ ls) f keep x a h r = ⊎_elim {0, 0, 0}
    (λ w. ⊎_elim {0, 0, 0}
    (λ v. let y = bind_some (raw_at keep f ls) v.1 in
    let again = detect_takes least (most_of most (spaces l)) ls f keep y.0 a.1 w.1 y.1 in
    ⊎_elim {0, 0, 0}
    (λ u. let parts = and_parts (not keep) (is_empty (joined y.0.0)) u.0 in
    let none : y.0.0 ≡ [] = joined_none f y.0.0 (raw_takes keep f ls y.0 a.1 y.1).lines parts.1 in
    subst (λ (z : RawLines × RawLines). Detects least most f z.0) (same_Some _ _ u.1) (subst (Detects least most f) none (detects_less least most (spaces l) f y.0.0 again)))
    (λ u. subst (λ (z : RawLines × RawLines). Detects least most f z.0) (same_Some _ _ u.1) (detects_blank least most f l y.0.0 w.0 again))
    (chosen (not keep && is_empty (joined y.0.0)) y.2))
    (λ v. ⊎_elim {0, 0, 0}
    (λ u. let y = bind_some (raw_at keep f ls) u.1 in
    let again = detect_takes least (most_of most (spaces l)) ls f keep y.0 a.1 w.1 y.1 in
    subst (λ (z : RawLines × RawLines). Detects least most f z.0) (same_Some _ _ y.2) (detects_blank least most f l y.0.0 w.0 again))
    (λ u. ⊎_elim {0, 0, 0} (λ n. absurd (false≢true (sym (next_parts f l n.0).0 ∙ w.0))) (λ n. cc) (chosen (is_less_indented f l) u.1))
    (chosen (is_text_at f l) v.1))
    (chosen (is_empty_at keep f l) r))
    (λ w. ⊎_elim {0, 0, 0}
    (λ e. absurd (false≢true (sym w.0 ∙ empty_blank f l (and_parts (is_empty_line f l) (not keep || is_line l) e.0).0)))
    (λ e. (grind (arith, common_steps)))
    (chosen (is_empty_at keep f l) r))
    (chosen (is_blank l) h)

pub indent_takes : (least : ℕ) (digit : Option ℕ) (ls : RawLines) (f : TextIndent) (keep : Bool) (x : RawLines × RawLines) → AreLines ls → indent_at least digit ls ≡ Some f → raw_at keep f ls ≡ Some x → IsTextIndent least digit f x.0
unfolding indent_at
indent_takes least digit ls f keep x a h r = search (rules, detect_takes, same_Some)

-- The same the other way: the indent.
most_within : (most i m : ℕ) → most ≤ m → i ≤ m → most_of most i ≤ m
most_within most i m a b = cond_both (ltb most i) i most (λ n. n ≤ m) (λ _. b) (λ _. a)

detect_none : (least most : ℕ) (keep : Bool) (rest : RawLines) → ends_block keep (low least) rest ≡ true → detected_at least most rest ≡ Some (low least)
unfolding detected_at ends_block
detect_none least most keep [] h = refl
detect_none least most keep (l ∷ ls) h = ⊎_elim {0, 0, 0}
    (λ w. let blank : is_blank l ≡ true = empty_blank (low least) l w.0 in
    rw blank (detect_none least (most_of most (spaces l)) keep ls (and_parts (not keep) (ends_block keep (low least) ls) w.1).1))
    (λ w. let parts = next_parts (low least) l w.1 in
    let test : ltb (spaces l) least ≡ true = lt-ltb (spaces l) least parts.1 in
    rw (parts.0, test) refl)
    (chosen (is_empty_line (low least) l) h)

detect_again : (least most : ℕ) (keep : Bool) (f : TextIndent) (raw rest : RawLines) → IsDetected least f raw → ends_block keep f rest ≡ true → (f.known ≡ true → most ≤ f.columns) → detected_at least most (raw ++ rest) ≡ Some f
unfolding detected_at
detect_again least most keep f [] rest h e b = detect_none least most keep rest (subst (λ (g : TextIndent). ends_block keep g rest ≡ true) h e) ∙ ap Some (sym h)
detect_again least most keep f (l ∷ raw) rest h e b = ⊎_elim {0, 0, 0}
    (λ w. let bound : f.known ≡ true → most_of most (spaces l) ≤ f.columns = (λ k. most_within most (spaces l) f.columns (b k) (w.1 k)) in
    rw w.0 (detect_again least (most_of most (spaces l)) keep f raw rest w.2 e bound))
    (λ w. let bound : f.known ≡ true = ap (λ (g : TextIndent). g.known) w.1 in
    let deep : f.columns ≡ spaces l = ap (λ (g : TextIndent). g.columns) w.1 in
    let within : most ≤ f.columns = b bound in
    let high : ltb (spaces l) least ≡ false = le-ltb (spaces l) least w.2 in
    let first : ltb (spaces l) most ≡ false = le-ltb (spaces l) most (omega arith) in
    rw (w.0, high, first) (ap Some (sym w.1)))
    h

pub indent_again : (least : ℕ) (digit : Option ℕ) (keep : Bool) (f : TextIndent) (raw rest : RawLines) → IsTextIndent least digit f raw → ends_block keep f rest ≡ true → indent_at least digit (raw ++ rest) ≡ Some f
unfolding indent_at
indent_again least digit keep f raw rest h e = search (rules, detect_again)

-- the indent again, from the raw lines and the indentation alone
detect_same : (least : ℕ) (f : TextIndent) (raw : RawLines) → IsDetected least f raw → IsDetected f.columns f raw
detect_same least f [] h = let is : f.columns ≡ least = ap (λ (g : TextIndent). g.columns) h in h ∙ ap low (sym is)
detect_same least f (l ∷ raw) h = ⊎_elim {0, 0, 0} (λ w. inl (w.0, w.1, detect_same least f raw w.2))
    (λ w. let deep : f.columns ≡ spaces l = ap (λ (g : TextIndent). g.columns) w.1 in inr (w.0, w.1, (let le : f.columns ≤ spaces l = omega arith in le))) h

pub detect_back : (least : ℕ) (f : TextIndent) (raw : RawLines) → IsDetected least f raw → AreRaw f raw → detected_at f.columns 0 (text_lines (joined raw)) ≡ Some f
unfolding ends_block
detect_back least f raw h a =
    ap (detected_at f.columns 0) (raw_lines f raw a ∙ sym (append-nil raw)) ∙ detect_again f.columns 0 false f raw [] (detect_same least f raw h) refl (λ _. omega arith)
