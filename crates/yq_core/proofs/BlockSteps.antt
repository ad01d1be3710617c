-- Steps of the loops over lines.
use Rattle.std.proofs.Common.{◌≡◌, ℕ, suc, ◌+◌, ◌<◌, ◌≤◌, Bool, true, false, cond, eqb, ltb, List, [], ◌∷◌, length, take, drop, Option}
use Rattle.std.proofs.Common.{Some, None, refl, sym, ap, ◌∙◌, ⊎_elim, arith, eqb-true, length-append, length-take, length-drop, rules}
use Rattle.std.proofs.lemmas.Bool.{false≢true, lt-ltb, cases_Bool, le-ltb}
use Rattle.yq_core.{proofs.LineLaws.{line_step, line_len_some, line_len_within}, specs.Answers.◌>>=◌}
use Rattle.yq_core.specs.Block.{RawLines, is_less_indented}
use Rattle.yq_core.specs.BlockReading.{is_empty_at, is_text_at, raw_with_line, with_empty, raw_at, raw_len, len_at, raw_length, detected_at}
use Rattle.yq_core.{specs.Lines.{spaces, is_blank}, specs.Text.{is_empty, line_len, text_lines, joined, cut_line}}
use Rattle.yq_core.specs.declared.block_lines.TextIndent.{TextIndent}

-- the line in front of a text that is not empty
pub at_line : (t l a : List ℕ) (n : ℕ) (e : Bool) → e ≡ eqb (length t) 0 → e ≡ false → n ≡ line_len t → l ≡ take n t → a ≡ drop n t → (text_lines t ≡ l ∷ text_lines a) × (0 < n) × (length l ≡ n)
at_line t l a n e h1 h2 h3 h4 h5 = search (rules, false≢true, line_step, line_len_some, length-take, line_len_within)

-- the same of the text cut after its line
pub at_cut : (t l a : List ℕ) (e : Bool) → e ≡ eqb (length t) 0 → e ≡ false → (l, a) ≡ cut_line t → (text_lines t ≡ l ∷ text_lines a) × (length a < length t)
at_cut t l a e is none cut =
    let front_is : l ≡ take (line_len t) t = ap (λ (x : List ℕ × List ℕ). x.0) cut in
    let back_is : a ≡ drop (line_len t) t = ap (λ (x : List ℕ × List ℕ). x.1) cut in
    let line = at_line t l a (line_len t) e is none refl front_is back_is in
    (line.0, omega (arith, line.1, line_len_within t, length-drop (line_len t) t, ap length back_is))

pub at_end : (t : List ℕ) (e : Bool) → e ≡ eqb (length t) 0 → e ≡ true → t ≡ []
at_end [] e is h = refl
at_end (x ∷ t) e is h = absurd (omega (arith, eqb-true (suc (length t)) 0 (sym is ∙ h)))

pub some_left : (t : List ℕ) (e : Bool) → e ≡ eqb (length t) 0 → e ≡ false → 0 < length t
some_left t e is h = search rules

-- The loop for the indent.
pub detect_blank : (least most i b : ℕ) (t l a : List ℕ) → text_lines t ≡ l ∷ text_lines a → is_blank l ≡ true → i ≡ spaces l → b ≡ cond (ltb most i) i most → detected_at least b (text_lines a) ≡ detected_at least most (text_lines t)
unfolding detected_at
detect_blank least most i b t l a e h is m = rw (e, m, is, h) refl

pub detect_more : (least most i : ℕ) (t l a : List ℕ) → text_lines t ≡ l ∷ text_lines a → is_blank l ≡ true → i ≡ spaces l → most < i → detected_at least i (text_lines a) ≡ detected_at least most (text_lines t)
detect_more least most i t l a e h is m = detect_blank least most i i t l a e h is (rw (lt-ltb most i m) refl)

pub detect_same : (least most i : ℕ) (t l a : List ℕ) → text_lines t ≡ l ∷ text_lines a → is_blank l ≡ true → i ≡ spaces l → i ≤ most → detected_at least most (text_lines a) ≡ detected_at least most (text_lines t)
detect_same least most i t l a e h is m = detect_blank least most i most t l a e h is (rw (le-ltb most i m) refl)

pub detect_low : (least most i : ℕ) (t l a : List ℕ) → text_lines t ≡ l ∷ text_lines a → is_blank l ≡ false → i ≡ spaces l → i < least → detected_at least most (text_lines t) ≡ Some (record { columns = least; known = false })
unfolding detected_at
detect_low least most i t l a e h is m = let test = rw is at (lt-ltb i least m) in rw (e, h, test) refl

pub detect_refused : (least most i : ℕ) (t l a : List ℕ) → text_lines t ≡ l ∷ text_lines a → is_blank l ≡ false → i ≡ spaces l → least ≤ i → i < most → detected_at least most (text_lines t) ≡ None
unfolding detected_at
detect_refused least most i t l a e h is m k = let high = rw is at (le-ltb i least m) in let test = rw is at (lt-ltb i most k) in rw (e, h, high, test) refl

pub detect_found : (least most i : ℕ) (t l a : List ℕ) → text_lines t ≡ l ∷ text_lines a → is_blank l ≡ false → i ≡ spaces l → least ≤ i → most ≤ i → detected_at least most (text_lines t) ≡ Some (record { columns = i; known = true })
unfolding detected_at
detect_found least most i t l a e h is m k = let high = rw is at (le-ltb i least m) in let test = rw is at (le-ltb i most k) in rw (e, h, high, test, is) refl

pub detect_end : (least most : ℕ) (t : List ℕ) → t ≡ [] → detected_at least most (text_lines t) ≡ Some (record { columns = least; known = false })
unfolding detected_at text_lines
detect_end least most t h = rw h refl

front_some : (w s k n : ℕ) → 0 < k → raw_length w s (Some (k + n)) ≡ raw_length (s + k) (s + k) (Some n)
front_some w s k n h = search rules

pub len_text : (l : List ℕ) (w s : ℕ) (o : Option (RawLines × RawLines)) → 0 < length l → raw_length w s (raw_len (o >>= raw_with_line l)) ≡ raw_length (s + length l) (s + length l) (raw_len o)
len_text l w s o some = search (rules, length-append, front_some)

some_length : (j : List ℕ) → is_empty j ≡ false → 0 < length j
some_length j h = search rules

loose : (l : List ℕ) (ls : RawLines) (w s : ℕ) (x : RawLines × RawLines) → 0 < length l → raw_length w s (raw_len (with_empty false l ls x)) ≡ raw_length w (s + length l) (Some (length (joined x.0)))
loose l ls w s x some = search (rules, ⊎_elim, length-append, some_length, cases_Bool)

-- The loop over the raw lines.
pub raw_kept : (keep : Bool) (f : TextIndent) (w s n : ℕ) (t l a : List ℕ) → (text_lines t ≡ l ∷ text_lines a) × (0 < n) × (length l ≡ n) →
    is_empty_at keep f l ≡ true → keep ≡ true → raw_length (s + n) (s + n) (len_at keep f a) ≡ raw_length w s (len_at keep f t)
unfolding raw_at
raw_kept keep f w s n t l a e h k = search (rules, len_text, false≢true)

pub raw_loose : (keep : Bool) (f : TextIndent) (w s n : ℕ) (t l a : List ℕ) → (text_lines t ≡ l ∷ text_lines a) × (0 < n) × (length l ≡ n) →
    is_empty_at keep f l ≡ true → keep ≡ false → raw_length w (s + n) (len_at keep f a) ≡ raw_length w s (len_at keep f t)
unfolding raw_at
raw_loose keep f w s n t l a e h k = search (rules, false≢true, loose)

pub raw_text : (keep : Bool) (f : TextIndent) (w s n : ℕ) (t l a : List ℕ) → (text_lines t ≡ l ∷ text_lines a) × (0 < n) × (length l ≡ n) →
    is_empty_at keep f l ≡ false → is_text_at f l ≡ true → raw_length (s + n) (s + n) (len_at keep f a) ≡ raw_length w s (len_at keep f t)
unfolding raw_at
raw_text keep f w s n t l a e h k = rw (e.0, h, k, ← e.2) (sym (len_text l w s (raw_at keep f (text_lines a)) (omega (arith, e.1, e.2))))

pub raw_next : (keep : Bool) (f : TextIndent) (w s n : ℕ) (t l a : List ℕ) → (text_lines t ≡ l ∷ text_lines a) × (0 < n) × (length l ≡ n) →
    is_empty_at keep f l ≡ false → is_text_at f l ≡ false → is_less_indented f l ≡ true → raw_length w s (len_at keep f t) ≡ Some w
unfolding raw_at
raw_next keep f w s n t l a e h k m = rw (e.0, h, k, m) refl

pub raw_refused : (keep : Bool) (f : TextIndent) (w s n : ℕ) (t l a : List ℕ) → (text_lines t ≡ l ∷ text_lines a) × (0 < n) × (length l ≡ n) →
    is_empty_at keep f l ≡ false → is_text_at f l ≡ false → is_less_indented f l ≡ false → raw_length w s (len_at keep f t) ≡ None
unfolding raw_at
raw_refused keep f w s n t l a e h k m = rw (e.0, h, k, m) refl

pub raw_end : (keep : Bool) (f : TextIndent) (w s : ℕ) (t : List ℕ) → t ≡ [] → raw_length w s (len_at keep f t) ≡ Some w
unfolding raw_at text_lines
raw_end keep f w s t h = rw h refl
