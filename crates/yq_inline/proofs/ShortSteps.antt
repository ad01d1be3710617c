-- Scalars and keys as they are written most often, and what separates items.
use Rattle.std.proofs.Common.{◌≡◌, ℕ, zero, suc, ◌+◌, ◌-◌, Bool, true, false, ◌||◌, ◌&&◌, eqb, List, [], ◌∷◌, drop, take, length, Option}
use Rattle.std.proofs.Common.{Some, None, refl, sym, ap, ◌∙◌, arith, eqb-true, subst, ⊎_elim}
use Rattle.std.{proofs.lemmas.Bool.{and_parts, cases_Bool, false≢true, or_cases, or_parts}, specs.List.{list_any, prefix_len}}
use Rattle.std.{proofs.Math.Bool.or-true, specs.Str.{IsCharBoundary, IsUtf8}}
use Rattle.yq_core.{specs.Answers.more, specs.Borrowed.borrows_text, specs.Nodes.{begins_content, begins_with, ends_key}}
use Rattle.yq_core.{specs.Plain.{begins_plain, ends_plain, ends_text, holds_break, plain_at}, specs.PlacedReading.{past_sep, placed_node}}
use Rattle.yq_core.specs.QuotedReading.{closes, cut_at, quoted_at, quoted_len, scalar_len}
use Rattle.yq_core.specs.Reading.{after_colon, lead_at, read_flow_key, read_gap, read_scalar, sep_at, sep_after, with_its_lines}
use Rattle.yq_core.{specs.Runs.run_goes_on, specs.Scalars.{begins_scalar, is_quoted, scalar_style}}
use Rattle.yq_core.{specs.Text.{front, is_feed, is_space, upto}, specs.declared.runs.Run.TheVariants.{Plain, Quoted}}
use Rattle.yq_core.{proofs.Across.plain_colon, proofs.BorrowedTexts.{any_take, borrows_parts}, proofs.Bools.{at_byte, more_none}}
use Rattle.yq_core.{proofs.EndLaws.node_no_space, proofs.NodesPieceLaws.front_is, proofs.PlainLaws.boundary_plain}
use Rattle.yq_core.{proofs.PlainRuns.run_after, proofs.QuotedFound.{boundary_quoted, quoted_text}}
use Rattle.yq_core.proofs.QuotedRuns.{closed_here, quoted_after}
use Rattle.yq_inline.{specs.Measured.{kind_of_style, measured}, specs.Short.{IsShortKey, IsShortScalar, IsSpacedKey, stops_plain}}
use Rattle.yq_inline.{proofs.GapSteps.{after_a_space, no_gap}, proofs.MeasureSteps.{node_content, scalar_some}}

-- bytes that a run goes over
none_in_run : (p q : ℕ → Bool) → ((b : ℕ) → p b ≡ true → q b ≡ false) → (t : List ℕ) → list_any q (take (prefix_len p t) t) ≡ false
none_in_run p q other [] = refl
none_in_run p q other (b ∷ bs) = ⊎_elim
    (λ i. let same : suc (prefix_len p bs) ≡ prefix_len p (b ∷ bs) = rw i (omega arith) in
    subst (λ (n : ℕ). list_any q (take n (b ∷ bs)) ≡ false) same (rw (other b i) (none_in_run p q other bs)))
    (λ i. let same : 0 ≡ prefix_len p (b ∷ bs) = rw i refl in subst (λ (n : ℕ). list_any q (take n (b ∷ bs)) ≡ false) same refl)
    (cases_Bool (p b))

-- and the byte after it
none_after : (q : ℕ → Bool) (n : ℕ) (t : List ℕ) → list_any q (take n t) ≡ false → front q (drop n t) ≡ false → list_any q (take (suc n) t) ≡ false
none_after q zero [] none here = refl
none_after q zero (b ∷ bs) none here = rw here refl
none_after q (suc n) [] none here = refl
none_after q (suc n) (b ∷ bs) none here =
    let parts = or_parts (q b) (list_any q (take n bs)) none in
    rw (parts.0) (none_after q n bs parts.1 here)

-- a plain scalar that a run spells
abbrev Stops : List ℕ → Type 0
Stops t = (is_space t ≡ false) × (ends_text true t ≡ true)

at_byte_stops : (b k : ℕ) (bs : List ℕ) → eqb b k ≡ true → Stops (k ∷ bs) → Stops (b ∷ bs)
at_byte_stops b k bs e = subst (λ (x : ℕ). Stops (x ∷ bs)) (sym (eqb-true b k e))

colon_stops : (bs : List ℕ) → begins_with 32 bs ≡ true → Stops (58 ∷ bs)
colon_stops [] h = absurd (false≢true h)
colon_stops (c ∷ cs) h = subst (λ (x : ℕ). Stops (58 ∷ x ∷ cs)) (sym (eqb-true c 32 h)) (refl, refl)

run_stops : (t : List ℕ) → stops_plain t ≡ true → Stops t
run_stops [] h = absurd (false≢true h)
run_stops (b ∷ bs) h = ⊎_elim
    (λ m. ⊎_elim (λ e. at_byte_stops b 44 bs e (refl, refl))
    (λ n. ⊎_elim (λ e. at_byte_stops b 93 bs e (refl, refl)) (λ e. at_byte_stops b 125 bs e (refl, refl)) (or_cases (eqb b 93) (eqb b 125) n))
    (or_cases (eqb b 44) (eqb b 93 || eqb b 125) m))
    (λ c. let p = and_parts (eqb b 58) (begins_with 32 bs) c in at_byte_stops b 58 bs p.0 (colon_stops bs p.1))
    (or_cases (eqb b 44 || (eqb b 93 || eqb b 125)) (eqb b 58 && begins_with 32 bs) h)

run_is : (spaces : Option ℕ) (t s : List ℕ) (n : ℕ) → n ≡ prefix_len (run_goes_on Plain) t → s ≡ drop n t → stops_plain s ≡ true → n ≡ upto (ends_plain true spaces) t
run_is spaces t s n run rest ends =
    let stops = run_stops s ends in
    let all = run_after true spaces t s 0 n (0 + upto (ends_plain true spaces) t) run rest refl in
    omega (arith, all, plain_colon true spaces s stops.0 stops.1)

pub boundary_run : (t s : List ℕ) (n : ℕ) → n ≡ prefix_len (run_goes_on Plain) t → s ≡ drop n t → stops_plain s ≡ true → IsCharBoundary t n
boundary_run t s n run rest ends = boundary_plain true None t n (run_is None t s n run rest ends)

unquoted : (t : List ℕ) → begins_plain true t ≡ true → is_quoted t ≡ false
unquoted [] h = refl
unquoted (b ∷ bs) h =
    let other = at_byte (λ x. begins_plain true (x ∷ bs)) b in
    rw (other 34 h refl, other 39 h refl) refl

front_unquoted : (n : ℕ) (t : List ℕ) → is_quoted t ≡ false → is_quoted (take n t) ≡ false
front_unquoted zero t h = refl
front_unquoted (suc n) [] h = refl
front_unquoted (suc n) (b ∷ bs) h = h

plain_borrows : (p : List ℕ) → is_quoted p ≡ false → holds_break p ≡ false → borrows_text p ≡ true
plain_borrows p other none = rw (none, other) refl

pub short_plain_is : (t s p r : List ℕ) (n : ℕ) → begins_plain true t ≡ true → n ≡ prefix_len (run_goes_on Plain) t → s ≡ drop n t → stops_plain s ≡ true → p ≡ take n t → r ≡ drop n t → IsShortScalar t p r
unfolding read_scalar plain_at
short_plain_is t s p r n begins run rest ends front_is back_is =
    let other = unquoted t begins in
    let piece = sym front_is in
    let none : list_any is_feed (take n t) ≡ false = subst (λ (k : ℕ). list_any is_feed (take k t) ≡ false) (sym run) (none_in_run (run_goes_on Plain) is_feed (λ b on. at_byte (run_goes_on Plain) b 10 on refl) t) in
    record {
      begins = rw (other, begins) refl;
      read = λ spaces. rw (other, begins) (let is = run_is spaces t s n run rest ends in rw (← is) (λ i. Some (piece i, sym back_is i)));
      quoted = λ q. absurd (false≢true (sym (ap is_quoted front_is ∙ front_unquoted n t other) ∙ q));
      borrows = ap borrows_text front_is ∙ plain_borrows (take n t) (front_unquoted n t other) none;
    }

-- a scalar in double quotes that a run fills
closes_double : (t : List ℕ) → begins_with 34 t ≡ true → closes 34 t ≡ true
closes_double [] h = h
closes_double (b ∷ bs) h = rw h refl

run_closed : (u s : List ℕ) (n : ℕ) → n ≡ prefix_len (run_goes_on (Quoted 34)) u → s ≡ drop n u → begins_with 34 s ≡ true → Some (0 + n) ≡ quoted_len 34 0 u
run_closed u s n run rest quote =
    closed_here 34 (0 + n) s (closes_double s quote) (quoted_after 34 u s 0 n run rest (more_none (quoted_len 34 0 u)))

run_len_is : (t u s : List ℕ) (n : ℕ) → t ≡ 34 ∷ u → n ≡ prefix_len (run_goes_on (Quoted 34)) u → s ≡ drop n u → begins_with 34 s ≡ true → Some (n + 2) ≡ scalar_len t
run_len_is t u s n text run rest quote =
    let two : n + 2 ≡ 2 + (0 + n) = omega arith in
    ap Some two ∙ (ap (more 2) (run_closed u s n run rest quote) ∙ ap scalar_len (sym text))

pub boundary_closed : (t u s : List ℕ) (n : ℕ) → IsUtf8 t → begins_with 34 t ≡ true → u ≡ drop 1 t → n ≡ prefix_len (run_goes_on (Quoted 34)) u → s ≡ drop n u → begins_with 34 s ≡ true → IsCharBoundary t (n + 2)
boundary_closed t u s n utf8 opens inner run rest quote =
    boundary_quoted t (n + 2) utf8 (run_len_is t u s n (front_is 34 t opens ∙ ap (λ (l : List ℕ). 34 ∷ l) (sym inner)) run rest quote)

no_byte : (q : ℕ → Bool) → ((b : ℕ) → run_goes_on (Quoted 34) b ≡ true → q b ≡ false) → q 34 ≡ false → (u s : List ℕ) (n : ℕ) →
    n ≡ prefix_len (run_goes_on (Quoted 34)) u → s ≡ drop n u → begins_with 34 s ≡ true → list_any q (take (suc n) u) ≡ false
no_byte q other here u s n run rest quote =
    none_after q n u (subst (λ (k : ℕ). list_any q (take k u) ≡ false) (sym run) (none_in_run (run_goes_on (Quoted 34)) q other u))
    (ap (front q) (sym rest ∙ front_is 34 s quote) ∙ here)

closed_borrows : (u s : List ℕ) (n : ℕ) → n ≡ prefix_len (run_goes_on (Quoted 34)) u → s ≡ drop n u → begins_with 34 s ≡ true → borrows_text (34 ∷ take (suc n) u) ≡ true
closed_borrows u s n run rest quote =
    let p = take (suc n) u in
    let feeds : list_any is_feed p ≡ false = no_byte is_feed (λ b on. at_byte (run_goes_on (Quoted 34)) b 10 on refl) refl u s n run rest quote in
    let escapes = any_take (λ b. eqb b 92) (length (34 ∷ p) - 2) p (no_byte (λ b. eqb b 92) (λ b on. at_byte (run_goes_on (Quoted 34)) b 92 on refl) refl u s n run rest quote) in
    rw (feeds, escapes) refl

with_lines : (spaces : Option ℕ) (x : List ℕ × List ℕ) → holds_break x.0 ≡ false → with_its_lines spaces x ≡ Some x
with_lines None x h = rw h refl
with_lines (Some n) x h = refl

pub short_quoted_is : (t u s p r : List ℕ) (n : ℕ) → begins_with 34 t ≡ true → u ≡ drop 1 t → n ≡ prefix_len (run_goes_on (Quoted 34)) u →
    s ≡ drop n u → begins_with 34 s ≡ true → p ≡ take (n + 2) t → r ≡ drop (n + 2) t → IsShortScalar t p r
unfolding read_scalar
short_quoted_is t u s p r n opens inner run rest quote front_piece back_is =
    let text : t ≡ 34 ∷ u = front_is 34 t opens ∙ ap (λ (l : List ℕ). 34 ∷ l) (sym inner) in
    let two : n + 2 ≡ suc (suc n) = omega arith in
    let piece : p ≡ 34 ∷ take (suc n) u = front_piece ∙ (λ i. take (two i) (text i)) in
    let is_quote_in : is_quoted t ≡ true = ap is_quoted text in
    let cut : quoted_at t ≡ Some (p, r) = ap (cut_at t) (sym (run_len_is t u s n text run rest quote)) ∙ (λ i. Some (sym front_piece i, sym back_is i)) in
    let borrows : borrows_text p ≡ true = ap borrows_text piece ∙ closed_borrows u s n run rest quote in
    record {
      begins = rw is_quote_in refl;
      read = λ spaces. rw (is_quote_in, cut) (with_lines spaces (p, r) (borrows_parts p borrows).0);
      quoted = λ q. quoted_text t p r (sym cut);
      borrows = borrows;
    }

-- where a node begins there is no gap and no comment
content_apart : (t : List ℕ) → begins_content true t ≡ true → (is_space t ≡ false) × (begins_with 35 t ≡ false)
content_apart [] h = absurd (false≢true h)
content_apart (b ∷ bs) h = (node_no_space b bs (node_there (begins_with 38 (b ∷ bs)) h), at_byte (λ x. begins_content true (x ∷ bs)) b 35 h refl)
  where
    node_there : (c : Bool) {d : Bool} → d ≡ true → (c || d) ≡ true
    node_there true h = refl
    node_there false h = h

-- a key before `:` and one space
key_ends : (p b : List ℕ) → begins_with 32 b ≡ true → ends_key p b ≡ true
key_ends p b h = subst (λ (l : List ℕ). ends_key p l ≡ true) (sym (front_is 32 b h)) (or-true (is_quoted p))

pub short_key_is : (t p v : List ℕ) → IsSpacedKey t p v → begins_content true v ≡ true → IsShortKey t p v
unfolding read_flow_key after_colon lead_at
short_key_is t p v is content =
    let r : List ℕ = is.rest in
    let b : List ℕ = 32 ∷ v in
    let apart = content_apart v content in
    let none : read_gap r ≡ Some ([], r) = no_gap r (ap is_space is.spaced) in
    let lead : read_gap b ≡ Some (32 ∷ [], v) = after_a_space v apart.0 apart.1 in
    record {
      read = rw (is.scalar.read None, none, is.spaced, key_ends p b refl, lead, content) (rw (or-true (begins_with 38 v)) refl);
      quoted = is.scalar.quoted;
      borrows = is.scalar.borrows;
    }

-- `:` and one space
pub leading_colon : (t b v : List ℕ) → begins_with 58 t ≡ true → b ≡ drop 1 t → begins_with 32 b ≡ true → v ≡ drop 1 b → t ≡ 58 ∷ 32 ∷ v
leading_colon t b v colon following space after =
    front_is 58 t colon ∙ ap (λ (l : List ℕ). 58 ∷ l) (sym following ∙ (front_is 32 b space ∙ ap (λ (l : List ℕ). 32 ∷ l) (sym after)))

-- what separates items
pub leading_comma : (k : ℕ) (t b g r : List ℕ) → begins_with 44 t ≡ true → b ≡ drop 1 t → read_gap b ≡ Some (g, r) → past_sep k t ≡ Some r
unfolding sep_at sep_after
leading_comma k t b g r comma after gap =
    let none : read_gap t ≡ Some ([], t) = no_gap t (ap is_space (front_is 44 t comma)) in
    rw (none, comma, ← after, gap) refl

pub closing_following_gap : (k : ℕ) (t g r : List ℕ) → read_gap t ≡ Some (g, r) → begins_with 44 r ≡ false → begins_with k r ≡ true → past_sep k t ≡ Some r
unfolding sep_at sep_after
closing_following_gap k t g r gap comma closes_it = rw (gap, comma, closes_it) refl

-- a scalar is measured
scalar_starts : (t : List ℕ) → begins_scalar true t ≡ true → (begins_with 38 t ≡ false) × ((begins_with 42 t ≡ false) × ((begins_with 91 t ≡ false) × (begins_with 123 t ≡ false)))
scalar_starts [] h = absurd (false≢true h)
scalar_starts (b ∷ bs) h =
    let other = at_byte (λ x. begins_scalar true (x ∷ bs)) b in
    (other 38 h refl, (other 42 h refl, (other 91 h refl, other 123 h refl)))

pub scalar_measured : (t p r : List ℕ) → IsShortScalar t p r → (d : ℕ) → measured (placed_node true (Some 0) 0 d t) ≡ Some ((false, kind_of_style (scalar_style p)), r)
scalar_measured t p r is d =
    let s = scalar_starts t is.begins in
    let content : begins_content true t ≡ true = rw (s.1.0, s.1.1.0, s.1.1.1) is.begins in
    node_content true (Some 0) d t s.0 ∙ scalar_some true (Some 0) d t p r s.1.0 s.1.1.0 s.1.1.1 content (is.read (Some 0))
