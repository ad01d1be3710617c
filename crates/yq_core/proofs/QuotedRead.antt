-- Quoted scalars: the lines that are read.
use Rattle.std.proofs.lemmas.Grind.{common_steps}
use Rattle.std.proofs.Common.{◌≡◌, ℕ, zero, suc, ◌+◌, ◌<◌, ◌≤◌, true, false, ◌&&◌, not, eqb, eqb-true, List, [], ◌∷◌, ◌++◌, length, drop}
use Rattle.std.proofs.Common.{Some, None, refl, sym, ap, ◌∙◌, inl, inr, ◌⊎◌, arith, length-append, length-drop, rules}
use Rattle.std.proofs.lemmas.Bool.{false≢true, or_cases, not-true, not-false, and_parts, cases_Bool, or_parts}
use Rattle.yq_core.specs.Text.{is_break, is_marker, front}
use Rattle.yq_core.specs.Quoted.{itself, doubled, IsChar, Break, line_feed, return_feed, spell_break, last}
use Rattle.yq_core.{specs.QuotedReading.{leading_escape, escape_len, closes, quoted_len}, proofs.Bools.{bind_some, more_some}}
use Rattle.yq_core.{proofs.EscapeLaws.{length_item, length_of_some}, proofs.CharLaws.escape_takes}
use Rattle.yq_core.proofs.QuotedLaws.{Read, of_quotes, read_char, read_line}

-- one step of the reading
record ReadStep (q b : ℕ) (bs : List ℕ) (n : ℕ) : Type 0 where
  k : ℕ
  belongs : escape_len q b bs ≡ Some k
  m : ℕ
  rest : quoted_len q 0 (drop k bs) ≡ Some m
  size : k + 1 + m ≡ n

step_back : (q b n : ℕ) (bs : List ℕ) → closes q (b ∷ bs) ≡ false → quoted_len q 0 (b ∷ bs) ≡ Some n → ReadStep q b bs n
unfolding quoted_len
step_back q b n bs opened h =
    let x = bind_some (escape_len q b bs) (rw opened at h) in
    let y = more_some (x.0 + 1) n (quoted_len q 0 (drop x.0 bs)) (sym (length_item q b x.0 bs opened x.1) ∙ h) in
    record { k = x.0; belongs = x.1; m = y.0; rest = y.1; size = y.2 }

-- a step over one byte
record Byte (q : ℕ) (t : List ℕ) (n : ℕ) : Type 0 where
  m : ℕ
  rest : quoted_len q 0 t ≡ Some m
  size : 1 + m ≡ n

feed_double : (n : ℕ) (t : List ℕ) → quoted_len 34 0 (10 ∷ t) ≡ Some n → (is_marker t ≡ false) × Byte 34 t n
unfolding quoted_len
feed_double n t h = elim (cases_Bool (is_marker t)) [
  | inl e ↦ absurd (let no : None ≡ Some n = (rw e at h) in cc)
  | inr e ↦ let x = more_some 1 n (quoted_len 34 0 t) (rw e at h) in (e, record { m = x.0; rest = x.1; size = x.2 })
]

feed_single : (n : ℕ) (t : List ℕ) → quoted_len 39 0 (10 ∷ t) ≡ Some n → (is_marker t ≡ false) × Byte 39 t n
unfolding quoted_len
feed_single n t h = elim (cases_Bool (is_marker t)) [
  | inl e ↦ absurd (let no : None ≡ Some n = (rw e at h) in cc)
  | inr e ↦ let x = more_some 1 n (quoted_len 39 0 t) (rw e at h) in (e, record { m = x.0; rest = x.1; size = x.2 })
]

return_double : (n : ℕ) (t : List ℕ) → quoted_len 34 0 (13 ∷ t) ≡ Some n → Byte 34 t n
unfolding quoted_len
return_double n t h = let x = more_some 1 n (quoted_len 34 0 t) h in record { m = x.0; rest = x.1; size = x.2 }

return_single : (n : ℕ) (t : List ℕ) → quoted_len 39 0 (13 ∷ t) ≡ Some n → Byte 39 t n
unfolding quoted_len
return_single n t h = let x = more_some 1 n (quoted_len 39 0 t) h in record { m = x.0; rest = x.1; size = x.2 }

feed_back : (q n : ℕ) (t : List ℕ) → (q ≡ 34) ⊎ (q ≡ 39) → quoted_len q 0 (10 ∷ t) ≡ Some n → (is_marker t ≡ false) × Byte q t n
feed_back q n t quotes = of_quotes (λ x. quoted_len x 0 (10 ∷ t) ≡ Some n → (is_marker t ≡ false) × Byte x t n) q quotes (feed_double n t) (feed_single n t)

return_back : (q n : ℕ) (t : List ℕ) → (q ≡ 34) ⊎ (q ≡ 39) → quoted_len q 0 (13 ∷ t) ≡ Some n → Byte q t n
return_back q n t quotes = of_quotes (λ x. quoted_len x 0 (13 ∷ t) ≡ Some n → Byte x t n) q quotes (return_double n t) (return_single n t)

-- a break that was read
record Broken (q : ℕ) (t : List ℕ) (n : ℕ) : Type 0 where
  kind : Break
  rest : List ℕ
  cut : t ≡ spell_break kind ++ rest
  begins : is_marker rest ≡ false
  m : ℕ
  read : quoted_len q 0 rest ≡ Some m
  size : n ≡ length (spell_break kind) + m

by_feed : (q n : ℕ) (t : List ℕ) → (q ≡ 34) ⊎ (q ≡ 39) → quoted_len q 0 (10 ∷ t) ≡ Some n → Broken q (10 ∷ t) n
by_feed q n t quotes h =
    let x = feed_back q n t quotes h in
    record { kind = line_feed; rest = t; cut = refl; begins = x.0; m = x.1.m; read = x.1.rest; size = sym x.1.size }

by_return : (q n : ℕ) (t : List ℕ) → (q ≡ 34) ⊎ (q ≡ 39) → quoted_len q 0 (13 ∷ 10 ∷ t) ≡ Some n → Broken q (13 ∷ 10 ∷ t) n
by_return q n t quotes h =
    let r = return_back q n (10 ∷ t) quotes h in
    let x = feed_back q r.m t quotes r.rest in
    record { kind = return_feed; rest = t; cut = refl; begins = x.0; m = x.1.m; read = x.1.rest; size = omega (arith, r.size, x.1.size) }

break_back : (q n : ℕ) (t : List ℕ) → (q ≡ 34) ⊎ (q ≡ 39) → is_break t ≡ true → quoted_len q 0 t ≡ Some n → Broken q t n
break_back q n t h1 h2 h3 = search (rules, false≢true, or_cases, eqb-true, by_feed, and_parts, by_return)

-- the quote that closes
read_close : (q b n : ℕ) (bs : List ℕ) → closes q (b ∷ bs) ≡ true → quoted_len q 0 (b ∷ bs) ≡ Some n → Read q (b ∷ bs) n
unfolding quoted_len
read_close q b n bs e h =
    let p = and_parts (eqb b q) (not (eqb q 39 && front (λ c. eqb c 39) bs)) e in
    record {
      ls = last [];
      rest = bs;
      cut = ap (λ a. a ∷ bs) (eqb-true b q p.0);
      long = cc;
      are = tt;
      closed = not-true (eqb q 39 && front (λ c. eqb c 39) bs) p.1;
    }

-- shorter texts are read
Reads : ℕ → ℕ → Type 0
Reads q most = (m : ℕ) (t : List ℕ) → length t ≤ most → quoted_len q 0 t ≡ Some m → Read q t m

step_len : (q b n k : ℕ) (bs : List ℕ) (st : ReadStep q b bs n) → escape_len q b bs ≡ Some k → st.k ≡ k
step_len q b n k bs st h = let e : Some st.k ≡ Some k = sym st.belongs ∙ h in cc

shorter : (k : ℕ) (bs : List ℕ) → length (drop k bs) ≤ length bs
shorter k bs = omega (arith, length-drop k bs)

-- two single quotes
read_doubled : (q b n : ℕ) (bs : List ℕ) → closes q (b ∷ bs) ≡ false → eqb b q ≡ true → ReadStep q b bs n → escape_len q b bs ≡ Some 1 → Reads q (length bs) → Read q (b ∷ bs) n
unfolding Reads
read_doubled q b n [] opened same st one reads = absurd (search rules)
read_doubled q b n (c ∷ cs) opened same st one reads =
    let pair = and_parts (eqb q 39) (eqb c 39) (not-false (eqb q 39 && eqb c 39) (rw same at opened)) in
    let long : st.k ≡ 1 = step_len q b n 1 (c ∷ cs) st one in
    let first : b ≡ 39 = eqb-true b q same ∙ eqb-true q 39 pair.0 in
    let second : c ≡ 39 = eqb-true c 39 pair.1 in
    let read : quoted_len q 0 cs ≡ Some st.m = ap (λ (j : ℕ). quoted_len q 0 (drop j (c ∷ cs))) (sym long) ∙ st.rest in
    read_char q st.m n doubled cs (b ∷ c ∷ cs) (ap (λ x. x ∷ c ∷ cs) first ∙ ap (λ x. 39 ∷ x ∷ cs) second) (eqb-true q 39 pair.0) (reads st.m cs (omega arith) read) (omega (arith, st.size, long))

-- a byte that means itself
read_itself : (q b n : ℕ) (bs : List ℕ) → IsChar q (itself b) bs → ReadStep q b bs n → escape_len q b bs ≡ Some 0 → Reads q (length bs) → Read q (b ∷ bs) n
unfolding Reads
read_itself q b n bs is st none reads =
    let long : st.k ≡ 0 = step_len q b n 0 bs st none in
    let read : quoted_len q 0 bs ≡ Some st.m = ap (λ (j : ℕ). quoted_len q 0 (drop j bs)) (sym long) ∙ st.rest in
    read_char q st.m n (itself b) bs (b ∷ bs) refl is (reads st.m bs (omega arith) read) (omega (arith, st.size, long))

-- an escape
read_escape : (n : ℕ) (bs : List ℕ) → ReadStep 34 92 bs n → is_break bs ≡ false → Reads 34 (length bs) → Read 34 (92 ∷ bs) n
unfolding Reads
read_escape n bs st no_break reads =
    let x = length_of_some (leading_escape bs) st.k (rw no_break at st.belongs) in
    let e = escape_takes bs x.0 st.k x.1 in
    read_char 34 st.m n e.char (drop st.k bs) (92 ∷ bs) e.spelled (e.is (drop st.k bs)) (reads st.m (drop st.k bs) (shorter st.k bs) st.rest) (omega (arith, st.size, e.long))

-- a backslash before a break
read_joined : (n : ℕ) (bs : List ℕ) → ReadStep 34 92 bs n → is_break bs ≡ true → Reads 34 (length bs) → Read 34 (92 ∷ bs) n
unfolding Reads
read_joined n bs st brk reads =
    let long : st.k ≡ 0 = step_len 34 92 n 0 bs st (rw brk refl) in
    let read : quoted_len 34 0 bs ≡ Some st.m = ap (λ (j : ℕ). quoted_len 34 0 (drop j bs)) (sym long) ∙ st.rest in
    let x = break_back 34 st.m bs (inl refl) brk read in
    let less : length x.rest ≤ length bs = omega (arith, ap length x.cut, length-append (spell_break x.kind) x.rest) in
    read_line 34 x.m n true x.kind x.rest (92 ∷ bs) (ap (λ l. 92 ∷ l) x.cut) (λ _. refl) x.begins (reads x.m x.rest less x.read) (omega (arith, st.size, long, x.size))

no_way : {A : Type 0} → false ≡ true → A
no_way h = absurd (false≢true h)

-- a break
read_break : (q n : ℕ) (t : List ℕ) (most : ℕ) → length t ≤ most + 1 → (q ≡ 34) ⊎ (q ≡ 39) → is_break t ≡ true → quoted_len q 0 t ≡ Some n → Reads q most → Read q t n
unfolding Reads
read_break q n t most le quotes brk h reads =
    let x = break_back q n t quotes brk h in
    let some : 0 < length (spell_break x.kind) = search rules in
    let less : length x.rest ≤ most = omega (arith, ap length x.cut, length-append (spell_break x.kind) x.rest) in
    read_line q x.m n false x.kind x.rest t x.cut (λ e. no_way e) x.begins (reads x.m x.rest less x.read) x.size

-- whatever is in front
read_front : (q b n : ℕ) (bs : List ℕ) → (q ≡ 34) ⊎ (q ≡ 39) → closes q (b ∷ bs) ≡ false → quoted_len q 0 (b ∷ bs) ≡ Some n → Reads q (length bs) → Read q (b ∷ bs) n
read_front q b n bs quotes opened h reads =
    grind (arith, common_steps, cases_Bool, read_break, step_back, or_parts, and_parts, rules, read_joined, read_escape, read_doubled, read_itself)

pub lines_takes : (fuel q n : ℕ) (t : List ℕ) → length t ≤ fuel → (q ≡ 34) ⊎ (q ≡ 39) → quoted_len q 0 t ≡ Some n → Read q t n
unfolding quoted_len Reads
lines_takes fuel q n [] le quotes h = absurd (let e : None ≡ Some n = h in cc)
lines_takes zero q n (b ∷ bs) le quotes h = absurd (omega arith)
lines_takes (suc fuel) q n (b ∷ bs) le quotes h = elim (cases_Bool (closes q (b ∷ bs))) [
  | inl e ↦ read_close q b n bs e h
  | inr opened ↦ read_front q b n bs quotes opened h (λ m t less read. lines_takes fuel q m t (omega arith) quotes read)
]
