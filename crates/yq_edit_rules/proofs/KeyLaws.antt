-- A key as it is written in block style: no marker, no merge key, and no longer than in a flow collection.
use Rattle.std.proofs.Common.{◌≡◌, ℕ, ◌+◌, ◌<◌, ◌≤◌, Bool, true, false, cond, not, eqb, ltb, List, [], ◌∷◌, ◌++◌, length, Option, Some}
use Rattle.std.proofs.Common.{None, flat_map, refl, sym, ap, ◌∙◌, inl, inr, subst, arith, append-nil, length-append, rules, codes}
use Rattle.std.{proofs.Math.Utf8.{encodes, encode, scalar, scalars}, proofs.lemmas.Bool.{false≢true, ltb-true, not-true, and_parts}}
use Rattle.std.{proofs.lemmas.Str.{encode_ascii, scalars-chars, chars-encodes, encodes-append}, specs.List.list_all}
use Rattle.std.{specs.Str.{chars, IsUtf8}, specs.Prelude.◌≢◌}
use Rattle.yq_core.{specs.Characters.is_text_char, specs.PlainText.{is_plain_char, is_plain_text, begins_marker}, specs.Scalar.string_of}
use Rattle.yq_core.{specs.Written.{written_letters, letter_of, double_by, in_double, written_scalar, double}, proofs.Bools.chosen}
use Rattle.yq_core.{proofs.PlainSpells.writable_text, proofs.PlainWritten.plain_text_parts, specs.NodesWritten.scalar_text}
use Rattle.yq_core.{proofs.Alikes.{no_first, no_second, no_third}, proofs.WrittenText.scalars_append, specs.Text.{front, is_marker}}
use Rattle.yq_core.specs.Writable.{can_write}
use Rattle.yq_flow_edits.proofs.SpelledScalars.{plain_anywhere}
use Rattle.yq_edit_rules.specs.BlockRows.{block_key}
use Rattle.yq_core.specs.declared.style.Place.TheVariants as places
use Rattle.yq_core.specs.declared.style.Style.TheVariants as styles

-- a key begins with no marker
plain_unmarked : (k t : List ℕ) → begins_marker k ≡ false → is_marker (k ++ (58 ∷ t)) ≡ false
plain_unmarked k t h1 = search (rules, no_first, no_second, no_third)

-- what holds of a key in both styles in which it may be written
styled_by : (P : List ℕ → Type 0) (k : List ℕ) (plain : Bool) → can_write (string_of k) styles.Plain places.Block ≡ plain →
    (is_plain_text false k ≡ true → P k) → ((t : List ℕ) → P (34 ∷ t)) → P (written_scalar (cond plain styles.Plain styles.Double) k)
styled_by P k plain h1 h2 h3 = search (rules, writable_text)

key_by : (P : List ℕ → Type 0) (k : List ℕ) → (is_plain_text false k ≡ true → P k) → ((t : List ℕ) → P (34 ∷ t)) → P (block_key k)
unfolding scalar_text
key_by P k plain quoted = styled_by P k (can_write (string_of k) styles.Plain places.Block) refl plain quoted

pub key_unmarked : (k t : List ℕ) → is_marker (block_key k ++ (58 ∷ t)) ≡ false
key_unmarked k t = key_by (λ p. is_marker (p ++ (58 ∷ t)) ≡ false) k
    (λ text. plain_unmarked k t (not-true (begins_marker k) (and_parts _ (not (begins_marker k)) text).1))
    (λ u. no_first 34 (u ++ (58 ∷ t)) refl refl)

pub key_apart : (k : List ℕ) → block_key k ≢ codes "<<"
unfolding chars
key_apart k =
    let merge : codes "<<" ≡ 60 ∷ 60 ∷ [] = refl in
    key_by (λ p. p ≢ codes "<<") k (λ text e. search (rules, false≢true)) (λ u e. false≢true (sym (ap (front (λ b. eqb b 34)) (e ∙ merge))))

-- how many characters a text has at least
record Counts (p : List ℕ) (n : ℕ) : Type 0 where
  chars : List ℕ
  valid : scalars chars ≡ true
  spelled : encodes chars ≡ p
  many : n ≤ length chars

counts_append : (p q : List ℕ) (n m : ℕ) → Counts p n → Counts q m → Counts (p ++ q) (n + m)
counts_append p q n m a b = record {
  chars = a.chars ++ b.chars;
  valid = scalars_append a.chars b.chars a.valid b.valid;
  spelled = encodes-append a.chars b.chars ∙ (λ i. a.spelled i ++ b.spelled i);
  many = omega (arith, a.many, b.many, length-append a.chars b.chars);
}

counts_char : (c : ℕ) → scalar c ≡ true → Counts (encode c) 1
counts_char c h = record { chars = c ∷ []; valid = rw h refl; spelled = append-nil (encode c); many = omega arith }

counts_byte : (b : ℕ) → b < 128 → Counts (b ∷ []) 1
counts_byte b h =
    subst (λ (p : List ℕ). Counts p 1) (encode_ascii b h) (counts_char b (Rattle.std.proofs.lemmas.Bool.agree_below_at scalar (λ x. true) 128 b refl h))

letter_low : (es : List (ℕ × ℕ)) (c l : ℕ) → list_all (λ e. ltb e.0 128) es ≡ true → letter_of c es ≡ Some l → l < 128
letter_low [] c l all h = absurd (let e : None ≡ Some l = h in cc)
letter_low (e ∷ es) c l all h =
    let p = and_parts (ltb e.0 128) (list_all (λ e. ltb e.0 128) es) all in
    elim (chosen (eqb c e.1) h) [
      | inl w ↦ (let same : e.0 ≡ l = (let k : Some e.0 ≡ Some l = w.1 in cc) in subst (λ (x : ℕ). x < 128) same (ltb-true e.0 128 p.0))
      | inr w ↦ letter_low es c l p.1 w.1
    ]

counts_double : (c : ℕ) (o : Option ℕ) → letter_of c written_letters ≡ o → scalar c ≡ true → is_text_char c ≡ true → Counts (double_by o c) 1
counts_double c (Some l) h s t =
    search (rules, arith, counts_append (92 ∷ []) (l ∷ []) 1 1 (counts_byte 92 (omega arith)) (counts_byte l (letter_low written_letters c l refl h)))
counts_double c None h s t = rw t (counts_char c s)

counts_doubles : (cs : List ℕ) → scalars cs ≡ true → list_all is_plain_char cs ≡ true → Counts (flat_map in_double cs) (length cs)
counts_doubles [] h k = record { chars = []; valid = refl; spelled = refl; many = omega arith }
counts_doubles (c ∷ cs) h k =
    let p = and_parts (scalar c) (scalars cs) h in
    let q = and_parts (is_plain_char c) (list_all is_plain_char cs) k in
    let more = counts_append (in_double c) (flat_map in_double cs) 1 (length cs) (counts_double c (letter_of c written_letters) refl p.0 (and_parts (is_text_char c) _ q.0).0) (counts_doubles cs p.1 q.1) in
    record { chars = more.chars; valid = more.valid; spelled = more.spelled; many = omega (arith, more.many) }

longer : (k : List ℕ) → IsUtf8 k → list_all is_plain_char (chars k) ≡ true → length (chars k) ≤ length (chars (double k))
longer k u h =
    let x : List ℕ = flat_map in_double (chars k) in
    let inner = counts_doubles (chars k) (scalars-chars k u) h in
    let after = counts_append x (34 ∷ []) (length (chars k)) 1 inner (counts_byte 34 (omega arith)) in
    let whole = counts_append (34 ∷ []) (x ++ 34 ∷ []) 1 (length (chars k) + 1) (counts_byte 34 (omega arith)) after in
    search (rules, chars-encodes, whole)

pub near_key : (k : List ℕ) (n : ℕ) → IsUtf8 k → length (chars (scalar_text (string_of k) places.FlowKey)) ≤ n → length (chars (block_key k)) ≤ n
unfolding scalar_text
near_key k n u h = search (rules, false≢true, plain_anywhere, plain_text_parts, writable_text, longer, u)
