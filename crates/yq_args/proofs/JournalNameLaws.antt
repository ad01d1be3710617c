-- Names that are made of paths.
use Rattle.std.proofs.Common.{rules, ◌≡◌, ◌≢◌, ◌∙◌, ◌++◌, ◌∷◌, ◌<◌, ◌≤◌, ℕ, suc, true, if◌then◌else◌, List, [], inl, inr, length, get_or}
use Rattle.std.proofs.Common.{codes, flat_map, encode_utf8, encode_utf8_all, append-nil, append_assoc, refl, sym, ap, ap₂, arith, Result}
use Rattle.std.{proofs.Common.{OnOk, is_ok}, proofs.lemmas.Bool.{cases_lt, ne_eqb}, proofs.lemmas.Str.{encode_ascii, inside_one}}
use Rattle.std.proofs.lemmas.List.{append_cancel_left, append_cancel_right}
use Rattle.yq_args.specs.JournalNames.{escaped_byte, escaped_path, name_of_path, journal_in_folder, is_one_name}

-- ---- characters

-- any other byte stays
other_byte : (b : ℕ) → b ≢ 37 → b ≢ 47 → escaped_byte b ≡ b ∷ []
other_byte b no_percent no_slash = rw (ne_eqb b 37 no_percent, ne_eqb b 47 no_slash) refl

high_bytes : (xs : List ℕ) → ((k : ℕ) → k < length xs → 128 ≤ get_or xs k 0) → escaped_path xs ≡ xs
high_bytes [] h = refl
high_bytes (x ∷ xs) h =
    let high : 128 ≤ x = h 0 (omega arith) in
    ap₂ (λ (a b : List ℕ). a ++ b) (other_byte x (λ e. omega (arith, e, high)) (λ e. omega (arith, e, high))) (high_bytes xs (λ k below. h (suc k) (omega (arith, below))))

-- any other character stays
pub other_char : (c : ℕ) → c ≢ 37 → c ≢ 47 → encode_utf8 c ≡ escaped_path (encode_utf8 c)
other_char c no_percent no_slash = elim (cases_lt c 128) [
  | inl small ↦ encode_ascii c small ∙ sym (append-nil (c ∷ [])) ∙ ap (λ xs. xs ++ []) (sym (other_byte c no_percent no_slash)) ∙ ap escaped_path (sym (encode_ascii c small))
  | inr big ↦ sym (high_bytes (encode_utf8 c) (λ k below. elim (cases_lt (get_or (encode_utf8 c) k 0) 128) [
    | inl low ↦ absurd (omega (arith, big, low, inside_one c [] (encode_utf8 c) k (sym (append-nil _)) below low))
    | inr h ↦ h
  ]))
]

-- a character that was pushed, as it is in a name
pub pushed : {T E : Type 0} (r : Result T E) (new old l m : List ℕ) → new ≡ (if is_ok r then old ++ l else old) → l ≡ m → OnOk r (new ≡ old ++ m)
pushed r new old l m is same = search rules

escaped_append : (xs ys : List ℕ) → escaped_path (xs ++ ys) ≡ escaped_path xs ++ escaped_path ys
escaped_append [] ys = refl
escaped_append (x ∷ xs) ys = ap (λ l. escaped_byte x ++ l) (escaped_append xs ys) ∙ sym (append_assoc (escaped_byte x) (escaped_path xs) (escaped_path ys))

-- characters one by one
pub each_escaped : (cs : List ℕ) → flat_map (λ c. escaped_path (encode_utf8 c)) cs ≡ escaped_path (encode_utf8_all cs)
each_escaped [] = refl
each_escaped (c ∷ cs) = ap (λ l. escaped_path (encode_utf8 c) ++ l) (each_escaped cs) ∙ sym (escaped_append (encode_utf8 c) (encode_utf8_all cs))

-- ---- one path for each name

module _ (a b : ℕ) (xs ys : List ℕ) (same : escaped_byte a ++ xs ≡ escaped_byte b ++ ys) where
  spelled : (as' bs : List ℕ) → escaped_byte a ≡ as' → escaped_byte b ≡ bs → as' ++ xs ≡ bs ++ ys
  spelled as' bs p q = ap (λ l. l ++ xs) (sym p) ∙ same ∙ ap (λ l. l ++ ys) q

  same_byte : (a ≡ b) × (xs ≡ ys)
  same_byte = search rules

-- what an escaped byte begins isn't empty
some_byte : (b : ℕ) (xs : List ℕ) → 1 ≤ length (escaped_byte b ++ xs)
some_byte b xs = search rules

same_path : (p q : List ℕ) → escaped_path p ≡ escaped_path q → p ≡ q
same_path [] [] e = refl
same_path [] (b ∷ q) e = absurd (omega (arith, some_byte b (escaped_path q), ap length e))
same_path (a ∷ p) [] e = absurd (omega (arith, some_byte a (escaped_path p), ap length e))
same_path (a ∷ p) (b ∷ q) e =
    let first = same_byte a b (escaped_path p) (escaped_path q) e in
    ap₂ (λ x xs. x ∷ xs) first.0 (same_path p q first.1)

-- no other path has the same journal
pub one_path : (folder other path : List ℕ) → journal_in_folder folder other ≡ journal_in_folder folder path → other ≡ path
one_path folder other path e = search (rules, append_cancel_left, same_path, append_cancel_right)

-- ---- one name

byte_in_name : (b : ℕ) (ys : List ℕ) → is_one_name ys ≡ true → is_one_name (escaped_byte b ++ ys) ≡ true
byte_in_name b ys rest = search rules

path_in_name : (path ys : List ℕ) → is_one_name ys ≡ true → is_one_name (escaped_path path ++ ys) ≡ true
path_in_name [] ys rest = rest
path_in_name (b ∷ path) ys rest =
    ap is_one_name (append_assoc (escaped_byte b) (escaped_path path) ys) ∙ byte_in_name b (escaped_path path ++ ys) (path_in_name path ys rest)

pub is_name : (path : List ℕ) → is_one_name (name_of_path path) ≡ true
is_name path = path_in_name path (codes ".undo.json") refl
