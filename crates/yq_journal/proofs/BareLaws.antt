-- Which bytes JSON doesn't escape: those of base64, and those of a text that has none that it escapes.
use Rattle.std.proofs.Common.{◌≡◌, ◌<◌, ◌/◌, ◌%◌, ◌*◌, ◌+◌, ℕ, zero, suc, List, [], ◌∷◌, ◌++◌, Bool, true, replicate, slice_index, refl, ap}
use Rattle.std.{proofs.Common.{ap₂, ◌∙◌, arith, take, length, get_or, append-nil}, proofs.lemmas.Grind.flat_map-append, specs.Prelude.⊤}
use Rattle.std.{specs.Str.bytes_eq, proofs.lemmas.Slice.Eq.bytes_eq-Decides, proofs.lemmas.List.take_more}
use Rattle.base64.{specs.Engines.standard, specs.GeneralPurpose.{IsBytes, encode_of}, specs.Rfc4648.encode_symbols, specs.Tables.all_below}
use Rattle.base64.proofs.Tables.{all_below_at}
use Rattle.json.specs.Print.{escape, escape_byte}

-- the 64 symbols
abbrev symbols : List ℕ
symbols = standard.encode_table

abbrev AreKept : List ℕ → Type 0
AreKept [] = ⊤
AreKept (x ∷ xs) = (escape_byte x ≡ x ∷ []) × AreKept xs

escape_kept : (xs : List ℕ) → AreKept xs → escape xs ≡ xs
escape_kept [] h = refl
escape_kept (x ∷ xs) h = ap₂ (λ (a b : List ℕ). a ++ b) h.0 (escape_kept xs h.1)

kept_append : (xs ys : List ℕ) → AreKept xs → AreKept ys → AreKept (xs ++ ys)
kept_append [] ys h k = k
kept_append (x ∷ xs) ys h k = (h.0, kept_append xs ys h.1 k)

abbrev is_kept : ℕ → Bool
is_kept i = bytes_eq (escape_byte (slice_index symbols i)) (slice_index symbols i ∷ [])

symbols_are_kept : all_below is_kept 64 ≡ true
unfolding escape_byte
symbols_are_kept = refl

kept_symbol : (i : ℕ) → i < 64 → escape_byte (slice_index symbols i) ≡ slice_index symbols i ∷ []
kept_symbol i h = (bytes_eq-Decides (escape_byte (slice_index symbols i)) (slice_index symbols i ∷ [])).0 (all_below_at is_kept 64 i symbols_are_kept h)

kept_symbols : (m : List ℕ) → IsBytes m → AreKept (encode_symbols symbols m)
unfolding encode_symbols
kept_symbols [] h = tt
kept_symbols (a ∷ []) h =
    let x : a < 256 = h 0 in
    (kept_symbol (a / 4) (omega arith), (kept_symbol (a % 4 * 16) (omega arith), tt))
kept_symbols (a ∷ b ∷ []) h =
    let x : a < 256 = h 0 in
    let y : b < 256 = h 1 in
    (kept_symbol (a / 4) (omega arith), (kept_symbol (a % 4 * 16 + b / 16) (omega arith), (kept_symbol (b % 16 * 4) (omega arith), tt)))
kept_symbols (a ∷ b ∷ c ∷ rest) h =
    let x : a < 256 = h 0 in
    let y : b < 256 = h 1 in
    let z : c < 256 = h 2 in
    let last : AreKept (slice_index symbols (c % 64) ∷ encode_symbols symbols rest) = (kept_symbol (c % 64) (omega arith), kept_symbols rest (λ i. h (suc (suc (suc i))))) in
    (kept_symbol (a / 4) (omega arith), (kept_symbol (a % 4 * 16 + b / 16) (omega arith), (kept_symbol (b % 16 * 4 + c / 64) (omega arith), last)))

kept_padding : (n : ℕ) → AreKept (replicate n 61)
unfolding escape_byte
kept_padding zero = tt
kept_padding (suc n) = (refl, kept_padding n)

-- base64 is in a string of JSON as it is
pub base64_escapes : (m : List ℕ) → IsBytes m → escape (encode_of standard m) ≡ encode_of standard m
base64_escapes m h = escape_kept (encode_of standard m) (kept_append (encode_symbols symbols m) _ (kept_symbols m h) (kept_padding _))

-- ---- a text, byte by byte

-- one more byte of a text is escaped
pub escape_more : (xs : List ℕ) (i : ℕ) → i < length xs → escape (take (i + 1) xs) ≡ escape (take i xs) ++ escape_byte (get_or xs i 0)
escape_more xs i within =
    ap escape (take_more xs i 0 within) ∙ flat_map-append escape_byte (take i xs) (get_or xs i 0 ∷ []) ∙ ap (λ l. escape (take i xs) ++ l) (append-nil (escape_byte (get_or xs i 0)))
