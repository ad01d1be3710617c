-- The characters that a text is made of.
use Rattle.std.{specs.Prelude.{ℕ, Bool, true, false, ◌||◌, ◌&&◌, not, ◌==◌, nat_le, List, [], ◌∷◌, if◌then◌else◌}, specs.List.list_all}
use Rattle.std.specs.Str.{chars}
use Rattle.yq_core.specs.Text.{is_feed, is_return, front}

-- a printable character: tab, LF, CR, and no other control or surrogate (YAML 1.2.2, section 5.1)
abbrev pub is_printable : ℕ → Bool
is_printable c =
    c == 9 || is_feed c || is_return c || (nat_le 32 c && nat_le c 126) || c == 133
    || (nat_le 160 c && nat_le c 55295) || (nat_le 57344 c && nat_le c 65533) || (nat_le 65536 c && nat_le c 1114111)

-- U+FEFF, the byte order mark (YAML 1.2.2, section 5.2)
abbrev pub is_byte_order_mark : ℕ → Bool
is_byte_order_mark c = c == 65279

-- a character that a text may hold: printable, and no byte order mark (own)
abbrev pub is_text_char : ℕ → Bool
is_text_char c = is_printable c && not (is_byte_order_mark c)

-- a byte that is in characters of a text alone: tab, LF, CR, printable ASCII, or one of more bytes, but for 194 and 239, which begin
-- others too (own)
abbrev pub is_text_byte : ℕ → Bool
is_text_byte b =
    b == 9 || is_feed b || is_return b || (nat_le 32 b && nat_le b 126) || (nat_le 128 b && not (b == 194) && not (b == 239))

-- the byte after 194 that ends U+0085, or one of U+00A0 to U+00BF (own)
abbrev pub ends_latin_char : List ℕ → Bool
ends_latin_char bs = front (λ b. b == 133 || nat_le 160 b) bs

-- the bytes after 239 that end U+FEFF, the byte order mark (own)
abbrev pub ends_byte_order_mark : List ℕ → Bool
ends_byte_order_mark [] = false
ends_byte_order_mark (b ∷ bs) = b == 187 && front (λ c. c == 191) bs

-- the bytes after 239 that end U+FFFE or U+FFFF (own)
abbrev pub ends_noncharacter : List ℕ → Bool
ends_noncharacter [] = false
ends_noncharacter (b ∷ bs) = b == 191 && front (λ c. nat_le 190 c) bs

-- a character of a text begins with 194 or 239, with which others begin too (own)
abbrev pub begins_text_char : List ℕ → Bool
begins_text_char [] = false
begins_text_char (b ∷ bs) =
    if b == 194 then ends_latin_char bs else (if b == 239 then (not (ends_byte_order_mark bs) && not (ends_noncharacter bs)) else false)

-- each byte of UTF-8 is in a character of a text (own)
unfoldable pub are_in_text : List ℕ → Bool
are_in_text [] = true
are_in_text (b ∷ bs) = (is_text_byte b || begins_text_char (b ∷ bs)) && are_in_text bs

-- an LF follows each CR (own)
unfoldable pub pairs_returns : List ℕ → Bool
pairs_returns [] = true
pairs_returns (b ∷ bs) = if is_return b then (front is_feed bs && pairs_returns bs) else pairs_returns bs

-- the bytes are a text of the profile, of whatever length (own)
abbrev pub is_text : List ℕ → Bool
is_text t = list_all is_text_char (chars t) && pairs_returns t
