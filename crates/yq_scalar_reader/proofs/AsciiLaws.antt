-- Texts of visible ASCII are held as they are.
use Rattle.std.proofs.Common.{rules, ◌≡◌, ◌<◌, ℕ, zero, suc, leb, true, List, [], ◌∷◌, refl, ap, ◌∙◌, arith}
use Rattle.std.{proofs.lemmas.Bool.{and_parts, leb-true}, proofs.lemmas.Str.chars-IsAscii, specs.List.list_all, specs.Str.{IsAscii, chars}}
use Rattle.yq_core.{proofs.Bools.at_byte, specs.PlainText.is_plain_char}
use Rattle.yq_scalar_reader.{specs.declared.plain_text.Holder.Holder, specs.Held.{is_visible_ascii, is_written_as_is}}

visible_plain : (c : ℕ) → is_visible_ascii c ≡ true → is_plain_char c ≡ true
visible_plain c h = search (rules, at_byte)

visible_held : (holder : Holder) (c : ℕ) → is_visible_ascii c ≡ true → is_written_as_is holder c ≡ true
visible_held holder c h = search (rules, visible_plain)

all_held : (holder : Holder) (t : List ℕ) → list_all is_visible_ascii t ≡ true → list_all (is_written_as_is holder) t ≡ true
all_held holder [] h = refl
all_held holder (b ∷ t) h = search (rules, and_parts, visible_held, all_held holder t)

below : (b : ℕ) → is_visible_ascii b ≡ true → b < 128
below b h = let parts = and_parts (leb 32 b) (leb b 126) h in omega (arith, leb-true _ _ parts.1)

are_ascii : (t : List ℕ) → list_all is_visible_ascii t ≡ true → IsAscii t
are_ascii [] h i = omega arith
are_ascii (b ∷ t) h zero = below b (and_parts (is_visible_ascii b) (list_all is_visible_ascii t) h).0
are_ascii (b ∷ t) h (suc i) = are_ascii t (and_parts (is_visible_ascii b) (list_all is_visible_ascii t) h).1 i

pub visible_text_held : (holder : Holder) (t : List ℕ) → list_all is_visible_ascii t ≡ true → list_all (is_written_as_is holder) (chars t) ≡ true
visible_text_held holder t h = ap (list_all (is_written_as_is holder)) (chars-IsAscii t (are_ascii t h)) ∙ all_held holder t h
