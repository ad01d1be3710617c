-- What bytes of a plain or quoted scalar mean, one part after the other (own).
use Rattle.std.specs.Prelude.{◌≡◌, ◌≢◌, ℕ, zero, suc, List, [], ◌++◌, Bool, false, ◌||◌, slice_index, replicate, encode_utf8, Option}
use Rattle.std.{specs.Prelude.MatchOption, specs.Str.bytes_eq}
use denote.Bor.{Bor}
use Rattle.yq_scalar_reader.{specs.declared.folded.Folded.Folded, specs.declared.folded.FoldedItem.FoldedItem}
use Rattle.yq_core.{specs.ContentReading.{content_after, content_on, within}, specs.Text.{feed, is_white, is_return}}
use Rattle.yq_scalar_reader.specs.declared.folded.Folded.TheVariants as folded

-- the text that bytes of a scalar mean (own)
abbrev pub folded_text : Folded → List ℕ
folded_text (folded.Text t) = t.now
folded_text (folded.Char c) = encode_utf8 c
folded_text (folded.Breaks n) = replicate n feed

-- the text without what it begins with, or nothing where it doesn't begin so (own)
abbrev pub StripsText : List ℕ → List ℕ → Option (Bor (List ℕ)) → Type 0
StripsText p t r = MatchOption r ((rest : List ℕ) → t ≢ p ++ rest) (λ x. t ≡ p ++ x.now)

-- the rest of a scalar in these quotes, perhaps after a joined line, means this content (own)
abbrev pub means_content : ℕ → Bool → List ℕ → List ℕ → Bool
means_content quote joined text content = bytes_eq (content_after quote joined text) content

-- Content and text less what the text begins with: the text means the content exactly where one rest does for the other; nothing where it doesn't (own).
abbrev pub StripsItem : ℕ → Bool → List ℕ → List ℕ → Option (Bor (List ℕ) × Bor (List ℕ) × Bool) → Type 0
StripsItem quote joined text content r =
    MatchOption r (means_content quote joined text content ≡ false)
    (λ x. means_content quote joined text content ≡ means_content quote x.2 x.1.now x.0.now)

-- white space or a CR comes before a place, where one is (own)
abbrev pub is_blank_before : ℕ → List ℕ → Bool
is_blank_before zero t = false
is_blank_before (suc k) t = is_white (slice_index t k) || is_return (slice_index t k)

-- a text in double quotes means so many bytes of its own, then the item after them, and what follows it (own)
abbrev pub IsEscaped : (t words : List ℕ) → FoldedItem → Type 0
IsEscaped t words item = content_on 34 0 within [] t ≡ words ++ (folded_text item.folded ++ content_after 34 item.joined item.rest.now)
