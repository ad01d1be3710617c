-- What plain, single-quoted and literal scalars hold as it is (own; you may skip it: only clauses inside this crate cite it).
use Rattle.std.specs.Prelude.{ℕ, nat_le, Bool, false, ◌&&◌, not, List, [], ◌∷◌}
use Rattle.yq_scalar_reader.specs.declared.plain_text.Holder.{Holder}
use Rattle.yq_core.{specs.PlainText.is_plain_char, specs.Text.{is_feed, is_white}, specs.Writable.{is_single_char, is_literal_char}}
use Rattle.yq_scalar_reader.specs.declared.plain_text.Holder.TheVariants as holders

-- a space or a visible character of ASCII (own)
abbrev pub is_visible_ascii : ℕ → Bool
is_visible_ascii b = nat_le 32 b && nat_le b 126

-- a character that is there as it is (own)
abbrev pub is_written_as_is : Holder → ℕ → Bool
is_written_as_is holders.Plain c = is_plain_char c
is_written_as_is holders.Single c = is_single_char c
is_written_as_is holders.Literal c = is_literal_char c

-- neither white space, an LF nor the end is in front (own)
abbrev pub begins_literally : List ℕ → Bool
begins_literally [] = false
begins_literally (b ∷ bs) = not (is_white b) && not (is_feed b)
