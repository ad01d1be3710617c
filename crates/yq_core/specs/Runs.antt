-- Runs of bytes (own; you may skip it: only private clauses cite it).
use Rattle.std.{specs.Prelude.{ℕ, Bool, ◌||◌, ◌&&◌, not, ◌==◌, nat_le, if◌then◌else◌}, specs.Int.{w64, trailing_zeros}}
use Rattle.yq_core.{specs.Characters.is_text_byte, specs.Text.is_feed, specs.Plain.is_flow_indicator, specs.declared.runs.Run.Run}
use Rattle.yq_core.specs.declared.runs.Run.TheVariants.{Text, Spaces, Plain, Quoted}

-- a byte at which a run stops: of a plain scalar, one at which it may end, by what follows; of a quoted one, its quote, a backslash or an LF (own)
abbrev pub is_stop : Run → ℕ → Bool
is_stop Text b = not (is_text_byte b)
is_stop Spaces b = not (b == 32)
is_stop Plain b = nat_le b 32 || b == 58 || is_flow_indicator b
is_stop (Quoted quote) b = b == quote || b == 92 || is_feed b

-- a byte over which a run goes (own)
abbrev pub run_goes_on : Run → ℕ → Bool
run_goes_on run b = not (is_stop run b)

-- neither a visible character of ASCII nor a space nor an LF (own)
abbrev pub is_other_byte : ℕ → Bool
is_other_byte b = not ((nat_le 32 b && nat_le b 126) || is_feed b)

-- a visible character of ASCII, a space or an LF (own)
abbrev pub is_ascii_byte : ℕ → Bool
is_ascii_byte b = not (is_other_byte b)

-- an ASCII letter or digit, or a byte of another character than ASCII (own)
abbrev pub is_word_byte : ℕ → Bool
is_word_byte b = (nat_le 97 b && nat_le b 122) || (nat_le 65 b && nat_le b 90) || (nat_le 48 b && nat_le b 57) || nat_le 128 b

-- how many of sixteen lanes come before the first one whose bit is set (own)
abbrev pub first_set : ℕ → ℕ
first_set bits = if bits == 0 then 16 else trailing_zeros w64 bits
