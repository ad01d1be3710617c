-- Quoted scalars by their texts alone, and how a text is written in quotes of either kind (own).
use Rattle.std.{specs.List.flat_map, specs.Prelude.{◌==◌, ◌++◌, ℕ, List, encode_utf8, if◌then◌else◌}, specs.Str.chars}
use Rattle.yq_core.{specs.Quoted.{IsQuoted, QuotedLines}, specs.Written.{in_double, in_single}}

-- a text before a rest is a quoted scalar of some lines, in quotes of one kind (YAML 1.2.2, sections 7.3.1 and 7.3.2)
abbrev pub IsQuotedBefore : List ℕ → List ℕ → Type 0
IsQuotedBefore p rest = (quote : ℕ) × ((ls : QuotedLines) × IsQuoted quote ls p rest)

-- a character in quotes of that kind (YAML 1.2.2, sections 7.3.1 and 7.3.2)
abbrev pub char_in_quotes : ℕ → ℕ → List ℕ
char_in_quotes quote c = if quote == 34 then in_double c else in_single c

-- a text in quotes of that kind (YAML 1.2.2, sections 7.3.1 and 7.3.2)
abbrev pub text_in_quotes : ℕ → List ℕ → List ℕ
text_in_quotes quote t = encode_utf8 quote ++ (flat_map (λ c. char_in_quotes quote c) (chars t) ++ encode_utf8 quote)
