-- The expression that `--text` asks for (own).
use Rattle.std.{specs.Prelude.{ℕ, ◌==◌, if◌then◌else◌, List, [], ◌∷◌, ◌++◌, codes, encode_utf8, Option, Some, None}, specs.List.flat_map}
use Rattle.std.specs.Str.{chars}

-- a character of a text as it is in an expression: after a backslash where it is a quote or a backslash
abbrev pub in_text : ℕ → List ℕ
in_text c = if c == 34 then 92 ∷ 34 ∷ [] else if c == 92 then 92 ∷ 92 ∷ [] else encode_utf8 c

-- what comes before the text: the places that it is put to, and the quote
abbrev pub setting_front : List ℕ → List ℕ
setting_front expr = codes "(" ++ (expr ++ codes ") = \"")

-- the expression that puts a text to the places of a path or pipe: `(EXPR) = "TEXT"`
abbrev pub setting : List ℕ → List ℕ → List ℕ
setting expr text = setting_front expr ++ (flat_map in_text (chars text) ++ encode_utf8 34)

-- the expression of a command: EXPR, or the one that puts the text of `--text` to its places
abbrev pub asked_expression : Option (List ℕ) → List ℕ → List ℕ
asked_expression None expr = expr
asked_expression (Some text) expr = setting expr text
