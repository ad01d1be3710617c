-- How long a text may be.
use Rattle.std.specs.Prelude.{ℕ}

-- how many bytes a text has at most (own)
abbrev pub text_limit : ℕ
text_limit = 16777216
