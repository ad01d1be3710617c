-- The core schema: the kind of a plain scalar by its text, row by row of its table (YAML 1.2.2, 10.3.2).
use Rattle.std.specs.Prelude.{◌≡◌, ℕ, ◌⊎◌, List, [], ◌∷◌, ◌++◌, codes, ℤ}
use Rattle.yq_core.specs.declared.kind.Kind.{Kind}
use Rattle.yq_core.specs.Numbers.{Sign, spell_sign, Integer, spell_integer, IsInteger, value_of_digits, Number, spell_number, IsNumber}
use Rattle.yq_core.specs.declared.kind.Kind.TheVariants as kinds

-- the words for null (10.3.2)
abbrev pub null_words : List (List ℕ)
null_words = codes "null" ∷ codes "Null" ∷ codes "NULL" ∷ codes "~" ∷ [] ∷ []

-- the words for true and false (10.3.2)
abbrev pub bool_words : List (List ℕ)
bool_words = codes "true" ∷ codes "True" ∷ codes "TRUE" ∷ codes "false" ∷ codes "False" ∷ codes "FALSE" ∷ []

-- the words for infinity, after a sign or none (10.3.2)
abbrev pub infinity_words : List (List ℕ)
infinity_words = codes ".inf" ∷ codes ".Inf" ∷ codes ".INF" ∷ []

-- the words for what is no number (10.3.2)
abbrev pub nan_words : List (List ℕ)
nan_words = codes ".nan" ∷ codes ".NaN" ∷ codes ".NAN" ∷ []

-- the text is one of the words (own)
abbrev pub IsOneOf : List (List ℕ) → List ℕ → Type 0
IsOneOf [] t = ⊥
IsOneOf (word ∷ words) t = (t ≡ word) ⊎ IsOneOf words t

-- the text is an int of that number (10.3.2)
abbrev pub IsIntOf : List ℕ → ℤ → Type 0
IsIntOf t n = (i : Integer) × (t ≡ spell_integer i) × IsInteger i × (n ≡ value_of_digits i)

-- the text is an int (10.3.2)
abbrev pub IsInt : List ℕ → Type 0
IsInt t = (n : ℤ) × IsIntOf t n

-- the text is a sign or none, and a word for infinity (10.3.2)
abbrev pub IsInfinity : List ℕ → Type 0
IsInfinity t = (sign : Sign) × (word : List ℕ) × (t ≡ spell_sign sign ++ word) × IsOneOf infinity_words word

-- the text is a number with a point or an exponent, or with neither (10.3.2)
abbrev pub IsNumberText : List ℕ → Type 0
IsNumberText t = (d : Number) × (t ≡ spell_number d) × IsNumber d

-- the text is a float (10.3.2)
abbrev pub IsFloat : List ℕ → Type 0
IsFloat t = IsNumberText t ⊎ IsInfinity t ⊎ IsOneOf nan_words t

-- the first row of the table that the text fits gives its kind; with none it is a string (10.3.2)
abbrev pub Resolves : List ℕ → Kind → Type 0
Resolves t kinds.Null = IsOneOf null_words t
Resolves t kinds.Bool = IsOneOf bool_words t
Resolves t kinds.Int = IsInt t
Resolves t kinds.Float = IsFloat t × ¬ IsInt t
Resolves t kinds.Text = ¬ IsOneOf null_words t × ¬ IsOneOf bool_words t × ¬ IsInt t × ¬ IsFloat t
