-- The numbers of the core schema, each as the pieces that its row's regular expression names (YAML 1.2.2, 10.3.2).
use Rattle.std.specs.Prelude.{ℕ, ◌^◌, Bool, nat_lt, List, [], ◌++◌, codes, ℤ, pos, negsuc, neg_ℤ}
use Rattle.std.specs.Str.Parse.{AllDigits, IsNumeral, digits_value}

-- [-+]? (10.3.2)
pub data Sign : Type 0 where
  unsigned : Sign
  plus : Sign
  minus : Sign

-- how a sign is written (10.3.2)
abbrev pub spell_sign : Sign → List ℕ
spell_sign unsigned = []
spell_sign plus = codes "+"
spell_sign minus = codes "-"

-- an int: [-+]?[0-9]+, 0o[0-7]+ or 0x[0-9a-fA-F]+ (10.3.2)
pub data Integer : Type 0 where
  decimal : Sign → List ℕ → Integer
  octal : List ℕ → Integer
  hexadecimal : List ℕ → Integer

-- how an int is written (10.3.2)
abbrev pub spell_integer : Integer → List ℕ
spell_integer (decimal sign digits) = spell_sign sign ++ digits
spell_integer (octal digits) = codes "0o" ++ digits
spell_integer (hexadecimal digits) = codes "0x" ++ digits

-- an int has digits, each one of its base (10.3.2)
abbrev pub IsInteger : Integer → Type 0
IsInteger (decimal sign digits) = IsNumeral 10 digits
IsInteger (octal digits) = IsNumeral 8 digits
IsInteger (hexadecimal digits) = IsNumeral 16 digits

-- the number with a sign before it (10.3.2)
abbrev pub signed : Sign → ℕ → ℤ
signed unsigned n = pos n
signed plus n = pos n
signed minus n = neg_ℤ (pos n)

-- the number that an int's digits write (10.3.2)
abbrev pub value_of_digits : Integer → ℤ
value_of_digits (decimal sign digits) = signed sign (digits_value 10 digits)
value_of_digits (octal digits) = pos (digits_value 8 digits)
value_of_digits (hexadecimal digits) = pos (digits_value 16 digits)

-- the number is one of the 2 ^ 64 from -(2 ^ 63) on; `negsuc n` is -(n + 1) (own)
abbrev pub is_i64 : ℤ → Bool
is_i64 (pos n) = nat_lt n (2 ^ 63)
is_i64 (negsuc n) = nat_lt n (2 ^ 63)

-- \.[0-9]+|[0-9]+(\.[0-9]*)? (10.3.2)
pub data Mantissa : Type 0 where
  fraction : List ℕ → Mantissa
  whole : List ℕ → Mantissa
  pointed : List ℕ → List ℕ → Mantissa

-- how a mantissa is written (10.3.2)
abbrev pub spell_mantissa : Mantissa → List ℕ
spell_mantissa (fraction digits) = codes "." ++ digits
spell_mantissa (whole digits) = digits
spell_mantissa (pointed digits after) = digits ++ (codes "." ++ after)

-- a mantissa has digits; after a point that follows digits there may be none (10.3.2)
abbrev pub IsMantissa : Mantissa → Type 0
IsMantissa (fraction digits) = IsNumeral 10 digits
IsMantissa (whole digits) = IsNumeral 10 digits
IsMantissa (pointed digits after) = IsNumeral 10 digits × AllDigits 10 after

-- ([eE][-+]?[0-9]+)? (10.3.2)
pub data Exponent : Type 0 where
  absent : Exponent
  lower : Sign → List ℕ → Exponent
  upper : Sign → List ℕ → Exponent

-- how an exponent is written (10.3.2)
abbrev pub spell_exponent : Exponent → List ℕ
spell_exponent absent = []
spell_exponent (lower sign digits) = codes "e" ++ (spell_sign sign ++ digits)
spell_exponent (upper sign digits) = codes "E" ++ (spell_sign sign ++ digits)

-- an exponent has digits (10.3.2)
abbrev pub IsExponent : Exponent → Type 0
IsExponent absent = Unit {0}
IsExponent (lower sign digits) = IsNumeral 10 digits
IsExponent (upper sign digits) = IsNumeral 10 digits

-- a number of the float row: a sign, a mantissa and an exponent (10.3.2)
pub record Number : Type 0 where
  pub sign : Sign
  pub mantissa : Mantissa
  pub exponent : Exponent

-- how such a number is written (10.3.2)
abbrev pub spell_number : Number → List ℕ
spell_number d = spell_sign d.sign ++ (spell_mantissa d.mantissa ++ spell_exponent d.exponent)

-- its mantissa and its exponent are written as they must be (10.3.2)
abbrev pub IsNumber : Number → Type 0
IsNumber d = IsMantissa d.mantissa × IsExponent d.exponent
