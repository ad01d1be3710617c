-- The plain and quoted scalars of inline nodes (YAML 1.2.2, section 7.3).
use Rattle.std.specs.Prelude.{◌≡◌, ◌⊎◌, ℕ, Bool, true, ◌||◌, not, ◌==◌, List, Option, Some, None, if◌then◌else◌}
use Rattle.yq_core.{specs.declared.style.Style.Style, specs.ContentReading.{plain_content, quoted_content}}
use Rattle.yq_core.{specs.Plain.{IsPlain, begins_plain, holds_break}, specs.Quoted.{QuotedLines, IsQuoted}, specs.QuotedReading.is_quote}
use Rattle.yq_core.{specs.Scalar.{ScalarText, plain_of, string_of}, specs.Text.front}
use Rattle.yq_core.specs.declared.style.Style.TheVariants as styles

-- a quote is in front (YAML 1.2.2, sections 7.3.1 and 7.3.2)
abbrev pub is_quoted : List ℕ → Bool
is_quoted t = front is_quote t

-- a scalar in some quotes before a rest (YAML 1.2.2, sections 7.3.1 and 7.3.2)
abbrev pub IsInQuotes : List ℕ → List ℕ → Type 0
IsInQuotes p rest = (quote : ℕ) × ((ls : QuotedLines) × IsQuoted quote ls p rest)

-- a scalar has one line, where no further line may follow (YAML 1.2.2, section 7.4.2; own)
abbrev pub has_its_lines : Option ℕ → List ℕ → Bool
has_its_lines None p = not (holds_break p)
has_its_lines (Some n) p = true

-- A scalar before a rest, in a flow collection or not, whose further lines begin with so many spaces at least (YAML 1.2.2, section 7.3).
abbrev pub IsScalarAt : Bool → Option ℕ → List ℕ → List ℕ → Type 0
IsScalarAt flow spaces p rest = IsPlain flow spaces p rest ⊎ (IsInQuotes p rest × (has_its_lines spaces p ≡ true))

-- a scalar may begin here (YAML 1.2.2, section 7.3)
abbrev pub begins_scalar : Bool → List ℕ → Bool
begins_scalar flow t = is_quoted t || begins_plain flow t

-- the style of a scalar as it is written (YAML 1.2.2, section 7.3)
abbrev pub scalar_style : List ℕ → Style
scalar_style p = if front (λ b. b == 39) p then styles.Single else (if front (λ b. b == 34) p then styles.Double else styles.Plain)

-- the text that a scalar, as it is written, means (YAML 1.2.2, section 7.3)
unfoldable pub scalar_content : List ℕ → List ℕ
scalar_content p = if is_quoted p then quoted_content p else plain_content p

-- the scalar that it means: in quotes a string (YAML 1.2.2, section 10.3.2)
unfoldable pub scalar_of : List ℕ → ScalarText
scalar_of p = if is_quoted p then string_of (quoted_content p) else plain_of (plain_content p)
