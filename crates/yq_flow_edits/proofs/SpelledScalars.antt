-- Scalars that are written are read as they were.
use Rattle.std.proofs.Common.{◌≡◌, ℕ, Bool, true, false, cond, not, ◌&&◌, ◌||◌, List, [], ◌∷◌, ◌++◌, Option, Some, None, refl, sym, ap, ◌∙◌}
use Rattle.std.{proofs.Common.{inr, ⊎_elim, append_assoc, append-nil, eqb-true, rules}, proofs.Math.Bool.and-false}
use Rattle.std.proofs.lemmas.Bool.{false≢true, cond_both, or_cases, and_parts, not-true, or_parts}
use Rattle.yq_core.{specs.declared.kind.Kind.Kind, specs.ContentReading.{within, content_on}}
use Rattle.yq_core.specs.Plain.{ends_plain, holds_break, is_indicator}
use Rattle.yq_core.{specs.PlainText.{is_plain_text, begins_plainly, needs_quotes, no_rest, is_merge, begins_marker}, specs.Quoted.last}
use Rattle.yq_core.{specs.QuotedReading.is_quote, specs.Scalar.{ScalarText, string_of}, specs.SchemaReading.resolve}
use Rattle.yq_core.{specs.Text.{is_feed, front}, specs.Writable.{can_write_plain, is_string}, specs.Written.{written_scalar, double}}
use Rattle.yq_core.proofs.ContentLaws.{quoted_content_is}
use Rattle.yq_core.proofs.PlainSpells.{plain_line, plain_opens, writable_text, writable_same, writable_piece, string_kind}
use Rattle.yq_core.{proofs.PlainWritten.plain_text_parts, proofs.WrittenLaws.double_spells, proofs.WrittenText.{line_holds, double_is_line}}
use Rattle.yq_core.specs.Scalars.{is_quoted, has_its_lines, IsScalarAt, scalar_content, scalar_of}
use Rattle.yq_flow_edits.specs.Valued.{IsValid}
use Rattle.yq_core.specs.declared.style.Style.TheVariants as styles

-- the content of one line is the line
front_none : (t : List ℕ) → holds_break t ≡ false → front is_feed t ≡ false
front_none t h = search (rules, or_parts)

chosen_last : {A : Type 0} (f k : Bool) (y z u : A) → f ≡ false → k ≡ false → cond f y (cond k z u) ≡ u
chosen_last f k y z u h1 h2 = search (rules, false≢true)

pub line_on : (white t : List ℕ) → holds_break t ≡ false → content_on 0 0 within white t ≡ white ++ t
unfolding content_on
line_on white [] h = sym (append-nil white)
line_on white (b ∷ t) h = search (rules, or_parts, front_none, and-false, chosen_last, cond_both, append_assoc, line_on (white ++ b ∷ []) t, line_on [] t)

needs_less : (flow : Bool) (t : List ℕ) → needs_quotes true t ≡ false → needs_quotes flow t ≡ false
needs_less flow t h1 = search (rules, or_parts, and-false)

no_rest_less : (flow : Bool) (t : List ℕ) → no_rest (needs_quotes true) t ≡ true → no_rest (needs_quotes flow) t ≡ true
no_rest_less flow [] h = refl
no_rest_less flow (b ∷ t) h = search (rules, and_parts, not-true, needs_less, no_rest_less flow t)

third : (a b c d e f : Bool) → (c ≡ true → f ≡ true) → (a && b && c && d && e) ≡ true → (a && b && f && d && e) ≡ true
third a b c d e f then_ h = search (rules, and_parts)

text_anywhere : (flow : Bool) (t : List ℕ) → is_plain_text true t ≡ true → is_plain_text flow t ≡ true
text_anywhere flow t h = third _ (begins_plainly t) (no_rest (needs_quotes true) t) (not (is_merge t)) (not (begins_marker t)) (no_rest (needs_quotes flow) t) (no_rest_less flow t) h

pub plain_anywhere : (s : ScalarText) (flow : Bool) → can_write_plain s true ≡ true → can_write_plain s flow ≡ true
unfolding can_write_plain
plain_anywhere s flow h = go (not (is_string s.kind)) (is_string (resolve s.text)) h where
  go : (a b : Bool) → (a || (b && is_plain_text true s.text)) ≡ true → (a || (b && is_plain_text flow s.text)) ≡ true
  go true b e = refl
  go false true e = text_anywhere flow s.text e
  go false false e = e

-- a plain text
pub quote_indicates : (b : ℕ) → is_quote b ≡ true → is_indicator b ≡ true
quote_indicates b h = search (rules, ⊎_elim, eqb-true, or_cases)

plain_unquoted : (s : ScalarText) → IsValid s → can_write_plain s true ≡ true → is_quoted s.text ≡ false
plain_unquoted s v h = plain_opens is_quote s.text quote_indicates refl (plain_text_parts true s.text (writable_text s.kind s.text true v.kind h)).1

plain_text : (s : ScalarText) → IsValid s → can_write_plain s true ≡ true → content_on 0 0 within [] s.text ≡ s.text
plain_text s v h = line_on [] s.text (plain_line true s.text v.utf8 (writable_text s.kind s.text true v.kind h))

string_by : (string other : Bool) → (not string || other) ≡ false → string ≡ true
string_by string other h = search (rules, false≢true)

-- what else is quoted is a string
quoted_string : (s : ScalarText) → can_write_plain s true ≡ false → string_of s.text ≡ s
unfolding can_write_plain
quoted_string s h = ap (λ (k : Kind). record { kind = k; text = s.text }) (sym (string_kind s.kind (string_by (is_string s.kind) _ h)))

-- a written scalar means its scalar, and is one wherever a plain one may end
pub record IsWritten (s : ScalarText) (p : List ℕ) : Type 0 where
  pub scalar : scalar_of p ≡ s
  pub content : scalar_content p ≡ s.text
  pub piece : (flow : Bool) (spaces : Option ℕ) (rest : List ℕ) → ends_plain flow spaces rest ≡ true → IsScalarAt flow spaces p rest

pub written_by : (s : ScalarText) (plain : Bool) → can_write_plain s true ≡ plain → IsValid s → IsWritten s (written_scalar (cond plain styles.Plain styles.Double) s.text)
unfolding scalar_of scalar_content
written_by s true h v = search (rules, plain_text, plain_unquoted, writable_same, writable_piece, plain_anywhere)
written_by s false h v =
    let here = double_spells s.text [] v.utf8 in
    let content = quoted_content_is 34 (last here.chars) (double s.text) [] here.is ∙ here.same in
    record {
      scalar = ap string_of content ∙ quoted_string s h;
      content = content;
      piece = λ flow spaces rest ends. let there = double_spells s.text rest v.utf8 in inr ((34, (last there.chars, there.is)), one_line spaces);
    }
  where
    one_line : (spaces : Option ℕ) → has_its_lines spaces (double s.text) ≡ true
    one_line None = rw (line_holds (double s.text) (double_is_line s.text v.utf8).bytes) refl
    one_line (Some n) = refl
