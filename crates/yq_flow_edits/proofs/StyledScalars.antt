-- Scalars that are written outside flow collections, in each style of one line, are read as they were.
use Rattle.std.proofs.Common.{◌≡◌, ℕ, true, false, eqb, List, [], Option, refl, sym, ap, ◌∙◌, inl, inr, eqb-true, rules}
use Rattle.std.{proofs.lemmas.Bool.{false≢true, and_parts}, specs.List.list_all, specs.Str.chars}
use Rattle.yq_core.{specs.declared.style.Place.TheVariants.Block, specs.declared.style.Style.Style, specs.Plain.{ends_plain, holds_break}}
use Rattle.yq_core.{specs.Quoted.last, specs.QuotedReading.is_quote, specs.Scalar.{ScalarText, string_of, plain_of}, specs.Text.front}
use Rattle.yq_core.specs.Writable.{can_write, can_write_plain, is_string, is_single_char}
use Rattle.yq_core.{specs.Written.{written_scalar, single, double, IsOneLine}, proofs.ContentLaws.quoted_content_is}
use Rattle.yq_core.proofs.PlainSpells.{plain_line, plain_is_text, plain_opens, writable_text, writable_same, writable_piece, string_kind}
use Rattle.yq_core.{proofs.PlainWritten.plain_text_parts, proofs.WrittenLaws.{double_spells, single_spells}}
use Rattle.yq_core.proofs.WrittenText.{line_holds, line_is_text, double_is_line, single_is_line}
use Rattle.yq_core.specs.Scalars.{is_quoted, has_its_lines, scalar_of}
use Rattle.yq_flow_edits.{specs.Valued.{IsValid, SpellsScalar}, proofs.SpelledScalars.{line_on, quote_indicates}}
use Rattle.yq_core.specs.declared.style.Style.TheVariants as styles

-- a string is that of its text
string_is : (s : ScalarText) → is_string s.kind ≡ true → string_of s.text ≡ s
string_is s h = ap (λ k. record { kind = k; text = s.text }) (sym (string_kind s.kind h))

-- a plain scalar doesn't end at a quote
no_quote : (spaces : Option ℕ) (rest : List ℕ) → ends_plain false spaces rest ≡ true → front (λ b. eqb b 39) rest ≡ false
no_quote spaces rest h1 = search (rules, eqb-true, false≢true)

-- one line has its lines
one_line : (spaces : Option ℕ) (p : List ℕ) → holds_break p ≡ false → has_its_lines spaces p ≡ true
one_line spaces p h = search rules

plain_spelled : (s : ScalarText) → IsValid s → can_write_plain s false ≡ true → SpellsScalar s s.text
unfolding scalar_of
plain_spelled s v h =
    let text = writable_text s.kind s.text false v.kind h in
    let line : holds_break s.text ≡ false = plain_line false s.text v.utf8 text in
    let unquoted : is_quoted s.text ≡ false = plain_opens is_quote s.text quote_indicates refl (plain_text_parts false s.text text).1 in
    record {
      same = rw unquoted (ap plain_of (line_on [] s.text line) ∙ writable_same s.kind s.text false v.kind h);
      utf8 = v.utf8;
      text = plain_is_text false s.text v.utf8 text;
      line = line;
      is_located = λ spaces rest ends. inl (writable_piece s false spaces rest v.utf8 v.kind h ends);
    }

double_spelled : (s : ScalarText) → IsValid s → is_string s.kind ≡ true → SpellsScalar s (double s.text)
unfolding scalar_of
double_spelled s v h =
    let here = double_spells s.text [] v.utf8 in
    let line = double_is_line s.text v.utf8 in
    let holds : holds_break (double s.text) ≡ false = line_holds (double s.text) line.bytes in
    record {
      same = ap string_of (quoted_content_is 34 (last here.chars) (double s.text) [] here.is ∙ here.same) ∙ string_is s h;
      utf8 = (line.chars, (line.valid, line.spelled));
      text = line_is_text (double s.text) line;
      line = holds;
      is_located = λ spaces rest ends. let there = double_spells s.text rest v.utf8 in inr ((34, (last there.chars, there.is)), one_line spaces (double s.text) holds);
    }

single_spelled : (s : ScalarText) → IsValid s → is_string s.kind ≡ true → list_all is_single_char (chars s.text) ≡ true → SpellsScalar s (single s.text)
unfolding scalar_of
single_spelled s v h all =
    let here = single_spells s.text [] v.utf8 all refl in
    let line = single_is_line s.text v.utf8 all in
    let holds : holds_break (single s.text) ≡ false = line_holds (single s.text) line.bytes in
    record {
      same = ap string_of (quoted_content_is 39 (last here.chars) (single s.text) [] here.is ∙ here.same) ∙ string_is s h;
      utf8 = (line.chars, (line.valid, line.spelled));
      text = line_is_text (single s.text) line;
      line = holds;
      is_located = λ spaces rest ends. let there = single_spells s.text rest v.utf8 all (no_quote spaces rest ends) in inr ((39, (last there.chars, there.is)), one_line spaces (single s.text) holds);
    }

-- what is written in a style of one line spells its scalar
pub styled_spells : (s : ScalarText) (style : Style) → IsValid s → IsOneLine style → can_write s style Block ≡ true → SpellsScalar s (written_scalar style s.text)
styled_spells s styles.Plain v i h = plain_spelled s v h
styled_spells s styles.Single v i h = let p = and_parts (is_string s.kind) (list_all is_single_char (chars s.text)) h in single_spelled s v p.0 p.1
styled_spells s styles.Double v i h = double_spelled s v h
styled_spells s _ v i h = absurd i
