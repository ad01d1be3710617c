-- What is written plain is read as the same scalar.
use Rattle.std.proofs.Common.{◌≡◌, ℕ, Bool, true, false, eqb, List, [], ◌∷◌, ◌++◌, Option, refl, sym, ap, ◌∙◌, subst, inl, codes, rules}
use Rattle.std.{proofs.lemmas.Bool.{false≢true, false_from_ne_true, and_parts}, proofs.lemmas.Option.same_Some, specs.List.list_all}
use Rattle.std.specs.Str.{IsUtf8, chars}
use Rattle.yq_core.{specs.declared.kind.Kind.Kind, specs.Characters.{is_text, is_text_char, pairs_returns}, specs.Text.{is_empty, front}}
use Rattle.yq_core.specs.Plain.{is_indicator, IsPlain, ends_plain, holds_break, plain_at}
use Rattle.yq_core.{specs.PlainText.{is_plain_char, is_plain_text, begins_plainly}, specs.Scalar.{ScalarText, IsScalar, plain_of, of_kind}}
use Rattle.yq_core.{specs.Schema.Resolves, specs.SchemaReading.resolve, specs.Writable.{can_write_plain, is_string}}
use Rattle.yq_core.{proofs.Bools.{at_byte, none_of}, proofs.Bytes.Each, proofs.PlainLaws.plain_again}
use Rattle.yq_core.proofs.PlainWritten.{is_no_control, no_controls, plain_text_parts, plain_written}
use Rattle.yq_core.{proofs.SchemaLaws.{resolve_takes, resolve_again}, proofs.SchemaPlain.{null_plain, bool_plain, int_plain, float_plain}}
use Rattle.yq_core.specs.declared.kind.Kind.TheVariants as kinds

-- a text begins with one plain scalar at most
pub plain_one : (flow : Bool) (spaces : Option ℕ) (p rest q other : List ℕ) → p ++ rest ≡ q ++ other → IsPlain flow spaces p rest → IsPlain flow spaces q other → (p ≡ q) × (rest ≡ other)
plain_one flow spaces p rest q other e a b =
    let same : (p, rest) ≡ (q, other) = same_Some _ _ (sym (plain_again flow spaces p rest a) ∙ (ap (plain_at flow spaces) e ∙ plain_again flow spaces q other b)) in
    (ap (λ (x : List ℕ × List ℕ). x.0) same, ap (λ (x : List ℕ × List ℕ). x.1) same)

no_controls_line : (t : List ℕ) → Each is_no_control t → holds_break t ≡ false
no_controls_line [] q = refl
no_controls_line (b ∷ t) q = rw ((none_of (eqb b 9) (eqb b 10) (eqb b 13) q.0).1, no_controls_line t q.1) refl

-- no break is in it
pub plain_line : (flow : Bool) (t : List ℕ) → IsUtf8 t → is_plain_text flow t ≡ true → holds_break t ≡ false
plain_line flow t u h = no_controls_line t (no_controls t u (plain_text_parts flow t h).0)

text_chars : (cs : List ℕ) → list_all is_plain_char cs ≡ true → list_all is_text_char cs ≡ true
text_chars [] h = refl
text_chars (c ∷ cs) h = let p = and_parts (is_plain_char c) (list_all is_plain_char cs) h in rw ((and_parts (is_text_char c) _ p.0).0, text_chars cs p.1) refl

no_controls_pairs : (t : List ℕ) → Each is_no_control t → pairs_returns t ≡ true
unfolding pairs_returns
no_controls_pairs [] q = refl
no_controls_pairs (b ∷ t) q = rw ((none_of (eqb b 9) (eqb b 10) (eqb b 13) q.0).2, no_controls_pairs t q.1) refl

-- it is a text
pub plain_is_text : (flow : Bool) (t : List ℕ) → IsUtf8 t → is_plain_text flow t ≡ true → is_text t ≡ true
plain_is_text flow t u h = let p = plain_text_parts flow t h in rw (text_chars (chars t) p.0, no_controls_pairs t (no_controls t u p.0)) refl

pub plain_some : (flow : Bool) (t : List ℕ) → is_plain_text flow t ≡ true → is_empty t ≡ false
plain_some flow t h = search rules

-- it begins with no indicator but a `-`
pub plain_opens : (test : ℕ → Bool) (t : List ℕ) → ((b : ℕ) → test b ≡ true → is_indicator b ≡ true) → test 45 ≡ false → begins_plainly t ≡ true → front test t ≡ false
plain_opens test t h1 h2 h3 = search (rules, false_from_ne_true, and_parts, false≢true, at_byte)

pub string_kind : (k : Kind) → is_string k ≡ true → k ≡ kinds.Text
string_kind k h1 = search (rules, false≢true)

resolved : (t : List ℕ) (k : Kind) → resolve t ≡ k → Resolves t k
resolved t k e = subst (Resolves t) e (resolve_takes t)

-- what Plain can write is of the characters that are plain
pub writable_text : (kind : Kind) (t : List ℕ) (flow : Bool) → IsScalar kind t → can_write_plain (record { kind = kind; text = t }) flow ≡ true → is_plain_text flow t ≡ true
unfolding can_write_plain
writable_text kinds.Null t flow i h = rw i (null_plain flow)
writable_text kinds.Bool t flow i h = bool_plain flow t (resolved t kinds.Bool i)
writable_text kinds.Int t flow i h = int_plain flow t (resolved t kinds.Int i)
writable_text kinds.Float t flow i h = float_plain flow t (resolved t kinds.Float i).0
writable_text kinds.Text t flow i h = (and_parts (is_string (resolve t)) (is_plain_text flow t) h).1

-- its text means it
pub writable_same : (kind : Kind) (t : List ℕ) (flow : Bool) → IsScalar kind t → can_write_plain (record { kind = kind; text = t }) flow ≡ true → plain_of t ≡ record { kind = kind; text = t }
unfolding can_write_plain
writable_same kinds.Null t flow i h = rw i (ap (λ k. of_kind k (codes "null")) (resolve_again (codes "null") kinds.Null (inl refl)))
writable_same kinds.Text t flow i h = ap (λ k. of_kind k t) (string_kind (resolve t) (and_parts (is_string (resolve t)) (is_plain_text flow t) h).0)
writable_same _ t flow i h = ap (λ k. of_kind k t) i

pub writable_piece : (s : ScalarText) (flow : Bool) (spaces : Option ℕ) (rest : List ℕ) → IsUtf8 s.text → IsScalar s.kind s.text → can_write_plain s flow ≡ true → ends_plain flow spaces rest ≡ true → IsPlain flow spaces s.text rest
writable_piece s flow spaces rest u i h e = plain_written flow spaces s.text rest u (writable_text s.kind s.text flow i h) e
