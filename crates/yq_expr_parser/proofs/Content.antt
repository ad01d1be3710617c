-- The content of a string, run by run.
use Rattle.std.proofs.Common.{◌≡◌, ℕ, ◌<◌, true, false, ◌==◌, not, List, [], ◌∷◌, ◌++◌, Some, None, refl, sym, ap, ◌∙◌, subst, inl, inr}
use Rattle.std.proofs.Common.{arith, eqb-true, append_assoc, append-nil, rules}
use Rattle.std.{proofs.lemmas.Bool.{not-true, false≢true, and_parts, cases_Bool}, specs.List.prefix_len, specs.Str.IsCharBoundary}
use Rattle.yq_core.{specs.Text.{unless, upto, cut}, proofs.Boundaries.boundary_ends, proofs.Bools.guard_then}
use Rattle.yq_core.proofs.Upto.{upto_ends, upto_unless}
use Rattle.yq_expr_parser.specs.Lexing.{string_content, is_plain_byte, escape_front}

plain_ends : (b : ℕ) (bs : List ℕ) → unless is_plain_byte (b ∷ bs) ≡ true → b < 128
plain_ends b bs h = grind arith

pub boundary_plain : (t : List ℕ) (n : ℕ) → n ≡ prefix_len is_plain_byte t → IsCharBoundary t n
boundary_plain t n e = rw e (rw (← upto_unless) (boundary_ends (unless is_plain_byte) t plain_ends refl))

pub content_run : (t : List ℕ) → string_content t ≡ (cut (unless is_plain_byte) t).0 ++ string_content (cut (unless is_plain_byte) t).1
unfolding string_content upto
content_run [] = refl
content_run (b ∷ bs) = elim (cases_Bool (is_plain_byte b)) [
  | inl plain ↦
      let parts = and_parts (not (b == 34)) (not (b == 92)) plain in
      let a : (b == 34) ≡ false = not-true _ parts.0 in
      let c : (b == 92) ≡ false = not-true _ parts.1 in
      rw (a, c) (ap (λ (s : List ℕ). b ∷ s) (content_run bs))
  | inr other ↦ rw other refl
]

content_escape : (t c rest : List ℕ) → escape_front t ≡ Some (c, rest) → string_content t ≡ c ++ string_content rest
unfolding string_content
content_escape t c rest h1 = search (rules, guard_then, eqb-true)

content_stops : (t : List ℕ) → unless is_plain_byte t ≡ true → escape_front t ≡ None → string_content t ≡ []
unfolding string_content
content_stops t h1 h2 = search (rules, cases_Bool, eqb-true, false≢true)

cut_parts : (t run end : List ℕ) → (run, end) ≡ cut (unless is_plain_byte) t → string_content t ≡ run ++ string_content end
cut_parts t run end e = subst (λ (p : List ℕ × List ℕ). string_content t ≡ p.0 ++ string_content p.1) (sym e) (content_run t)

-- a turn of the loop: a run and an escape
pub content_next : (text out rest run end c after : List ℕ) → out ++ string_content rest ≡ string_content text → (run, end) ≡ cut (unless is_plain_byte) rest → escape_front end ≡ Some (c, after)
    → ((out ++ run) ++ c) ++ string_content after ≡ string_content text
content_next text out rest run end c after whole parts escaped =
    simp append_assoc (sym (ap (λ (s : List ℕ). out ++ s) (cut_parts rest run end parts ∙ ap (λ (s : List ℕ). run ++ s) (content_escape end c after escaped))) ∙ whole)

-- the last run
pub content_done : (text out rest run end : List ℕ) → out ++ string_content rest ≡ string_content text → (run, end) ≡ cut (unless is_plain_byte) rest → escape_front end ≡ None
    → out ++ run ≡ string_content text
content_done text out rest run end whole parts none =
    let e : end ≡ (cut (unless is_plain_byte) rest).1 = ap (λ (p : List ℕ × List ℕ). p.1) parts in
    let stops : unless is_plain_byte end ≡ true = rw e (upto_ends (unless is_plain_byte) rest refl) in
    let last : string_content rest ≡ run = cut_parts rest run end parts ∙ ap (λ (s : List ℕ). run ++ s) (content_stops end stops none) ∙ append-nil run in
    ap (λ (s : List ℕ). out ++ s) (sym last) ∙ whole
