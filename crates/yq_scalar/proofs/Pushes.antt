-- What is added to a text, one after the other.
use Rattle.std.proofs.Common.{inl, inr, ◌≡◌, ◌<◌, ℕ, Bool, ◌==◌, List, [], ◌∷◌, ◌++◌, Option, Some, Result, Ok, Err, OnOk, is_ok}
use Rattle.std.{proofs.Common.{if◌then◌else◌, sym, ap, ◌∙◌, append_assoc, arith, encode_utf8}, proofs.lemmas.Bool.cases_Bool}
use Rattle.std.{proofs.lemmas.Option.same_Some, proofs.lemmas.Str.encode_ascii}
use Rattle.yq_core.specs.Written.{double_by, in_double, letter_of, written_letters}

-- what is added after what was added
pub more_added : (out mid now a b : List ℕ) → mid ≡ out ++ a → now ≡ mid ++ b → now ≡ out ++ (a ++ b)
more_added out mid now a b h e = e ∙ (ap (λ (l : List ℕ). l ++ b) h ∙ append_assoc out a b)

pub on_added : {X E : Type 0} (r : Result X E) (out mid now a b : List ℕ) → mid ≡ out ++ a → OnOk r (now ≡ mid ++ b) → OnOk r (now ≡ out ++ (a ++ b))
on_added (Ok x) out mid now a b h e = more_added out mid now a b h e
on_added (Err x) out mid now a b h e = tt

pub on_pushed : {X E : Type 0} (r : Result X E) (mid now b : List ℕ) → now ≡ (if is_ok r then mid ++ b else mid) → OnOk r (now ≡ mid ++ b)
on_pushed (Ok x) mid now b e = e
on_pushed (Err x) mid now b e = tt

-- and is this text
pub on_same : {X E : Type 0} (r : Result X E) (out now a b : List ℕ) → a ≡ b → OnOk r (now ≡ out ++ a) → OnOk r (now ≡ out ++ b)
on_same (Ok x) out now a b same e = e ∙ ap (λ (l : List ℕ). out ++ l) same
on_same (Err x) out now a b same e = tt

-- the letters that come after a backslash are ASCII
abbrev AreSmall : List (ℕ × ℕ) → Type 0
AreSmall [] = Unit {0}
AreSmall (e ∷ es) = (e.0 < 128) × AreSmall es

small_letter : (c l : ℕ) (es : List (ℕ × ℕ)) → AreSmall es → letter_of c es ≡ Some l → l < 128
small_letter c l [] small h = absurd cc
small_letter c l (e ∷ es) small h = elim (cases_Bool (c == e.1)) [
  | inl is ↦ (let own : Some e.0 ≡ Some l = ap (λ (b : Bool). if b then Some e.0 else letter_of c es) (sym is) ∙ h in omega (arith, same_Some _ _ own, small.0))
  | inr other ↦ (let own : letter_of c es ≡ Some l = ap (λ (b : Bool). if b then Some e.0 else letter_of c es) (sym other) ∙ h in small_letter c l es small.1
      own)
]

pub letter_written : (c l : ℕ) → letter_of c written_letters ≡ Some l → encode_utf8 92 ++ encode_utf8 l ≡ in_double c
letter_written c l h =
    let small : AreSmall written_letters = (
      omega arith,
      (
        omega arith,
        (
          omega arith,
          (
            omega arith,
            (
              omega arith,
              (omega arith, (omega arith, (omega arith, (omega arith, (omega arith, (omega arith, (omega arith, (omega arith, (omega arith, tt))))))))),
            ),
          ),
        ),
      ),
    ) in
    (λ i. encode_ascii 92 (omega arith) i ++ encode_ascii l (small_letter c l written_letters small h) i) ∙ sym (ap (λ (o : Option ℕ). double_by o c) h)
