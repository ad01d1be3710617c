-- The piece of a plain scalar.
use Rattle.std.{proofs.Common.{◌≡◌, ℕ, List, drop, Some, Result, Ok, Err, sym, ap, ◌∙◌, IfOk, ℤ, rules}, proofs.lemmas.Option.same_Some}
use Rattle.yq_core.{specs.declared.piece.Piece.Piece, specs.declared.style.Place.Place, specs.Answers.ReadsAs}
use Rattle.yq_core.{specs.Piece.{further_spaces, IsPlainPiece, plain_from}, specs.Plain.plain_at, specs.Writable.in_flow}
use Rattle.yq_core.{proofs.Bools.bind_some, proofs.PlainLaws.{plain_takes, plain_again}}

pub piece_takes : (place : Place) (n : ℤ) (at : ℕ) (text : List ℕ) (p : Piece) → plain_from place n at text ≡ Some p → IsPlainPiece place n at text p
unfolding plain_from
piece_takes place n at text p h =
    let b = bind_some (plain_at (in_flow place) (further_spaces place n) (drop at text)) h in
    let t = plain_takes (in_flow place) (further_spaces place n) (drop at text) b.0 b.1 in
    record { scalar = b.0.0; rest = b.0.1; is_located = t.0; plain = t.1; piece = sym (same_Some _ _ b.2) }

pub piece_again : (place : Place) (n : ℤ) (at : ℕ) (text : List ℕ) (p : Piece) → IsPlainPiece place n at text p → plain_from place n at text ≡ Some p
unfolding plain_from
piece_again place n at text p h = search (rules, plain_again)

pub found_by : {E : Type 0} (place : Place) (n : ℤ) (at : ℕ) (text : List ℕ) (r : Result Piece E) → ReadsAs (λ p. p) r (plain_from place n at text) → IfOk r (IsPlainPiece place n at text)
found_by place n at text r h = search (rules, piece_takes)

pub only_by : {E : Type 0} (place : Place) (n : ℤ) (at : ℕ) (text : List ℕ) (r : Result Piece E) → ReadsAs (λ p. p) r (plain_from place n at text) → (p : Piece) → IsPlainPiece place n at text p → r ≡ Ok p
only_by place n at text (Ok q) h p i = ap Ok (same_Some _ _ (sym h ∙ piece_again place n at text p i))
only_by place n at text (Err e) h p i = absurd (let e = sym h ∙ piece_again place n at text p i in cc)
