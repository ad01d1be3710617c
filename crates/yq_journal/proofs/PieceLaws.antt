-- Pieces before and after a cursor, as bytes go over it and are exchanged there.
use Rattle.std.proofs.Common.{rules, ◌≡◌, ◌≢◌, ℕ, ◌+◌, ◌≤◌, ◌<◌, List, [], ◌∷◌, ◌++◌, length, take, drop, refl, sym, ap, ◌∙◌, arith}
use Rattle.std.proofs.Common.{append_assoc, append-nil, ◌-◌, length-drop, take_all, Bor, length-append, Some, None}
use Rattle.std.{specs.Prelude.{◌↔◌, reverse}, proofs.Math.Seq.{drop-append_seam, take-append_seam}}
use Rattle.std.proofs.lemmas.List.{length-take-le, reverse-append, take-append-drop, take-append-le}
use Rattle.yq_text.{specs.Splice.{Splice, Exchanges, change_done}, proofs.SpliceLaws.{done-from_exchanges, exchanges-from_done}}
use Rattle.yq_journal.specs.PieceTable.{forward_bytes, backward_bytes, splice_of_parts}

-- ---- pieces

pub forward_bytes_push : (ps : List (Bor (List ℕ))) (p : Bor (List ℕ)) → forward_bytes (ps ++ p ∷ []) ≡ forward_bytes ps ++ p.now
forward_bytes_push [] p = append-nil p.now
forward_bytes_push (x ∷ ps) p = ap (λ l. x.now ++ l) (forward_bytes_push ps p) ∙ sym (append_assoc x.now (forward_bytes ps) p.now)

pub backward_bytes_push : (ps : List (Bor (List ℕ))) (p : Bor (List ℕ)) → backward_bytes (ps ++ p ∷ []) ≡ p.now ++ backward_bytes ps
backward_bytes_push [] p = sym (append-nil p.now)
backward_bytes_push (x ∷ ps) p = ap (λ l. l ++ x.now) (backward_bytes_push ps p) ∙ append_assoc p.now (backward_bytes ps) x.now

pub forward_bytes-reverse : (ps : List (Bor (List ℕ))) → forward_bytes (reverse ps) ≡ backward_bytes ps
forward_bytes-reverse [] = refl
forward_bytes-reverse (x ∷ ps) = ap forward_bytes (reverse-append (x ∷ []) ps) ∙ forward_bytes_push (reverse ps) x
    ∙ ap (λ l. l ++ x.now) (forward_bytes-reverse ps)

-- a piece in two parts
pub in_parts : (p : List ℕ) (n : ℕ) → take n p ++ take (length p - n) (drop n p) ≡ p
in_parts p n = ap (λ l. take n p ++ l) (take_all (length p - n) (drop n p) (omega (arith, length-drop n p))) ∙ take-append-drop n p

-- a piece is parted at the cursor
pub parted_at : (before p after : List ℕ) (n : ℕ) → (before ++ take n p) ++ (take (length p - n) (drop n p) ++ after) ≡ before ++ (p ++ after)
parted_at before p after n =
    append_assoc before (take n p) (take (length p - n) (drop n p) ++ after)
    ∙ ap (λ l. before ++ l) (sym (append_assoc (take n p) (take (length p - n) (drop n p)) after) ∙ ap (λ l. l ++ after) (in_parts p n))

-- how long bytes are to which a part of a piece is added
pub part_long : (before p all : List ℕ) (n : ℕ) → all ≡ before ++ take n p → n ≤ length p → length all ≡ length before + n
part_long before p all n e h = ap length e ∙ length-append before (take n p) ∙ ap (λ k. length before + k) (length-take-le n p h)

-- ---- bytes that are looked for after the cursor

-- bytes that a piece begins with
pub begun_same : (p left rest : List ℕ) → take (length left) p ≡ left → p ++ rest ≡ left ++ (take (length p - length left) (drop (length left) p) ++ rest)
begun_same p left rest same =
    let end = take (length p - length left) (drop (length left) p) in
    ap (λ l. l ++ rest) (sym (in_parts p (length left)) ∙ ap (λ l. l ++ end) same) ∙ append_assoc left end rest

-- bytes that others begin with are at their begin
pub begins : (p left rest c : List ℕ) → length left ≤ length p → p ++ rest ≡ left ++ c → take (length left) p ≡ left
begins p left rest c h e = sym (take-append-le (length left) p rest h) ∙ ap (take (length left)) e ∙ take-append_seam left c

-- a piece that they begin with is passed over in both
pub passed : (p rest left c : List ℕ) → take (length p) left ≡ p → (p ++ rest ≡ left ++ c) ↔ (rest ≡ take (length left - length p) (drop (length p) left) ++ c)
passed p rest left c same =
    let more = take (length left - length p) (drop (length p) left) in
    let whole : left ++ c ≡ p ++ (more ++ c) = ap (λ l. l ++ c) (sym (in_parts left (length p)) ∙ ap (λ l. l ++ more) same) ∙ append_assoc p more c in (
      λ e. sym (drop-append_seam p rest) ∙ ap (drop (length p)) (e ∙ whole) ∙ drop-append_seam p (more ++ c),
      λ e. ap (λ l. p ++ l) e ∙ sym whole,
    )

-- no bytes are found where there is no piece
pub none_there : (ps : List (Bor (List ℕ))) (left c : List ℕ) → ps ≡ [] → 0 < length left → backward_bytes ps ≡ left ++ c → ⊥
none_there ps left c e h is =
    let none : 0 ≡ length left + length c = ap length (sym (ap backward_bytes e) ∙ is) ∙ length-append left c in
    omega (arith, none, h)

-- ---- a splice at the cursor

rest_same : (xs ys zs ws : List ℕ) → length xs ≡ length ys → xs ++ zs ≡ ys ++ ws → zs ≡ ws
rest_same xs ys zs ws long same =
    sym (drop-append_seam xs zs) ∙ ap (drop (length xs)) same ∙ ap (λ n. drop n (ys ++ ws)) long ∙ drop-append_seam ys ws

-- no splice is done on a text on which it exchanges nothing
pub none_done : (s : Splice) (b : List ℕ) → ((c : List ℕ) → Exchanges s b c → ⊥) → change_done s b ≡ None
none_done s b never = elim (change_done s b) as (λ o. change_done s b ≡ o → o ≡ None) [
  | None ↦ λ e. refl
  | Some c ↦ λ e. absurd (never c (exchanges-from_done s b c e))
] refl

-- a splice whose old bytes come after the cursor is done there
pub exchanged : (at : ℕ) (old new before after b : List ℕ) → before ++ (old ++ after) ≡ b → length before ≡ at
    → Some ((before ++ new) ++ after) ≡ change_done (splice_of_parts at old new) b
exchanged at old new before after b whole place =
    sym (done-from_exchanges (splice_of_parts at old new) b ((before ++ new) ++ after) (record {
      front = before;
      rest = after;
      offset = place;
      before = sym whole;
      after = append_assoc before new after;
    }))

-- a splice is not done where other bytes come after the cursor
pub not_exchanged : (at : ℕ) (old new before after b : List ℕ) → before ++ after ≡ b → length before ≡ at → ((c : List ℕ) → after ≢ old ++ c)
    → None ≡ change_done (splice_of_parts at old new) b
not_exchanged at old new before after b whole place other = search (rules, none_done, rest_same)
