-- What a piece table holds: a text cut in two at a cursor, each part in pieces.
use Rattle.std.specs.Borrow.{Bor}
use Rattle.std.specs.Prelude.{List, [], ◌∷◌, ℕ, ◌≡◌, ◌≢◌, ◌++◌, length, Bool, false, IsTrue, IfOk, Option, Some, None, Result, Vec}
use Rattle.std.{specs.Prelude.if◌then◌else◌, specs.declared.alloc.Global.Global}
use Rattle.yq_text.specs.Splice.{Splice, change_done, length_done}

-- the bytes of pieces, in their order (own)
abbrev pub forward_bytes : List (Bor (List ℕ)) → List ℕ
forward_bytes [] = []
forward_bytes (p ∷ ps) = p.now ++ forward_bytes ps

-- the bytes of pieces that are kept with the last one first (own)
abbrev pub backward_bytes : List (Bor (List ℕ)) → List ℕ
backward_bytes [] = []
backward_bytes (p ∷ ps) = backward_bytes ps ++ p.now

-- what comes before the cursor, what after it, and the place where the cursor is said to be (own)
pub record PieceTableView : Type 0 where
  pub before : List ℕ
  pub after : List ℕ
  pub at : ℕ

-- the text that was cut (own)
abbrev pub table_bytes : PieceTableView → List ℕ
table_bytes c = c.before ++ c.after

-- the cursor is where it is said to be, in bytes from the text's start (own)
abbrev pub HasCursor : PieceTableView → Type 0
HasCursor c = c.at ≡ length c.before

-- a splice of these parts (own)
abbrev pub splice_of_parts : ℕ → List ℕ → List ℕ → Splice
splice_of_parts at old new = record { at = at; old = old; new = new }

-- bytes to be taken out at an offset lie in a text (own)
abbrev pub LieIn : ℕ → List ℕ → List ℕ → List ℕ → Type 0
LieIn at old new text = length_done (splice_of_parts at old new) (length text) ≢ None

-- a text with new bytes in the place of the old ones, where these are at the offset (own)
abbrev pub exchanged_at : ℕ → List ℕ → List ℕ → List ℕ → Option (List ℕ)
exchanged_at at old new text = change_done (splice_of_parts at old new) text

-- the answer is whether there is such a text, which the buffer has then, or an error (own)
abbrev pub Reaches : {E : Type 0} → Result Bool E → PieceTableView → Option (List ℕ) → Type 0
Reaches r after text = IfOk r (λ done. (if done then Some (table_bytes after) else None) ≡ text)

-- the text that pieces before a cursor and pieces after it are (own)
abbrev pub cut_bytes : (before after : Vec (Bor (List ℕ)) Global) → List ℕ
cut_bytes before after = forward_bytes before.items ++ backward_bytes after.items

-- the offset of a cursor after these pieces (own)
abbrev pub pieces_length : Vec (Bor (List ℕ)) Global → ℕ
pieces_length before = length (forward_bytes before.items)

-- if the answer is yes, the text after a cursor began with these bytes, and they are taken off (own)
abbrev pub TakesOff : {E : Type 0} → Result Bool E → (old new : Vec (Bor (List ℕ)) Global) → List ℕ → Type 0
TakesOff r old new bytes = IfOk r (λ found. IsTrue found → backward_bytes old.items ≡ bytes ++ backward_bytes new.items)

-- if the answer is no, the text after a cursor doesn't begin with these bytes (own)
abbrev pub NeedsOthers : {E : Type 0} → Result Bool E → Vec (Bor (List ℕ)) Global → List ℕ → Type 0
NeedsOthers r old bytes = IfOk r (λ found. found ≡ false → (c : List ℕ) → backward_bytes old.items ≢ bytes ++ c)
