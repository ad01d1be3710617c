-- A history of whole texts, and how it goes on.
use Rattle.std.specs.Prelude.{ℕ, suc, ◌+◌, ◌-◌, List, [], ◌∷◌, ◌++◌, take, drop, codes}
use Prim.Native.Nat.{zero}

-- a later text and the expression that led to it (own)
pub record Revision : Type 0 where
  pub expr : List ℕ
  pub text : List ℕ

-- a history: the first text, the later ones, and a cursor, which says how many edits are done (own)
pub record History : Type 0 where
  pub first : List ℕ
  pub later : List Revision
  pub at : ℕ

-- the text after so many edits (own)
abbrev pub text_after_edits : List ℕ → List Revision → ℕ → List ℕ
text_after_edits t es zero = t
text_after_edits t [] (suc n) = t
text_after_edits t (e ∷ es) (suc n) = text_after_edits e.text es n

-- the text at the cursor (own)
abbrev pub text_at : History → List ℕ
text_at h = text_after_edits h.first h.later h.at

-- an edit drops what is past the cursor and appends its text (own)
abbrev pub after_edit : History → List ℕ → List ℕ → History
after_edit h expr text = record { first = h.first; later = take h.at h.later ++ record { expr = expr; text = text } ∷ []; at = h.at + 1 }

-- an undo moves the cursor back (own)
abbrev pub after_undo : History → History
after_undo h = record { first = h.first; later = h.later; at = h.at - 1 }

-- a redo moves the cursor on (own)
abbrev pub after_redo : History → History
after_redo h = record { first = h.first; later = h.later; at = h.at + 1 }

-- a later text and those after it as one: the last text, and the expressions joined by " | " (own)
abbrev pub latest : Revision → List Revision → Revision
latest e [] = e
latest e (f ∷ fs) = latest (record { expr = e.expr ++ codes " | " ++ f.expr; text = f.text }) fs

-- several later texts as one; none of no texts (own)
abbrev pub latest_of : List Revision → List Revision
latest_of [] = []
latest_of (e ∷ es) = latest e es ∷ []

-- a squash of the last n done edits: the texts between the cursor's and the one n edits before it are removed (own)
abbrev pub after_squash : History → ℕ → History
after_squash h n = record {
  first = h.first;
  later = take (h.at - n) h.later ++ (latest_of (drop (h.at - n) (take h.at h.later)) ++ drop h.at h.later);
  at = h.at - n + 1;
}
