-- The texts of comment lines (own).
use Rattle.std.specs.Prelude.{◌≡◌, List, [], ◌∷◌, Option, Some, None, ℕ}
use denote.Bor.{Bor}
use Rattle.yq_core.specs.Text.{text_lines}
use Rattle.yq_outline.specs.Comments.{comment_text}
use Rattle.yq_documents.specs.declared.comment.Comments.{Comments}

-- a text before others, or nothing where there is none (own)
abbrev pub text_then : Option (List ℕ) → List (List ℕ) → List (List ℕ)
text_then None ts = []
text_then (Some t) ts = t ∷ ts

-- the texts of the comment lines in front (own)
abbrev pub texts : List (List ℕ) → List (List ℕ)
texts [] = []
texts (l ∷ ls) = text_then (comment_text l) (texts ls)

-- the texts that are left (own)
abbrev pub texts_left : Comments → List (List ℕ)
texts_left c = texts (text_lines c.lines.now)

-- the first text is yielded, and the others are left; where there is none, nothing is yielded (own)
abbrev pub YieldsText : Comments → Option (Bor (List ℕ)) → Comments → Type 0
YieldsText old None new = (texts_left old ≡ []) × (texts_left new ≡ [])
YieldsText old (Some t) new = texts_left old ≡ t.now ∷ texts_left new
