-- The lines of plain scalars, whose content is folded as that of quoted ones (YAML 1.2.2, sections 6.5 and 7.3.3).
use Rattle.std.specs.Prelude.{◌≡◌, ℕ, false, List, [], ◌∷◌, ◌++◌}
use Rattle.yq_core.specs.Text.{is_break}
use Rattle.yq_core.specs.Quoted.{Char, itself, doubled, escape, code, spell_chars, spell_break, QuotedLines, last, line, spell_lines}

-- bytes that mean themselves, none of which begins a break (7.3.3)
abbrev pub ArePlain : List Char → List ℕ → Type 0
ArePlain [] rest = Unit {0}
ArePlain (itself b ∷ cs) rest = (is_break (b ∷ (spell_chars cs ++ rest)) ≡ false) × ArePlain cs rest
ArePlain (doubled ∷ cs) rest = ⊥
ArePlain (escape letter ∷ cs) rest = ⊥
ArePlain (code letter digits ∷ cs) rest = ⊥

-- lines of such bytes (7.3.3)
abbrev pub ArePlainLines : QuotedLines → Type 0
ArePlainLines (last cs) = ArePlain cs []
ArePlainLines (line cs escaped b ls) = ArePlain cs (spell_break b ++ spell_lines ls) × (escaped ≡ false) × ArePlainLines ls

-- the lines that a text is made of, cut at each of its breaks (7.3.3)
pub record IsPlainLines (ls : QuotedLines) (text : List ℕ) : Type 0 where
  pub spelled : text ≡ spell_lines ls
  pub lines : ArePlainLines ls
