-- Segments added to others.
use Rattle.std.proofs.Common.{◌≡◌, ℕ, true, false, List, [], ◌∷◌, ◌++◌, refl, sym, ap, ◌∙◌, append_assoc, append-nil}
use Rattle.yq_core.{specs.Block.RawLines, specs.BlockRepair.is_short, specs.Lines.is_blank, specs.Text.{joined, text_lines}}
use Rattle.yq_core.proofs.LineLaws.{joined_lines}
use Rattle.yq_places.specs.RemovalPlaces.{Seam}
use Rattle.yq_text.specs.Script.{Segment, keep}
use Rattle.yq_edit_rules.specs.Removing.{put_indent, blank_mended, comment_mended, lines_mended}

-- a blank line, and then the others
blank_on : (s : Seam) (l : List ℕ) (ls : RawLines) → is_blank l ≡ true → lines_mended s (l ∷ ls) ≡ blank_mended s l ++ lines_mended s ls
blank_on s l ls e = rw e refl

-- a comment line, and then the others as they are
comment_last : (s : Seam) (l : List ℕ) (ls : RawLines) → is_blank l ≡ false → lines_mended s (l ∷ ls) ≡ comment_mended s l ++ (keep (joined ls) ∷ [])
comment_last s l ls e = rw e refl

-- a blank line that is emptied
pub long_blank : (s : Seam) (l : List ℕ) → s.keeps ≡ false → is_short s.indent l ≡ false → blank_mended s l ≡ put_indent 0 l
long_blank s l k e = rw (k, e) refl

-- ---- the lines of a gap

comment_text : (ss : List Segment) (after : List ℕ) (s : Seam) (line : List ℕ) → is_blank line ≡ false →
    (ss ++ comment_mended s line) ++ (keep after ∷ []) ≡ ss ++ lines_mended s (line ∷ text_lines after)
comment_text ss after s line e =
    append_assoc ss (comment_mended s line) (keep after ∷ [])
    ∙ ap (λ (x : List Segment). ss ++ x) (ap (λ (t : List ℕ). comment_mended s line ++ (keep t ∷ [])) (sym (joined_lines after)) ∙ sym (comment_last s line (text_lines after) e))

pub comment_done : (start here there last : List Segment) (s : Seam) (gap rest line after : List ℕ) → here ++ lines_mended s (text_lines rest) ≡ start ++ lines_mended s (text_lines gap) →
    text_lines rest ≡ line ∷ text_lines after → is_blank line ≡ false → there ≡ here ++ comment_mended s line → last ≡ there ++ (keep after ∷ []) → last ≡ start ++ lines_mended s (text_lines gap)
comment_done start here there last s gap rest line after so_far cut e added pushed =
    pushed
    ∙ (ap (λ (x : List Segment). x ++ (keep after ∷ [])) added ∙ (comment_text here after s line e ∙ (ap (λ (ls : RawLines). here ++ lines_mended s ls) (sym cut) ∙ so_far)))

pub blank_done : (start here there : List Segment) (s : Seam) (gap rest line after : List ℕ) → here ++ lines_mended s (text_lines rest) ≡ start ++ lines_mended s (text_lines gap) →
    text_lines rest ≡ line ∷ text_lines after → is_blank line ≡ true → there ≡ here ++ blank_mended s line → there ++ lines_mended s (text_lines after) ≡ start ++ lines_mended s (text_lines gap)
blank_done start here there s gap rest line after so_far cut e added =
    ap (λ (x : List Segment). x ++ lines_mended s (text_lines after)) added
    ∙ (append_assoc here (blank_mended s line) (lines_mended s (text_lines after))
    ∙ (ap (λ (x : List Segment). here ++ x) (sym (blank_on s line (text_lines after) e)) ∙ (ap (λ (ls : RawLines). here ++ lines_mended s ls) (sym cut) ∙ so_far)))

no_lines : (s : Seam) (t : List ℕ) → t ≡ [] → lines_mended s (text_lines t) ≡ []
unfolding text_lines
no_lines s t e = ap (λ (x : List ℕ). lines_mended s (text_lines x)) e

pub all_done : (start here : List Segment) (s : Seam) (gap rest : List ℕ) → here ++ lines_mended s (text_lines rest) ≡ start ++ lines_mended s (text_lines gap) → rest ≡ [] → here ≡ start ++ lines_mended s (text_lines gap)
all_done start here s gap rest so_far e = sym (ap (λ (x : List Segment). here ++ x) (no_lines s rest e) ∙ append-nil here) ∙ so_far
