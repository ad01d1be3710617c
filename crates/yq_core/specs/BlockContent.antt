-- What a block scalar means (YAML 1.2.2, sections 8.1.1.2, 8.1.2 and 8.1.3).
use Rattle.std.specs.Prelude.{ℕ, ◌+◌, Bool, true, false, ◌&&◌, not, ◌==◌, List, [], ◌∷◌, ◌++◌, length, take, drop, replicate, min}
use Rattle.std.specs.Prelude.{if◌then◌else◌}
use Rattle.yq_core.{specs.declared.block_types.LineBefore.LineBefore, specs.declared.block_header.BlockStyle.BlockStyle}
use Rattle.yq_core.{specs.declared.block_header.Chomping.Chomping, specs.declared.block_lines.TextIndent.TextIndent}
use Rattle.yq_core.{specs.Block.{RawLines, no_lines, BlockText}, specs.Lines.spaces, specs.Text.{feed, is_white, front, upto, ends_line}}
use Rattle.yq_core.specs.declared.block_types.LineBefore.TheVariants as before
use Rattle.yq_core.specs.declared.block_header.BlockStyle.TheVariants as styles
use Rattle.yq_core.specs.declared.block_header.Chomping.TheVariants as chompings

-- a line without its break (own)
abbrev pub text_of_line : List ℕ → List ℕ
text_of_line l = take (upto ends_line l) l

-- a line without its indentation; of an empty line nothing but its break stays (YAML 1.2.2, section 8.1.1.1)
abbrev pub unindented : TextIndent → List ℕ → List ℕ
unindented f l = drop (if f.known then min f.columns (spaces l) else spaces l) l

-- what a line has of the content (YAML 1.2.2, section 8.1.2)
abbrev pub part_of : TextIndent → List ℕ → List ℕ
part_of f l = text_of_line (unindented f l)

-- an LF, or nothing (own)
abbrev pub optional_break : Bool → List ℕ
optional_break true = feed ∷ []
optional_break false = []

-- Literal: each line with an LF; where the last break is stripped the last line has none (YAML 1.2.2, section 8.1.2).
unfoldable pub literal : Bool → TextIndent → RawLines → List ℕ
literal strip f [] = []
literal strip f (l ∷ ls) = (part_of f l ++ optional_break (not (strip && no_lines ls))) ++ literal strip f ls

-- What is in the content before a line, after k empty lines: between two lines that don't begin with white space the break is folded, to a
-- space or to the LFs of the empty lines; about the others it stays (YAML 1.2.2, section 8.1.3).
abbrev pub joint : LineBefore → Bool → ℕ → List ℕ
joint before.Nothing white k = replicate k feed
joint before.Spaced white k = feed ∷ replicate k feed
joint before.Text true k = feed ∷ replicate k feed
joint before.Text false k = if k == 0 then 32 ∷ [] else replicate k feed

-- what comes after the last text line and k empty lines (YAML 1.2.2, section 8.1.1.2)
abbrev pub chomped_end : Chomping → LineBefore → ℕ → List ℕ
chomped_end chompings.Strip b k = []
chomped_end chompings.Clip before.Nothing k = []
chomped_end chompings.Clip before.Spaced k = feed ∷ []
chomped_end chompings.Clip before.Text k = feed ∷ []
chomped_end chompings.Keep before.Nothing k = replicate k feed
chomped_end chompings.Keep before.Spaced k = feed ∷ replicate k feed
chomped_end chompings.Keep before.Text k = feed ∷ replicate k feed

-- whether a line's text begins with white space (YAML 1.2.2, s-nb-spaced-text of section 8.1.3)
abbrev pub is_spaced_line : List ℕ → LineBefore
is_spaced_line p = if front is_white p then before.Spaced else before.Text

-- Folded: the lines, after what came before them and k empty lines (YAML 1.2.2, section 8.1.3).
unfoldable pub folded : Chomping → TextIndent → LineBefore → ℕ → RawLines → List ℕ
folded c f b k [] = chomped_end c b k
folded c f b k (l ∷ ls) =
    if length (part_of f l) == 0 then folded c f b (k + 1) ls
    else (joint b (front is_white (part_of f l)) k ++ (part_of f l ++ folded c f (is_spaced_line (part_of f l)) 0 ls))

-- it strips the last break (YAML 1.2.2, section 8.1.1.2)
abbrev pub strips : Chomping → Bool
strips chompings.Strip = true
strips chompings.Clip = false
strips chompings.Keep = false

-- what raw lines mean (YAML 1.2.2, section 8.1)
abbrev pub block_lines_content : BlockStyle → Chomping → TextIndent → RawLines → List ℕ
block_lines_content styles.Literal c f raw = literal (strips c) f raw
block_lines_content styles.Folded c f raw = folded c f before.Nothing 0 raw

-- what a block scalar means (YAML 1.2.2, section 8.1)
abbrev pub block_content : BlockText → List ℕ
block_content b = block_lines_content b.style b.chomping b.indent b.raw
