-- A text written as a literal block scalar (own).
use Rattle.std.specs.Prelude.{ℕ, Bool, true, false, ◌||◌, ◌==◌, nat_eq, List, [], ◌∷◌, ◌++◌, length, replicate, if◌then◌else◌, None}
use Rattle.std.specs.List.{ends_with}
use Rattle.yq_core.{specs.declared.block_header.Chomping.Chomping, specs.declared.block_types.Break.Break}
use Rattle.yq_core.{specs.Block.{RawLines, no_lines, BlockText, sign_text}, specs.BlockContent.text_of_line}
use Rattle.yq_core.specs.Text.{feed, is_empty, is_line, text_lines}
use Rattle.yq_core.specs.declared.block_header.BlockStyle.TheVariants as styles
use Rattle.yq_core.specs.declared.block_header.Chomping.TheVariants as chompings
use Rattle.yq_core.specs.declared.block_types.Break.TheVariants as breaks

-- the bytes of a break: LF or CR LF (YAML 1.2.2, section 5.4)
abbrev pub break_text : Break → List ℕ
break_text breaks.Lf = feed ∷ []
break_text breaks.CrLf = 13 ∷ feed ∷ []

-- a text after so many spaces; where it is empty it is written empty (own)
abbrev pub indented_text : ℕ → List ℕ → List ℕ
indented_text m p = if length p == 0 then [] else replicate m 32 ++ p

-- a line, indented, with this break (own)
abbrev pub written_line : ℕ → List ℕ → List ℕ → List ℕ
written_line m br l = indented_text m (text_of_line l) ++ br

-- the raw lines that are written for the lines of a text (own)
unfoldable pub raw_written : ℕ → List ℕ → RawLines → RawLines
raw_written m br [] = []
raw_written m br (l ∷ ls) = written_line m br l ∷ raw_written m br ls

-- the last line, if there is one, has a break (own)
unfoldable pub ends_with_break : RawLines → Bool
ends_with_break [] = true
ends_with_break (l ∷ ls) = if no_lines ls then is_line l else ends_with_break ls

-- `|` where the text ends in a break, else `|-` (YAML 1.2.2, section 8.1.1.2)
abbrev pub chomping_by : Bool → Chomping
chomping_by true = chompings.Clip
chomping_by false = chompings.Strip

-- the chomping that the lines of a text ask for (own)
abbrev pub chomping_of : RawLines → Chomping
chomping_of ls = chomping_by (ends_with_break ls)

-- the text is empty or ends in LF (own)
abbrev pub ends_in_feed : List ℕ → Bool
ends_in_feed t = is_empty t || ends_with nat_eq t (feed ∷ [])

-- the header that is written (own)
abbrev pub header_text : Chomping → List ℕ
header_text c = 124 ∷ sign_text c

-- the block scalar that is written for a text, with this rest of the header's line (own)
abbrev pub written_block : List ℕ → ℕ → List ℕ → List ℕ → BlockText
written_block s m br tail = record {
  style = styles.Literal;
  digit = None;
  chomping = chomping_of (text_lines s);
  indicators = sign_text (chomping_of (text_lines s));
  tail = tail;
  raw = raw_written m br (text_lines s);
  indent = record { columns = m; known = true };
}
