-- Lines that are written for a block scalar (own).
use Rattle.std.specs.Prelude.{◌++◌, ℕ, List}
use Rattle.yq_core.{specs.BlockWritten.{break_text, indented_text, raw_written}, specs.Text.{joined, text_lines}}
use Rattle.yq_core.specs.declared.block_types.Break.{Break}

-- a line's text, so many columns indented, and its break (own)
abbrev pub indented_line : ℕ → Break → List ℕ → List ℕ
indented_line indent br t = indented_text indent t ++ break_text br

-- the lines of a text, each of them so (own)
abbrev pub indented_lines : ℕ → Break → List ℕ → List ℕ
indented_lines indent br t = joined (raw_written indent (break_text br) (text_lines t))
