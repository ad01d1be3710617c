-- The operations inside flow collections: the head of one line is exchanged (7.4; own).
use Rattle.std.specs.Prelude.{Some}
use Rattle.yq_core.specs.Tree.{Node}
use Rattle.yq_outline.specs.Outline.{Line}

-- a line with another head
abbrev pub with_head : Node → Line → Line
with_head n l = record l { head = Some n }
