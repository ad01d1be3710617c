use Rattle.std.proofs.Common.{◌≡◌, ◌++◌, string_bytes, length}
use denote.Text.{Utf8}
use denote.Shadow.{shadow}
use Rattle.yq_semantics.specs.Meaning.{split_lines}
use Rattle.yq_edit_rules.specs.CommentEdits as spec
use Rattle.yq_block_edits.proofs.head_comment.head_lines.Given as goal

abbrev pub invariant-lines : goal.invariant-lines
invariant-lines l = shadow (Utf8 l.rest) × (string_bytes l.out ++ spec.head_lines l.column l.br (split_lines l.rest) ≡ spec.head_lines l.column l.br (split_lines l.text))

abbrev pub decreases-lines : goal.decreases-lines
decreases-lines l = length l.rest
