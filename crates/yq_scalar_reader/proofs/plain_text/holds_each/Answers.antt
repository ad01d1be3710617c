use Rattle.std.proofs.Common.{rules}
use Rattle.yq_scalar_reader.proofs.AsciiLaws.{visible_text_held}
use Rattle.yq_scalar_reader.proofs.plain_text.holds_each.Goals as goal

pub returns-then-is_visible_ascii : goal.returns-then-is_visible_ascii
returns-then-is_visible_ascii c = search (rules, visible_text_held)
