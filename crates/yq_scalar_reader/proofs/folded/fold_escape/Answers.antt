use Rattle.std.{proofs.Common.rules, proofs.lemmas.Str.IsUtf8-drop, proofs.Math.Utf8.encode}
use Rattle.yq_core.proofs.ItemLaws.{boundary_slash, boundary_break, boundary_escape, escape_break, escape_none, escape_some}
use Rattle.yq_scalar_reader.proofs.folded.fold_escape.Goals as goal

pub split_at-requires : goal.split_at-requires
split_at-requires c = boundary_slash c.args.text.now c.requires c.utf8.text

pub split_at-requires-then-is_break : goal.split_at-requires-then-is_break
split_at-requires-then-is_break c = search (rules, IsUtf8-drop, boundary_slash, boundary_break)

pub returns-then-is_break-clause-value : goal.returns-then-is_break-clause-value
returns-then-is_break-clause-value c = search (rules, escape_break)

pub split_at-requires-in-Some : goal.split_at-requires-in-Some
split_at-requires-in-Some c = search (rules, IsUtf8-drop, boundary_slash, boundary_escape)

pub returns-in-None-clause-value : goal.returns-in-None-clause-value
returns-in-None-clause-value c = search (rules, escape_none)

pub returns-in-Some-clause-value : goal.returns-in-Some-clause-value
returns-in-Some-clause-value c = search (rules, escape_some, encode)
