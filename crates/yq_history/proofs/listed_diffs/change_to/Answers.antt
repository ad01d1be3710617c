use Rattle.std.{proofs.Common.{inr, rules}, proofs.lemmas.Str.is_utf8-from_IsUtf8}
use Rattle.yq_history.proofs.ListedLaws.{not_utf8, note_comes}
use Rattle.yq_history.proofs.listed_diffs.change_to.Goals as goal

pub returns-in-Ok : goal.returns-in-Ok
returns-in-Ok c = search (rules, is_utf8-from_IsUtf8)

pub returns-in-Err : goal.returns-in-Err
returns-in-Err c = note_comes c.args.file.now c.args.old.now c.args.new.now c.from_str.result (inr (not_utf8 c.args.new.now c.in-Err.ensures.cases.0)) c.from_str.ensures.ok
