use Rattle.std.{proofs.Common.rules, proofs.lemmas.Bool.cond-true, proofs.lemmas.Str.is_utf8-from_IsUtf8}
use Rattle.yq_documents.{specs.Reading.read_at, proofs.ReadLaws.text_again}
use Rattle.yq_lookup.proofs.cut_text.CutText.text.Goals as goal

pub returns-clause-read : goal.returns-clause-read
unfolding read_at
returns-clause-read c = search (rules, cond-true, is_utf8-from_IsUtf8, text_again)
