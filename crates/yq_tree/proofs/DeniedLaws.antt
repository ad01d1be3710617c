-- Texts whose parts mean no documents.
use Rattle.std.{proofs.Common.{ℕ, List, ap, ◌∙◌}, proofs.lemmas.Bool.cond-false}
use Rattle.yq_core.specs.Answers.{◌>>=◌, ReadFails, ReadError}
use Rattle.yq_row_table.{specs.Grammar.IsCut, specs.Rows.Cut, proofs.ScanLaws.scan_again}
use Rattle.yq_documents.specs.Reading.{all_documents, checked, checked_at}
use Rattle.yq_compose.specs.Deciding.{Denies}
use Rattle.yq_failure.specs.declared.failure.Failure.TheVariants as errors

-- a text with parts that mean no documents
pub text_denied : (t : List ℕ) (c : Cut) (e : ReadError) → IsCut t c → Denies e (all_documents c) → ReadFails e (checked_at t)
unfolding checked_at
text_denied t c errors.Memory h denied = tt
text_denied t c (errors.Fault f) h denied = ap (λ o. o >>= checked) (scan_again t c h) ∙ cond-false _ _ _ denied
