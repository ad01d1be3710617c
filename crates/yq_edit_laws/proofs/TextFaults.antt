-- A text that isn't read, which is never since it is no UTF-8, and one that is.
use Rattle.std.{proofs.Common.{rules, ◌≡◌, ◌≢◌, ◌↔◌, List, ℕ, Some, None, Err, false}, specs.Str.{IsUtf8, is_utf8}}
use Rattle.std.{proofs.lemmas.Bool.false≢true, proofs.lemmas.Str.{IsUtf8-from_is_utf8, is_utf8-from_IsUtf8}}
use Rattle.yq_core.{proofs.Bools.guard_then, specs.Answers.{ReadFails as FailsReading, ReadError}, specs.declared.ReadFault.ReadFault}
use Rattle.yq_core.specs.declared.fault.FaultKind.TheVariants.{NotUtf8}
use Rattle.yq_row_table.specs.Rows.{Cut}
use Rattle.yq_places.specs.Answers.{IsNotUtf8}
use Rattle.yq_documents.specs.Reading.{read_at}
use Rattle.yq_failure.specs.declared.failure.Failure.TheVariants as reading

-- What is known where bytes aren't read.
pub record FailsToRead (e : ReadError) (bytes : List ℕ) : Type 0 where
  pub none : FailsReading e (read_at bytes)
  pub utf8 : IsNotUtf8 {X = List ℕ} (Err e) ↔ (is_utf8 bytes ≡ false)

pub text_unread : (bytes t : List ℕ) (fault : ReadFault) → bytes ≡ t → IsUtf8 t → FailsToRead (reading.Fault fault) bytes → (read_at t ≡ None) × (fault.kind ≢ NotUtf8)
text_unread bytes t fault same utf8 h = search (rules, false≢true, is_utf8-from_IsUtf8)

-- a text that is read is UTF-8
pub text_utf8 : (t : List ℕ) (c : Cut) → read_at t ≡ Some c → IsUtf8 t
unfolding read_at
text_utf8 t c is = IsUtf8-from_is_utf8 t (guard_then (is_utf8 t) is).0
