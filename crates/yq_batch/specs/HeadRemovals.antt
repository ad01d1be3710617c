-- Items and entries taken out, one before the other, of the flow collections of several heads, each of which was read once (YAML 1.2.2, 7.4; own).
use Rattle.std.specs.Prelude.{◌≡◌, ℕ, ◌≤◌, Bool, true, List, ◌++◌, take, length, map, Option, Some, None, IfSome}
use Rattle.yq_text.{specs.Splice.Splice, specs.TextGapBuffer.buffer_text}
use Rattle.yq_core.specs.Entries.{tree_step}
use Rattle.yq_row_table.specs.Rows.{Cut, cut_text}
use Rattle.yq_documents.specs.Reading.{cut_of, read_at}
use Rattle.yq_semantics.{specs.Operations.{Operation, operation_of}, specs.declared.op.Op.Op}
use Rattle.yq_edit_laws.{specs.Carried.carried, specs.Edit.gives, specs.Theorems.IsApplied}
use Rattle.yq_batch.{specs.HeadRows.HeadsStayBefore, specs.HeadRuns.IsRowAt, specs.RemovalRuns.{HasRemoved, RemovesSo}, specs.Runs.cut_with}
use Rattle.yq_batch.{specs.declared.head.FoundHead.FoundHead, specs.declared.head.HeadInText.HeadInText}
use Rattle.yq_batch.specs.declared.removals.RemovalRun.{RemovalRun}
use denote.Bor.{Bor}

-- The last bytes of a cut's text were replaced by others, since items and entries were taken out of the collections of heads of document n, none of which
-- is in front of a row: the text reads, and the heads that are in front of it are there (own).
pub record RemovesHeads (c : Cut) (n row : ℕ) (r : RemovalRun) : Type 0 where
  pub tail : List ℕ
  pub text : buffer_text r.text ≡ take r.keep (cut_text c) ++ tail
  pub within : r.keep ≤ length (cut_text c)
  pub cut : Cut
  pub read : read_at (take r.keep (cut_text c) ++ tail) ≡ Some cut
  pub heads : HeadsStayBefore c cut n row r.keep tail

-- An operation is carried out on the text of a run, which goes on in front of the row of a head (own).
pub record EmptiesOn (op : Operation) (c : Cut) (n row : ℕ) (before after : RemovalRun) : Type 0 where
  pub new_bytes : List Splice
  pub comes : carried op (buffer_text before.text) ≡ gives (buffer_text after.text) new_bytes
  pub applied : IsApplied op (buffer_text before.text) (buffer_text after.text) new_bytes
  pub splices : after.splices.items ≡ before.splices.items ++ new_bytes
  pub run : RemovesHeads c n row after

-- where an operation was carried out in a head, the run goes on in front of its row (own)
abbrev pub MayEmpty : Op → HeadInText → (row : ℕ) → (before after : RemovalRun) → Bool → Type 0
MayEmpty op x row before after b = b ≡ true → EmptiesOn (operation_of op) (cut_with x) x.doc row before after

-- a run of the code is one that may go on in the head that was found (own)
abbrev pub RemovesFrom : List ℕ → FoundHead → RemovalRun → Type 0
RemovesFrom t x r = RemovesSo (cut_of t) x.doc (map tree_step x.stem.now) None r

-- so many rows come before that of the head that was found (own)
abbrev pub IsRowOf : List ℕ → FoundHead → ℕ → Type 0
IsRowOf t x row = IsRowAt (cut_of t) x.doc (map tree_step x.stem.now) row

-- the first ones of operations were carried out, and the run then goes on in front of the row of a head (own)
abbrev pub RemovesAt : List Op → List ℕ → FoundHead × ℕ → (before after : RemovalRun) → (left : Bor (List Op)) → Type 0
RemovesAt ops t x before after left = HasRemoved ops before left.now after × RemovesHeads (cut_of t) x.0.doc x.1 after

-- the same of a head of document n, if there is an answer (own)
abbrev pub RemovesEarlier : List Op → List ℕ → ℕ → (before after : RemovalRun) → Option (Bor (List Op) × ℕ) → Type 0
RemovesEarlier ops t n before after o = IfSome o (λ x. HasRemoved ops before x.0.now after × RemovesHeads (cut_of t) n x.1 after)
