-- Operations that change the collections of several heads, one after the other, in one run (YAML 1.2.2, 7.4; own).
use Rattle.std.specs.Prelude.{◌≡◌, ℕ, ◌+◌, true, List, length, map, Option, Some, is_some, IfSome, string_bytes}
use Rattle.yq_core.{specs.Entries.tree_step, specs.Paths.Step}
use Rattle.yq_outline.specs.Lines.{head_of}
use Rattle.yq_row_table.specs.Rows.{Cut}
use Rattle.yq_documents.{specs.LinesInRows.document_row, specs.Reading.cut_of}
use Rattle.yq_places.specs.Placements.{RowsOfEntry, rows_of_entry}
use Rattle.yq_semantics.{specs.Operations.operations_of, specs.declared.op.Op.Op}
use Rattle.yq_edit_laws.{specs.Carried.carry_all, specs.Edit.{Edit, edit_after}, specs.Valid.AreServed}
use Rattle.yq_batch.{specs.RowRuns.IsRowsRun, specs.Runs.{IsPutRun, Runs, cut_with, now_text}, specs.Together.CarriesSome}
use Rattle.yq_batch.{specs.declared.head.FoundHead.FoundHead, specs.declared.head.HeadInText.HeadInText, specs.declared.run.PutRun.PutRun}
use Rattle.yq_batch.specs.declared.together.Together.{Together}
use denote.Bor.{Bor}
use Rattle.yq_core.specs.declared.path.Step as declared

-- what operations give on the text of a run, after its splices (own)
abbrev pub all_on : List Op → Cut → PutRun → Edit
all_on ops c r = edit_after r.splices.items (carry_all (operations_of ops) (now_text c r))

-- The first ones of operations on the text of a run were carried out, and the others may follow: all give what they gave (own).
pub record HasCarried (ops : List Op) (c : Cut) (before : PutRun) (left : List Op) (after : PutRun) : Type 0 where
  pub whole : all_on left c after ≡ all_on ops c before
  pub serves : AreServed (operations_of left) (now_text c after)

-- the run then goes on in the head (own)
abbrev pub CarriesInHead : List Op → HeadInText → (before after : PutRun) → Option (Bor (List Op)) → Type 0
CarriesInHead ops x before after o = IfSome o (λ left. HasCarried ops (cut_with x) before left.now after × Runs x after)

-- the run then goes on after the row that was changed last (own)
abbrev pub CarriesInRow : List Op → List ℕ → (before after : PutRun) → Option (Bor (List Op) × (ℕ × ℕ)) → Type 0
CarriesInRow ops t before after o = IfSome o (λ x. HasCarried ops (cut_of t) before x.0.now after × IsRowsRun (cut_of t) (Some x.1) after)

-- So many rows come before the one in which the node of an item or entry begins, on the line of its key or dash (8.2).
pub record IsRowAt (c : Cut) (n : ℕ) (steps : List Step) (row : ℕ) : Type 0 where
  pub entry : RowsOfEntry
  pub found : rows_of_entry n steps c ≡ Some entry
  pub last : entry.line ≡ length entry.row.dashes
  pub headed : is_some (head_of entry.row.content) ≡ true
  pub row_is : row ≡ document_row n c + length entry.front

-- a run of the code is one in the head to which steps lead (own)
abbrev pub RunsAt : List ℕ → ℕ → List declared.Step → PutRun → Type 0
RunsAt t n steps r = IsPutRun (cut_of t) n (map tree_step steps) (string_bytes r.text) r.done

-- a run of the code is one in the head that was found (own)
abbrev pub RunsIn : List ℕ → FoundHead → PutRun → Type 0
RunsIn t x r = RunsAt t x.doc x.stem.now r

-- the run then goes on in that head (own)
abbrev pub CarriesAt : List Op → List ℕ → FoundHead → (before after : PutRun) → Option (Bor (List Op)) → Type 0
CarriesAt ops t x before after o = IfSome o (λ left. HasCarried ops (cut_of t) before left.now after × RunsIn t x after)

-- the first ones of operations on the text of a run were carried out together, if there is an answer (own)
abbrev pub MayGoOn : List Op → Cut → PutRun → Option Together → Type 0
MayGoOn ops c r o = IfSome o (CarriesSome (all_on ops c r))
