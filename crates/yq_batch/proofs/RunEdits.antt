-- An edit of a flow collection in the text of a run, after what was done so far.
use Rattle.std.proofs.Common.{◌≡◌, ℕ, ◌+◌, ◌-◌, ◌≤◌, ◌<◌, List, ◌++◌, length, take, drop, Some, sym, ap, ◌∙◌, subst, append_assoc, arith}
use Rattle.std.{proofs.Common.length-append, proofs.Math.Seq.{take-append_seam, drop-append_seam}, proofs.lemmas.List.drop-append-le}
use Rattle.std.proofs.lemmas.Option.{same_Some}
use Rattle.yq_text.{specs.Limit.text_limit, specs.Script.{new_text, splice_at}, specs.Splice.Splice}
use Rattle.yq_core.specs.Paths.{Step}
use Rattle.yq_flow_edits.{specs.FlowEdits.FlowEdit, specs.FlowPlaces.PlacedEdit}
use Rattle.yq_row_table.specs.Rows.{Cut, cut_text}
use Rattle.yq_documents.{specs.Reading.{documents, read_at}, proofs.ReadLaws.parts_read}
use Rattle.yq_semantics.{specs.Fits.Fits, specs.Operations.Operation, specs.Rooms.room_of}
use Rattle.yq_semantics.specs.declared.refusal.Refusal.TheVariants.{TooLarge}
use Rattle.yq_edit_rules.{specs.FlowParts.flow_segments, specs.Operands.HasOperand}
use Rattle.yq_edit_laws.{specs.PartPuts.IsEditPlace, proofs.CutLaws.text_read, proofs.ApplyLaws.fits, specs.Carried.carried}
use Rattle.yq_edit_laws.{specs.Edit.{edit_of_segments, gives, refuses}, specs.Theorems.IsFitting}
use Rattle.yq_batch.{specs.Runs.{IsPutRun, text_with_run}, proofs.PutComes.{made_text, new_is, segments_come, segments_large}}

-- what a run has written, with what stays up to the next place
abbrev between : List ℕ → List ℕ → (done start : ℕ) → List ℕ
between out t done start = out ++ drop done (take start t)

-- the same with what is written there
abbrev pub run_out : (t out : List ℕ) (done start : ℕ) → List ℕ → List ℕ
run_out t out done start new = between out t done start ++ new

-- the splices of an edit there
abbrev pub run_splices : (t out : List ℕ) (done start finish : ℕ) → List ℕ → List Splice
run_splices t out done start finish new = splice_at (length (between out t done start)) (drop start (take finish t)) new

-- an operation fits the documents of the cut as which the text reads
pub fits_now : (op : Operation) (now : List ℕ) (d : Cut) → HasOperand op → IsFitting op now → read_at now ≡ Some d → Fits (room_of (cut_text d)) op (documents d)
fits_now op now d operand fitting read =
    let same : fitting.read.parts ≡ d = same_Some _ _ (sym (parts_read now fitting.before fitting.read).0 ∙ read) in
    subst (λ (c : Cut). Fits (room_of (cut_text c)) op (documents c)) same (fits op now operand fitting)

-- how long the text is, by the edit
pub edit_size : (t : List ℕ) (e : FlowEdit) (place : PlacedEdit) (at : IsEditPlace t e place) → length t ≡ length at.before + (length e.old + length e.after)
edit_size t e place at = omega (arith, ap length at.text, length-append at.before (e.old ++ e.after), length-append e.old e.after)

module _ (c : Cut) (n : ℕ) (stem : List Step) (out : List ℕ) (done : ℕ) (run : IsPutRun c n stem out done) (e : FlowEdit) (place : PlacedEdit) (at : IsEditPlace (cut_text c) e place)
    (after : done ≤ place.start) (written : List ℕ) (written_is : written ≡ e.written) where
  abbrev t : List ℕ
  t = cut_text c

  abbrev now : List ℕ
  now = text_with_run t out done

  abbrev start : ℕ
  start = place.start

  abbrev finish : ℕ
  finish = place.end

  start_is : start ≡ length t - length (e.old ++ e.after)
  start_is = ap (λ (p : PlacedEdit). p.start) at.place_is

  finish_is : finish ≡ length t - length e.after
  finish_is = ap (λ (p : PlacedEdit). p.end) at.place_is

  size : length t ≡ length at.before + (length e.old + length e.after)
  size = edit_size t e place at

  front_size : start ≡ length at.before
  front_size = omega (arith, start_is, size, length-append e.old e.after)

  text : cut_text run.cut ≡ now
  text = text_read now run.cut run.read

  abbrev front : List ℕ
  front = between out t done start

  abbrev new_out : List ℕ
  new_out = run_out t out done start (place.lead ++ written)

  abbrev cs : List Splice
  cs = run_splices t out done start finish (place.lead ++ written)

  front_is : take start t ≡ at.before
  front_is = (λ i. take (front_size i) (at.text i)) ∙ take-append_seam at.before (e.old ++ e.after)

  rest_is : drop done t ≡ drop done (take start t) ++ (e.old ++ e.after)
  rest_is =
      ap (drop done) at.text
      ∙ (drop-append-le done at.before (e.old ++ e.after) (omega (arith, after, front_size))
      ∙ ap (λ (l : List ℕ). drop done l ++ (e.old ++ e.after)) (sym front_is))

  split : cut_text run.cut ≡ front ++ (e.old ++ e.after)
  split = text ∙ (ap (λ (l : List ℕ). out ++ l) rest_is ∙ sym (append_assoc out (drop done (take start t)) (e.old ++ e.after)))

  whole_split : t ≡ (at.before ++ e.old) ++ e.after
  whole_split = at.text ∙ sym (append_assoc at.before e.old e.after)

  finish_size : finish ≡ length (at.before ++ e.old)
  finish_size = omega (arith, finish_is, size, length-append at.before e.old)

  old_is : drop start (take finish t) ≡ e.old
  old_is =
      let upto : take finish t ≡ at.before ++ e.old = (λ i. take (finish_size i) (whole_split i)) ∙ take-append_seam (at.before ++ e.old) e.after in
      (λ i. drop (front_size i) (upto i)) ∙ drop-append_seam at.before e.old

  pub left_is : drop finish t ≡ e.after
  left_is = (λ i. drop (finish_size i) (whole_split i)) ∙ drop-append_seam (at.before ++ e.old) e.after

  lead_is : place.lead ≡ e.lead
  lead_is = ap (λ (p : PlacedEdit). p.lead) at.place_is

  new_bytes_are : made_text front e ≡ text_with_run t new_out finish
  new_bytes_are = λ i. (front ++ (sym lead_is i ++ sym written_is i)) ++ sym left_is i

  cs_is : splice_at (length front) e.old (e.lead ++ e.written) ≡ cs
  cs_is = λ i. splice_at (length front) (sym old_is i) (sym lead_is i ++ sym written_is i)

  -- the text after it
  pub new_text_is : new_text (flow_segments (cut_text run.cut) e) ≡ text_with_run t new_out finish
  new_text_is = new_is (cut_text run.cut) front e split ∙ new_bytes_are

  -- what an operation comes to that exchanges these
  module _ (op : Operation) (comes : carried op now ≡ edit_of_segments (flow_segments (cut_text run.cut) e)) where
    pub edit_there : length (text_with_run t new_out finish) ≤ text_limit → carried op now ≡ gives (text_with_run t new_out finish) cs
    edit_there small = comes ∙ (segments_come (cut_text run.cut) front e split (omega (arith, small, ap length new_bytes_are)) ∙ λ i. gives (new_bytes_are i) (cs_is i))

    pub edit_large : text_limit < length (text_with_run t new_out finish) → carried op now ≡ refuses TooLarge
    edit_large large = comes ∙ segments_large (cut_text run.cut) front e split (omega (arith, large, ap length new_bytes_are))
