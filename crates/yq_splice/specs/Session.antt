-- What a session is known by, and what an operation applied to it adds to its count.
use Rattle.std.{specs.Prelude.{◌≡◌, ◌≢◌, ◌⊎◌, ⊤, ℕ, ◌+◌, ◌≤◌, List, [], length, Some, Vec}, specs.declared.alloc.Global.Global}
use Rattle.yq_core.{specs.declared.fault.FaultKind.TheVariants.NotUtf8, specs.Answers.ReadError}
use Rattle.yq_row_table.{specs.Kept.IsPlaced, specs.Meter.{count_after, line_count}, specs.Rows.Cut, specs.Touched.TouchesOnly}
use Rattle.yq_row_table.{specs.Items.items_of_cut, specs.View.rows_view, specs.declared.places.Places.Places}
use Rattle.yq_documents.specs.Reading.{cut_of, read_at}
use Rattle.yq_lookup.{specs.Knowledge.{IsKnowledge, KnowledgeStays}, specs.declared.knowledge.Knowledge.Knowledge}
use Rattle.yq_semantics.{specs.Judgement.ExprError, specs.Operations.Operation}
use Rattle.yq_text.{specs.Changing.IsChange, specs.Script.{Segment, kept_front, kept_back, new_text}, specs.Splice.Splice}
use Rattle.yq_text.specs.declared.changed.ChangedMiddle.{ChangedMiddle}
use Rattle.yq_rows.{specs.Following.read_text, specs.declared.kept.Kept.Kept}
use Rattle.yq_edit_rules.specs.Edits.{op_edits}
use Rattle.yq_edit_laws.{specs.Answers.EditFails, specs.Carried.{carried, carry_one}, specs.Edit.{Edit, gives}}
use Rattle.yq_edit_laws.{specs.TouchedRanges.{PutAreTouched, put_ranges}, specs.Theorems.HasReading, specs.Valid.segments_by}
use Rattle.yq_splice.specs.TouchedLines.{touched_lines}
use Rattle.yq_failure.specs.declared.failure.Failure.TheVariants as reading

-- What a session is known by: its text, and how many lines were counted (own).
pub record SessionState : Type 0 where
  pub text : List ℕ
  pub scanned : ℕ

-- A text reads, and these are the places of the rows of its cut and of the ends of its parts (own).
pub record HasPlaces (t : List ℕ) (places : Places) : Type 0 where
  pub cut : Cut
  pub read : read_at t ≡ Some cut
  pub placed : IsPlaced places (rows_view cut)

-- what is kept is known of a text (own)
abbrev pub Knows : List ℕ → Knowledge → Type 0
Knows t known = IsKnowledge (rows_view (cut_of t)) known

-- what an operation changes in a text (own)
abbrev pub IsChangeBy : Operation → List ℕ → ChangedMiddle → Type 0
IsChangeBy op t x = IsChange (segments_by op (cut_of t)) x

-- what is known of a text is still known after a change of it (own)
abbrev pub KnowsAfter : List ℕ → Knowledge → ChangedMiddle → Type 0
KnowsAfter t known x = KnowledgeStays x.front (cut_of t) known

-- why an operation isn't carried out on a text (own)
abbrev pub OpFails : Operation → List ℕ → ExprError → Type 0
OpFails op t e = EditFails e (carried op t)

-- what an operation gives on a text by its cut (own)
abbrev pub carried_by_cut : Operation → List ℕ → Edit
carried_by_cut op t = carry_one op (cut_of t)

-- why no session of a text is opened: it has no reading, or memory ran out (own)
abbrev pub NotOpened : ReadError → List ℕ → Type 0
NotOpened (reading.Fault fault) t = (¬ HasReading t) × (fault.kind ≢ NotUtf8)
NotOpened reading.Memory t = ⊤

-- An operation counts the lines of the rows and ends of parts that it wrote, which replace those that its segments touch, and no others. It counts
-- no end after whose marker's line it begins, and no line of a marker that stays. Each row and end that is counted is touched by a range of what was
-- put. So the lines are no more than those that these ranges touch (own).
pub record IsScanned (op : Operation) (t new : List ℕ) (before after : ℕ) : Type 0 where
  pub cut : Cut
  pub new_cut : Cut
  pub segments : List Segment
  pub read : read_at t ≡ Some cut
  pub new_read : read_at new ≡ Some new_cut
  pub exchanged : op_edits op cut ≡ Some segments
  pub new_is : new ≡ new_text segments
  pub kept : Kept
  pub front : kept.front ≡ length (kept_front segments)
  pub back : kept.back ≡ length (kept_back segments)
  pub touches : TouchesOnly kept.front kept.back cut new_cut
  pub each : PutAreTouched segments kept.front kept.back cut new_cut touches
  pub exact : after ≡ count_after (line_count (read_text kept cut new_cut touches)) before
  pub most : after ≤ before + line_count (read_text kept cut new_cut touches)
  pub bound : after ≤ before + touched_lines t new kept (put_ranges segments) 0 (items_of_cut new_cut)

-- what an operation adds to the count of lines: where it gives splices, those that it wrote; none, where all bytes stay (own)
abbrev pub Scans : Operation → (t new : List ℕ) → List Splice → (before after : ℕ) → Type 0
Scans op t new cs before after =
    ((cs ≡ []) × (new ≡ t) × (after ≡ before)) ⊎ ((cs ≢ []) × IsScanned op t new before after)

-- what an operation gives of a session's text, with its splices (own)
abbrev pub GivesNew : Operation → (old new : SessionState) → Vec Splice Global → Type 0
GivesNew op old new cs = carried op old.text ≡ gives new.text cs.items

-- what it adds to a session's count (own)
abbrev pub ScansNew : Operation → (old new : SessionState) → Vec Splice Global → Type 0
ScansNew op old new cs = Scans op old.text new.text cs.items old.scanned new.scanned
