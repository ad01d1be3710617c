-- Reading (own; you may skip it): what is known of a text, from which walks and searches go on.
use Rattle.std.{specs.Prelude.{◌<◌, ℕ, true, false, IfSome, List, Option, Some, Vec}, specs.declared.alloc.Global.Global}
use Rattle.yq_row_table.{specs.Rows.Cut, specs.Touched.TouchesOnly, specs.View.{RowsView, Slices, rows_view}}
use Rattle.yq_outline.{specs.RowWalk.AreKnown, specs.declared.line_position.KnownItem.KnownItem}
use Rattle.yq_places.{specs.StepReading.IsSearched, specs.declared.places.way.Way.Way}
use Rattle.yq_row_walk.specs.Walk.{ArriveAt, IsKnownLine, IsLineAbove}
use Rattle.yq_lookup.{specs.KnownDocuments.AreKnownDocuments, specs.declared.knowledge.Knowledge.Knowledge}
use Rattle.yq_lookup.{specs.declared.line_above.LineAbove.LineAbove, specs.declared.knowledge.StepSearches.StepSearches}

-- Rows were searched so far for sequences and for mappings under keys.
abbrev pub AreSearches : List Slices → StepSearches → Type 0
AreSearches ss k = IfSome k.sequences (IsSearched true ss) × IfSome k.mappings (IsSearched false ss)

-- Rows were searched as far in each text in which the items of their cut stay that end in front of so many bytes.
abbrev pub SearchesStay : ℕ → Cut → StepSearches → Type 0
SearchesStay front c k = (new : Cut) (back : ℕ) → TouchesOnly front back c new → AreSearches (rows_view new).rows k

-- It is known to which line steps lead that are kept, so that others lead on from there.
abbrev pub IsLineKept : RowsView → LineAbove → Type 0
IsLineKept s k = ArriveAt s k.document k.steps.items (Some k.at)

-- A line that is kept is known by what is in front: steps lead to it, wherever the document ends that begins so.
abbrev pub IsFrontLine : RowsView → LineAbove → Type 0
IsFrontLine s k = (end : ℕ) → k.at.row < end → ArriveAt s (record { first = k.document.first; end = end }) k.steps.items (Some k.at)

-- It is so in each text in which the items of a cut stay that end in front of so many bytes.
abbrev pub StaysFront : ℕ → Cut → LineAbove → Type 0
StaysFront front c k = (new : Cut) (back : ℕ) → TouchesOnly front back c new → IsFrontLine (rows_view new) k

-- The lines on the way of a path are known.
abbrev pub IsWay : RowsView → Way → Type 0
IsWay s way = IfSome way.line (IsKnownLine s) × IfSome way.above (IsLineAbove s)

-- Items, lines and searches are known among rows.
abbrev pub AreKnownInRows : RowsView → Option (Vec KnownItem Global) → Way → Option LineAbove → StepSearches → Type 0
AreKnownInRows s items way above steps = IfSome items (λ v. AreKnown s.rows v.items) × IsWay s way × IfSome above (IsLineKept s) × AreSearches s.rows steps

-- This is known of the rows of a text and of the ends of its parts.
pub record IsKnowledge (s : RowsView) (k : Knowledge) : Type 0 where
  pub items : AreKnown s.rows k.items.items
  pub documents : AreKnownDocuments s.bounds k.documents
  pub steps : AreSearches s.rows k.steps
  pub above : IfSome k.above (IsFrontLine s)

-- It stays known in each text in which the items of a cut stay that end in front of so many bytes.
abbrev pub KnowledgeStays : ℕ → Cut → Knowledge → Type 0
KnowledgeStays front c k = (new : Cut) (back : ℕ) → TouchesOnly front back c new → IsKnowledge (rows_view new) k
