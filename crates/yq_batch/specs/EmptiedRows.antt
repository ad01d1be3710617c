-- The sole item or entry that is left of a block collection, taken out on the rows as they were read (YAML 1.2.2, 7.4 and 8.2; own).
use Rattle.std.specs.Prelude.{◌≡◌, ℕ, ◌+◌, ◌-◌, ◌≤◌, false, List, [], ◌∷◌, length, map, Some}
use Rattle.yq_core.{specs.Entries.tree_step, specs.Paths.{Step, To, Nth}, specs.Text.is_empty}
use Rattle.yq_documents.{specs.Located.steps_of, specs.declared.path.Path.Path, specs.declared.path.Span.Span}
use Rattle.yq_row_table.specs.Rows.{Cut}
use Rattle.yq_places.{specs.Placements.{Held, LinesIn}, specs.RemovalPlaces.{Removal, removal_place}}
use Rattle.yq_places.{specs.RemovalReading.{RowCounts, mark_counts}, specs.declared.places.rows_of_entry.RowsOfEntry.RowsOfEntry}
use Rattle.yq_lookup.specs.HeldRows.{IsHeldUpto}
use Rattle.yq_batch.{specs.RowRemovals.stop_after, specs.declared.changed_rows.ChangedRows.ChangedRows}
use Rattle.yq_core.specs.declared.path.Step as declared

-- an empty collection of the kind of the one in which a step leads to an item or entry, after a space (7.4)
abbrev pub emptied_text : Step → List ℕ
emptied_text (To k) = 32 ∷ (123 ∷ (125 ∷ []))
emptied_text (Nth n) = 32 ∷ (91 ∷ (93 ∷ []))

-- The lines under a key or dash, with the break before them, are in a text from one place up to another one, before their last break (own).
pub record IsPlaceBelow (h : Held) (start finish : ℕ) : Type 0 where
  pub start_is : start ≡ length h.before + length h.space
  pub finish_is : finish ≡ start + length h.break + length h.lines

-- how much of a text comes before the lines that are taken out of it and with them (own)
abbrev pub lines_out : LinesIn → ℕ
lines_out x = length x.before + length x.lines

-- Steps lead to the sole item or entry that is left of the collection to which those above lead, in a text of which rows were changed: it has whole rows,
-- which come right after the row of the key or dash and end where the changed ones begin, with the rest of the collection; an empty collection comes
-- from one place up to another one (own).
pub record IsSoleItem (n : ℕ) (steps above : List Step) (c : Cut) (z : ChangedRows) (keep : ℕ) (x : ℕ × Span) : Type 0 where
  pub removal : Removal
  pub removal_is : Some removal ≡ removal_place n steps c
  pub short : length removal.before + length removal.gone ≤ keep
  pub marks : RowCounts
  pub marks_are : Some marks ≡ mark_counts n steps c
  pub entry : RowsOfEntry
  pub held : Held
  pub upto : IsHeldUpto n above c marks.2 entry held
  pub row : x.0 ≡ entry.row
  pub next : marks.1 - entry.row ≡ 1
  pub ends : entry.end ≡ stop_after z marks.2
  pub head : held.head ≡ []
  pub white : held.white ≡ []
  pub comment : held.comment ≡ []
  pub broken : is_empty held.break ≡ false
  pub place : IsPlaceBelow held x.1.start x.1.end
  pub room : 3 ≤ x.1.end - x.1.start

-- the same of a path and of the steps of the code (own)
abbrev pub IsLeftAlone : Path → List declared.Step → Cut → ChangedRows → ℕ → ℕ × Span → Type 0
IsLeftAlone p above c z keep x = IsSoleItem p.doc (steps_of p) (map tree_step above) c z keep x
