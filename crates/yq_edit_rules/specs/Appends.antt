-- One item or entry more in a block collection that has some (own).
use Rattle.std.specs.Prelude.{◌≡◌, ℕ, suc, ◌+◌, List, [], ◌∷◌, ◌++◌, length, true, false}
use Rattle.yq_core.{specs.Keys.keys_of, specs.Paths.{Step, append_child, changed_at, within}}
use Rattle.yq_row_table.{specs.Exchange.asked_after, specs.Grammar.{unlimited, AreRows, no_rows}, specs.Rows.{Row, Part, Cut}}
use Rattle.yq_row_table.{specs.Splices.{after_first, first_gap}, specs.Seams.{ends_in_block, ends_in_line}}
use Rattle.yq_outline.{specs.LineAnchors.HaveOneAnchorEach, specs.Lines.lines_of_rows}
use Rattle.yq_outline.{specs.Outline.{Line, Outline, flatten, children, label}, specs.Places.{lines_before, content_under}}
use Rattle.yq_documents.{specs.Documents.{HaveFitKeys, lead_of}, specs.Reading.part_outline}
use Rattle.yq_edit_rules.{specs.SoundRoots.{IsNewValue, IsNewKey}, specs.Siblings.{NodeLines, IsCollectionAt, EntryFits}}
use Rattle.yq_edit_rules.{specs.DocumentRows.{IsDocumentPart, after_document, put_rows}, specs.Changed.ChangesIfReadable}

-- Rows that are written for one more item or entry of a collection at a path of this length: a line at its level and those under it, with a value and a new
-- key.
pub record AreAppendedRows (h : NodeLines) (new : List Row) (m : ℕ) (l : Line) (u : Outline) (above : ℕ) : Type 0 where
  pub lines : lines_of_rows new ≡ l ∷ flatten u
  pub bare : first_gap new [] ≡ []
  pub fits : EntryFits h m l u
  pub anchors : HaveOneAnchorEach (l ∷ flatten u)
  pub keys : HaveFitKeys new
  pub value_is : IsNewValue (content_under l u) (suc above)
  pub key : IsNewKey (label l).key (keys_of (children h.lines))

-- a part with rows between those before and those after, whose gap stays with them
abbrev pub inserted : (front new back : List Row) → Part → Part
inserted front new back p = put_rows front new back (first_gap back p.end) p

-- Rows of a part may have new ones between those before and those after, before a rest: they are rows there, and the row in front has a break.
pub record TakesRows (p : Part) (front new back : List Row) (rest : List ℕ) : Type 0 where
  pub rows_are : p.rows ≡ front ++ back
  pub new_are : AreRows (asked_after unlimited front) new (first_gap back p.end) (after_first back p.end rest)
  pub closed : no_rows back ≡ true → ends_in_block front ≡ false → ends_in_line front ≡ true

-- One item or entry more is appended to a block collection that has some, in the middle of a document or after a final break.
abbrev pub BlockAppended : Type 0
BlockAppended =
    (t : List ℕ) (c : Cut) (k : ℕ) (p : Part) (steps : List Step) (h : NodeLines) (front back new : List Row) (m : ℕ) (l : Line) (u : Outline) →
    IsDocumentPart t c k p →
    IsCollectionAt steps (part_outline p) h → length (lines_of_rows front) ≡ length (lines_before h.place) + length (flatten h.lines) →
    AreAppendedRows h new m l u (length steps) →
    TakesRows p front new back (after_document k c) →
    ChangesIfReadable c k (inserted front new back p) (lead_of p) (changed_at steps (within (append_child (label l) (content_under l u))))
