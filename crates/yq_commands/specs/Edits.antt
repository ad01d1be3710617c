-- The record of one edit (own).
use Rattle.std.specs.Prelude.{ℕ, List, length}
use Rattle.yq_text.specs.Splice.{Splice}
use Rattle.yq_journal.specs.Record.{Record}

-- a record of these parts, of one edit
abbrev pub edit_record : List ℕ → List Splice → ℕ → ℕ → Record
edit_record expr changes before after = record { expr = expr; changes = changes; before_len = before; after_len = after; count = 1 }

-- the record of an edit from one text to another
abbrev pub record_between : List ℕ → List Splice → List ℕ → List ℕ → Record
record_between expr changes old new = edit_record expr changes (length old) (length new)
