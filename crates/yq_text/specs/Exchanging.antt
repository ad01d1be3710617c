-- What the exchange of segments of a text comes to, and what an answer says of that.
use Rattle.std.specs.Prelude.{◌≡◌, ℕ, List, length, nat_le, if◌then◌else◌, Option, Some, None, Result, Ok, Err, string_bytes}
use Rattle.std.specs.declared.alloc.AllocError.{AllocError}
use Rattle.yq_text.{specs.Limit.text_limit, specs.Splice.Splice, specs.Script.{Segment, new_text, changes, changes_after}}
use Rattle.yq_text.specs.declared.edited.Edited.{Edited}

-- What an exchange comes to: it gives a new text by these changes, or that would be too large (own).
pub data Exchange : Type 0 where
  too_large : Exchange
  gives : List ℕ → List Splice → Exchange

-- a length, where a text may have it (own)
abbrev pub within_limit : ℕ → Option ℕ
within_limit n = if nat_le n text_limit then Some n else None

-- what segments of a text come to, unless the new text is too large (own)
abbrev pub exchange_of : List Segment → Exchange
exchange_of ss = if nat_le (length (new_text ss)) text_limit then gives (new_text ss) (changes ss) else too_large

-- these are the new text of segments and its splices, after so many bytes that stay (own)
abbrev pub IsBuilt : ℕ → List Segment → Edited → Type 0
IsBuilt front ss e = gives (new_text ss) (changes_after front ss) ≡ gives (string_bytes e.text) e.splices.items

-- the answer is what the exchange comes to; lack of memory says nothing (own)
abbrev pub Exchanged : Result (Option Edited) AllocError → Exchange → Type 0
Exchanged (Ok (Some e)) x = x ≡ gives (string_bytes e.text) e.splices.items
Exchanged (Ok None) x = x ≡ too_large
Exchanged (Err e) x = Unit {0}
