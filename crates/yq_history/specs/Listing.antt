-- What `history` prints (own).
use Rattle.std.specs.Prelude.{ℕ, ◌+◌, Bool, true, false, List, [], ◌∷◌, ◌++◌, map, nat_lt, codes, decimal}
use Rattle.json.specs.Print.{quoted}
use Rattle.yq_journal.{specs.History.{History, Revision}, specs.Record.Record, specs.State.State}
use Rattle.yq_history.specs.Visible.{visible}

-- the word for an edit that is done, or undone
abbrev pub state_word : Bool → List ℕ
state_word true = codes " done "
state_word false = codes " undone "

-- the line of an edit: its number, whether it is done, its expression as a JSON string that hides nothing, and a line feed (RFC 8259, section 7)
abbrev pub edit_line : ℕ → Bool → List ℕ → List ℕ
edit_line number is_done expr = decimal number ++ state_word is_done ++ visible (quoted expr) ++ 10 ∷ []

-- the lines of the edits with these expressions after the first n, of which so many are done
abbrev pub listing_after : ℕ → ℕ → List (List ℕ) → List ℕ
listing_after n done [] = []
listing_after n done (expr ∷ exprs) = edit_line (n + 1) (nat_lt n done) expr ++ listing_after (n + 1) done exprs

-- the lines of a journal, one for each record, oldest first, numbered from 1
abbrev pub record_lines : State → List ℕ
record_lines s = listing_after 0 s.at (map (λ (r : Record). r.expr) s.records)

-- the lines of a history, one for each edit, oldest first, numbered from 1
abbrev pub history_lines : History → List ℕ
history_lines h = listing_after 0 h.at (map (λ (e : Revision). e.expr) h.later)
