-- What `history --diff` prints: after the line of an edit what it changes (own).
use Rattle.std.specs.Prelude.{◌≡◌, ℕ, ◌+◌, ◌&&◌, List, [], ◌∷◌, ◌++◌, map, take, drop, nat_lt, codes, Option, Some, None, option_and_then}
use Rattle.std.{specs.Prelude.MatchBool, specs.Str.is_utf8}
use Rattle.yq_journal.{specs.History.{History, Revision}, specs.Record.{Record, done, undone}, specs.State.State}
use Rattle.yq_history.{specs.Listing.edit_line, specs.Unified.IsPrintedDiff}

-- the line after an edit that doesn't fit the text next to it
abbrev pub unfit_line : List ℕ
unfit_line = codes "no diff: this edit doesn't fit FILE any more\n"

-- the line after an edit of whose texts one is no UTF-8
abbrev pub no_text_line : List ℕ
no_text_line = codes "no diff: FILE is not UTF-8 before or after this edit\n"

-- an edit leads from one text to another: a diff of the two is printed, if both are UTF-8
abbrev pub IsDiffOrNote : List ℕ → List ℕ → List ℕ → List ℕ → Type 0
IsDiffOrNote file old new printed = MatchBool (is_utf8 old && is_utf8 new) (IsPrintedDiff file old new printed) (printed ≡ no_text_line)

-- what comes after the line of an edit, by the texts before and after it, where they are known
abbrev pub IsAfterLine : List ℕ → Option (List ℕ) → Option (List ℕ) → List ℕ → Type 0
IsAfterLine file (Some old) (Some new) printed = IsDiffOrNote file old new printed
IsAfterLine file None None printed = printed ≡ []
IsAfterLine file _ _ printed = printed ≡ unfit_line

-- the lines of the edits with these expressions after the first n, of which so many are done, each with what comes after it, by the texts around the edits
abbrev pub AreDiffLines : List ℕ → ℕ → ℕ → List (List ℕ) → List (Option (List ℕ)) → List ℕ → Type 0
AreDiffLines file n done [] (old ∷ []) printed = printed ≡ []
AreDiffLines file n done (e ∷ es) (old ∷ new ∷ texts) printed =
    (change rest : List ℕ) × (printed ≡ edit_line (n + 1) (nat_lt n done) e ++ (change ++ rest)) × IsAfterLine file old new change
    × AreDiffLines file (n + 1) done es (new ∷ texts) rest
AreDiffLines file n done _ _ printed = ⊥

-- the text before a record, by the texts from the one after it on
abbrev pub text_before : Record → List (Option (List ℕ)) → Option (List ℕ)
text_before r [] = None
text_before r (o ∷ os) = option_and_then (undone r) o

-- the texts around done records, of which the last one led to this text
abbrev pub texts_back : List Record → List ℕ → List (Option (List ℕ))
texts_back [] t = Some t ∷ []
texts_back (r ∷ rs) t = text_before r (texts_back rs t) ∷ texts_back rs t

-- the texts to which undone records lead
abbrev pub texts_on : List Record → Option (List ℕ) → List (Option (List ℕ))
texts_on [] o = []
texts_on (r ∷ rs) o = option_and_then (done r) o ∷ texts_on rs (option_and_then (done r) o)

-- the texts around all records of a journal next to this text
abbrev pub texts_around : State → List ℕ → List (Option (List ℕ))
texts_around s t = texts_back (take s.at s.records) t ++ texts_on (drop s.at s.records) (Some t)

-- the lines of the done edits of a journal next to this text, each with what comes after it
abbrev pub AreDoneLines : List ℕ → State → List ℕ → List ℕ → Type 0
AreDoneLines file s t printed =
    AreDiffLines file 0 s.at (map (λ (r : Record). r.expr) (take s.at s.records)) (texts_back (take s.at s.records) t) printed

-- the texts of a history
abbrev pub texts_of : History → List (Option (List ℕ))
texts_of h = Some h.first ∷ map (λ (e : Revision). Some e.text) h.later
