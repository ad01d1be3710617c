-- What an edit did, as splices between two lengths, and what it is to do and to undo it.
use Rattle.std.specs.Prelude.{◌≡◌, ◌==◌, ℕ, ◌+◌, ◌-◌, ◌^◌, ◌≤◌, ◌&&◌, Bool, true, false, List, [], ◌∷◌, ◌++◌, length, min, codes}
use Rattle.std.{specs.Prelude.{if◌then◌else◌, Option, Some, None, String, string_bytes, Vec}, specs.declared.alloc.Global.Global}
use Rattle.yq_text.specs.Splice.{Splice, all_done, flipped, lengths_done}

-- a record: an edit's expression, its splices, the lengths of the texts before and after it, and how many edits it means (own)
pub record Record : Type 0 where
  pub expr : List ℕ
  pub changes : List Splice
  pub before_len : ℕ
  pub after_len : ℕ
  pub count : ℕ

-- the record of an expression, splices, lengths and a count as the code has them (own)
abbrev pub record_with : String Global → Vec Splice Global → ℕ → ℕ → ℕ → Record
record_with expr splices before after count = record {
  expr = string_bytes expr;
  changes = splices.items;
  before_len = before;
  after_len = after;
  count = count;
}

-- what holds of every record: it means an edit at least, and its splices lead from its one length to its other (own)
pub record IsRecord (r : Record) : Type 0 where
  pub counted : 1 ≤ r.count
  pub lengths : lengths_done r.changes r.before_len ≡ Some r.after_len

-- a record ends with the length with which the next one begins (own)
abbrev pub Meets : Record → Record → Type 0
Meets r next = r.after_len ≡ next.before_len

-- whether it is the length that was reached (own)
abbrev pub is_length : Option ℕ → ℕ → Bool
is_length None n = false
is_length (Some m) n = m == n

-- the text that was reached, where it has that length (own)
abbrev pub if_length : ℕ → Option (List ℕ) → Option (List ℕ)
if_length n None = None
if_length n (Some b) = if length b == n then Some b else None

-- the text that an edit leads to from this one, where its record applies before it (own)
abbrev pub done : Record → List ℕ → Option (List ℕ)
done r b = if length b == r.before_len then if_length r.after_len (all_done r.changes b) else None

-- the text that it led from to this one, where its record applies after it (own)
abbrev pub undone : Record → List ℕ → Option (List ℕ)
undone r b = if length b == r.after_len then if_length r.before_len (all_done (flipped r.changes) b) else None

-- two records as one: the expressions joined by " | ", the splices in order, the lengths of the ends, the sum of the counts as far as 64 bits go (own)
abbrev pub join : Record → Record → Record
join r q = record {
  expr = r.expr ++ codes " | " ++ q.expr;
  changes = r.changes ++ q.changes;
  before_len = r.before_len;
  after_len = q.after_len;
  count = min (r.count + q.count) (2 ^ 64 - 1);
}

-- a record and those after it as one (own)
abbrev pub records_joined : Record → List Record → Record
records_joined r [] = r
records_joined r (q ∷ qs) = records_joined (join r q) qs

-- whether each record ends with the length with which the next one begins (own)
abbrev pub meet : List Record → Bool
meet [] = true
meet (r ∷ []) = true
meet (r ∷ q ∷ qs) = (r.after_len == q.before_len) && meet (q ∷ qs)
