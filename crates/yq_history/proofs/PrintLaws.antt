-- What is printed of a journal is what is printed of its history.
use Rattle.std.proofs.Common.{rules, ◌≡◌, ℕ, Bool, suc, ◌+◌, List, [], ◌∷◌, ◌++◌, map, nat_lt, slice_get, take, Option, Some, Ok, Vec, ap₂}
use Rattle.std.{proofs.Common.{refl, arith, append_assoc}, specs.declared.alloc.Global.Global, proofs.lemmas.List.append-nil}
use Prim.Native.Nat.{zero}
use Rattle.yq_journal.{specs.Good.{Leads, AtRest}, specs.History.{History, Revision}, specs.Record.Record, specs.State.State}
use Rattle.yq_store.specs.FileMap.{FileMap}
use Rattle.yq_history.{specs.Pair.Opens, specs.Listing.{edit_line, listing_after, history_lines}}
use Rattle.yq_history.{specs.Output.{listing_output, record_output}, proofs.ListedLaws.history_texts}

-- the lines after n, of one record more
lines_more_at : (n done m : ℕ) (rs : List Record) (i : ℕ) (r : Record) → m ≡ n + i → slice_get rs i ≡ Some r →
    listing_after n done (map (λ (q : Record). q.expr) (take (suc i) rs)) ≡ listing_after n done (map (λ (q : Record). q.expr) (take i rs)) ++ edit_line (m + 1) (nat_lt m done) r.expr
lines_more_at n done m [] i r is found = cc
lines_more_at n done m (q ∷ rs) zero r is found = search (rules, append-nil)
lines_more_at n done m (q ∷ rs) (suc i) r is found = search (rules, append_assoc, lines_more_at (n + 1) done m rs i r (omega (arith, is)) found)

-- the lines of a journal's first records, of one record more
pub lines_more : (done : ℕ) (rs : List Record) (i : ℕ) (r : Record) → slice_get rs i ≡ Some r →
    listing_after 0 done (map (λ (q : Record). q.expr) (take (i + 1) rs)) ≡ listing_after 0 done (map (λ (q : Record). q.expr) (take i rs)) ++ edit_line (i + 1) (nat_lt i done) r.expr
lines_more done rs i r found = search (rules, lines_more_at)

same_exprs : (t : List ℕ) (rs : List Record) (es : List Revision) → Leads t rs es → map (λ (r : Record). r.expr) rs ≡ map (λ (e : Revision). e.expr) es
same_exprs t [] [] l = refl
same_exprs t (r ∷ rs) (e ∷ es) l = ap₂ (λ x xs. x ∷ xs) l.0 (same_exprs e.text rs es l.2)
same_exprs t _ _ l = absurd l

-- the lines of a journal at rest are those of its history
pub listed : (s : State) (t : List ℕ) (h : History) → AtRest s t h → listing_after 0 s.at (map (λ (r : Record). r.expr) s.records) ≡ history_lines h
listed s t h k = ap₂ (λ at exprs. listing_after 0 at exprs) k.reports.cursor (same_exprs h.first s.records h.later k.reports.leads)

-- and so is what is printed of a pair that was read and settled
pub listed_output : (diffs : Bool) (c : FileMap) (f j : List ℕ) (h : Option History) (v : Vec ℕ Global) (s : State) → Opens c f j h (Ok (v, s)) →
    record_output diffs v.items s ≡ listing_output diffs h
listed_output diffs c f j h v s opens = search (rules, listed, same_exprs, history_texts)
