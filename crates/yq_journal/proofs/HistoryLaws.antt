-- Moves of a journal are moves of its history.
use Rattle.std.proofs.Common.{◌≡◌, ◌==◌, ℕ, suc, ◌+◌, ◌-◌, ◌≤◌, ◌<◌, List, [], ◌∷◌, ◌++◌, length, take, Option, Some, None, Bool, false}
use Rattle.std.{proofs.Common.{refl, sym, ap, ◌∙◌, arith, add-one, if◌then◌else◌, rules}, specs.Prelude.slice_get}
use Rattle.std.{proofs.lemmas.Bool.Decides.nat_tests, proofs.lemmas.Grind.common_steps}
use Rattle.std.proofs.lemmas.Option.{option_and_then_some, slice_get_within, same_Some}
use Prim.Native.Nat.{zero}
use Rattle.yq_journal.{specs.declared.moves.Move.Move, specs.declared.moves.Move.TheVariants.{Edit, Undo, Redo}}
use Rattle.yq_journal.specs.Good.{Leads, AtRest, after_move}
use Rattle.yq_journal.specs.History.{History, Revision, text_after_edits, after_edit, after_undo, after_redo}
use Rattle.yq_journal.{specs.Record.{Record, done, undone}, specs.State.{State, moved_text, journal_after}}
use Rattle.yq_journal.proofs.RecordLaws.{undone_after_done}

pub same_length : (t : List ℕ) (rs : List Record) (es : List Revision) → Leads t rs es → length rs ≡ length es
same_length t [] [] l = refl
same_length t (r ∷ rs) (e ∷ es) l = ap suc (same_length e.text rs es l.2)
same_length t _ _ l = absurd l

-- the record at a place leads from the text there to the next one
pub leads_at : (t : List ℕ) (rs : List Record) (es : List Revision) (n : ℕ) (r : Record) → Leads t rs es → slice_get rs n ≡ Some r → done r (text_after_edits t es n) ≡ Some (text_after_edits t es (suc n))
leads_at t [] [] n r l e = cc
leads_at t (q ∷ rs) (e ∷ es) zero r l is = let same : q ≡ r = cc in ap (λ p. done p t) (sym same) ∙ l.1
leads_at t (q ∷ rs) (e ∷ es) (suc n) r l is = leads_at e.text rs es n r l.2 is
leads_at t _ _ n _ l is = absurd l

-- a record that leads on from the text at a place
leads_on : (t u : List ℕ) (rs : List Record) (es : List Revision) (n : ℕ) (r : Record) → Leads t rs es → n ≤ length es →
    done r (text_after_edits t es n) ≡ Some u → Leads t (take n rs ++ r ∷ []) (take n es ++ record { expr = r.expr; text = u } ∷ [])
leads_on t u rs es zero r l fits d = (refl, d, tt)
leads_on t u [] [] (suc n) r l fits d = absurd (omega arith)
leads_on t u (q ∷ rs) (e ∷ es) (suc n) r l fits d = (l.0, l.1, leads_on e.text u rs es n r l.2 (omega arith) d)
leads_on t u _ _ (suc n) r l fits d = absurd l

text_after_suc : (t : List ℕ) (e : Revision) (es : List Revision) (n : ℕ) → n ≤ length es → text_after_edits t (take n es ++ e ∷ []) (suc n) ≡ e.text
text_after_suc t e es zero fits = refl
text_after_suc t e [] (suc n) fits = absurd (omega arith)
text_after_suc t e (f ∷ es) (suc n) fits = text_after_suc f.text e es n (omega arith)

text_after : (t : List ℕ) (e : Revision) (es : List Revision) (n : ℕ) → n ≤ length es → text_after_edits t (take n es ++ e ∷ []) (n + 1) ≡ e.text
text_after t e es n fits = rw add-one (text_after_suc t e es n fits)

edit_moves : (s : State) (h : History) (t u : List ℕ) (r : Record) → AtRest s t h → done r t ≡ Some u → AtRest (journal_after s (Edit r)) u (after_edit h r.expr u)
edit_moves s h t u r k d = search (rules, leads_on, common_steps, text_after)

undo_moves : (s : State) (h : History) (t u : List ℕ) (r : Record) → AtRest s t h → 0 < s.at → slice_get s.records (s.at - 1) ≡ Some r → undone r t ≡ Some u → AtRest (journal_after s Undo) u (after_undo h)
undo_moves s h t u r k pos is d =
    let place : suc (s.at - 1) ≡ h.at = omega (arith, k.reports.cursor) in
    let leads : done r (text_after_edits h.first h.later (s.at - 1)) ≡ Some t = search (rules, leads_at) in
    search (rules, undone_after_done, same_Some)

redo_moves : (s : State) (h : History) (t u : List ℕ) (r : Record) → AtRest s t h → slice_get s.records s.at ≡ Some r → done r t ≡ Some u → AtRest (journal_after s Redo) u (after_redo h)
redo_moves s h t u r k is d = search (rules, leads_at, slice_get_within, same_length, same_Some, add-one)

if_not : {A : Type 0} {o : Option A} {y : A} (b : Bool) → (if b then None else o) ≡ Some y → (b ≡ false) × (o ≡ Some y)
if_not b h = search rules

-- where a move applies, the journal and its history go on together
pub move_moves : (s : State) (h : History) (t u : List ℕ) (step : Move) → AtRest s t h → moved_text s.records s.at step t ≡ Some u → AtRest (journal_after s step) u (after_move h step u)
move_moves s h t u (Edit r) k m = edit_moves s h t u r k m
move_moves s h t u Undo k m =
    let p = if_not (s.at == 0) m in
    option_and_then_some (λ r. undone r t) (slice_get s.records (s.at - 1)) u p.1 (λ r is d. undo_moves s h t u r k (grind (arith, nat_tests)) is d)
move_moves s h t u Redo k m = option_and_then_some (λ r. done r t) (slice_get s.records s.at) u m (λ r is d. redo_moves s h t u r k is d)
