-- The promises of an accepted edit, and what a refused one tells.
use Rattle.std.proofs.Common.{◌≡◌, ℕ, suc, true, false, ◌+◌, ◌<◌, ◌≤◌, List, [], ◌∷◌, ◌++◌, length, take, drop, Option, Some, None, Result}
use Rattle.std.{proofs.Common.{Ok, Err, IfOk, IfErr, string_bytes, refl, sym, ap, ◌∙◌, subst, take_all, arith}, specs.Str.IsUtf8}
use Rattle.yq_core.specs.Answers.{ReadError}
use Rattle.yq_row_table.specs.Rows.{Cut}
use Rattle.yq_documents.specs.Reading.{read_at}
use Rattle.yq_semantics.{specs.Judgement.ExprError, specs.declared.refusal.Refusal.TheVariants.NotAnUpdate}
use Rattle.yq_semantics.specs.Program.{Program, Update, read, updates, update_at, update_count, is_read}
use Rattle.yq_text.{specs.Splice.Splice, specs.declared.edited.Edited.Edited, proofs.PlaceInList.{get_some, split_at, take_next}}
use Rattle.yq_edit_laws.{specs.Answers.{Edits, EditFails}, proofs.TextFaults.{FailsToRead, text_unread}, proofs.UpdateLaws.no_reading}
use Rattle.yq_edit_laws.{specs.Carried.{updated, program_done, edit_of}, specs.Edit.{gives, refuses, by_reading, in_order}}
use Rattle.yq_edit_laws.specs.Theorems.{HasReading, InOrder, IsEdited, IsUpdated, ProgramRefused, UpdateRefused}
use Rattle.yq_edit_laws.specs.Valid.{IsStep, UpdateFails, FailsAt, FailsEach, ProgramFails}
use Rattle.yq_edit_laws.proofs.OrderLaws.{leads_on, leads_so, leads_give, leads_fail, leads_stop}
use Rattle.yq_fault.specs.Faults.{fault_of_reading, fault_of_refusal}
use Rattle.yq_splice.{specs.Answers.{EditRefused, TextFails}, specs.Updates.HaveLed}
use Rattle.yq_failure.specs.declared.failure.Failure.TheVariants as failure

-- ---- updates, one after the other

-- one update more
pub step_more : (p : Program) (us : List Update) (n : ℕ) (t m new : List ℕ) (cs all : List Splice) → p ≡ updates us → n < length us → InOrder IsStep (take n us) t m cs →
    ((u : Update) → update_at n p ≡ Some u → (es : List Splice) × IsStep u m new es × (all ≡ cs ++ es)) → InOrder IsStep (take (n + 1) us) t new all
step_more p us n t m new cs all is below h step =
    let x = get_some us n below in
    let k = step x.0 (ap (update_at n) is ∙ x.1) in
    subst (λ l. InOrder IsStep l t new all) (sym (take_next us n x.0 x.1))
    (subst (λ l. InOrder IsStep (take n us ++ x.0 ∷ []) t new l) (sym k.2) (leads_on IsStep (take n us) x.0 t m new cs k.0 h k.1))

-- steps are updates that are carried out
are_updates : (us : List Update) (t new : List ℕ) (cs : List Splice) → InOrder IsStep us t new cs → InOrder IsUpdated us t new cs
are_updates us t new cs h = leads_so IsStep IsUpdated (λ u a b ds k. k.is) us t new cs h

-- the text to which they lead reads, if the first one does
reads_on : (us : List Update) (t m : List ℕ) (cs : List Splice) → InOrder IsUpdated us t m cs → HasReading t → HasReading m
reads_on [] t m cs h r = subst HasReading h.0 r
reads_on (u ∷ us) t m cs h r = reads_on us h.0 m h.2 h.4 (h.3.after, h.3.reads)

-- where an update fails, the program does
fails_on : (e : ExprError) (us : List Update) (u : Update) (vs : List Update) (t m : List ℕ) (cs : List Splice) → InOrder IsUpdated us t m cs → UpdateFails e u m → ProgramFails e (updates (us ++ u ∷ vs)) t
fails_on (failure.Fault why) us u vs t m cs h stops = leads_stop IsUpdated (UpdateRefused why) us u vs t m cs h stops
fails_on failure.Memory us u vs t m cs h none = tt

-- an update that fails
pub step_fails : (p : Program) (us : List Update) (n : ℕ) (t m : List ℕ) (cs : List Splice) (e : ExprError) → p ≡ updates us → n < length us → InOrder IsStep (take n us) t m cs →
    ((u : Update) → update_at n p ≡ Some u → FailsAt e u m) → FailsEach e us t
step_fails p us n t m cs e is below h fails =
    let x = get_some us n below in
    let u : Update = x.0 in
    let here : FailsAt e u m = fails u (ap (update_at n) is ∙ x.1) in
    let all : us ≡ take n us ++ u ∷ drop (suc n) us = split_at us n u x.1 in
    record {
      fails = subst (λ l. EditFails e (in_order updated l t)) (sym all) (leads_fail updated IsStep (λ v a b ds k. k.exact) (take n us) u (drop (suc n) us) t m cs e h here.fails);
      why = subst (λ l. ProgramFails e (updates l) t) (sym all) (fails_on e (take n us) u (drop (suc n) us) t m cs (are_updates (take n us) t m cs h) here.why);
    }

-- all updates are done
pub all_done_so : (p : Program) (n : ℕ) (t new : List ℕ) (cs : List Splice) → ((us : List Update) → p ≡ updates us → InOrder IsStep (take n us) t new cs) → n ≡ update_count p →
    (us : List Update) → p ≡ updates us → InOrder IsStep us t new cs
all_done_so p n t new cs h count us is =
    let long : length us ≤ n = omega (arith, count ∙ ap update_count is) in
    subst (λ l. InOrder IsStep l t new cs) (take_all n us long) (h us is)

-- ---- a program with updates

has_updates : (p : Program) → 0 < update_count p → (us : List Update) × (p ≡ updates us) × (0 < length us)
has_updates (read stages) h = absurd (omega (arith, h))
has_updates (updates us) h = (us, refl, h)

-- where the first ones lead from a text that reads, they lead to one
pub led_reads : (p : Program) (n : ℕ) (t m : List ℕ) (cs : List Splice) → 0 < update_count p → HasReading t → HaveLed p t n m cs → HasReading m
led_reads p n t m cs some reads led =
    let x = has_updates p some in
    reads_on (take n x.0) t m cs (are_updates (take n x.0) t m cs (led x.0 x.1)) reads

pub each_exact : (r : Result Edited ExprError) (p : Program) (t : List ℕ) → 0 < update_count p →
    IfOk r (λ e. (us : List Update) → p ≡ updates us → InOrder IsStep us t (string_bytes e.text) e.splices.items) →
    IfErr r (λ e. (us : List Update) → p ≡ updates us → FailsEach e us t) → Edits r (program_done p t)
each_exact (Ok e) p t some ok err =
    let x = has_updates p some in
    ap (λ q. program_done q t) x.1 ∙ leads_give updated IsStep (λ v a b ds k. k.exact) x.0 t (string_bytes e.text) e.splices.items (ok x.0 x.1)
each_exact (Err e) p t some ok err = let x = has_updates p some in subst (λ q. EditFails e (program_done q t)) (sym x.1) (err x.0 x.1).fails

pub each_edited : (r : Result Edited ExprError) (p : Program) (t : List ℕ) → 0 < update_count p →
    IfOk r (λ e. (us : List Update) → p ≡ updates us → InOrder IsStep us t (string_bytes e.text) e.splices.items) → IfOk r (λ e. IsEdited p t (string_bytes e.text) e.splices.items)
each_edited (Ok e) p t some ok =
    let x = has_updates p some in
    record { all = x.0; program = x.1; leads = are_updates x.0 t (string_bytes e.text) e.splices.items (ok x.0 x.1) }
each_edited (Err e) p t some ok = tt

pub each_refused : (r : Result Edited ExprError) (p : Program) (t : List ℕ) → 0 < update_count p →
    IfErr r (λ e. (us : List Update) → p ≡ updates us → FailsEach e us t) → IfErr r (λ e. ProgramFails e p t)
each_refused (Ok e) p t some err = tt
each_refused (Err e) p t some err = let x = has_updates p some in subst (λ q. ProgramFails e q t) (sym x.1) (err x.0 x.1).why

-- ---- a program without updates

pub read_done : (p : Program) (t : List ℕ) → is_read p ≡ true → program_done p t ≡ refuses NotAnUpdate
read_done (read stages) t h = refl
read_done (updates us) t h = absurd (cc)

pub read_refused : (p : Program) (t : List ℕ) → is_read p ≡ true → HasReading t → ProgramRefused p NotAnUpdate t
read_refused (read stages) t h reads = (refl, reads)
read_refused (updates us) t h reads = absurd (cc)

pub none_done : (p : Program) (t : List ℕ) → is_read p ≡ false → update_count p ≡ 0 → program_done p t ≡ gives t []
none_done (read stages) t h none = absurd (cc)
none_done (updates []) t h none = refl
none_done (updates (u ∷ us)) t h none = absurd (omega (arith, none))

pub none_edited : (p : Program) (t new : List ℕ) (cs : List Splice) → is_read p ≡ false → update_count p ≡ 0 → new ≡ t → cs ≡ [] → IsEdited p t new cs
none_edited (read stages) t new cs h none text splices = absurd (cc)
none_edited (updates []) t new cs h none text splices = record { all = []; program = refl; leads = (sym text, splices) }
none_edited (updates (u ∷ us)) t new cs h none text splices = absurd (omega (arith, none))

-- ---- a text

-- what a program makes of one that is read
pub read_edit : (p : Program) (t : List ℕ) (o : Option Cut) → read_at t ≡ o → edit_of p t ≡ by_reading (λ c. program_done p t) o
unfolding edit_of
read_edit p t o is = ap (by_reading (λ c. program_done p t)) is

-- and why there is none
pub program_fails : (e : ExprError) (p : Program) (t : List ℕ) → EditFails e (edit_of p t) → ProgramFails e p t → TextFails (fault_of_refusal e) (edit_of p t) × EditRefused (fault_of_refusal e) p t
program_fails failure.Memory p t fails why = (tt, tt)
program_fails (failure.Fault refusal) p t fails why = (fails, why)

-- nothing of one that isn't
pub unread_fails : (e : ReadError) (p : Program) (bytes t : List ℕ) → bytes ≡ t → IsUtf8 t → FailsToRead e bytes → TextFails (fault_of_reading e) (edit_of p t) × EditRefused (fault_of_reading e) p t
unread_fails failure.Memory p bytes t same utf8 h = (tt, tt)
unread_fails (failure.Fault f) p bytes t same utf8 h = let k = text_unread bytes t f same utf8 h in ((read_edit p t None k.0, k.1), no_reading t k.0)
