-- Joining the last done records of a journal is a squash of its history.
use Rattle.std.proofs.Common.{◌≡◌, ℕ, suc, ◌+◌, ◌-◌, ◌≤◌, List, [], ◌∷◌, ◌++◌, length, take, drop, Some, None, true, refl, sym, ap, ◌∙◌}
use Rattle.std.{proofs.Common.{arith, append_assoc, length-append, length-drop, eq-eqb, rules}, specs.Prelude.codes}
use Rattle.std.{proofs.Math.Bool.and-true, proofs.lemmas.List.{length-take-le, take-append-drop, take-take}}
use Prim.Native.Nat.{zero}
use Rattle.yq_text.proofs.SpliceLaws.{all_done-append}
use Rattle.yq_journal.specs.Good.{Leads, AtRest, squash_refusal}
use Rattle.yq_journal.specs.History.{History, Revision, text_after_edits, text_at, latest, latest_of, after_squash}
use Rattle.yq_journal.{specs.Record.{Record, done, join, records_joined, meet}, specs.Refusals.squash_fault}
use Rattle.yq_journal.{specs.State.{State, joined_of, last_done, squashed}, proofs.RecordLaws.matching_of}

-- one record done after the other is their join done
done_join : (r q : Record) (b c d : List ℕ) → done r b ≡ Some c → done q c ≡ Some d → done (join r q) b ≡ Some d
done_join r q b c d e f = search (rules, matching_of, eq-eqb, all_done-append)

-- the text after all of these
text_end : List ℕ → List Revision → List ℕ
text_end t [] = t
text_end t (e ∷ es) = text_end e.text es

following_text-length : (t : List ℕ) (es fs : List Revision) → text_after_edits t (es ++ fs) (length es) ≡ text_end t es
unfolding text_end
following_text-length t [] fs = refl
following_text-length t (e ∷ es) fs = following_text-length e.text es fs

text_end-take : (t : List ℕ) (es : List Revision) (n : ℕ) → n ≤ length es → text_end t (take n es) ≡ text_after_edits t es n
unfolding text_end
text_end-take t es zero h = refl
text_end-take t [] (suc n) h = absurd (omega arith)
text_end-take t (e ∷ es) (suc n) h = text_end-take e.text es n (omega arith)

text_end-append : (t : List ℕ) (es fs : List Revision) → text_end t (es ++ fs) ≡ text_end (text_end t es) fs
unfolding text_end
text_end-append t [] fs = refl
text_end-append t (e ∷ es) fs = text_end-append e.text es fs

leads_take : (t : List ℕ) (rs : List Record) (es : List Revision) (n : ℕ) → Leads t rs es → Leads t (take n rs) (take n es)
leads_take t rs es zero l = tt
leads_take t [] [] (suc n) l = tt
leads_take t (r ∷ rs) (e ∷ es) (suc n) l = (l.0, l.1, leads_take e.text rs es n l.2)
leads_take t _ _ (suc n) l = absurd l

leads_drop : (t : List ℕ) (rs : List Record) (es : List Revision) (n : ℕ) → Leads t rs es → Leads (text_end t (take n es)) (drop n rs) (drop n es)
unfolding text_end
leads_drop t rs es zero l = l
leads_drop t [] [] (suc n) l = tt
leads_drop t (r ∷ rs) (e ∷ es) (suc n) l = leads_drop e.text rs es n l.2
leads_drop t _ _ (suc n) l = absurd l

leads_append : (t : List ℕ) (rs qs : List Record) (es fs : List Revision) → Leads t rs es → Leads (text_end t es) qs fs → Leads t (rs ++ qs) (es ++ fs)
unfolding text_end
leads_append t [] qs [] fs l k = k
leads_append t (r ∷ rs) qs (e ∷ es) fs l k = (l.0, l.1, leads_append e.text rs qs es fs l.2 k)
leads_append t _ qs _ fs l k = absurd l

-- a run of records and its join lead from the one text to the other
leads_joined : (t : List ℕ) (r : Record) (rs : List Record) (e : Revision) (es : List Revision) → Leads t (r ∷ rs) (e ∷ es) → Leads t (records_joined r rs ∷ []) (latest e es ∷ [])
leads_joined t r [] e [] l = (l.0, l.1, tt)
leads_joined t r (q ∷ rs) e (f ∷ es) l =
    search (rules, done_join, leads_joined t (join r q) rs (record { expr = e.expr ++ codes " | " ++ f.expr; text = f.text }) es)
leads_joined t r _ e _ l = absurd l.2

leads_joined_of : (t : List ℕ) (rs : List Record) (es : List Revision) → Leads t rs es → Leads t (joined_of rs) (latest_of es)
leads_joined_of t rs es h1 = search (rules, leads_joined)

latest-text : (e : Revision) (es : List Revision) → (latest e es).text ≡ text_end e.text es
unfolding text_end
latest-text e [] = refl
latest-text e (f ∷ fs) = latest-text (record { expr = e.expr ++ codes " | " ++ f.expr; text = f.text }) fs

-- records that lead through texts have lengths that meet
leads_meet : (t : List ℕ) (rs : List Record) (es : List Revision) → Leads t rs es → meet rs ≡ true
leads_meet t (r ∷ q ∷ rs) (e ∷ f ∷ es) l = search (rules, matching_of, leads_meet e.text (q ∷ rs) (f ∷ es) l.2)
leads_meet t (r ∷ q ∷ rs) [] l = absurd l
leads_meet t (r ∷ q ∷ rs) (e ∷ []) l = absurd l.2
leads_meet t _ es l = refl

-- the done records from a place on lead from the text there to the one at the cursor
last_leads : (s : State) (t : List ℕ) (h : History) (n : ℕ) → AtRest s t h → Leads (text_end h.first (take (h.at - n) (take h.at h.later))) (last_done s.records s.at n) (drop (h.at - n) (take h.at h.later))
last_leads s t h n k = search (rules, text_end, leads_drop, leads_take)

-- whether a squash is refused is the history's to say
pub squash_fault_of : (s : State) (t : List ℕ) (h : History) (n : ℕ) → s.pending ≡ None → AtRest s t h → squash_fault s n ≡ squash_refusal h n
squash_fault_of s t h n none k =
    let meets : meet (last_done s.records s.at n) ≡ true = leads_meet _ _ _ (last_leads s t h n k) in
    search (rules, and-true)

-- a history's texts up to the squashed one
squashed_front : History → ℕ → List Revision
squashed_front h n = take (h.at - n) h.later ++ latest_of (drop (h.at - n) (take h.at h.later))

length-squashed_front : (h : History) (n : ℕ) → 1 ≤ n → n ≤ h.at → h.at ≤ length h.later → length (squashed_front h n) ≡ h.at - n + 1
unfolding squashed_front
length-squashed_front h n some fits within = search (rules, length-take-le, length-drop, length-append)

-- the text after the joined edits is that after these
end_of_squash : (h : History) (n : ℕ)
    → text_end (text_end h.first (take (h.at - n) h.later)) (latest_of (drop (h.at - n) (take h.at h.later))) ≡ text_end h.first (take h.at h.later)
unfolding text_end
end_of_squash h n =
    let inner = take h.at h.later in
    search (rules, latest-text)
    ∙ ap (λ es. text_end (text_end h.first es) (drop (h.at - n) inner)) (sym (take-take (h.at - n) h.at h.later (omega arith)))
    ∙ sym (text_end-append h.first (take (h.at - n) inner) (drop (h.at - n) inner))
    ∙ ap (text_end h.first) (take-append-drop (h.at - n) inner)

text_end-squashed_front : (h : History) (n : ℕ) → h.at ≤ length h.later → text_end h.first (squashed_front h n) ≡ text_at h
unfolding squashed_front
text_end-squashed_front h n within = search (rules, text_end-append, end_of_squash, text_end-take)

squash_leads : (s : State) (t : List ℕ) (h : History) (n : ℕ) → AtRest s t h → Leads h.first (squashed s n).records (after_squash h n).later
squash_leads s t h n k =
    let inner = take h.at h.later in
    let front : text_end h.first (take (h.at - n) inner) ≡ text_end h.first (take (h.at - n) h.later) = search (rules, text_end, take-take) in
    search (rules, text_end, leads_joined_of, last_leads, end_of_squash, leads_drop, leads_append, leads_take)

-- a journal whose last records were joined is at rest with the squashed history
pub squash_rests : (s : State) (t : List ℕ) (h : History) (n : ℕ) → AtRest s t h → 1 ≤ n → n ≤ h.at → AtRest (squashed s n) t (after_squash h n)
unfolding squashed_front
squash_rests s t h n k some fits =
    let within : h.at ≤ length h.later = k.reports.within in
    let long = length-squashed_front h n some fits within in
    search (rules, squashed_front, append_assoc, squash_leads, length-append, text_end-squashed_front, following_text-length)

one_latest : (es : List Revision) → length es ≡ 1 → latest_of es ≡ es
one_latest (e ∷ []) h = refl
one_latest _ h = absurd (omega (arith, h))

-- a squash of one edit leaves the history
pub squash_one : (h : History) → 1 ≤ h.at → h.at ≤ length h.later → after_squash h 1 ≡ h
squash_one h some within =
    let inner = take h.at h.later in
    let long : length inner ≡ h.at = length-take-le h.at h.later within in
    let last : length (drop (h.at - 1) inner) ≡ 1 = length-drop (h.at - 1) inner ∙ omega (arith, long) in
    let later : take (h.at - 1) h.later ++ (latest_of (drop (h.at - 1) inner) ++ drop h.at h.later) ≡ h.later =
    ap (λ es. take (h.at - 1) h.later ++ (es ++ drop h.at h.later)) (one_latest (drop (h.at - 1) inner) last)
    ∙ sym (append_assoc (take (h.at - 1) h.later) (drop (h.at - 1) inner) (drop h.at h.later))
    ∙ ap (λ es. (es ++ drop (h.at - 1) inner) ++ drop h.at h.later) (sym (take-take (h.at - 1) h.at h.later (omega arith)))
    ∙ ap (λ es. es ++ drop h.at h.later) (take-append-drop (h.at - 1) inner)
    ∙ take-append-drop h.at h.later in
    search rules
