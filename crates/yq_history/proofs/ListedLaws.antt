-- The texts around the records of a journal are those of its history, and lines of edits, one more.
use Rattle.std.proofs.Common.{rules, ◌≡◌, ℕ, suc, ◌+◌, ◌≤◌, List, [], ◌∷◌, ◌++◌, length, map, take, drop, nat_lt, Option, Some, None, refl}
use Rattle.std.proofs.Common.{sym, ap, ap₂, ◌∙◌, arith, append_assoc, subst, ◌-◌, ◌<◌, ◌⊎◌, false, Result, IfOk, slice_get}
use Rattle.std.{specs.Prelude.{option_and_then, String}, specs.String.string_bytes, specs.declared.alloc.Global.Global}
use Rattle.std.{proofs.lemmas.List.append-nil, proofs.lemmas.Str.IsUtf8-from_is_utf8, proofs.lemmas.Bool.false_from_ne_true}
use Rattle.std.specs.Str.{IsUtf8, is_utf8}
use Rattle.yq_history.specs.ListedView.{backwards, exprs_of}
use Rattle.yq_history.specs.ListedDiffs.{IsDiffOrNote, no_text_line, AreDiffLines, IsAfterLine, text_before, texts_around, texts_back}
use Rattle.yq_history.{specs.ListedDiffs.{texts_of, texts_on}, specs.Output.{IsOutput, Output}, specs.Listing.edit_line}
use Prim.Native.Nat.{zero}
use Rattle.yq_journal.{specs.Good.{AtRest, Leads}, specs.History.{History, Revision, text_after_edits}, specs.Record.{Record, done, undone}}
use Rattle.yq_journal.{specs.State.State, proofs.RecordLaws.undone_after_done}

-- ---- by a history

-- records that lead through texts lead on to them
on_leads : (t : List ℕ) (rs : List Record) (es : List Revision) → Leads t rs es → texts_on rs (Some t) ≡ map (λ (e : Revision). Some e.text) es
on_leads t [] [] l = refl
on_leads t (r ∷ rs) (e ∷ es) l =
    ap (λ o. o ∷ texts_on rs o) l.1 ∙ ap (λ os. Some e.text ∷ os) (on_leads e.text rs es l.2)
on_leads t _ _ l = absurd l

before_more : (r : Record) (rs : List Record) (t : List ℕ) (os : List (Option (List ℕ))) → text_before r (texts_back rs t) ≡ text_before r (texts_back rs t ++ os)
before_more r [] t os = refl
before_more r (q ∷ rs) t os = refl

-- back from the text at a place, and on from it
around : (t : List ℕ) (rs : List Record) (es : List Revision) (n : ℕ) → Leads t rs es → n ≤ length es →
    texts_back (take n rs) (text_after_edits t es n) ++ texts_on (drop n rs) (Some (text_after_edits t es n)) ≡ Some t ∷ map (λ (e : Revision). Some e.text) es
around t rs es zero l fits = ap (λ os. Some t ∷ os) (on_leads t rs es l)
around t [] [] (suc n) l fits = absurd (omega (arith, fits))
around t (r ∷ rs) (e ∷ es) (suc n) l fits =
    let u : List ℕ = text_after_edits e.text es n in
    let rest = around e.text rs es n l.2 (omega (arith, fits)) in
    ap₂ (λ o os. o ∷ os)
    (before_more r (take n rs) u (texts_on (drop n rs) (Some u)) ∙ ap (text_before r) rest ∙ undone_after_done r t e.text l.1)
    rest
around t _ _ (suc n) l fits = absurd l

-- the texts around the records of a journal at rest
pub history_texts : (s : State) (t : List ℕ) (h : History) → AtRest s t h → texts_around s t ≡ texts_of h
history_texts s t h k = search (rules, around)

-- ---- lines, one more

-- the last of several texts
abbrev pub last_of : List (Option (List ℕ)) → Option (List ℕ)
last_of [] = None
last_of (o ∷ []) = o
last_of (o ∷ p ∷ os) = last_of (p ∷ os)

-- the line of an edit more, after the last one
pub listed_more : (file : List ℕ) (n done m : ℕ) (es : List (List ℕ)) (ts : List (Option (List ℕ))) (printed e change : List ℕ) (new : Option (List ℕ)) →
    AreDiffLines file n done es ts printed → m ≡ n + length es → IsAfterLine file (last_of ts) new change →
    AreDiffLines file n done (es ++ e ∷ []) (ts ++ new ∷ []) (printed ++ (edit_line (m + 1) (nat_lt m done) e ++ change))
listed_more file n done m [] (o ∷ []) printed e change new none is after = search (rules, append-nil)
listed_more file n done m (x ∷ es) (o ∷ p ∷ ts) printed e change new (first, rest, spells, shown, more) is after =
    search (rules, append_assoc, listed_more file (n + 1) done m es (p ∷ ts) rest e change new more (omega (arith, is)) after)
listed_more file n done m [] [] printed e change new none is after = absurd none
listed_more file n done m [] (o ∷ p ∷ ts) printed e change new none is after = absurd none
listed_more file n done m (x ∷ es) [] printed e change new none is after = absurd none
listed_more file n done m (x ∷ es) (o ∷ []) printed e change new none is after = absurd none

pub last_more : (ts : List (Option (List ℕ))) (o : Option (List ℕ)) → last_of (ts ++ o ∷ []) ≡ o
last_more (p ∷ q ∷ ts) o = last_more (q ∷ ts) o
last_more _ o = refl

-- the texts to which one record more leads
on_more : (rs : List Record) (r : Record) (o : Option (List ℕ)) → texts_on (rs ++ r ∷ []) o ≡ texts_on rs o ++ option_and_then (done r) (last_of (o ∷ texts_on rs o)) ∷ []
on_more [] r o = refl
on_more (q ∷ rs) r o = ap (λ os. option_and_then (done q) o ∷ os) (on_more rs r (option_and_then (done q) o))

pub last_back : (rs : List Record) (t : List ℕ) (os : List (Option (List ℕ))) → last_of (texts_back rs t ++ os) ≡ last_of (Some t ∷ os)
last_back (r ∷ q ∷ rs) t os = last_back (q ∷ rs) t os
last_back _ t os = refl

-- the texts around records of which one more is undone
pub around_more : (ds us : List Record) (r : Record) (t : List ℕ) →
    (texts_back ds t ++ texts_on us (Some t)) ++ option_and_then (done r) (last_of (texts_back ds t ++ texts_on us (Some t))) ∷ [] ≡ texts_back ds t ++ texts_on (us ++ r ∷ []) (Some t)
around_more ds us r t = search (rules, append_assoc, last_back, on_more)

-- ---- lines, one before them

-- the first of several texts
abbrev pub first_text : List (Option (List ℕ)) → Option (List ℕ)
first_text [] = None
first_text (o ∷ os) = o

pub before_first : (r : Record) (os : List (Option (List ℕ))) → text_before r os ≡ option_and_then (undone r) (first_text os)
before_first r os = search rules

-- the line of a done record before those of the records after it
pub listed_before : (file : List ℕ) (n m done : ℕ) (r : Record) (rs : List Record) (t change rest : List ℕ) (old : Option (List ℕ)) →
    old ≡ option_and_then (undone r) (first_text (texts_back rs t)) → IsAfterLine file old (first_text (texts_back rs t)) change → m ≡ n + 1 →
    AreDiffLines file m done (map (λ (q : Record). q.expr) rs) (texts_back rs t) rest →
    AreDiffLines file n done (map (λ (q : Record). q.expr) (r ∷ rs)) (texts_back (r ∷ rs) t) (edit_line (n + 1) (nat_lt n done) r.expr ++ (change ++ rest))
listed_before file n m done r [] t change rest old is after next more = search rules
listed_before file n m done r (q ∷ rs) t change rest old is after next more = search rules

-- ---- texts, the last one first

pub backwards_more : (ss : List (String Global)) (s : String Global) → backwards (ss ++ s ∷ []) ≡ string_bytes s ++ backwards ss
backwards_more [] s = sym (append-nil (string_bytes s))
backwards_more (t ∷ ss) s = ap (λ x. x ++ string_bytes t) (backwards_more ss s) ∙ append_assoc (string_bytes s) (backwards ss) (string_bytes t)

-- ---- records by their places

none_after : (n : ℕ) (rs : List Record) → drop n (take n rs) ≡ []
none_after (suc n) (r ∷ rs) = none_after n rs
none_after _ _ = refl

none_after_all : (n : ℕ) (rs : List Record) → drop (length rs) (take n rs) ≡ []
none_after_all zero [] = refl
none_after_all (suc n) (r ∷ rs) = none_after_all n rs
none_after_all _ _ = refl

pub none_at : (k n : ℕ) (rs : List Record) → k ≡ n → drop k (take n rs) ≡ []
none_at k n rs is = ap (λ i. drop i (take n rs)) is ∙ none_after n rs

pub none_at_all : (k n : ℕ) (rs : List Record) → k ≡ length rs → drop k (take n rs) ≡ []
none_at_all k n rs is = ap (λ i. drop i (take n rs)) is ∙ none_after_all n rs

drop_step : (rs : List Record) (n k : ℕ) (r : Record) → suc k ≤ n → slice_get rs k ≡ Some r → drop k (take n rs) ≡ r ∷ drop (suc k) (take n rs)
drop_step rs zero k r fits found = absurd (omega (arith, fits))
drop_step [] (suc n) k r fits found = cc
drop_step (q ∷ rs) (suc n) zero r fits found = let same : q ≡ r = cc in ap (λ x. x ∷ take n rs) same
drop_step (q ∷ rs) (suc n) (suc k) r fits found = drop_step rs n k r (omega (arith, fits)) found

take_step : (rs : List Record) (k : ℕ) (r : Record) → slice_get rs k ≡ Some r → take (suc k) rs ≡ take k rs ++ r ∷ []
take_step [] k r found = cc
take_step (q ∷ rs) zero r found = let same : q ≡ r = cc in ap (λ x. x ∷ []) same
take_step (q ∷ rs) (suc k) r found = ap (λ xs. q ∷ xs) (take_step rs k r found)

get_dropped : (rs : List Record) (n k : ℕ) → slice_get (drop n rs) k ≡ slice_get rs (n + k)
get_dropped rs zero k = let same : k ≡ 0 + k = omega arith in ap (slice_get rs) same
get_dropped [] (suc n) k = refl
get_dropped (r ∷ rs) (suc n) k = let same : suc (n + k) ≡ suc n + k = omega arith in get_dropped rs n k ∙ ap (slice_get (r ∷ rs)) same

take_whole : (rs : List Record) (n : ℕ) → length rs ≤ n → take n rs ≡ rs
take_whole [] zero fits = refl
take_whole [] (suc n) fits = refl
take_whole (r ∷ rs) zero fits = absurd (omega (arith, fits))
take_whole (r ∷ rs) (suc n) fits = ap (λ xs. r ∷ xs) (take_whole rs n (omega (arith, fits)))

length_taken : (rs : List Record) (n : ℕ) → n ≤ length rs → length (exprs_of (take n rs)) ≡ n
length_taken rs zero fits = refl
length_taken [] (suc n) fits = absurd (omega (arith, fits))
length_taken (r ∷ rs) (suc n) fits = ap suc (length_taken rs n (omega (arith, fits)))

length_dropped : (rs : List Record) (n : ℕ) → length (drop n rs) ≡ length rs - n
length_dropped rs zero = omega arith
length_dropped [] (suc n) = omega arith
length_dropped (r ∷ rs) (suc n) = length_dropped rs n ∙ omega arith

within_get : (rs : List Record) (n : ℕ) (r : Record) → slice_get rs n ≡ Some r → n < length rs
within_get [] n r found = cc
within_get (q ∷ rs) zero r found = omega arith
within_get (q ∷ rs) (suc n) r found = let less = within_get rs n r found in omega (arith, less)

exprs_more : (rs : List Record) (r : Record) → exprs_of (rs ++ r ∷ []) ≡ exprs_of rs ++ r.expr ∷ []
exprs_more [] r = refl
exprs_more (q ∷ rs) r = ap (λ es. q.expr ∷ es) (exprs_more rs r)

-- ---- steps of the loops

-- the line of a done record more
pub done_more : (file : List ℕ) (at left : ℕ) (rs : List Record) (r : Record) (t : List ℕ) (near far : Option (List ℕ)) (lines new : List (String Global)) (line : String Global) (change : List ℕ) → new ≡ lines ++ line ∷ [] →
    0 < left → left ≤ at → slice_get rs (left - 1) ≡ Some r → near ≡ first_text (texts_back (drop left (take at rs)) t) →
    AreDiffLines file left at (exprs_of (drop left (take at rs))) (texts_back (drop left (take at rs)) t) (backwards lines) →
    far ≡ option_and_then (undone r) near → IsAfterLine file far near change → string_bytes line ≡ edit_line (left - 1 + 1) (nat_lt (left - 1) at) r.expr ++ change →
    (far ≡ first_text (texts_back (drop (left - 1) (take at rs)) t)) ×
    AreDiffLines file (left - 1) at (exprs_of (drop (left - 1) (take at rs))) (texts_back (drop (left - 1) (take at rs)) t) (backwards new)
done_more file at left rs r t near far lines new line change pushed some fits found near_is more far_is after line_is =
    let place : suc (left - 1) ≡ left = omega (arith, some) in
    let rest : List Record = drop left (take at rs) in
    let step : drop (left - 1) (take at rs) ≡ r ∷ rest = drop_step rs at (left - 1) r (omega (arith, some, fits)) found ∙ ap (λ k. r ∷ drop k (take at rs)) place in
    let old : far ≡ option_and_then (undone r) (first_text (texts_back rest t)) = far_is ∙ ap (option_and_then (undone r)) near_is in
    let head : List ℕ = edit_line (left - 1 + 1) (nat_lt (left - 1) at) r.expr in
    let out : backwards new ≡ head ++ (change ++ backwards lines) = ap backwards pushed ∙ backwards_more lines line ∙ ap (λ x. x ++ backwards lines) line_is ∙ append_assoc head change (backwards lines) in
    subst (λ xs. (far ≡ first_text (texts_back xs t)) × AreDiffLines file (left - 1) at (exprs_of xs) (texts_back xs t) (backwards new)) (sym step) (
      old ∙ sym (before_first r (texts_back rest t)),
      subst (AreDiffLines file (left - 1) at (exprs_of (r ∷ rest)) (texts_back (r ∷ rest) t)) (sym out)
          (listed_before file (left - 1) left at r rest t change (backwards lines) far old (subst (λ o. IsAfterLine file far o change) near_is after) (omega (arith, some)) more),
    )

-- the texts around the records up to a place
abbrev pub texts_to : ℕ → List Record → List ℕ → ℕ → List (Option (List ℕ))
texts_to at rs t i = texts_back (take at rs) t ++ texts_on (take (i - at) (drop at rs)) (Some t)

pub undone_init : (file : List ℕ) (at i : ℕ) (rs : List Record) (t u o lines : List ℕ) → i ≡ at → u ≡ t → o ≡ lines → AreDiffLines file 0 at (exprs_of (take at rs)) (texts_back (take at rs) u) lines →
    (at ≤ i) × (Some t ≡ last_of (texts_to at rs t i)) × AreDiffLines file 0 at (exprs_of (take i rs)) (texts_to at rs t i) o
undone_init file at i rs t u o lines place text_is out printed = search (rules, append-nil, last_back)

-- the line of an undone record more
pub undone_more : (file : List ℕ) (at i : ℕ) (rs : List Record) (r : Record) (t : List ℕ) (near far : Option (List ℕ)) (lines new line change : List ℕ) → new ≡ lines ++ line →
    at ≤ i → slice_get rs i ≡ Some r → near ≡ last_of (texts_to at rs t i) → AreDiffLines file 0 at (exprs_of (take i rs)) (texts_to at rs t i) lines →
    far ≡ option_and_then (done r) near → IsAfterLine file near far change → line ≡ edit_line (i + 1) (nat_lt i at) r.expr ++ change →
    (far ≡ last_of (texts_to at rs t (i + 1))) × AreDiffLines file 0 at (exprs_of (take (i + 1) rs)) (texts_to at rs t (i + 1)) new
undone_more file at i rs r t near far lines new line change pushed begun found near_is more far_is after line_is =
    let next : i + 1 ≡ suc i = omega arith in
    let place : i + 1 - at ≡ suc (i - at) = omega (arith, begun) in
    let there : at + (i - at) ≡ i = omega (arith, begun) in
    let us : List Record = take (i - at) (drop at rs) in
    let undone_is : take (i + 1 - at) (drop at rs) ≡ us ++ r ∷ [] = search (rules, take_step, get_dropped) in
    let new_is : far ≡ option_and_then (done r) (last_of (texts_to at rs t i)) = far_is ∙ ap (option_and_then (done r)) near_is in
    let texts : texts_to at rs t i ++ far ∷ [] ≡ texts_to at rs t (i + 1) = search (rules, around_more) in
    let exprs : exprs_of (take i rs) ++ r.expr ∷ [] ≡ exprs_of (take (i + 1) rs) = sym (ap (λ k. exprs_of (take k rs)) next ∙ ap exprs_of (take_step rs i r found) ∙ exprs_more (take i rs) r) in
    let fits = within_get rs i r found in
    let taken = length_taken rs i (omega (arith, fits)) in
    let count : i ≡ 0 + length (exprs_of (take i rs)) = omega (arith, taken) in (
      sym (last_more (texts_to at rs t i) far) ∙ ap last_of texts,
      subst (λ es. AreDiffLines file 0 at es (texts_to at rs t (i + 1)) new) exprs
          (subst (λ ts. AreDiffLines file 0 at (exprs_of (take i rs) ++ r.expr ∷ []) ts new) texts
          (subst (AreDiffLines file 0 at (exprs_of (take i rs) ++ r.expr ∷ []) (texts_to at rs t i ++ far ∷ [])) (sym (pushed ∙ ap (λ x. lines ++ x) line_is))
          (listed_more file 0 at i (exprs_of (take i rs)) (texts_to at rs t i) lines r.expr change far more count (subst (λ o. IsAfterLine file o far change) near_is after)))),
    )

-- after the last record
pub undone_end : (file : List ℕ) (at i : ℕ) (rs : List Record) (t o : List ℕ) → at ≤ i → length rs ≤ i → AreDiffLines file 0 at (exprs_of (take i rs)) (texts_to at rs t i) o →
    AreDiffLines file 0 at (exprs_of rs) (texts_back (take at rs) t ++ texts_on (drop at rs) (Some t)) o
undone_end file at i rs t o begun all lines = search (rules, length_dropped, take_whole)

-- ---- what comes after a line

-- or the line that says that there is none
pub note_comes : {E : Type 0} (file old new : List ℕ) (r : Result (String Global) E) → (is_utf8 old ≡ false) ⊎ (is_utf8 new ≡ false) →
    IfOk r (λ s. string_bytes s ≡ no_text_line) → IfOk r (λ s. IsDiffOrNote file old new (string_bytes s))
note_comes file old new r other note = search rules

pub not_utf8 : (t : List ℕ) → (IsUtf8 t → ⊥) → is_utf8 t ≡ false
not_utf8 t other = false_from_ne_true (is_utf8 t) (λ e. other (IsUtf8-from_is_utf8 t e))

-- the same output by another name
pub output_as : (file : List ℕ) (x y : Output) (o : List ℕ) → x ≡ y → IsOutput file x o → IsOutput file y o
output_as file x y o is shows = subst (λ z. IsOutput file z o) is shows
