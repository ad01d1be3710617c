-- Members that are counted, lists that are read item by item, and tests that are facts.
use Rattle.std.proofs.Common.{◌≡◌, ◌==◌, ℕ, suc, List, [], ◌∷◌, ◌++◌, length, String, Option, Some, None, true, refl, sym, ap, ◌∙◌}
use Rattle.std.proofs.Common.{if◌then◌else◌, ◌+◌, ◌<◌, ◌≤◌, drop, get_or, append_assoc, option_map, rules}
use Rattle.std.{proofs.lemmas.List.{drop_more, append-nil, at_drop_all}, specs.Prelude.{not, is_some}, specs.declared.alloc.Global.Global}
use Rattle.std.{specs.Str.{IsUtf8, is_utf8}, proofs.lemmas.Bool.{leb-true, and_parts}, proofs.lemmas.Slice.Eq.bytes_eq-Decides}
use Rattle.std.proofs.lemmas.Str.{is_utf8-from_IsUtf8, IsUtf8-from_is_utf8}
use Rattle.serde_json.{specs.Data.{Data, Items, Members}, specs.Read.read, specs.View.{view, items_view, members_view}}
use Rattle.serde_json.specs.declared.value.Value.{Value}
use Rattle.yq_journal.specs.Json.{count_members, counts, and_more, each_of, can_move, is_sound_journal, record_of, pending_of, state_of}
use Rattle.yq_journal.{specs.Json.{journal_of, journal_object}, specs.Record.Record, specs.Refusals.{CanMove, IsSound}}
use Rattle.yq_journal.specs.State.{Pending, State}

count_members-members_view : (es : List (String Global × Value)) → count_members (members_view es) ≡ length es
count_members-members_view [] = refl
count_members-members_view (e ∷ es) = ap suc (count_members-members_view es)

-- an object's entries are its members
pub counted : (n : ℕ) (es : List (String Global × Value)) (o : Option Members) → Some (members_view es) ≡ o → (length es == n) ≡ counts n o
counted n es o e = ap (λ m. m == n) (sym (count_members-members_view es)) ∙ ap (counts n) e

-- bytes that are a text and what is read of them
pub utf8_read : (bs : List ℕ) (d : Data) → IsUtf8 bs → read bs ≡ Some d → Some d ≡ (if is_utf8 bs then read bs else None)
utf8_read bs d u r = sym (ap (λ b. if b then read bs else None) (is_utf8-from_IsUtf8 bs u) ∙ r)

pub not_read : (bs : List ℕ) → (IsUtf8 bs → read bs ≡ None) → None ≡ (if is_utf8 bs then read bs else None)
not_read bs n = search (rules, IsUtf8-from_is_utf8)

none_of : {A : Type 0} (o : Option A) → not (is_some o) ≡ true → o ≡ None
none_of o h = search rules

can_move-move : (rs : List Record) (at : ℕ) (p : Pending) → can_move rs at (Some p) ≡ true → CanMove rs at p.step p.from
can_move-move rs at p h = search (rules, none_of, and_parts, bytes_eq-Decides)

-- a journal that passes the test is sound
pub IsSound-from_is_sound : (s : State) → is_sound_journal s ≡ true → IsSound s
unfolding is_sound_journal
IsSound-from_is_sound s h = search (rules, and_parts, leb-true, can_move-move)

-- the value of a journal is read
pub journal_reads : (s : State) (open_value : Data) (record_values : Items) → pending_of true open_value ≡ Some s.pending → each_of (record_of true) record_values ≡ Some s.records → IsSound s
    → journal_of (journal_object s.at open_value record_values) ≡ Some s
unfolding journal_of state_of is_sound_journal
journal_reads s open_value record_values pending records sound = search (rules)

-- ---- a list, read item by item

found_more : {A : Type 0} (found : List A) (y : A) (o : Option (List A)) → option_map (λ ys. (found ++ y ∷ []) ++ ys) o ≡ option_map (λ ys. found ++ ys) (and_more (Some y) o)
found_more found y o = search (rules, append_assoc)

-- one more item of a list that is read
pub read_more : {A : Type 0} (f : Data → Option A) (vs : List Value) (i : ℕ) (v : Value) (found : List A) (y : A) (target : Option (List A)) → i < length vs → v ≡ get_or vs i v → f (view v) ≡ Some y
    → option_map (λ ys. found ++ ys) (each_of f (items_view (drop i vs))) ≡ target → option_map (λ ys. (found ++ y ∷ []) ++ ys) (each_of f (items_view (drop (i + 1) vs))) ≡ target
read_more f vs i v found y target within is reads so_far = search (rules, found_more, drop_more)

-- an item that means nothing, and so the list
pub read_none : {A : Type 0} (f : Data → Option A) (vs : List Value) (i : ℕ) (v : Value) (found : List A) (target : Option (List A)) → i < length vs → v ≡ get_or vs i v → f (view v) ≡ None
    → option_map (λ ys. found ++ ys) (each_of f (items_view (drop i vs))) ≡ target → None ≡ target
read_none f vs i v found target within is reads so_far = search (rules, drop_more)

-- all items are read
pub read_all : {A : Type 0} (f : Data → Option A) (vs : List Value) (i : ℕ) (found : List A) (target : Option (List A)) → length vs ≤ i
    → option_map (λ ys. found ++ ys) (each_of f (items_view (drop i vs))) ≡ target → Some found ≡ target
read_all f vs i found target past so_far =
    ap Some (sym (append-nil found)) ∙ sym (at_drop_all (λ l. option_map (λ ys. found ++ ys) (each_of f (items_view l))) vs i past) ∙ so_far
