-- The pieces that calls add to a text are the compact JSON of a splice, a record, an open move or a journal.
use Rattle.std.proofs.Common.{rules, ◌≡◌, ◌≤◌, ◌<◌, ◌+◌, ℕ, List, [], ◌∷◌, ◌++◌, Bool, true, Option, Some, codes, decimal, refl, sym, ap}
use Rattle.std.{proofs.Common.{ap₂, ◌∙◌, subst, append_assoc, drop, get_or, length, Ok, ◌^◌}, proofs.lemmas.List.{at_drop_all, drop_more}}
use Rattle.std.{specs.Prelude.{option_and_then, option_map, ⊤}, proofs.lemmas.Fmt.decimal_digit}
use Rattle.base64.{specs.Engines.standard, specs.GeneralPurpose.{decode_of, encode_of}}
use Rattle.json.{specs.Print.{escape, escape_byte, quoted}, specs.Tree.ItemsHaveNumbers}
use Rattle.serde_json.{specs.Data.{Data, array, item}, specs.Read.of_items, specs.Find.as_array}
use Rattle.serde_json.specs.Written.{comma_if, compact_text, items_outline, items_text}
use Rattle.yq_text.specs.Splice.{Splice}
use Rattle.yq_journal.specs.Json.{open_move_of, and_more, change_data, each_of, journal_data, kind_text, list_data, move_data, pending_data}
use Rattle.yq_journal.specs.Json.{record_data, journal_of, move_of, pending_of, record_of, records_of, splice_of, splices_of}
use Rattle.yq_journal.{specs.Added.{Adds, IsReadBack, changes_data, records_data}, specs.Record.{IsRecord, Record}, specs.Refusals.IsSound}
use Rattle.yq_journal.{specs.State.{Pending, State}, proofs.ReadBackLaws.{kept_journal, kept_record, kept_splice}}

-- ---- the texts

-- a splice, with the base64 of its bytes
abbrev splice_after : List ℕ → List ℕ → List ℕ → List ℕ → List ℕ
splice_after t at new old = t ++ codes "{\"at\":" ++ at ++ codes ",\"new\":\"" ++ new ++ codes "\",\"old\":\"" ++ old ++ codes "\"}"

splice_text : (t : List ℕ) (s : Splice) → splice_after t (decimal s.at) (escape (encode_of standard s.new)) (escape (encode_of standard s.old)) ≡ t ++ compact_text (change_data s)
unfolding escape_byte
splice_text t s = simp append_assoc

-- what the calls for a splice add
pub splice_adds : (s : Splice) (t t₁ t₂ t₃ t₄ t₅ t₆ : List ℕ) → s.at < 2 ^ 64 → decode_of standard (encode_of standard s.new) ≡ Ok s.new → decode_of standard (encode_of standard s.old) ≡ Ok s.old
    → t₁ ≡ t ++ codes "{\"at\":" ++ decimal s.at → t₂ ≡ t₁ ++ codes ",\"new\":\"" → t₃ ≡ t₂ ++ escape (encode_of standard s.new) → t₄ ≡ t₃ ++ codes "\",\"old\":\"" → t₅ ≡ t₄ ++ escape (encode_of standard s.old)
    → t₆ ≡ t₅ ++ codes "\"}" → Adds change_data splice_of s t t₆
splice_adds s t t₁ t₂ t₃ t₄ t₅ t₆ h n o e₁ e₂ e₃ e₄ e₅ e₆ = record {
  text_is = e₆ ∙ ap (λ l. l ++ codes "\"}")
      (e₅ ∙ ap (λ l. l ++ escape (encode_of standard s.old))
      (e₄ ∙ ap (λ l. l ++ codes "\",\"old\":\"")
      (e₃ ∙ ap (λ l. l ++ escape (encode_of standard s.new)) (e₂ ∙ ap (λ l. l ++ codes ",\"new\":\"") e₁)))) ∙ splice_text t s;
  kept = kept_splice s h n o;
}

-- a record, with its expression as a string and its splices as an array
abbrev record_after : List ℕ → List ℕ → List ℕ → List ℕ → List ℕ → List ℕ → List ℕ
record_after t a b n e ss =
    t ++ codes "{\"after_len\":" ++ a ++ codes ",\"before_len\":" ++ b ++ codes ",\"count\":" ++ n ++ codes ",\"expr\":" ++ e ++ codes ",\"splices\":" ++ ss ++ codes "}"

record_text : (t : List ℕ) (r : Record) → record_after t (decimal r.after_len) (decimal r.before_len) (decimal r.count) (quoted r.expr) (compact_text (changes_data r.changes)) ≡ t ++ compact_text (record_data r)
unfolding escape_byte
record_text t r = simp append_assoc

-- what the calls for a record add
pub record_adds : (r : Record) (t t₁ t₂ t₃ t₄ t₅ t₆ t₇ t₈ : List ℕ) → r.after_len < 2 ^ 64 → r.before_len < 2 ^ 64 → r.count < 2 ^ 64 → IsRecord r
    → t₁ ≡ t ++ codes "{\"after_len\":" ++ decimal r.after_len → t₂ ≡ t₁ ++ codes ",\"before_len\":" ++ decimal r.before_len → t₃ ≡ t₂ ++ codes ",\"count\":" ++ decimal r.count
    → t₄ ≡ t₃ ++ codes ",\"expr\":" → t₅ ≡ t₄ ++ quoted r.expr → t₆ ≡ t₅ ++ codes ",\"splices\":" → Adds changes_data splices_of r.changes t₆ t₇ → t₈ ≡ t₇ ++ codes "}"
    → Adds record_data (record_of true) r t t₈
record_adds r t t₁ t₂ t₃ t₄ t₅ t₆ t₇ t₈ a b n valid e₁ e₂ e₃ e₄ e₅ e₆ e₇ e₈ = record {
  text_is =
      e₈ ∙ ap (λ l. l ++ codes "}") (e₇.text_is ∙ ap (λ l. l ++ compact_text (changes_data r.changes)) (e₆ ∙ ap (λ l. l ++ codes ",\"splices\":") (e₅ ∙ ap (λ l. l ++ quoted r.expr)
      (e₄ ∙ ap (λ l. l ++ codes ",\"expr\":") (e₃ ∙ ap (λ l. l ++ codes ",\"count\":" ++ decimal r.count) (e₂ ∙ ap (λ l. l ++ codes ",\"before_len\":" ++ decimal r.before_len) e₁)))))) ∙ record_text t r;
  kept = kept_record r a b n valid e₇.kept;
}

-- an open move, with the base64 of its text, its kind and its record
abbrev open_after : List ℕ → List ℕ → List ℕ → List ℕ → List ℕ
open_after t from kind held = t ++ codes "{\"from\":\"" ++ from ++ codes "\",\"kind\":\"" ++ kind ++ codes "\",\"record\":" ++ held ++ codes "}"

open_text : (t : List ℕ) (p : Pending) → open_after t (escape (encode_of standard p.from)) (kind_text p.step) (compact_text (move_data p.step)) ≡ t ++ compact_text (pending_data (Some p))
unfolding escape_byte
open_text t p = search (rules, append_assoc)

-- what the calls for an open move add
pub open_adds : (p : Pending) (t t₁ t₂ t₃ t₄ t₅ t₆ t₇ : List ℕ) → decode_of standard (encode_of standard p.from) ≡ Ok p.from → t₁ ≡ t ++ codes "{\"from\":\"" → t₂ ≡ t₁ ++ escape (encode_of standard p.from)
    → t₃ ≡ t₂ ++ codes "\",\"kind\":\"" → t₄ ≡ t₃ ++ kind_text p.step → t₅ ≡ t₄ ++ codes "\",\"record\":" → Adds move_data (move_of true (kind_text p.step)) p.step t₅ t₆ → t₇ ≡ t₆ ++ codes "}"
    → Adds pending_data (pending_of true) (Some p) t t₇
unfolding open_move_of
open_adds p t t₁ t₂ t₃ t₄ t₅ t₆ t₇ b e₁ e₂ e₃ e₄ e₅ e₆ e₇ = search (rules, open_text)

-- a journal, with its open move and its records
abbrev journal_after : List ℕ → List ℕ → List ℕ → List ℕ → List ℕ
journal_after t at p rs = t ++ codes "{\"at\":" ++ at ++ codes ",\"pending\":" ++ p ++ codes ",\"records\":" ++ rs ++ codes ",\"version\":2}"

abbrev journal_pieces : List ℕ → List ℕ → List ℕ → List ℕ → List ℕ
journal_pieces at p rs v =
    123 ∷ 34 ∷ (codes "at" ++ 34 ∷ 58 ∷ (at ++ (44 ∷ 34 ∷ (codes "pending" ++ 34 ∷ 58 ∷ (p ++ (44 ∷ 34 ∷ (codes "records" ++ 34 ∷ 58 ∷ (rs ++ (44 ∷ 34 ∷ (codes "version" ++ 34 ∷ 58 ∷ (v ++ 125 ∷ [])))))))))))

journal_regroup : (t at p rs : List ℕ) → journal_after t at p rs ≡ t ++ journal_pieces at p rs (50 ∷ [])
journal_regroup t at p rs = simp append_assoc

text_of_journal : (t : List ℕ) (s : State) → journal_after t (decimal s.at) (compact_text (pending_data s.pending)) (compact_text (records_data s.records)) ≡ t ++ compact_text (journal_data s)
unfolding escape_byte
text_of_journal t s = search (rules, journal_regroup, decimal_digit)

-- what the calls for a journal add
pub journal_adds : (s : State) (t t₁ t₂ t₃ t₄ t₅ t₆ : List ℕ) → IsSound s → s.at < 2 ^ 64 → t₁ ≡ t ++ codes "{\"at\":" ++ decimal s.at → t₂ ≡ t₁ ++ codes ",\"pending\":"
    → Adds pending_data (pending_of true) s.pending t₂ t₃ → t₄ ≡ t₃ ++ codes ",\"records\":" → Adds records_data (records_of true) s.records t₄ t₅ → t₆ ≡ t₅ ++ codes ",\"version\":2}"
    → Adds journal_data journal_of s t t₆
journal_adds s t t₁ t₂ t₃ t₄ t₅ t₆ sound h e₁ e₂ e₃ e₄ e₅ e₆ = record {
  text_is =
      e₆ ∙ ap (λ l. l ++ codes ",\"version\":2}") (e₅.text_is ∙ ap (λ l. l ++ compact_text (records_data s.records)) (e₄ ∙ ap (λ l. l ++ codes ",\"records\":")
      (e₃.text_is ∙ ap (λ l. l ++ compact_text (pending_data s.pending)) (e₂ ∙ ap (λ l. l ++ codes ",\"pending\":") e₁)))) ∙ text_of_journal t s;
  kept = kept_journal s sound h e₃.kept e₅.kept;
}

-- ---- lists

-- what is known of all things of a list
abbrev pub AreReadBack : {A : Type 0} → (A → Data) → (Data → Option A) → List A → Type 0
AreReadBack to_data of_data [] = ⊤
AreReadBack to_data of_data (x ∷ xs) = IsReadBack to_data of_data x × AreReadBack to_data of_data xs

numbers_of : {A : Type 0} (to_data : A → Data) (of_data : Data → Option A) (xs : List A) → AreReadBack to_data of_data xs → ItemsHaveNumbers (items_outline (list_data to_data xs))
numbers_of to_data of_data [] k = tt
numbers_of to_data of_data (x ∷ xs) k = (k.0.numbers, numbers_of to_data of_data xs k.1)

items_read : {A : Type 0} (to_data : A → Data) (of_data : Data → Option A) (xs : List A) → AreReadBack to_data of_data xs → of_items (items_outline (list_data to_data xs)) ≡ Some (list_data to_data xs)
items_read to_data of_data [] k = refl
items_read to_data of_data (x ∷ xs) k = ap₂ (λ o p. option_and_then (λ d. option_map (item d) p) o) k.0.reads (items_read to_data of_data xs k.1)

all_are_there : {A : Type 0} (to_data : A → Data) (of_data : Data → Option A) (xs : List A) → AreReadBack to_data of_data xs → each_of of_data (list_data to_data xs) ≡ Some xs
all_are_there to_data of_data [] k = refl
all_are_there to_data of_data (x ∷ xs) k = ap₂ (λ o p. and_more o p) k.0.reads_same (all_are_there to_data of_data xs k.1)

-- a list of things as an array
abbrev pub array_of : {A : Type 0} → (A → Data) → List A → Data
array_of to_data xs = array (list_data to_data xs)

-- the things that an array means
abbrev pub things_of : {A : Type 0} → (Data → Option A) → Data → Option (List A)
things_of of_data d = option_and_then (each_of of_data) (as_array d)

pub list_kept : {A : Type 0} (to_data : A → Data) (of_data : Data → Option A) (xs : List A) → AreReadBack to_data of_data xs → IsReadBack (array_of to_data) (things_of of_data) xs
list_kept to_data of_data xs k = search (rules, numbers_of, items_read, all_are_there)

-- the first things of a list were added to a text
pub record SoFar {A : Type 0} (to_data : A → Data) (of_data : Data → Option A) (xs : List A) (i : ℕ) (later : Bool) (before now : List ℕ) : Type 0 where
  pub text_is : now ++ items_text later (list_data to_data (drop i xs)) ≡ before ++ compact_text (array_of to_data xs)
  pub kept : AreReadBack to_data of_data (drop i xs) → AreReadBack to_data of_data xs

pub so_far_more : {A : Type 0} (to_data : A → Data) (of_data : Data → Option A) (xs : List A) (i : ℕ) (x : A) (later : Bool) (before now mid next : List ℕ)
    → i < length xs → x ≡ get_or xs i x → SoFar to_data of_data xs i later before now → mid ≡ now ++ comma_if later → Adds to_data of_data x mid next
    → SoFar to_data of_data xs (i + 1) true before next
so_far_more to_data of_data xs i x later before now mid next within is s comma added = search (rules, drop_more, append_assoc)

pub so_far_ends : {A : Type 0} (to_data : A → Data) (of_data : Data → Option A) (xs : List A) (i : ℕ) (later : Bool) (before now last : List ℕ)
    → length xs ≤ i → SoFar to_data of_data xs i later before now → last ≡ now ++ codes "]" → Adds (array_of to_data) (things_of of_data) xs before last
so_far_ends to_data of_data xs i later before now last past s e = record {
  text_is = e ∙ sym (at_drop_all (λ l. now ++ items_text later (list_data to_data l)) xs i past) ∙ s.text_is;
  kept = list_kept to_data of_data xs (s.kept (subst (AreReadBack to_data of_data) (sym (at_drop_all (λ l. l) xs i past)) tt));
}
