-- The pieces that a text has in front, one after the other, are the compact JSON of a splice, a record or a journal.
use Rattle.std.proofs.Common.{rules, ◌≡◌, ◌<◌, ◌≤◌, ◌^◌, ◌-◌, ◌+◌, ℕ, List, [], ◌∷◌, ◌++◌, Bool, true, Option, Some, None, Ok, codes}
use Rattle.std.proofs.Common.{decimal, length, take, refl, sym, ap, ap₂, ◌∙◌, subst, append_assoc, append-nil, true≢false, arith, Vec}
use Rattle.std.{proofs.Common.{Global, get_or}, proofs.Math.Seq.take-append_seam, specs.Str.IsUtf8}
use Rattle.std.{proofs.lemmas.List.{length-append, take_more}, specs.Prelude.is_some}
use Rattle.base64.{specs.Engines.standard, specs.GeneralPurpose.{decode_of, encode_of}}
use Rattle.json.specs.Print.{escape, quoted}
use Rattle.serde_json.{specs.Data.Data, specs.Written.{comma_if, compact_text, items_text}}
use Rattle.yq_text.specs.Splice.{Splice, lengths_done}
use Rattle.yq_journal.specs.Added.{Adds, HoldsRecord, IsLeading, IsReadBack, changes_data, records_data}
use Rattle.yq_journal.specs.Json.{change_data, journal_in, journal_text, list_data, record_data, record_of, records_of, splice_of}
use Rattle.yq_journal.{specs.Json.splices_of, specs.Record.{IsRecord, Record, is_length}, specs.Refusals.{IsSound, most_records}}
use Rattle.yq_journal.specs.State.{state}
use Rattle.yq_journal.proofs.AddedLaws.{AreReadBack, array_of, journal_adds, list_kept, record_adds, splice_adds, things_of}
use Rattle.yq_journal.proofs.ReadBackLaws.{kept_none, text_read}

-- two texts that begin alike, and have the same byte next
pub alike_more : (t bytes : List ℕ) (i : ℕ) → i < length t → i < length bytes → take i t ≡ take i bytes → get_or t i 0 ≡ get_or bytes i 0
    → take (i + 1) t ≡ take (i + 1) bytes
alike_more t bytes i first second alike next =
    take_more t i 0 first ∙ ap₂ (λ (front : List ℕ) (b : ℕ). front ++ b ∷ []) alike next ∙ sym (take_more bytes i 0 second)

-- what comes next in the rest of a text
pub and_then : (t front next rest last : List ℕ) → t ≡ front ++ rest → rest ≡ next ++ last → t ≡ (front ++ next) ++ last
and_then t front next rest last e f = e ∙ ap (λ l. front ++ l) f ∙ sym (append_assoc front next last)

-- five pieces that come one after the other
five : (a b c d e t x₁ x₂ x₃ x₄ x₅ : List ℕ) → t ≡ a ++ x₁ → x₁ ≡ b ++ x₂ → x₂ ≡ c ++ x₃ → x₃ ≡ d ++ x₄ → x₄ ≡ e ++ x₅ → t ≡ ((((a ++ b) ++ c) ++ d) ++ e) ++ x₅
five a b c d e t x₁ x₂ x₃ x₄ x₅ e₁ e₂ e₃ e₄ e₅ = search (rules, and_then)

-- the front of a text is what comes before its rest
pub front_is : (t front rest : List ℕ) → t ≡ front ++ rest → take (length t - length rest) t ≡ front
front_is t front rest e =
    let size : length t - length rest ≡ length front = ap (λ l. length l - length rest) e ∙ (let n = length-append front rest in omega (arith, n)) in
    ap (λ n. take n t) size ∙ ap (take (length front)) e ∙ take-append_seam front rest

-- a splice is in front
pub leading_splice : (s : Splice) (t x₁ x₂ x₃ x₄ x₅ : List ℕ) → s.at < 2 ^ 64 → decode_of standard (encode_of standard s.new) ≡ Ok s.new → decode_of standard (encode_of standard s.old) ≡ Ok s.old
    → t ≡ ((codes "{\"at\":" ++ decimal s.at) ++ codes ",\"new\":\"") ++ x₁ → x₁ ≡ escape (encode_of standard s.new) ++ x₂ → x₂ ≡ codes "\",\"old\":\"" ++ x₃
    → x₃ ≡ escape (encode_of standard s.old) ++ x₄ → x₄ ≡ codes "\"}" ++ x₅ → IsLeading change_data splice_of s t x₅
leading_splice s t x₁ x₂ x₃ x₄ x₅ h n o e₁ e₂ e₃ e₄ e₅ =
    let added = splice_adds s [] _ _ _ _ _ _ h n o refl refl refl refl refl refl in
    record {
      text_is = five
          ((codes "{\"at\":" ++ decimal s.at) ++ codes ",\"new\":\"") (escape (encode_of standard s.new)) (codes "\",\"old\":\"")
          (escape (encode_of standard s.old)) (codes "\"}") t x₁ x₂ x₃ x₄ x₅ e₁ e₂ e₃ e₄ e₅ ∙ ap (λ l. l ++ x₅) added.text_is;
      kept = added.kept;
    }

led : (o : Option ℕ) (n : ℕ) → is_length o n ≡ true → o ≡ Some n
led o n h = search rules

-- what was tested of a record makes it one
pub is_record_if : (r : Record) → 0 < r.count → is_length (lengths_done r.changes r.before_len) r.after_len ≡ true → IsRecord r
is_record_if r some h = record { counted = some; lengths = led (lengths_done r.changes r.before_len) r.after_len h }

-- the numbers of a record, with the key that comes next
abbrev pub numbers_text : ℕ → ℕ → ℕ → List ℕ
numbers_text a b n = (((((codes "{\"after_len\":" ++ decimal a) ++ codes ",\"before_len\":") ++ decimal b) ++ codes ",\"count\":") ++ decimal n) ++ codes ",\"expr\":"

-- a record is in front
pub leading_record : (r : Record) (t x₁ x₂ x₃ x₄ x₅ : List ℕ) → r.after_len < 2 ^ 64 → r.before_len < 2 ^ 64 → r.count < 2 ^ 64 → IsRecord r
    → t ≡ numbers_text r.after_len r.before_len r.count ++ x₁ → x₁ ≡ quoted r.expr ++ x₂ → x₂ ≡ codes ",\"splices\":" ++ x₃
    → IsLeading changes_data splices_of r.changes x₃ x₄ → x₄ ≡ codes "}" ++ x₅ → IsLeading record_data (record_of true) r t x₅
leading_record r t x₁ x₂ x₃ x₄ x₅ a b n valid e₁ e₂ e₃ e₄ e₅ =
    let added = record_adds r [] _ _ _ _ _ _ _ _ a b n valid refl refl refl refl refl refl (record { text_is = refl; kept = e₄.kept }) refl in
    record {
      text_is =
          five (numbers_text r.after_len r.before_len r.count) (quoted r.expr) (codes ",\"splices\":") (compact_text (changes_data r.changes)) (codes "}") t x₁ x₂ x₃ x₄ x₅ e₁ e₂ e₃ e₄.text_is e₅
          ∙ ap (λ l. l ++ x₅) added.text_is;
      kept = added.kept;
    }

-- the text that comes before the rest is what is written of what is in front
pub front_adds : {A : Type 0} (to_data : A → Data) (of_data : Data → Option A) (x : A) (t rest front : List ℕ) → IsLeading to_data of_data x t rest → front ≡ take (length t - length rest) t → Adds to_data of_data x [] front
front_adds to_data of_data x t rest front f is = record { text_is = is ∙ front_is t (compact_text (to_data x)) rest f.text_is; kept = f.kept }

-- a record that keeps the text that is written of it
pub holds_written : (r : Record) (v : Vec ℕ Global) → IsRecord r → Adds record_data (record_of true) r [] v.items → HoldsRecord r (Some v)
holds_written r v valid adds = record { valid = valid; text = λ x e. (let same : v ≡ x = cc in subst (λ (y : Vec ℕ Global). Adds record_data (record_of true) r [] y.items) same adds) }

-- ---- lists

-- the first things of a list were found in front of a text
pub record FoundSoFar {A : Type 0} (to_data : A → Data) (of_data : Data → Option A) (xs : List A) (later : Bool) (text left : List ℕ) : Type 0 where
  pub all : (ys : List A) (rest : List ℕ) → left ≡ items_text later (list_data to_data ys) ++ rest → text ≡ compact_text (array_of to_data (xs ++ ys)) ++ rest
  pub kept : AreReadBack to_data of_data xs

read_back_more : {A : Type 0} (to_data : A → Data) (of_data : Data → Option A) (xs : List A) (x : A) → AreReadBack to_data of_data xs → IsReadBack to_data of_data x → AreReadBack to_data of_data (xs ++ x ∷ [])
read_back_more to_data of_data [] x k l = (l, tt)
read_back_more to_data of_data (y ∷ ys) x k l = (k.0, read_back_more to_data of_data ys x k.1 l)

pub found_more : {A : Type 0} (to_data : A → Data) (of_data : Data → Option A) (xs : List A) (x : A) (later : Bool) (text left next last : List ℕ)
    → FoundSoFar to_data of_data xs later text left → left ≡ comma_if later ++ next → IsLeading to_data of_data x next last → FoundSoFar to_data of_data (xs ++ x ∷ []) true text last
found_more to_data of_data xs x later text left next last f comma front = search (rules, append_assoc, array_of, read_back_more)

pub found_ends : {A : Type 0} (to_data : A → Data) (of_data : Data → Option A) (xs : List A) (later : Bool) (text left rest : List ℕ)
    → FoundSoFar to_data of_data xs later text left → left ≡ codes "]" ++ rest → IsLeading (array_of to_data) (things_of of_data) xs text rest
found_ends to_data of_data xs later text left rest f e = record {
  text_is = f.all [] rest e ∙ ap (λ l. compact_text (array_of to_data l) ++ rest) (append-nil xs);
  kept = list_kept to_data of_data xs f.kept;
}

-- ---- a journal

journal_regroup : (a p n r rs v l : List ℕ) → (a ++ (p ++ (n ++ r))) ++ (rs ++ (v ++ l)) ≡ (((((a ++ p) ++ n) ++ r) ++ rs) ++ v) ++ l
journal_regroup a p n r rs v l = simp append_assoc

no_bytes : (xs : List ℕ) → length xs ≤ 0 → xs ≡ []
no_bytes [] h = refl
no_bytes (x ∷ xs) h = absurd (omega (arith, h))

-- a journal with no open move is sound by its lengths
pub rests_sound : (rs : List Record) (at : ℕ) → at ≤ length rs → length rs ≤ most_records → IsSound (state rs at None)
rests_sound rs at within limit = record { within = within; limit = limit; open_move = λ p e. absurd (true≢false (ap is_some (sym e))) }

-- a text of the written form, with no open move, is that of its journal
pub journal_found : (rs : List Record) (at : ℕ) (t x₁ x₂ x₃ : List ℕ) → IsSound (state rs at None) → at < 2 ^ 64
    → t ≡ ((codes "{\"at\":" ++ decimal at) ++ codes ",\"pending\":null,\"records\":") ++ x₁ → IsLeading records_data (records_of true) rs x₁ x₂
    → x₂ ≡ codes ",\"version\":2}\n" ++ x₃ → length x₃ ≤ 0 → IsUtf8 t → (t ≡ journal_text (state rs at None)) × (journal_in t ≡ Some (state rs at None))
journal_found rs at t x₁ x₂ x₃ sound h e₁ e₂ e₃ none utf8 =
    let added = journal_adds (state rs at None) [] _ _ _ _ _ _ sound h refl refl (record { text_is = refl; kept = kept_none }) refl (record { text_is = refl; kept = e₂.kept }) refl in
    let is : t ≡ journal_text (state rs at None) =
    e₁ ∙ ap (λ l. ((codes "{\"at\":" ++ decimal at) ++ codes ",\"pending\":null,\"records\":") ++ l)
    (e₂.text_is ∙ ap (λ l. compact_text (records_data rs) ++ l) (e₃ ∙ ap (λ l. codes ",\"version\":2}\n" ++ l) (no_bytes x₃ none)))
    ∙ journal_regroup (codes "{\"at\":" ++ decimal at) (codes ",\"pending\":") (codes "null") (codes ",\"records\":") (compact_text (records_data rs)) (codes ",\"version\":2}") (10 ∷ [])
    ∙ ap (λ l. l ++ 10 ∷ []) added.text_is in
    (is, ap journal_in is ∙ text_read (state rs at None) added.kept (subst IsUtf8 is utf8))
