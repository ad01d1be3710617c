-- What a call adds to the text of a journal that is being written, and what it finds in one that is read (RFC 8259).
use Rattle.std.specs.Prelude.{◌≡◌, List, [], ℕ, ◌++◌, Ok, OnOk, Option, Result, Some, String, codes, decimal, string_bytes, true, Vec}
use Rattle.std.{specs.Option.ForSome, specs.Borrow.Bor, specs.declared.alloc.Global.Global}
use Rattle.base64.{specs.Engines.standard, specs.GeneralPurpose.{decode_of, encode_of}}
use Rattle.json.{specs.Print.escape, specs.Tree.HasNumbers}
use Rattle.serde_json.{specs.Data.{Data, array}, specs.Read.of_json, specs.Written.{compact_text, outline}}
use Rattle.yq_text.specs.Splice.{Splice}
use Rattle.yq_journal.{specs.RecordJson.{change_data, list_data, record_data, record_of}, specs.Record.{IsRecord, Record, record_with}}
use Rattle.yq_journal.specs.ListAnswers.{IfFound}

-- splices as a value (own)
abbrev pub changes_data : List Splice → Data
changes_data cs = array (list_data change_data cs)

-- records as a value (own)
abbrev pub records_data : List Record → Data
records_data rs = array (list_data record_data rs)

-- the numbers of a thing's value are numbers of JSON, its text is read as that value, and the value means the thing (RFC 8259)
pub record IsReadBack {A : Type 0} (to_data : A → Data) (of_data : Data → Option A) (x : A) : Type 0 where
  pub numbers : HasNumbers (outline (to_data x))
  pub reads : of_json (outline (to_data x)) ≡ Some (to_data x)
  pub reads_same : of_data (to_data x) ≡ Some x

-- a text goes on with the compact JSON of a thing, which is read back as that thing (RFC 8259)
pub record Adds {A : Type 0} (to_data : A → Data) (of_data : Data → Option A) (x : A) (before after : List ℕ) : Type 0 where
  pub text_is : after ≡ before ++ compact_text (to_data x)
  pub kept : IsReadBack to_data of_data x

-- a success adds the compact JSON of a thing to a text, which is read back as that thing (RFC 8259)
abbrev pub AddsJson : {T E A : Type 0} → Result T E → (old new : String Global) → (A → Data) → (Data → Option A) → A → Type 0
AddsJson r old new to_data of_data x = OnOk r (Adds to_data of_data x (string_bytes old) (string_bytes new))

-- a text is the compact JSON of a thing, which is read back as that thing, and a rest (RFC 8259)
pub record IsLeading {A : Type 0} (to_data : A → Data) (of_data : Data → Option A) (x : A) (text rest : List ℕ) : Type 0 where
  pub text_is : text ≡ compact_text (to_data x) ++ rest
  pub kept : IsReadBack to_data of_data x

-- what an answer has, if anything, comes first in a text as compact JSON, which is read back as that thing; the answer has the rest too (RFC 8259)
abbrev pub FindsJson : {X E A : Type 0} → Result (Option (X × Bor (List ℕ))) E → (X → A) → (A → Data) → (Data → Option A) → List ℕ → Type 0
FindsJson r view to_data of_data text = IfFound r (λ p. IsLeading to_data of_data (view p.0) text p.1.now)

-- bytes in base64, as JSON writes them (RFC 4648, section 4)
abbrev pub base64_text : List ℕ → List ℕ
base64_text bytes = escape (encode_of standard bytes)

-- bytes in base64 are decoded as those bytes (RFC 4648, section 4)
abbrev pub AreDecodedAgain : List ℕ → Type 0
AreDecodedAgain bytes = decode_of standard (encode_of standard bytes) ≡ Ok bytes

-- how a splice is written up to its new bytes (own)
abbrev pub splice_front : ℕ → List ℕ
splice_front at = (codes "{\"at\":" ++ decimal at) ++ codes ",\"new\":\""

-- how a record is written up to its expression (own)
abbrev pub record_front : (after before count : ℕ) → List ℕ
record_front after before count =
    (((((codes "{\"after_len\":" ++ decimal after) ++ codes ",\"before_len\":") ++ decimal before) ++ codes ",\"count\":") ++ decimal count)
    ++ codes ",\"expr\":"

-- how a journal with no open move is written up to its records (own)
abbrev pub journal_front : ℕ → List ℕ
journal_front at = (codes "{\"at\":" ++ decimal at) ++ codes ",\"pending\":null,\"records\":"

-- what holds of a record in memory: it is one, and the text that is kept with it, if any, is the one that is written of it (own)
pub record HoldsRecord (r : Record) (written : Option (Vec ℕ Global)) : Type 0 where
  pub valid : IsRecord r
  pub text : ForSome written (λ v. Adds record_data (record_of true) r [] v.items)

-- the same, by the parts of the record (own)
abbrev pub HoldsParts : String Global → Vec Splice Global → ℕ → ℕ → ℕ → Option (Vec ℕ Global) → Type 0
HoldsParts expr splices before after count written = HoldsRecord (record_with expr splices before after count) written

-- a success adds a key and a number in decimal to a text (own)
abbrev pub AddsNumber : {T E : Type 0} → Result T E → (old new : String Global) → List ℕ → ℕ → Type 0
AddsNumber r old new key n = OnOk r (string_bytes new ≡ (string_bytes old ++ key) ++ decimal n)

-- a success adds bytes in base64 to a text (RFC 4648, section 4)
abbrev pub AddsBase64 : {T E : Type 0} → Result T E → (old new : String Global) → List ℕ → Type 0
AddsBase64 r old new bytes = OnOk r (string_bytes new ≡ string_bytes old ++ base64_text bytes)
