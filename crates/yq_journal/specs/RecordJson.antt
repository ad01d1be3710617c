-- The splices and records of a journal as values of JSON (RFC 8259), with the recorded bytes in padded standard base64 (RFC 4648).
use Rattle.std.specs.Prelude.{◌==◌, ℕ, suc, ◌&&◌, List, [], ◌∷◌, codes, map, nat_le, Bool, true, false, if◌then◌else◌, Option, Some, None}
use Rattle.std.{specs.Prelude.option_and_then, specs.Result.result_ok}
use Rattle.serde_json.specs.Data.{unsigned, Data, number, string, array, object, Items, no_items, item, Members, no_members, member}
use Rattle.serde_json.{specs.Find.{get, as_number, as_u64, as_str, as_array, as_object}, specs.View.items_of}
use Rattle.base64.{specs.GeneralPurpose.{encode_of, decode_of}, specs.Engines.standard}
use Rattle.yq_text.specs.Splice.{Splice, lengths_done}
use Rattle.yq_journal.specs.Record.{Record, is_length}

-- how many members there are (own)
abbrev pub count_members : Members → ℕ
count_members no_members = 0
count_members (member k d ms) = suc (count_members ms)

-- whether there are so many (own)
abbrev pub counts : ℕ → Option Members → Bool
counts n None = false
counts n (Some ms) = count_members ms == n

-- whether it is an object with so many keys (RFC 8259, section 4)
abbrev pub has_keys : ℕ → Data → Bool
has_keys n d = counts n (as_object d)

-- the number under a key: no sign, point or exponent, and within 64 bits (RFC 8259, section 6)
abbrev pub number_at : List ℕ → Data → Option ℕ
number_at k d = option_and_then as_u64 (option_and_then as_number (get k d))

-- the text under a key (RFC 8259, section 7)
abbrev pub string_at : List ℕ → Data → Option (List ℕ)
string_at k d = option_and_then as_str (get k d)

-- the bytes under a key (RFC 4648, section 4)
abbrev pub bytes_at : List ℕ → Data → Option (List ℕ)
bytes_at k d = option_and_then (λ s. result_ok (decode_of standard s)) (string_at k d)

-- a list, and each thing in it (own)
abbrev pub and_more : {A : Type 0} → Option A → Option (List A) → Option (List A)
and_more None xs = None
and_more (Some x) None = None
and_more (Some x) (Some xs) = Some (x ∷ xs)

-- what each item of an array means (RFC 8259, section 5)
abbrev pub each_of : {A : Type 0} → (Data → Option A) → Items → Option (List A)
each_of f no_items = Some []
each_of f (item d ds) = and_more (f d) (each_of f ds)

-- ---- a splice

-- a splice of these parts (own)
abbrev pub change_from : Option ℕ → Option (List ℕ) → Option (List ℕ) → Option Splice
change_from None old new = None
change_from (Some at) None new = None
change_from (Some at) (Some old) None = None
change_from (Some at) (Some old) (Some new) = Some (record { at = at; old = old; new = new })

-- the splice that a value means: the keys are at, new, old (own)
unfoldable pub splice_of : Data → Option Splice
splice_of d = if has_keys 3 d then change_from (number_at (codes "at") d) (bytes_at (codes "old") d) (bytes_at (codes "new") d) else None

-- the splices that a value means (own)
abbrev pub splices_of : Data → Option (List Splice)
splices_of d = option_and_then (each_of splice_of) (as_array d)

-- ---- a record

-- whether a record means an edit at least, and its splices lead from its one length to its other (own)
abbrev pub is_record : Record → Bool
is_record r = nat_le 1 r.count && is_length (lengths_done r.changes r.before_len) r.after_len

-- a record of these parts, if it is one (own)
abbrev pub record_from : Option (List ℕ) → Option (List Splice) → Option ℕ → Option ℕ → Option ℕ → Option Record
record_from None changes before after count = None
record_from (Some e) None before after count = None
record_from (Some e) (Some cs) None after count = None
record_from (Some e) (Some cs) (Some b) None count = None
record_from (Some e) (Some cs) (Some b) (Some a) None = None
record_from (Some e) (Some cs) (Some b) (Some a) (Some n) =
    if is_record (record { expr = e; changes = cs; before_len = b; after_len = a; count = n })
    then Some (record { expr = e; changes = cs; before_len = b; after_len = a; count = n })
    else None

-- how many edits a record means: version 1 has no such key, and each means one (own)
abbrev pub count_at : Bool → Data → Option ℕ
count_at true d = number_at (codes "count") d
count_at false d = Some 1

-- how many keys a record has (own)
abbrev pub record_keys : Bool → ℕ
record_keys true = 5
record_keys false = 4

-- the record that a value means: the keys are after_len, before_len, count (from version 2), expr, splices (own)
unfoldable pub record_of : Bool → Data → Option Record
record_of counted d = if has_keys (record_keys counted) d
    then record_from (string_at (codes "expr") d) (option_and_then splices_of (get (codes "splices") d)) (number_at (codes "before_len") d)
    (number_at (codes "after_len") d) (count_at counted d)
    else None

-- the records that a value means (own)
abbrev pub records_of : Bool → Data → Option (List Record)
records_of counted d = option_and_then (each_of (record_of counted)) (as_array d)

-- ---- what is written

-- bytes as a value (RFC 4648, section 4)
abbrev pub bytes_data : List ℕ → Data
bytes_data bs = string (encode_of standard bs)

-- a list as an array (RFC 8259, section 5)
abbrev pub list_data : {A : Type 0} → (A → Data) → List A → Items
list_data f xs = items_of (map f xs)

-- a splice as a value (own)
abbrev pub change_data : Splice → Data
change_data c =
    object (member (codes "at") (number (unsigned c.at)) (member (codes "new") (bytes_data c.new)
    (member (codes "old") (bytes_data c.old) no_members)))

-- a record as a value (own)
abbrev pub record_data : Record → Data
record_data r =
    object (member (codes "after_len") (number (unsigned r.after_len)) (member (codes "before_len") (number (unsigned r.before_len))
    (member (codes "count") (number (unsigned r.count)) (member (codes "expr") (string r.expr)
    (member (codes "splices") (array (list_data change_data r.changes)) no_members)))))
