-- What is written of a splice, a record, a move or a journal is read back.
use Rattle.std.proofs.Common.{◌≡◌, ◌≤◌, ◌<◌, ◌^◌, ℕ, suc, List, [], ◌∷◌, ◌++◌, true, Option, Some, None, Ok, codes, refl, sym, ap, ap₂, ◌∙◌}
use Rattle.std.{proofs.Common.{subst, append-nil, arith, if◌then◌else◌, map, rules}, specs.Prelude.{max, option_and_then, option_map}}
use Rattle.std.{specs.Cmp.Derive.both_true, specs.Str.IsUtf8, proofs.lemmas.Bool.{eq-eqb, le-leb}, proofs.lemmas.Str.is_utf8-from_IsUtf8}
use Rattle.base64.{specs.Engines.standard, specs.GeneralPurpose.{decode_of, encode_of}}
use Rattle.json.{specs.Lex.tokens, specs.Token.Token, specs.Tree.{HasNumbers, json_tokens}, proofs.Printed.Decimals.IsNumber-decimal}
use Rattle.json.{proofs.Printed.Tokens.tokens-print, proofs.Printed.Trees.{value-json_tokens, ArePrintable-json_tokens}}
use Rattle.serde_json.specs.Data.{unsigned, Data, number, array, object, Items, no_items, item, Members, no_members, member, put, depth}
use Rattle.serde_json.{specs.Data.{items_depth, members_depth}, specs.Read.{read, max_depth, of_json}, specs.View.items_of}
use Rattle.serde_json.{specs.Written.{compact_text, outline, items_outline, members_outline}, proofs.Numbers.number_of-decimal}
use Rattle.serde_json.proofs.Texts.{print-outline}
use Rattle.yq_text.specs.Splice.{Splice}
use Rattle.yq_journal.{specs.declared.moves.Move.TheVariants.Edit, specs.Added.{IsReadBack, changes_data, records_data}}
use Rattle.yq_journal.specs.Json.{change_data, splice_of, splices_of, is_record, journal_data, journal_in, journal_object, journal_of}
use Rattle.yq_journal.specs.Json.{journal_text, move_data, move_of, pending_data, pending_of, record_data, record_of, records_of}
use Rattle.yq_journal.{specs.Record.{IsRecord, Record, is_length}, specs.Refusals.IsSound, specs.State.State, proofs.JsonLaws.journal_reads}
use Rattle.yq_journal.proofs.LineFeed.{tokens-line_feed}
use Rattle.json.specs.Json as json
use Rattle.json.specs.Tree as tree

-- ---- a value that is read as itself is so from its text and a line feed

mutual
  same_depth : (d : Data) → tree.depth (outline d) ≡ depth d
  same_depth (array ds) = ap suc (same_items_depth ds)
  same_depth (object ms) = ap suc (same_members_depth ms)
  same_depth _ = refl

  same_items_depth : (ds : Items) → tree.items_depth (items_outline ds) ≡ items_depth ds
  same_items_depth no_items = refl
  same_items_depth (item d ds) = ap₂ max (same_depth d) (same_items_depth ds)

  same_members_depth : (ms : Members) → tree.members_depth (members_outline ms) ≡ members_depth ms
  same_members_depth no_members = refl
  same_members_depth (member k d ms) = ap₂ max (same_depth d) (same_members_depth ms)

within : (d : Data) → depth d ≤ max_depth → tree.depth (outline d) ≤ max_depth
within d h = subst (λ n. n ≤ max_depth) (sym (same_depth d)) h

-- the value that tokens are
abbrev value_of : Option (json.Json × List Token) → Option Data
value_of o = option_and_then of_json (option_and_then (λ p. json.if_last p.0 p.1) o)

tokens_read : (d : Data) → depth d ≤ max_depth → value_of (json.value max_depth (json_tokens (outline d))) ≡ of_json (outline d)
tokens_read d h =
    ap (λ ts. value_of (json.value max_depth ts)) (sym (append-nil (json_tokens (outline d)))) ∙ ap value_of (value-json_tokens (outline d) max_depth [] (within d h))

line_tokens : (d : Data) → HasNumbers (outline d) → tokens (compact_text d ++ 10 ∷ []) ≡ json_tokens (outline d)
line_tokens d h =
    let printable = ArePrintable-json_tokens (outline d) h in
    ap (λ t. tokens (t ++ 10 ∷ [])) (sym (print-outline d)) ∙ tokens-line_feed (json_tokens (outline d)) printable ∙ tokens-print (json_tokens (outline d)) printable

line_read : (d : Data) → HasNumbers (outline d) → depth d ≤ max_depth → of_json (outline d) ≡ Some d → read (compact_text d ++ 10 ∷ []) ≡ Some d
line_read d n h r = ap (λ ts. value_of (json.value max_depth ts)) (line_tokens d n) ∙ tokens_read d h ∙ r

-- ---- a journal's value is shallow

flat_changes : (cs : List Splice) → items_depth (items_of (map change_data cs)) ≤ 1
flat_changes [] = omega arith
flat_changes (c ∷ cs) = let more : items_depth (items_of (map change_data cs)) ≤ 1 = flat_changes cs in omega arith

flat_record : (r : Record) → depth (record_data r) ≤ 3
flat_record r = let f : items_depth (items_of (map change_data r.changes)) ≤ 1 = flat_changes r.changes in omega arith

flat_records : (rs : List Record) → items_depth (items_of (map record_data rs)) ≤ 3
flat_records [] = omega arith
flat_records (r ∷ rs) = search (rules, flat_record, flat_records rs)

pub shallow : (s : State) → depth (journal_data s) ≤ max_depth
shallow s = search (rules, flat_record, flat_records)

-- ---- what is read of the values that are written

number_reads : (n : ℕ) → n < 2 ^ 64 → of_json (outline (number (unsigned n))) ≡ Some (number (unsigned n))
number_reads n h = ap (option_map number) (number_of-decimal n h)

object_reads : (n : ℕ) (p : Data) (rs : Items) → n < 2 ^ 64 → of_json (outline p) ≡ Some p → of_json (outline (array rs)) ≡ Some (array rs)
    → of_json (outline (journal_object n p rs)) ≡ Some (journal_object n p rs)
object_reads n p rs h e f =
    λ i. option_map object (
    option_and_then (λ a. option_and_then (λ b. option_and_then (λ c. option_and_then
    (λ d. Some (put (codes "version") d (put (codes "records") c (put (codes "pending") b (put (codes "at") a no_members))))) (number_reads 2 (omega arith) i)) (f i)) (e i)) (number_reads n h i)
    )

-- ---- a splice, a record, a move and a journal are read back

pub kept_splice : (s : Splice) → s.at < 2 ^ 64 → decode_of standard (encode_of standard s.new) ≡ Ok s.new → decode_of standard (encode_of standard s.old) ≡ Ok s.old
    → IsReadBack change_data splice_of s
unfolding splice_of
kept_splice s h n o = search (rules, IsNumber-decimal, number_reads)

is_record-from_IsRecord : (r : Record) → IsRecord r → is_record r ≡ true
is_record-from_IsRecord r h = both_true (le-leb 1 r.count h.counted) (ap (λ o. is_length o r.after_len) h.lengths ∙ eq-eqb r.after_len r.after_len refl)

pub kept_record : (r : Record) → r.after_len < 2 ^ 64 → r.before_len < 2 ^ 64 → r.count < 2 ^ 64 → IsRecord r → IsReadBack changes_data splices_of r.changes
    → IsReadBack record_data (record_of true) r
unfolding record_of
kept_record r a b n h k =
    search (rules, IsNumber-decimal, number_reads, is_record-from_IsRecord, k.reads, k.numbers, k.reads_same)

pub kept_edit : (r : Record) → IsReadBack record_data (record_of true) r → IsReadBack move_data (move_of true (codes "edit")) (Edit r)
unfolding move_of
kept_edit r k = record { numbers = k.numbers; reads = k.reads; reads_same = ap (option_map Edit) k.reads_same }

pub kept_none : IsReadBack pending_data (pending_of true) None
kept_none = record { numbers = tt; reads = refl; reads_same = refl }

pub kept_journal : (s : State) → IsSound s → s.at < 2 ^ 64 → IsReadBack pending_data (pending_of true) s.pending → IsReadBack records_data (records_of true) s.records
    → IsReadBack journal_data journal_of s
kept_journal s sound h p rs = search (rules, IsNumber-decimal, object_reads, journal_reads)

-- the text of a journal is that journal
pub text_read : (s : State) → IsReadBack journal_data journal_of s → IsUtf8 (journal_text s) → journal_in (journal_text s) ≡ Some s
text_read s k u =
    ap (λ b. if b then option_and_then journal_of (read (journal_text s)) else None) (is_utf8-from_IsUtf8 (journal_text s) u)
    ∙ ap (option_and_then journal_of) (line_read (journal_data s) k.numbers (shallow s) k.reads) ∙ k.reads_same
