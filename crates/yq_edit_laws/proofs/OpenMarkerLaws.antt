-- A document without rows after a last marker that has no break: the cut in which the marker gets one has the same documents.
use Rattle.std.proofs.Common.{◌≡◌, ℕ, zero, suc, ◌≤◌, ◌||◌, not, Bool, true, false, List, [], ◌∷◌, ◌++◌, length, Some, option_map, refl}
use Rattle.std.{proofs.Common.{sym, ap, ◌∙◌, subst, arith, append_assoc, append-nil, rules}, proofs.lemmas.Bool.false≢true}
use Rattle.std.specs.List.{slice_get}
use Rattle.yq_core.specs.Text.{is_empty}
use Rattle.yq_row_table.{specs.Appending.{last_marker, with_last_part}, specs.Grammar.{IsPart, AreParts, begins_document}}
use Rattle.yq_row_table.{specs.Splices.{after_part, nth_part}, specs.Rows.{Part, part_text, Cut, last, marked, cut_text}}
use Rattle.yq_row_table.{proofs.PlaceLaws.part_then, specs.Items.{Item, end_item, rows_items, items_of_cut}}
use Rattle.yq_documents.specs.Documents.{begins_bare, has_begin, with_part, parts_from, document_parts}
use Rattle.yq_documents.specs.PartNumbers.{number_from, part_number}
use Rattle.yq_places.{specs.PlacedRows.{PlacedPart, before_part, placed_at, placed_document}, proofs.PlacedPartLaws.part_is_there}
use Rattle.yq_edit_rules.{specs.Changed.{put_document, put_part}, proofs.DocumentItemLaws.rows_before}

-- a document after a text with a break more, at the end of a text
abbrev pub broken_before : List ℕ → PlacedPart → PlacedPart
broken_before break d = record { before = d.before ++ break; part = d.part; after = [] }

-- A part after a text is the last part, and comes after the last marker, also where that gets a break.
pub record IsAtEnd (break : List ℕ) (before : List ℕ) (p : Part) (c : Cut) : Type 0 where
  pub pre : List ℕ
  pub before_is : before ≡ pre ++ last_marker c
  pub part_is : IsPart (begins_document (last_marker c)) p []
  pub long : 3 ≤ length (last_marker c)
  pub above : List Item
  pub gap : List ℕ
  pub old_are : items_of_cut c ≡ above ++ (end_item gap (last_marker c) ∷ rows_items p.rows (end_item p.end [] ∷ []))
  pub new_are : (q : Part) → items_of_cut (with_last_part break q c) ≡ above
      ++ (end_item gap (last_marker c ++ break) ∷ rows_items q.rows (end_item q.end [] ∷ []))

-- Part i is so.
record IsLast (break : List ℕ) (i : ℕ) (c : Cut) : Type 0 where
  pub end : IsAtEnd break (before_part i c) (nth_part i c) c
  pub placed : placed_at i (with_last_part break (nth_part i c) c) ≡ broken_before break (placed_at i c)
  pub numbers_are : (is : Bool) (n : ℕ) → number_from is n (with_last_part break (nth_part i c) c) ≡ number_from is n c
  pub parts_are : (is : Bool) → parts_from is (with_last_part break (nth_part i c) c) ≡ parts_from is c
  pub begins : has_begin (with_last_part break (nth_part i c) c) ≡ has_begin c
  pub put : (q : Part) → put_part i q (with_last_part break (nth_part i c) c) ≡ with_last_part break q c

begins_same : (m break : List ℕ) → 3 ≤ length m → begins_document (m ++ break) ≡ begins_document m
begins_same [] break h = absurd (omega (arith, h))
begins_same (b ∷ m) break h = refl

marker_some : (m t : List ℕ) → 3 ≤ length m → m ++ t ≡ [] → ⊥
marker_some [] t h e = omega (arith, h)
marker_some (b ∷ m) t h e = cc

is_last : (break : List ℕ) (i : ℕ) (c : Cut) (started : Bool) (p : Part) (m : List ℕ) → AreParts started (marked p m c) → after_part i c ≡ [] → IsLast break (suc i) (marked p m c)
is_last break i (last q) started p m h none =
    let same : begins_document (m ++ break) ≡ begins_document m = begins_same m break h.1.long in
    let text : part_text p (m ++ break) ++ [] ≡ (part_text p m ++ []) ++ break = append-nil (part_text p (m ++ break)) ∙ (part_then p m break ∙ ap (λ t. t ++ break) (sym (append-nil (part_text p m)))) in
    record {
      end = record {
        pre = part_text p [];
        before_is = append-nil (part_text p m) ∙ part_then p [] m;
        part_is = h.2;
        long = h.1.long;
        above = rows_items p.rows [];
        gap = p.end;
        old_are = rows_before p.rows [] (end_item p.end m ∷ rows_items q.rows (end_item q.end [] ∷ []));
        new_are = λ x. rows_before p.rows [] (end_item p.end (m ++ break) ∷ rows_items x.rows (end_item x.end [] ∷ []));
      };
      placed = λ j. record { before = text j; part = q; after = [] };
      numbers_are = λ is n. (search rules);
      parts_are = λ b. ap (λ x. with_part b p (with_part x q [])) same;
      begins = ap (λ x. x || false) same;
      put = λ x. refl;
    }
is_last break zero (marked q m2 c) started p m h none = absurd (marker_some m2 (cut_text c) h.2.1.long none)
is_last break (suc i) (marked q m2 c) started p m h none =
    let r = is_last break i c (begins_document m) q m2 h.2 none in
    let next : Cut = marked q m2 c in
    record {
      end = record {
        pre = part_text p m ++ r.end.pre;
        before_is = ap (λ t. part_text p m ++ t) r.end.before_is ∙ sym (append_assoc (part_text p m) r.end.pre (last_marker next));
        part_is = r.end.part_is;
        long = r.end.long;
        above = rows_items p.rows (end_item p.end m ∷ r.end.above);
        gap = r.end.gap;
        old_are = ap (λ is. rows_items p.rows (end_item p.end m ∷ is)) r.end.old_are ∙ rows_before p.rows (end_item p.end m ∷ r.end.above) _;
        new_are = λ y. ap (λ is. rows_items p.rows (end_item p.end m ∷ is)) (r.end.new_are y) ∙ rows_before p.rows (end_item p.end m ∷ r.end.above) _;
      };
      placed = search (rules, append_assoc);
      numbers_are = λ is n. (search (rules, r.numbers_are));
      parts_are = λ b. ap (with_part b p) (r.parts_are (begins_document m));
      begins = ap (λ b. begins_document m || b) r.begins;
      put = λ y. ap (marked p m) (r.put y);
    }

-- Document n is the last part, after a marker, and stays so where that gets a break.
pub record IsAfterMarker (break : List ℕ) (n : ℕ) (c : Cut) (d : PlacedPart) : Type 0 where
  pub end : IsAtEnd break d.before d.part c
  pub placed : placed_document n (with_last_part break d.part c) ≡ Some (broken_before break d)
  pub parts_are : document_parts (with_last_part break d.part c) ≡ document_parts c
  pub put : (q : Part) → put_document n q (with_last_part break d.part c) ≡ with_last_part break q c

bare_same : (break : List ℕ) (q p : Part) (m : List ℕ) (c : Cut) → begins_bare (with_last_part break q (marked p m c)) ≡ begins_bare (marked p m c)
bare_same break q p m c = search rules

pub after_marker : (break : List ℕ) (n : ℕ) (c : Cut) (d : PlacedPart) → AreParts true c → placed_document n c ≡ Some d → d.after ≡ [] → is_empty d.before ≡ false → IsAfterMarker break n c d
after_marker break n (last p) d h at none some = absurd (false≢true (sym some ∙ ap (λ (y : PlacedPart). is_empty y.before) (sym (part_is_there n (last p) d at).is)))
after_marker break n (marked p m c) d h at none some = go (part_number n (marked p m c)) refl
  where
    is_at : (i : ℕ) → part_number n (marked p m c) ≡ i → placed_at i (marked p m c) ≡ d
    is_at i e = ap (λ j. placed_at j (marked p m c)) (sym e) ∙ (part_is_there n (marked p m c) d at).is

    go : (i : ℕ) → part_number n (marked p m c) ≡ i → IsAfterMarker break n (marked p m c) d
    go zero e = absurd (false≢true (sym some ∙ ap (λ (y : PlacedPart). is_empty y.before) (sym (is_at zero e))))
    go (suc i) e =
        let old : Cut = marked p m c in
        let x : PlacedPart = placed_at (suc i) old in
        let new : Cut = with_last_part break x.part old in
        let r = is_last break i c true p m h (ap (λ (y : PlacedPart). y.after) (is_at (suc i) e) ∙ none) in
        let is : (begins_bare new || not (has_begin new)) ≡ (begins_bare old || not (has_begin old)) = (λ j. bare_same break x.part p m c j || not (r.begins j)) in
        let parts : document_parts new ≡ document_parts old = ap (λ b. parts_from b new) is ∙ r.parts_are (begins_bare old || not (has_begin old)) in
        let number : part_number n new ≡ suc i = ap (λ b. number_from b n new) is ∙ (r.numbers_are (begins_bare old || not (has_begin old)) n ∙ e) in
        subst (IsAfterMarker break n old) (is_at (suc i) e) (record {
          end = r.end;
          placed = (λ j. option_map (λ (y : Part). placed_at (number j) new) ((ap (λ ps. slice_get ps n) parts ∙ (part_is_there n old d at).there) j)) ∙ ap (λ (y : PlacedPart). Some y) r.placed;
          parts_are = parts;
          put = λ q. ap (λ j. put_part j q new) number ∙ r.put q;
        })
