-- Where items begin, and with them their rows and ends of parts.
use Rattle.std.proofs.Common.{◌≡◌, ℕ, ◌+◌, ◌-◌, ◌<◌, ◌≤◌, ltb, cond, Bool, true, false, List, [], ◌∷◌, ◌++◌, length, refl, sym, ap, ◌∙◌}
use Rattle.std.proofs.Common.{subst, arith, append_assoc, length-append, ltb-true, ltb-false}
use Rattle.std.{proofs.lemmas.List.Elements.{All-cons, All-nil}, specs.List.All}
use Rattle.yq_row_table.{specs.Ends.end_at, specs.Items.{Item, row_item, end_item, items_text}, specs.Kept.{near, ends_near}}
use Rattle.yq_row_table.{specs.Offsets.offsets_of, specs.Rows.print_row, specs.Touched.{item_text, before_offset, in_back}}
use Rattle.yq_row_table.{specs.View.slices, specs.declared.ends.EndPlace.EndPlace, proofs.ItemLaws.items_text-append}
use Rattle.yq_row_table.proofs.KeptLaws.{items_apart, print_then}
use Rattle.yq_rows.specs.Sides.{not_in_back, text_length}
use Rattle.yq_row_table.specs.declared.offsets.Offsets as declared

-- lengths
pub first_long : (i : Item) (is : List Item) → text_length (i ∷ is) ≡ length (item_text i) + text_length is
first_long (row_item r) is = ap length (print_then r (items_text is [])) ∙ length-append (print_row r []) (items_text is [])
first_long (end_item gap marker) is = ap length (sym (append_assoc gap marker (items_text is []))) ∙ length-append (gap ++ marker) (items_text is [])

pub joined_long : (xs ys : List Item) → text_length (xs ++ ys) ≡ text_length xs + text_length ys
joined_long xs ys = ap length (items_text-append xs ys []) ∙ (ap length (items_apart xs (items_text ys [])) ∙ length-append (items_text xs []) (items_text ys []))

-- Items, of which the first one begins at an offset, begin where something holds.
abbrev pub AllBegin : (ℕ → Type 0) → ℕ → List Item → Type 0
AllBegin P n [] = Unit {0}
AllBegin P n (i ∷ is) = P n × AllBegin P (n + length (item_text i)) is

pub rows_begin : (P : ℕ → Type 0) (n : ℕ) (xs : List Item) → AllBegin P n xs → All (λ o. P o.start) (near n xs)
rows_begin P n [] h = All-nil (λ (o : declared.Offsets). P o.start)
rows_begin P n (row_item r ∷ xs) h = All-cons (λ (o : declared.Offsets). P o.start) (offsets_of n (slices r)) (near (n + length (print_row r [])) xs) h.0 (rows_begin P (n + length (print_row r [])) xs h.1)
rows_begin P n (end_item gap marker ∷ xs) h = rows_begin P (n + length (gap ++ marker)) xs h.1

pub ends_begin : (P : ℕ → Type 0) (n k : ℕ) (xs : List Item) → AllBegin P n xs → All (λ e. P e.start) (ends_near n k xs)
ends_begin P n k [] h = All-nil (λ (e : EndPlace). P e.start)
ends_begin P n k (row_item r ∷ xs) h = ends_begin P (n + length (print_row r [])) (k + 1) xs h.1
ends_begin P n k (end_item gap marker ∷ xs) h = All-cons (λ (e : EndPlace). P e.start) (end_at n k gap marker) (ends_near (n + length (gap ++ marker)) k xs) h.0 (ends_begin P (n + length (gap ++ marker)) k xs h.1)

pub begin_from : (low n : ℕ) (xs : List Item) → low ≤ n → AllBegin (λ s. low ≤ s) n xs
begin_from low n [] h = tt
begin_from low n (i ∷ xs) h = (h, begin_from low (n + length (item_text i)) xs (omega (arith, h)))

pub begin_within : (high n : ℕ) (xs : List Item) → n + text_length xs ≤ high → AllBegin (λ s. s ≤ high) n xs
begin_within high n [] h = tt
begin_within high n (i ∷ xs) h = (omega (arith, h), begin_within high (n + length (item_text i)) xs (omega (arith, h, first_long i xs)))

pub begin_where : (P Q : ℕ → Type 0) → ((s : ℕ) → P s → Q s) → (n : ℕ) (xs : List Item) → AllBegin P n xs → AllBegin Q n xs
begin_where P Q f n [] h = tt
begin_where P Q f n (i ∷ xs) h = (f n h.0, begin_where P Q f (n + length (item_text i)) xs h.1)

-- The items in front of an offset, and the one after them, begin in front of it; and all others do not.
pub record FrontFound (n at : ℕ) (xs : List Item) : Type 0 where
  pub front : List Item
  pub first : Item
  pub rest : List Item
  pub is : before_offset at xs ≡ front
  pub split : xs ≡ (front ++ (first ∷ [])) ++ rest
  pub begun : AllBegin (λ s. s < n + at) n (front ++ (first ∷ []))
  pub later : AllBegin (λ s. n + at ≤ s) (n + text_length (front ++ (first ∷ []))) rest

pub front_found : (xs : List Item) (n at : ℕ) → 0 < at → at ≤ text_length xs → FrontFound n at xs
front_found [] n at some within = absurd (omega (arith, some, within))
front_found (i ∷ xs) n at some within =
    go (λ less. front_found xs (n + length (item_text i)) (at - length (item_text i)) (omega (arith, less)) (omega (arith, within, first_long i xs))) (ltb (length (item_text i)) at) refl
  where
    own : ℕ
    own = length (item_text i)

    go : (own < at → FrontFound (n + own) (at - own) xs) → (b : Bool) → ltb own at ≡ b → FrontFound n at (i ∷ xs)
    go next true e =
        let less : own < at = ltb-true own at e in
        let more = next less in
        let here : (n + own) + (at - own) ≡ n + at = omega (arith, less) in
        let f : List Item = more.front ++ (more.first ∷ []) in
        let size : (n + own) + text_length f ≡ n + text_length (i ∷ f) = omega (arith, first_long i f) in
        record {
          front = i ∷ more.front;
          first = more.first;
          rest = more.rest;
          is = ap (λ (b : Bool). cond b (i ∷ before_offset (at - own) xs) []) e ∙ ap (λ (l : List Item). i ∷ l) more.is;
          split = ap (λ (l : List Item). i ∷ l) more.split;
          begun = (omega (arith, some), subst (λ (a : ℕ). AllBegin (λ s. s < a) (n + own) f) here more.begun);
          later = subst (λ (m : ℕ). AllBegin (λ s. n + at ≤ s) m more.rest) size (subst (λ (a : ℕ). AllBegin (λ s. a ≤ s) ((n + own) + text_length f) more.rest) here more.later);
        }
    go next false e =
        let long : at ≤ own = ltb-false own at e in
        record {
          front = [];
          first = i;
          rest = xs;
          is = ap (λ (b : Bool). cond b (i ∷ before_offset (at - own) xs) []) e;
          split = refl;
          begun = (omega (arith, some), tt);
          later = begin_from (n + at) (n + text_length (i ∷ [])) xs (omega (arith, long, first_long i []));
        }

-- The items that are nearer to the end than so many bytes, and those in front of them.
pub record BackFound (n back : ℕ) (xs : List Item) : Type 0 where
  pub front : List Item
  pub after : List Item
  pub is_front : not_in_back back xs ≡ front
  pub comes_later : in_back back xs ≡ after
  pub split : xs ≡ front ++ after
  pub begun : AllBegin (λ s. s + back ≤ n + text_length xs) n front
  pub later : AllBegin (λ s. n + text_length xs < s + back) (n + text_length front) after

pub back_found : (xs : List Item) (n back : ℕ) → BackFound n back xs
back_found [] n back = record { front = []; after = []; is_front = refl; comes_later = refl; split = refl; begun = tt; later = tt }
back_found (i ∷ xs) n back = go (back_found xs (n + length (item_text i)) back) (ltb (text_length (i ∷ xs)) back) refl
  where
    own : ℕ
    own = length (item_text i)

    go : BackFound (n + own) back xs → (b : Bool) → ltb (text_length (i ∷ xs)) back ≡ b → BackFound n back (i ∷ xs)
    go more true e =
        let less : text_length (i ∷ xs) < back = ltb-true (text_length (i ∷ xs)) back e in
        let all : AllBegin (λ s. n ≤ s) (n + text_length []) (i ∷ xs) = begin_from n (n + text_length []) (i ∷ xs) (omega arith) in
        record {
          front = [];
          after = i ∷ xs;
          is_front = ap (λ (b : Bool). cond b [] (i ∷ not_in_back back xs)) e;
          comes_later = ap (λ (b : Bool). cond b (i ∷ xs) (in_back back xs)) e;
          split = refl;
          begun = tt;
          later = begin_where (λ s. n ≤ s) (λ s. n + text_length (i ∷ xs) < s + back) (λ s h. omega (arith, h, less)) (n + text_length []) (i ∷ xs) all;
        }
    go more false e =
        let long : back ≤ text_length (i ∷ xs) = ltb-false (text_length (i ∷ xs)) back e in
        let here : (n + own) + text_length xs ≡ n + text_length (i ∷ xs) = omega (arith, first_long i xs) in
        let size : (n + own) + text_length more.front ≡ n + text_length (i ∷ more.front) = omega (arith, first_long i more.front) in
        record {
          front = i ∷ more.front;
          after = more.after;
          is_front = ap (λ (b : Bool). cond b [] (i ∷ not_in_back back xs)) e ∙ ap (λ (l : List Item). i ∷ l) more.is_front;
          comes_later = ap (λ (b : Bool). cond b (i ∷ xs) (in_back back xs)) e ∙ more.comes_later;
          split = ap (λ (l : List Item). i ∷ l) more.split;
          begun = (omega (arith, long), subst (λ (a : ℕ). AllBegin (λ s. s + back ≤ a) (n + own) more.front) here more.begun);
          later = subst (λ (m : ℕ). AllBegin (λ s. n + text_length (i ∷ xs) < s + back) m more.after) size (subst (λ (a : ℕ). AllBegin (λ s. a < s + back) ((n + own) + text_length more.front) more.after) here more.later);
        }
