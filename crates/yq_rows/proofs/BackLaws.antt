-- What is in front of the items that are near the end of a text, by the places that are kept.
use Rattle.std.proofs.Common.{◌≡◌, ◌⊎◌, inl, inr, ⊎_elim, ℕ, ◌+◌, ◌-◌, ◌<◌, ◌≤◌, min, List, [], ◌∷◌, ◌++◌, length, map, reverse, get_or}
use Rattle.std.proofs.Common.{take, refl, sym, ap, ◌∙◌, subst, arith, append_assoc, append-nil, length-append, rules}
use Rattle.std.proofs.lemmas.List.{get_or_at, length-map, length-reverse, reverse-append, reverse-reverse, take_at}
use Rattle.std.{proofs.lemmas.List.Elements.{All-cons, All-head, All-nil, All-tail, All-weaker}, specs.List.All}
use Rattle.yq_row_table.{specs.Items.{Item, row_item, end_item, items_text}, specs.Kept.{far, near, ends_near, row_from_end}}
use Rattle.yq_row_table.{specs.Touched.in_back, specs.declared.ends.EndPlace.EndPlace, specs.declared.places.Places.Places}
use Rattle.yq_row_table.{proofs.ItemLaws.items_text-append, proofs.KeptLaws.{far_near, items_apart, near_joined}}
use Rattle.yq_rows.specs.Sides.{AreAt, IsSplitAt, ends_before, nearer, not_in_back, side_of, text_length}
use Rattle.yq_rows.proofs.BeginLaws.{BackFound, back_found, begin_from, begin_where, ends_begin, joined_long, rows_begin}
use Rattle.yq_rows.{proofs.CountLaws.{ends_joined, near_count}, proofs.SideLaws.sides_same}
use Rattle.yq_rows.proofs.SplitLaws.{Within, ends_counted, far_within, nearer_split, prefix, turned_twice}
use Rattle.yq_row_table.specs.declared.offsets.Offsets as declared

-- lists
pub record MapSplit (n : ℕ) (os xs ys : List declared.Offsets) : Type 0 where
  pub first : List declared.Offsets
  pub second : List declared.Offsets
  pub split : os ≡ first ++ second
  pub first_is : map (row_from_end n) first ≡ xs
  pub second_is : map (row_from_end n) second ≡ ys

split_more : (n : ℕ) (o x : declared.Offsets) (os xs ys : List declared.Offsets) → row_from_end n o ≡ x → MapSplit n os xs ys → MapSplit n (o ∷ os) (x ∷ xs) ys
split_more n o x os xs ys one more = record {
  first = o ∷ more.first;
  second = more.second;
  split = ap (λ l. o ∷ l) more.split;
  first_is = (λ i. one i ∷ more.first_is i);
  second_is = more.second_is;
}

map_split : (n : ℕ) (os xs ys : List declared.Offsets) → map (row_from_end n) os ≡ xs ++ ys → MapSplit n os xs ys
map_split n os [] ys e = record { first = []; second = os; split = refl; first_is = refl; second_is = e }
map_split n [] (x ∷ xs) ys e = absurd cc
map_split n (o ∷ os) (x ∷ xs) ys e =
    let one : row_from_end n o ≡ x = cc in
    let rest : map (row_from_end n) os ≡ xs ++ ys = cc in
    split_more n o x os xs ys one (map_split n os xs ys rest)

all_second : (P : declared.Offsets → Type 0) (xs ys : List declared.Offsets) → All P (xs ++ ys) → All P ys
all_second P [] ys h = h
all_second P (x ∷ xs) ys h = all_second P xs ys (All-tail P x (xs ++ ys) h)

all_unmapped : (n : ℕ) (P Q : declared.Offsets → Type 0) → ((o : declared.Offsets) → P (row_from_end n o) → Q o) → (os : List declared.Offsets) → All P (map (row_from_end n) os) → All Q os
all_unmapped n P Q f [] h = All-nil Q
all_unmapped n P Q f (o ∷ os) h = All-cons Q o os (f o (All-head P (row_from_end n o) (map (row_from_end n) os) h)) (all_unmapped n P Q f os (All-tail P (row_from_end n o) (map (row_from_end n) os) h))

-- Items near the end of their text, by the rows after the gap, which are there as they do at the end of any text, and by the ends of parts.
pub record BackKept (p : Places) (front after : List Item) (len back : ℕ) : Type 0 where
  pub before : List declared.Offsets
  pub rows : List declared.Offsets
  pub split : reverse p.after.items ≡ before ++ rows
  pub rows_are : nearer back (reverse p.after.items) ≡ rows
  pub front_rows : near 0 front ≡ p.front.items ++ map (row_from_end len) before
  pub back_rows : map (row_from_end len) rows ≡ near (text_length front) after
  pub far_rows : rows ≡ far after
  pub ends_are : p.ends ≡ ends_near 0 0 front ++ ends_near (text_length front) (length (near 0 front)) after
  pub count_is : ends_before ((len - back) + 1) p.ends ≡ length (ends_near 0 0 front)

pub back_kept : (p : Places) (xs : List Item) (at back : ℕ) → AreAt p xs → IsSplitAt at (text_length xs) p → at + back ≤ text_length xs → (h : BackFound 0 back xs) → BackKept p h.front h.after (text_length xs) back
back_kept p xs at back placed gap apart h =
    let len : ℕ = text_length xs in
    let m : ℕ = 0 + text_length h.front in
    let bytes : m ≡ text_length h.front = omega arith in
    let count : 0 + length (near 0 h.front) ≡ length (near 0 h.front) = omega arith in
    let after : List declared.Offsets = map (row_from_end len) (reverse p.after.items) in
    let all : p.front.items ++ after ≡ near 0 h.front ++ near m h.after = placed.rows_are ∙ (ap (near 0) h.split ∙ near_joined 0 h.front h.after) in
    let last = rows_begin (λ s. 0 + len < s + back) m h.after h.later in
    let cut = prefix (λ o. o.start < at) (λ o. 0 + len < o.start + back) (λ o a b. omega (arith, a, b, apart)) p.front.items after (near 0 h.front) (near m h.after) all gap.0 last in
    let two = map_split len (reverse p.after.items) cut.more (near m h.after) cut.second in
    let first = all_second (λ o. o.start + back ≤ 0 + len) p.front.items cut.more (subst (All (λ o. o.start + back ≤ 0 + len)) cut.first (rows_begin (λ s. s + back ≤ 0 + len) 0 h.front h.begun)) in
    let low = all_unmapped len (λ o. o.start + back ≤ 0 + len) (λ o. back ≤ o.start) (λ o l. omega (arith, l, apart)) two.first (subst (All (λ o. o.start + back ≤ 0 + len)) (sym two.first_is) first) in
    let high = all_unmapped len (λ o. 0 + len < o.start + back) (λ o. o.start < back) (λ o l. omega (arith, l, apart)) two.second (subst (All (λ o. 0 + len < o.start + back)) (sym two.second_is) last) in
    let within = All-weaker (λ o. o.start < back) (Within len) (λ o l. omega (arith, l, apart)) two.second high in
    let text : items_text xs [] ≡ items_text h.front [] ++ items_text h.after [] = ap (λ (l : List Item). items_text l []) h.split ∙ (items_text-append h.front h.after [] ∙ items_apart h.front (items_text h.after [])) in
    let turned_far : map (row_from_end len) (far h.after) ≡ near (text_length h.front) h.after = far_near h.after (items_text h.front []) (items_text xs []) text in
    let mine : map (row_from_end len) two.second ≡ near (text_length h.front) h.after = two.second_is ∙ ap (λ (n : ℕ). near n h.after) bytes in
    let size : text_length h.after ≤ len = omega (arith, ap text_length h.split, joined_long h.front h.after) in
    let ends : p.ends ≡ ends_near 0 0 h.front ++ ends_near m (0 + length (near 0 h.front)) h.after = placed.ends_are ∙ (ap (ends_near 0 0) h.split ∙ ends_joined 0 0 h.front h.after) in
    let ends_low = begin_where (λ s. s + back ≤ 0 + len) (λ s. s < (len - back) + 1) (λ s l. omega (arith, l, apart)) 0 h.front h.begun in
    let ends_high = begin_where (λ s. 0 + len < s + back) (λ s. (len - back) + 1 ≤ s) (λ s l. omega (arith, l, apart)) m h.after h.later in
    record {
      before = two.first;
      rows = two.second;
      split = two.split;
      rows_are = nearer_split back (reverse p.after.items) two.first two.second two.split low high;
      front_rows = cut.first ∙ ap (λ l. p.front.items ++ l) {y = map (row_from_end len) two.first} (sym two.first_is);
      back_rows = mine;
      far_rows = sym (turned_twice len two.second within) ∙ (ap (map (row_from_end len)) (mine ∙ sym turned_far) ∙ turned_twice len (far h.after) (far_within len h.after size));
      ends_are = ends ∙ (ap (λ (n : ℕ). ends_near 0 0 h.front ++ ends_near n (0 + length (near 0 h.front)) h.after) bytes ∙ ap (λ (k : ℕ). ends_near 0 0 h.front ++ ends_near (text_length h.front) k h.after) count);
      count_is = ap (ends_before ((len - back) + 1)) ends
          ∙ ends_counted ((len - back) + 1) (ends_near 0 0 h.front) (ends_near m (0 + length (near 0 h.front)) h.after)
          (ends_begin (λ s. s < (len - back) + 1) 0 0 h.front ends_low)
          (ends_begin (λ s. (len - back) + 1 ≤ s) m (0 + length (near 0 h.front)) h.after ends_high);
    }

-- where the first of them begins
pub first_row : (p : Places) (front after : List Item) (len back count : ℕ) (o : declared.Offsets) → BackKept p front after len back →
    count ≡ length (nearer back (reverse p.after.items)) → 0 < count → o ≡ get_or p.after.items (count - 1) o →
    (rest : List declared.Offsets) × (near (text_length front) after ≡ row_from_end len o ∷ rest)
first_row p front after len back count o h many some own = go h.rows (h.split) (many ∙ ap length h.rows_are) h.back_rows where
  go : (rows : List declared.Offsets) → reverse p.after.items ≡ h.before ++ rows → count ≡ length rows →
      map (row_from_end len) rows ≡ near (text_length front) after → (rest : List declared.Offsets)
      × (near (text_length front) after ≡ row_from_end len o ∷ rest)
  go [] split long is = absurd (omega (arith, long, some))
  go (q ∷ rows) split long is =
      let all : p.after.items ≡ reverse rows ++ q ∷ reverse h.before =
      sym (reverse-reverse p.after.items) ∙ (ap reverse split ∙ (reverse-append h.before (q ∷ rows) ∙ (ap (λ l. l ++ reverse h.before) (reverse-append (q ∷ []) rows) ∙ append_assoc (reverse rows) (q ∷ []) (reverse h.before)))) in
      let same : o ≡ q = search (rules, length-reverse, get_or_at, all) in
      (map (row_from_end len) rows, sym is ∙ ap (λ (x : declared.Offsets). row_from_end len x ∷ map (row_from_end len) rows) (sym same))

pub first_end : (p : Places) (front after : List Item) (len back count : ℕ) (e : EndPlace) → BackKept p front after len back → count ≡ length (ends_near 0 0 front) → count < length p.ends → e ≡ get_or p.ends count e →
    (rest : List EndPlace) × (ends_near (text_length front) (length (near 0 front)) after ≡ e ∷ rest)
first_end p front after len back count e h is less own = go (ends_near (text_length front) (length (near 0 front)) after) h.ends_are where
  go : (es : List EndPlace) → p.ends ≡ ends_near 0 0 front ++ es → (rest : List EndPlace) × (es ≡ e ∷ rest)
  go [] all = absurd (omega (arith, less, is, ap length all, ap length (append-nil (ends_near 0 0 front))))
  go (x ∷ es) all = (es, ap (λ y. y ∷ es) (sym (own ∙ (ap (λ (l : List EndPlace). get_or l count e) all ∙ get_or_at (ends_near 0 0 front) x es e count (sym is)))))

-- The first byte of what is near the end: that of the row and of the end of a part that begin first there, if there are any.
pub record FirstBytes (m len k : ℕ) (z : List Item) (rows ends bytes : ℕ) : Type 0 where
  pub rows_are : rows ≡ length (near m z)
  pub ends_are : ends ≡ length (ends_near m k z)
  pub row_bytes : ℕ
  pub by_rows : ((rows ≡ 0) × (row_bytes ≡ len)) ⊎ ((o : declared.Offsets) × (rest : List declared.Offsets) × (near m z ≡ row_from_end len o ∷ rest) × (row_bytes ≡ len - o.start))
  pub by_ends : ((ends ≡ 0) × (bytes ≡ row_bytes)) ⊎ ((e : EndPlace) × (rest : List EndPlace) × (ends_near m k z ≡ e ∷ rest) × (bytes ≡ min row_bytes e.start))

pub first_bytes : (m len k : ℕ) (z : List Item) (rows ends bytes : ℕ) → m + text_length z ≡ len → FirstBytes m len k z rows ends bytes → bytes ≡ m
first_bytes m len k z rows ends bytes long h = go z long h.rows_are h.ends_are h.by_rows h.by_ends where
  AtRow : List Item → Type 0
  AtRow z = ((rows ≡ 0) × (h.row_bytes ≡ len)) ⊎ ((o : declared.Offsets) × (rest : List declared.Offsets) × (near m z ≡ row_from_end len o ∷ rest) × (h.row_bytes ≡ len - o.start))

  AtEnd : List Item → Type 0
  AtEnd z = ((ends ≡ 0) × (bytes ≡ h.row_bytes)) ⊎ ((e : EndPlace) × (rest : List EndPlace) × (ends_near m k z ≡ e ∷ rest) × (bytes ≡ min h.row_bytes e.start))

  row_low : (z : List Item) (o : declared.Offsets) (rest : List declared.Offsets) → near m z ≡ row_from_end len o ∷ rest → m ≤ len - o.start
  row_low z o rest is = All-head (λ (x : declared.Offsets). m ≤ x.start) (row_from_end len o) rest (subst (All (λ (x : declared.Offsets). m ≤ x.start)) is (rows_begin (λ s. m ≤ s) m z (begin_from m m z (omega arith))))

  end_low : (z : List Item) (e : EndPlace) (rest : List EndPlace) → ends_near m k z ≡ e ∷ rest → m ≤ e.start
  end_low z e rest is = All-head (λ (x : EndPlace). m ≤ x.start) e rest (subst (All (λ (x : EndPlace). m ≤ x.start)) is (ends_begin (λ s. m ≤ s) m k z (begin_from m m z (omega arith))))

  low : (z : List Item) → m + text_length z ≡ len → AtRow z → m ≤ h.row_bytes
  low z h1 h2 = search (rules, row_low)

  go : (z : List Item) → m + text_length z ≡ len → rows ≡ length (near m z) → ends ≡ length (ends_near m k z) → AtRow z → AtEnd z → bytes ≡ m
  go [] long some_rows some_ends (inl r) (inl e) = omega (arith, long, r.1, e.1)
  go [] long some_rows some_ends (inl r) (inr e) = absurd (let x = e.2 in cc)
  go [] long some_rows some_ends (inr r) e = absurd (let x = r.2 in cc)
  go (row_item r ∷ z) long some_rows some_ends (inl n) e = absurd (omega (arith, some_rows, n.0))
  go (row_item r ∷ z) long some_rows some_ends (inr o) (inl e) = search rules
  go (row_item r ∷ z) long some_rows some_ends (inr o) (inr e) = search (rules, end_low)
  go (end_item gap marker ∷ z) long some_rows some_ends r (inl e) = absurd (omega (arith, some_ends, e.0))
  go (end_item gap marker ∷ z) long some_rows some_ends r (inr e) =
      let place : m ≡ e.0.start = ap first_start e.2 in
      omega (arith, place, e.3, low (end_item gap marker ∷ z) long r)
    where
      first_start : List EndPlace → ℕ
      first_start [] = 0
      first_start (x ∷ xs) = x.start

-- ---- what is in front of them

abbrev pub ByRows : Places → (len rows bytes : ℕ) → Type 0
ByRows p len rows bytes = ((rows ≡ 0) × (bytes ≡ len)) ⊎ ((o : declared.Offsets) × (0 < rows) × (o ≡ get_or p.after.items (rows - 1) o) × (bytes ≡ len - o.start))

abbrev pub ByEnds : Places → (ends before bytes : ℕ) → Type 0
ByEnds p ends before bytes = ((length p.ends ≤ ends) × (bytes ≡ before)) ⊎ ((e : EndPlace) × (ends < length p.ends) × (e ≡ get_or p.ends ends e) × (bytes ≡ min before e.start))

pub following_is : (p : Places) (xs : List Item) (at back rows ends before bytes : ℕ) → AreAt p xs → IsSplitAt at (text_length xs) p → at + back ≤ text_length xs → rows ≡ length (nearer back (reverse p.after.items)) →
    ends ≡ ends_before ((text_length xs - back) + 1) p.ends → ByRows p (text_length xs) rows before → ByEnds p ends before bytes →
    record { rows = length p.front.items + (length p.after.items - rows); ends = ends; bytes = bytes } ≡ side_of (not_in_back back xs)
following_is p xs at back rows ends before bytes placed gap apart many count by_rows by_ends =
    let len : ℕ = text_length xs in
    let h = back_found xs 0 back in
    let k = back_kept p xs at back placed gap apart h in
    let m : ℕ = text_length h.front in
    let j : ℕ = length (near 0 h.front) in
    let long : m + text_length h.after ≡ len = omega (arith, ap text_length h.split, joined_long h.front h.after) in
    let there : rows ≡ length (near m h.after) = many ∙ (ap length k.rows_are ∙ (sym (length-map k.rows (row_from_end len)) ∙ ap length k.back_rows)) in
    let in_ends : ends ≡ length (ends_near 0 0 h.front) = count ∙ k.count_is in
    let later : length p.ends - ends ≡ length (ends_near m j h.after) = search (rules, length-append, m, k, j, in_ends, h) in
    let before_offset : length p.front.items + (length p.after.items - rows) ≡ j = search (rules, length-append, length-map, length-reverse, len, k) in
    let first : FirstBytes m len j h.after rows (length p.ends - ends) bytes = record {
      rows_are = there;
      ends_are = later;
      row_bytes = before;
      by_rows = ⊎_elim {0, 0, 0}
          (λ (n : (rows ≡ 0) × (before ≡ len)). inl n)
          (λ (n : (o : declared.Offsets) × (0 < rows) × (o ≡ get_or p.after.items (rows - 1) o) × (before ≡ len - o.start)). let f = first_row p h.front h.after len back rows n.0 k many n.1 n.2 in inr (n.0, f.0, f.1, n.3))
          by_rows;
      by_ends = ⊎_elim {0, 0, 0}
          (λ (n : (length p.ends ≤ ends) × (bytes ≡ before)). inl (omega (arith, n.0), n.1))
          (λ (n : (e : EndPlace) × (ends < length p.ends) × (e ≡ get_or p.ends ends e) × (bytes ≡ min before e.start)). let f = first_end p h.front h.after len back ends n.0 k in_ends n.1 n.2 in inr (n.0, f.0, f.1, n.3))
          by_ends;
    } in
    sides_same (length p.front.items + (length p.after.items - rows)) ends bytes (side_of h.front) before_offset in_ends (first_bytes m len j h.after rows (length p.ends - ends) bytes long first) ∙ ap side_of (sym h.is_front)

-- the rows that stay on either side
pub back_taken : (p : Places) (xs : List Item) (at back : ℕ) → AreAt p xs → IsSplitAt at (text_length xs) p → at + back ≤ text_length xs → reverse (take (length (near 0 (in_back back xs))) p.after.items) ≡ far (in_back back xs)
back_taken p xs at back placed gap apart =
    let h = back_found xs 0 back in
    let k = back_kept p xs at back placed gap apart h in
    let all : p.after.items ≡ reverse k.rows ++ reverse k.before = sym (reverse-reverse p.after.items) ∙ (ap reverse k.split ∙ reverse-append k.before k.rows) in
    search (rules, take_at, reverse-reverse, length-reverse, length-map, near_count, all, k, h)
