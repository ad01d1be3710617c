-- Reading (own; you may skip it: the clauses `found` and `only` show that it agrees with the grammar).
use Rattle.std.specs.Prelude.{ℕ, suc, zero, ◌-◌, Bool, true, false, ◌||◌, ◌&&◌, ◌==◌, Option, Some, None, List, [], ◌∷◌, ◌++◌, length, take}
use Rattle.std.specs.Prelude.{drop, replicate, if◌then◌else◌, slice_index, encode_utf8}
use Rattle.yq_core.specs.Text.{feed, is_white, is_feed, is_break, is_space, front}
use Rattle.yq_core.{specs.Quoted.{Gap, folded, joined, one_blank_line_more, gap_text}, specs.QuotedReading.leading_escape}

-- what comes before a text: white space in a line, or a gap between lines (own)
pub data BlankBefore : Type 0 where
  within : BlankBefore
  after : Gap → BlankBefore

-- the same with a break more (own)
abbrev pub one_break_more : BlankBefore → BlankBefore
one_break_more within = after (folded 0)
one_break_more (after g) = after (one_blank_line_more g)

-- what it means, with the white space since the last break (own)
abbrev pub item_with_blanks : BlankBefore → List ℕ → List ℕ
item_with_blanks within white = white
item_with_blanks (after g) white = gap_text g

-- how long the break in front is (own)
abbrev pub break_len : List ℕ → ℕ
break_len [] = 0
break_len (b ∷ bs) = if is_feed b then 1 else 2

-- the bytes of an escape's character (own)
abbrev pub escaped : Option (ℕ × ℕ) → List ℕ
escaped None = []
escaped (Some e) = encode_utf8 e.0

-- the length of an escape (own)
abbrev pub escaped_len : Option (ℕ × ℕ) → ℕ
escaped_len None = 0
escaped_len (Some e) = e.1

-- whether two quotes are in front, in single quotes (own)
abbrev pub is_pair : ℕ → List ℕ → Bool
is_pair quote [] = false
is_pair quote (b ∷ bs) = quote == 39 && b == 39 && front (λ c. c == 39) bs

-- what b with the bytes that belong to it means (own)
abbrev pub quoted_item : ℕ → ℕ → List ℕ → List ℕ
quoted_item quote b bs = if quote == 34 && b == 92 then (if is_break bs then [] else escaped (leading_escape bs)) else b ∷ []

-- how many bytes these are (own)
abbrev pub item_len : ℕ → ℕ → List ℕ → ℕ
item_len quote b bs =
    if quote == 34 && b == 92 then (if is_break bs then break_len bs else escaped_len (leading_escape bs))
    else (if is_pair quote (b ∷ bs) then 1 else 0)

-- what comes after these (own)
abbrev pub item_before : ℕ → ℕ → List ℕ → BlankBefore
item_before quote b bs = if quote == 34 && b == 92 && is_break bs then after (joined 0) else within

-- the content of what is in these quotes (0: in none), with what comes before it and white space in it; k bytes are passed over (own)
unfoldable pub content_on : ℕ → ℕ → BlankBefore → List ℕ → List ℕ → List ℕ
content_on quote k before white [] = item_with_blanks before white
content_on quote (suc k) before white (b ∷ bs) = content_on quote k before white bs
content_on quote zero before white (b ∷ bs) =
    if is_white b then content_on quote 0 before (white ++ b ∷ []) bs
    else (if is_feed b then content_on quote 0 (one_break_more before) [] bs
    else (if is_break (b ∷ bs) then content_on quote 0 before white bs
    else item_with_blanks before white ++ (quoted_item quote b bs ++ content_on quote (item_len quote b bs) (item_before quote b bs) [] bs)))

-- the content of what is in these quotes (own)
abbrev pub quoted_text : ℕ → List ℕ → List ℕ
quoted_text quote t = content_on quote 0 within [] t

-- the content of a plain scalar (own)
abbrev pub plain_content : List ℕ → List ℕ
plain_content t = quoted_text 0 t

-- the content of a quoted scalar with its quotes (own)
abbrev pub quoted_content : List ℕ → List ℕ
quoted_content t = quoted_text (slice_index t 0) (take (length t - 2) (drop 1 t))

-- how many breaks there are among these bytes (own)
unfoldable pub breaks : List ℕ → ℕ
breaks [] = 0
breaks (b ∷ bs) = if is_feed b then suc (breaks bs) else breaks bs

-- what white space with so many breaks means (own)
abbrev pub folded_space : ℕ → List ℕ → List ℕ
folded_space zero s = s
folded_space (suc k) s = gap_text (folded k)

-- what white space and breaks mean, after an escaped break or not (own)
abbrev pub space_text : Bool → List ℕ → List ℕ
space_text true s = replicate (breaks s) feed
space_text false s = folded_space (breaks s) s

-- what comes before a text that follows an escaped break, or not (own)
abbrev pub before_of : Bool → BlankBefore
before_of true = after (joined 0)
before_of false = within

-- what the rest of a scalar in these quotes means, perhaps after a joined line (own)
abbrev pub content_after : ℕ → Bool → List ℕ → List ℕ
content_after quote is_joined text = content_on quote 0 (before_of is_joined) [] text

-- whether a backslash in double quotes is in front (own)
abbrev pub is_slash : ℕ → List ℕ → Bool
is_slash quote t = quote == 34 && front (λ b. b == 92) t

-- whether bytes that mean themselves end here (own)
abbrev pub ends_run : ℕ → List ℕ → Bool
ends_run quote [] = true
ends_run quote (b ∷ bs) = is_space (b ∷ bs) || is_pair quote (b ∷ bs) || is_slash quote (b ∷ bs)
