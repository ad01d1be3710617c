-- A plain scalar ends after a row, where the next row of the part is no deeper.
use Rattle.std.proofs.Common.{◌≡◌, inl, inr, ⊎_elim, ℕ, zero, suc, ◌-◌, ◌<◌, Bool, true, false, not, ◌&&◌, ◌||◌, eqb, List, [], ◌∷◌, ◌++◌}
use Rattle.std.proofs.Common.{length, drop, Option, Some, None, refl, sym, ap, ◌∙◌, subst, append_assoc, append-nil, replicate, eqb-true}
use Rattle.std.{proofs.Common.rules, proofs.Math.Dec.ltb, proofs.Math.Bool.and-false}
use Rattle.std.proofs.lemmas.Bool.{false≢true, ltb-true, ltb-false, not-false, or_cases, and_parts, cases_Bool, not-true}
use Rattle.std.{specs.List.slice_get, specs.Prelude.nat_le}
use Rattle.yq_core.{specs.Lines.spaces, specs.Plain.{no_gap, last_line, begins_deep, follows, ends_plain}}
use Rattle.yq_core.specs.Text.{cut, NoneIn, is_feed, is_return, is_break, is_line, is_empty, front, is_marker, joined}
use Rattle.yq_core.{proofs.SpaceLaws.{spaces_front, prefix_none}, proofs.Upto.cut-append}
use Rattle.yq_row_table.specs.Exchange.{text_after_row, after_row, following_rows, allows_first}
use Rattle.yq_row_table.specs.Gap.{IsWhite, IsLineEnd, AreGapLines, IsGap}
use Rattle.yq_row_table.specs.Grammar.{IsTail, IsRow, Limit, unlimited, limit_after, AreRows, begins_document, AreParts, IsCut}
use Rattle.yq_row_table.{specs.Rows.{Row, following_gap, rows_text, Cut, last, marked, cut_text}, specs.View.rows_of}
use Rattle.yq_row_table.{proofs.ExchangeLaws.{slice_front, slice_back}, proofs.Fronts.Starts, proofs.LineEnds.{one_feed, feed_is}}
use Rattle.yq_row_table.{proofs.RowAgain.row_starts, proofs.EmptyTexts.empty_is}

-- the last line of white space that begins a line
abbrev pub line_or : Option (List ℕ) → List ℕ → List ℕ
line_or None w = w
line_or (Some l) w = l

-- a plain scalar that needs so many spaces doesn't go on with this text after this white space, which begins a line
abbrev pub stops : ℕ → List ℕ → List ℕ → Bool
stops d w u = is_empty u || (front (λ b. eqb b 35) u || not (begins_deep (Some d) (line_or (last_line w) w ++ u)))

-- A text at the beginning of a line, with which no plain scalar goes on.
pub record AtLine (d : ℕ) (t : List ℕ) : Type 0 where
  pub white : List ℕ
  pub text : List ℕ
  pub spelled : t ≡ white ++ text
  pub inside : NoneIn no_gap white text
  pub here : no_gap text ≡ true
  pub stop : stops d white text ≡ true

-- white space in front
none_append : (ends : List ℕ → Bool) (a b rest : List ℕ) → NoneIn ends a (b ++ rest) → NoneIn ends b rest → NoneIn ends (a ++ b) rest
none_append ends [] b rest h k = k
none_append ends (x ∷ a) b rest h k = (ap (λ l. ends (x ∷ l)) (append_assoc a b rest) ∙ h.0, none_append ends a b rest h.1 k)

none_white : (w rest : List ℕ) → IsWhite w → NoneIn no_gap w rest
none_white [] rest h = tt
none_white (b ∷ w) rest h = (rw h.0 refl, none_white w rest h.1)

none_spaces : (n : ℕ) (rest : List ℕ) → NoneIn no_gap (replicate n 32) rest
none_spaces zero rest = tt
none_spaces (suc n) rest = (refl, none_spaces n rest)

no_last : (n : ℕ) → last_line (replicate n 32) ≡ None
no_last zero = refl
no_last (suc n) = rw (no_last n) refl

following_last : (a w : List ℕ) → last_line (a ++ 10 ∷ w) ≡ Some (line_or (last_line w) w)
following_last [] w = search rules
following_last (x ∷ a) w = rw (following_last a w) refl

-- a row
starts_gap : (t : List ℕ) → Starts t → no_gap t ≡ true
starts_gap t h = search (rules, false≢true)

starts_spaces : (t : List ℕ) → Starts t → spaces t ≡ 0
starts_spaces t h = search (rules, prefix_none, not-true)

not_deep : (d n : ℕ) (x : Bool) → n < d → not (nat_le d n && x) ≡ true
not_deep d n x h = search rules

last_or : (a b : Bool) → (a || (b || true)) ≡ true
last_or a b = search rules

pub row_at_line : (d : ℕ) (limit : Limit) (r : Row) (rest : List ℕ) → IsRow limit r rest → r.column < d → AtLine d (following_gap r rest)
row_at_line d limit r rest h less = search (rules, row_starts, starts_spaces, spaces_front, not_deep, none_spaces, starts_gap, no_last, last_or)

-- a marker, or the end
marker_front : (t : List ℕ) → is_marker t ≡ true → no_gap t ≡ true
marker_front t h1 = search (rules, false≢true, and_parts, ⊎_elim, eqb-true, or_cases)

pub marker_line : (d : ℕ) (t : List ℕ) → is_marker t ≡ true → AtLine d t
marker_line d t h = search (rules, marker_front, and-false, last_or)

pub end_line : (d : ℕ) → AtLine d []
end_line d = record { white = []; text = []; spelled = refl; inside = tt; here = refl; stop = refl }

-- a break: CR or nothing, and LF
pub record Breaks (p : List ℕ) : Type 0 where
  pub before : List ℕ
  pub spelled : p ≡ before ++ 10 ∷ []
  pub inside : (rest : List ℕ) → NoneIn no_gap before (10 ∷ rest)

breaks : (p : List ℕ) → is_break p ≡ true → is_line p ≡ true → Breaks p
unfolding is_line
breaks [] h k = absurd (false≢true h)
breaks (b ∷ []) h k = record { before = []; spelled = ap (λ x. x ∷ []) (feed_is b (one_feed b h)); inside = λ rest. tt }
breaks (b ∷ (c ∷ p)) h k = elim (cases_Bool (is_feed b)) [
  | inl e ↦ absurd (false≢true (rw e at k))
  | inr e ↦ (
      let both : (is_return b && is_feed c) ≡ true = rw e at h in
      let parts = and_parts (is_return b) (is_feed c) both in
      let return : b ≡ 13 = eqb-true b 13 parts.0 in
      let feed : c ≡ 10 = feed_is c parts.1 in
      let inner : is_line (c ∷ p) ≡ true = rw e at k in
      let nothing : is_empty p ≡ true = rw parts.1 at inner in
      two b c p return feed (empty_is p nothing))
]
  where
    two : (b c : ℕ) (q : List ℕ) → b ≡ 13 → c ≡ 10 → q ≡ [] → Breaks (b ∷ (c ∷ q))
    two b c q x y z = record { before = 13 ∷ []; spelled = ap (λ l. l ∷ (c ∷ q)) x ∙ (ap (λ l. 13 ∷ (l ∷ q)) y ∙ ap (λ l. 13 ∷ (10 ∷ l)) z); inside = λ rest. (refl, tt) }

-- White space and breaks up to the text after them: those of a line that ends, with those after it.
pub record Broken (d : ℕ) (white t : List ℕ) : Type 0 where
  pub before : List ℕ
  pub after : List ℕ
  pub text : List ℕ
  pub spelled : t ≡ (before ++ 10 ∷ after) ++ text
  pub inside : NoneIn no_gap (before ++ 10 ∷ after) text
  pub here : no_gap text ≡ true
  pub stop : stops d after text ≡ true

broken : (d : ℕ) (white p rest : List ℕ) → IsWhite white → Breaks p → AtLine d rest → Broken d white ((white ++ p) ++ rest)
broken d white p rest blank b a =
    let w : List ℕ = white ++ b.before in
    let join : (white ++ p) ++ rest ≡ (w ++ 10 ∷ a.white) ++ a.text = search (rules, append_assoc, w) in
    search (rules, none_append, none_white)

-- one line that ends, before a line
hash_stops : (d : ℕ) (w : List ℕ) (b : ℕ) (u : List ℕ) → eqb b 35 ≡ true → stops d w (b ∷ u) ≡ true
hash_stops d w b u h = rw h refl

hash_here : (b : ℕ) (u : List ℕ) → eqb b 35 ≡ true → no_gap (b ∷ u) ≡ true
hash_here b u h = let is : b ≡ 35 = eqb-true b 35 h in rw is refl

comment_line : (d : ℕ) (white break rest : List ℕ) (b : ℕ) (c : List ℕ) → IsWhite white → eqb b 35 ≡ true → AtLine d ((white ++ ((b ∷ c) ++ break)) ++ rest)
comment_line d white break rest b c blank h = search (rules, append_assoc, none_white, hash_here, hash_stops)

blank_end : (d : ℕ) (white : List ℕ) → IsWhite white → AtLine d white
blank_end d white blank = record { white = white; text = []; spelled = sym (append-nil white); inside = none_white white [] blank; here = refl; stop = refl }

line_stop : (d : ℕ) (before after text : List ℕ) → stops d after text ≡ true → stops d (before ++ 10 ∷ after) text ≡ true
line_stop d before after text h = rw (following_last before after) h

ended_line : (d : ℕ) (white comment p rest : List ℕ) → IsLineEnd white comment p rest → AtLine d rest → AtLine d (p ++ rest)
ended_line d white [] p rest e a = ⊎_elim {0, 0, 0}
    (λ h. let x = and_parts (is_break e.break) (is_line e.break) h in
    let b : Broken d white ((white ++ e.break) ++ rest) = broken d white e.break rest e.blank (breaks e.break x.0 x.1) a in
    subst (λ (l : List ℕ). AtLine d (l ++ rest)) (sym e.spelled)
    (record { white = b.before ++ 10 ∷ b.after; text = b.text; spelled = b.spelled; inside = b.inside; here = b.here; stop = line_stop d b.before b.after b.text b.stop }))
    (λ h. subst (λ (l : List ℕ). AtLine d l) (sym (ap (λ l. l ++ rest) e.spelled ∙ (ap (λ l. (white ++ l) ++ rest) h.0 ∙ (ap (λ l. (white ++ []) ++ l) h.1 ∙ (append-nil (white ++ []) ∙ append-nil white))))) (blank_end d white e.blank))
    e.ends
ended_line d white (b ∷ c) p rest e a = subst (λ (l : List ℕ). AtLine d (l ++ rest)) (sym e.spelled) (comment_line d white e.break rest b c e.blank (ap (λ (x : ℕ). eqb x 35) e.as_comment.0))

gap_lines : (d : ℕ) (ls : List (List ℕ)) (rest : List ℕ) → AreGapLines ls rest → AtLine d rest → AtLine d (joined ls ++ rest)
gap_lines d [] rest h a = a
gap_lines d (l ∷ ls) rest h a =
    let more : AtLine d (joined ls ++ rest) = gap_lines d ls rest h.1 a in
    subst (AtLine d) (sym (append_assoc l (joined ls) rest)) (ended_line d h.0.white h.0.comment l (joined ls ++ rest) h.0.line more)

pub gap_line : (d : ℕ) (gap rest : List ℕ) → IsGap gap rest → AtLine d rest → AtLine d (gap ++ rest)
gap_line d gap rest h a = subst (λ (l : List ℕ). AtLine d (l ++ rest)) (sym h.spelled) (gap_lines d h.lines rest h.each a)

-- rows
pub rows_line : (d : ℕ) (rs : List Row) (limit : Limit) (end rest : List ℕ) → AreRows limit rs end rest → allows_first (record { column = Some d }) rs ≡ true → AtLine d rest → AtLine d (rows_text rs (end ++ rest))
rows_line d [] limit end rest h next a = gap_line d end rest h a
rows_line d (r ∷ rs) limit end rest h next a = gap_line d r.gap (following_gap r (rows_text rs (end ++ rest))) h.0.gap (row_at_line d limit r (rows_text rs (end ++ rest)) h.0 (ltb-true r.column d next))

after_line : (d : ℕ) (rows : List Row) (i : ℕ) (limit : Limit) (r : Row) (end rest : List ℕ) → AreRows limit rows end rest →
    slice_get rows i ≡ Some r → allows_first (record { column = Some d }) (drop (suc i) rows) ≡ true → AtLine d rest →
    AtLine d (text_after_row i rows (end ++ rest))
after_line d [] i limit r end rest h is next a = cc
after_line d (x ∷ rows) zero limit r end rest h is next a = rows_line d rows (limit_after x) end rest h.1 next a
after_line d (x ∷ rows) (suc i) limit r end rest h is next a = after_line d rows i (limit_after x) r end rest h.1 is next a

pub line_after : (d : ℕ) (c : Cut) (i : ℕ) (started : Bool) (r : Row) → AreParts started c → slice_get (rows_of c) i ≡ Some r → allows_first (record { column = Some d }) (following_rows i c) ≡ true → AtLine d (after_row i c)
line_after d (last p) i started r h is next = after_line d p.rows i unlimited r p.end [] h.rows is next (end_line d)
line_after d (marked p marker c) i started r h is next = elim (cases_Bool (ltb i (length p.rows))) [
  | inl e ↦ (
      let allowed : allows_first (record { column = Some d }) (drop (suc i) p.rows) ≡ true = rw e at next in
      rw e (after_line d p.rows i unlimited r p.end (marker ++ cut_text c) h.0.rows (slice_front p.rows (rows_of c) i r (ltb-true i (length p.rows) e) is) allowed (marker_line d (marker ++ cut_text c) h.1.marker)))
  | inr e ↦ (
      let allowed : allows_first (record { column = Some d }) (following_rows (i - length p.rows) c) ≡ true = rw e at next in
      rw e (line_after d c (i - length p.rows) (begins_document marker) r h.2 (slice_back p.rows (rows_of c) i r (ltb-false i (length p.rows) e) is) allowed))
]

-- where a plain scalar ends
not_follow : (a b c x : Bool) → (a || (b || not x)) ≡ true → (not a && not b && not c && x) ≡ false
not_follow a b c x h1 = search (rules, false≢true)

ends_by : (d b : ℕ) (w u : List ℕ) → NoneIn no_gap (b ∷ w) u → no_gap u ≡ true → follows false (Some d) (b ∷ w) u ≡ false → ends_plain false (Some d) ((b ∷ w) ++ u) ≡ true
ends_by d b w u none here f =
    let parts : cut no_gap ((b ∷ w) ++ u) ≡ (b ∷ w, u) = cut-append no_gap (b ∷ w) u none here in
    search (rules, not-false)

following_ends : (d : ℕ) (w u : List ℕ) → is_empty w ≡ false → NoneIn no_gap w u → no_gap u ≡ true → follows false (Some d) w u ≡ false → ends_plain false (Some d) (w ++ u) ≡ true
following_ends d w u some h4 here f = search (rules, false≢true, ends_by)

some_white : (before after : List ℕ) → is_empty (before ++ 10 ∷ after) ≡ false
some_white [] after = refl
some_white (b ∷ before) after = refl

line_follows : (d : ℕ) (before after text : List ℕ) → stops d after text ≡ true → follows false (Some d) (before ++ 10 ∷ after) text ≡ false
line_follows d before after text h = simp (following_last, not_follow)

white_ends : (d : ℕ) (w : List ℕ) → IsWhite w → ends_plain false (Some d) w ≡ true
white_ends d [] h = refl
white_ends d (b ∷ w) h = subst (λ (l : List ℕ). ends_plain false (Some d) l ≡ true) (append-nil (b ∷ w)) (ends_by d b w [] (none_white (b ∷ w) [] h) refl refl)

comment_ends : (d : ℕ) (w : List ℕ) (b : ℕ) (u : List ℕ) → IsWhite w → is_empty w ≡ false → eqb b 35 ≡ true → ends_plain false (Some d) (w ++ (b ∷ u)) ≡ true
comment_ends d w b u blank some h = following_ends d w (b ∷ u) some (none_white w (b ∷ u) blank) (hash_here b u h) (rw h refl)

pub tail_ends : (d : ℕ) (white comment p rest : List ℕ) → IsLineEnd white comment p rest → (is_empty comment || not (is_empty white)) ≡ true → AtLine d rest → ends_plain false (Some d) (p ++ rest) ≡ true
tail_ends d white [] p rest e apart a = ⊎_elim {0, 0, 0}
    (λ h. let x = and_parts (is_break e.break) (is_line e.break) h in
    let b : Broken d white ((white ++ e.break) ++ rest) = broken d white e.break rest e.blank (breaks e.break x.0 x.1) a in
    subst (λ (l : List ℕ). ends_plain false (Some d) (l ++ rest) ≡ true) (sym e.spelled)
    (subst (λ (l : List ℕ). ends_plain false (Some d) l ≡ true) (sym b.spelled)
    (following_ends d (b.before ++ 10 ∷ b.after) b.text (some_white b.before b.after) b.inside b.here (line_follows d b.before b.after b.text b.stop))))
    (λ h. subst (λ (l : List ℕ). ends_plain false (Some d) l ≡ true)
    (sym (ap (λ l. l ++ rest) e.spelled
    ∙ (ap (λ l. (white ++ l) ++ rest) h.0 ∙ (ap (λ l. (white ++ []) ++ l) h.1 ∙ (append-nil (white ++ []) ∙ append-nil white)))))
    (white_ends d white e.blank))
    e.ends
tail_ends d white (b ∷ c) p rest e apart a = search (rules, not-true, append_assoc, comment_ends)

pub plain_ends : (t : List ℕ) (c : Cut) (i : ℕ) (r : Row) (tail : List ℕ) (d : ℕ) → IsCut t c → slice_get (rows_of c) i ≡ Some r →
    IsTail tail (after_row i c) → allows_first (record { column = Some d }) (following_rows i c) ≡ true →
    ends_plain false (Some d) (tail ++ after_row i c) ≡ true
plain_ends t c i r tail d h is end next = tail_ends d end.white end.comment tail (after_row i c) end.line end.apart (line_after d c i true r h.parts is next)
