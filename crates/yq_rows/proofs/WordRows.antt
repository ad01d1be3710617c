-- Rows whose keys and heads begin with words.
use Rattle.std.proofs.Common.{◌≡◌, ℕ, zero, suc, ◌+◌, ◌≤◌, ◌<◌, cond, Bool, true, false, not, ◌||◌, ◌&&◌, eqb, eqb-true, List, [], ◌∷◌}
use Rattle.std.proofs.Common.{length, take, drop, Option, Some, None, refl, sym, ap, ◌∙◌, subst, arith, inl, inr, ℤ}
use Rattle.std.{specs.Prelude.{nat_le, IsTrue}, specs.List.prefix_len, specs.Str.chars}
use Rattle.std.proofs.lemmas.Bool.{false≢true, false_from_ne_true, and_parts, and_right, cases_Bool, leb-true}
use Rattle.yq_core.{specs.Text.{cut, front, is_empty, is_space, is_white, no_space, no_white, separates, upto}, specs.Nodes.begins_with}
use Rattle.yq_core.{specs.Plain.{begins_deep, ends_plain, ends_text, holds_break}, specs.PlainReading.across, specs.Answers.more}
use Rattle.yq_core.{specs.Runs.{is_word_byte, run_goes_on}, specs.declared.runs.Run.TheVariants.Plain, specs.Reading.read_scalar}
use Rattle.yq_core.{proofs.Across.{across_here, across_line, go_run, plain_colon, plain_stop, spaces_white}, proofs.Bools.at_byte}
use Rattle.yq_core.{proofs.PlainRuns.run_after, proofs.SpaceLaws.prefix_drop, specs.FitKeys.key_limit}
use Rattle.yq_row_table.{specs.Grammar.is_entry, specs.Rows.{Dash, Key, parent_of}}
use Rattle.yq_row_table.specs.Slicing.{Begun, Filled, begun, filled_at, marked_sliced, row_of}
use Rattle.yq_row_table.specs.Reading.{begins_entry, holds_colon, is_colon, is_dash, key_mark, read_marks, read_row_key, undashed}
use Rattle.yq_row_table.{proofs.KeyLines.no_key_line, proofs.MarkAgain.scalar_no_dash, proofs.MarkLaws.{dash_is, marks_dash, marks_none}}
use Rattle.yq_row_table.{proofs.RowSlicing.content_nothing, proofs.WordFronts.{feed_tail, word_at, word_scalar}, proofs.DashSteps.HasKey}
use Rattle.yq_row_table.specs.WordRows.{borrows_quoted, is_word_head}
use Rattle.yq_rows.proofs.Colons.{colon_found}

-- a colon in front
colon_is : (t : List ℕ) → is_colon t ≡ true → (t ≡ 58 ∷ drop 1 t) × (separates (drop 1 t) ≡ true)
colon_is [] h = absurd (false≢true h)
colon_is (b ∷ bs) h = let p = and_parts (eqb b 58) (separates bs) h in (ap (λ (x : ℕ). x ∷ bs) (eqb-true b 58 p.0), p.1)

pub colon_with : (t : List ℕ) → is_colon t ≡ true → begins_with 58 t ≡ true
colon_with [] h = absurd (false≢true h)
colon_with (b ∷ bs) h = (and_parts (eqb b 58) (separates bs) h).0

colon_white : (t : List ℕ) → is_colon t ≡ true → ([], t) ≡ cut no_white t
unfolding upto
colon_white t h = subst (λ (l : List ℕ). ([], l) ≡ cut no_white l) (sym (colon_is t h).0) refl

-- a run before which a plain scalar ends
pub run_ends : (spaces : Option ℕ) (t rest : List ℕ) (n : ℕ) → n ≡ prefix_len (run_goes_on Plain) t → rest ≡ drop n t → upto (ends_plain false spaces) rest ≡ 0 → n ≡ upto (ends_plain false spaces) t
run_ends spaces t rest n run back stop = let all = run_after false spaces t rest 0 n (0 + upto (ends_plain false spaces) t) run back refl in omega (arith, all, stop)

-- a word before a colon is a plain scalar as a whole
pub word_ends : (t rest : List ℕ) (n : ℕ) → n ≡ prefix_len (run_goes_on Plain) t → rest ≡ drop n t → is_colon rest ≡ true → n ≡ upto (ends_plain false None) t
word_ends t rest n run back h =
    let c = colon_is rest h in
    let here : upto (ends_plain false None) (58 ∷ drop 1 rest) ≡ 0 = plain_colon false None (58 ∷ drop 1 rest) refl (rw c.1 refl) in
    let stop : upto (ends_plain false None) rest ≡ 0 = subst (λ (l : List ℕ). upto (ends_plain false None) l ≡ 0) (sym c.0) here in
    run_ends None t rest n run back stop

-- a scalar is the key where a colon follows it at once
pub scalar_keyed : (t key rest colon after : List ℕ) → read_scalar false None t ≡ Some (key, rest) → is_colon rest ≡ true → colon ≡ take 1 rest → after ≡ drop 1 rest →
    nat_le (length (chars key) + length (chars colon)) (key_limit + 1) ≡ true → read_row_key t ≡ Some (key, colon, after)
unfolding read_row_key
scalar_keyed t key rest colon after at is c b room = rw at (rw (sym (colon_found rest [] rest colon after (colon_white rest is) is c b)) (rw room refl))

pub word_keyed : (t key rest colon after : List ℕ) (n : ℕ) → front is_word_byte t ≡ true → n ≡ upto (ends_plain false None) t → key ≡ take n t → rest ≡ drop n t → is_colon rest ≡ true → colon ≡ take 1 rest → after ≡ drop 1 rest →
    nat_le (length (chars key) + length (chars colon)) (key_limit + 1) ≡ true → read_row_key t ≡ Some (key, colon, after)
word_keyed t key rest colon after n word e k r is c b room =
    let whole : cut (ends_plain false None) t ≡ (key, rest) = rw (k, r, e) refl in
    scalar_keyed t key rest colon after (word_at None t word ∙ ap Some whole) is c b room

-- what is on the line in front of a `:`
abbrev before_offset : ℕ → Bool
before_offset b = not (eqb b 58) && not (eqb b 10)

-- no key is on a line that a word ends
feed_first : (t : List ℕ) → begins_with 10 (drop (prefix_len (run_goes_on Plain) t) t) ≡ true → holds_colon t ≡ false
feed_first [] h = refl
feed_first (b ∷ bs) h = elim (cases_Bool (run_goes_on Plain b)) [
  | inl i ↦
      let run : drop (prefix_len (run_goes_on Plain) (b ∷ bs)) (b ∷ bs) ≡ drop (prefix_len (run_goes_on Plain) bs) bs = prefix_drop (run_goes_on Plain) b bs ∙ rw i refl in
      let line : drop (prefix_len before_offset (b ∷ bs)) (b ∷ bs) ≡ drop (prefix_len before_offset bs) bs = prefix_drop before_offset b bs ∙ rw (at_byte (run_goes_on Plain) b 58 i refl, at_byte (run_goes_on Plain) b 10 i refl) refl in
      ap (begins_with 58) line ∙ feed_first bs (sym (ap (begins_with 10) run) ∙ h)
  | inr i ↦
      let stay : drop (prefix_len (run_goes_on Plain) (b ∷ bs)) (b ∷ bs) ≡ b ∷ bs = prefix_drop (run_goes_on Plain) b bs ∙ rw i refl in
      let feed : eqb b 10 ≡ true = sym (ap (begins_with 10) stay) ∙ h in
      rw (eqb-true b 10 feed) refl
]

pub word_line : (t rest : List ℕ) (n : ℕ) → n ≡ prefix_len (run_goes_on Plain) t → rest ≡ drop n t → begins_with 10 rest ≡ true → read_row_key t ≡ None
word_line t rest n run back h = no_key_line t (feed_first t (ap (λ (k : ℕ). begins_with 10 (drop k t)) (sym run) ∙ (ap (begins_with 10) (sym back) ∙ h)))

-- what a row begins with
pub word_no_dash : (t : List ℕ) → front is_word_byte t ≡ true → is_dash t ≡ false
word_no_dash t word = scalar_no_dash t (word_scalar t word)

pub key_begun : (t key colon after : List ℕ) → is_dash t ≡ false → read_row_key t ≡ Some (key, colon, after) → record { dashes = []; columns = 0; mark = Key key colon; rest = after } ≡ begun (read_marks t)
key_begun t key colon after none h = sym (ap begun (marks_none t none ∙ ap (λ o. undashed (key_mark t o)) h))

pub dash_begun : (t dash after s next : List ℕ) → is_dash t ≡ true → dash ≡ take 1 t → after ≡ drop 1 t → (s, next) ≡ cut no_space after →
    front is_word_byte next ≡ true → read_row_key next ≡ None →
    record { dashes = dash; columns = 0; mark = Dash; rest = after } ≡ begun (read_marks t)
dash_begun t dash after s next is one back e word none =
    let goes : (not (is_empty s) && begins_entry next) ≡ false = and_right (not (is_empty s)) (begins_entry next) (rw (word_no_dash next word, none) refl) in
    let here : (s, next) ≡ cut no_space (drop 1 t) = e ∙ ap (cut no_space) back in
    let neither = subst (λ (y : List ℕ × List ℕ). (not (is_empty y.0) && begins_entry y.1) ≡ false) here goes in
    let first : dash ≡ 45 ∷ [] = one ∙ ap (take 1) (dash_is t is).0 in
    rw (first, back) (sym (ap begun (marks_dash t is neither)))

pub word_after : (s next : List ℕ) (k : List ℕ × List ℕ × List ℕ) → is_empty s ≡ false → front is_word_byte next ≡ true → read_row_key next ≡ Some k → HasKey s next k
word_after s next k some word h = record { key = h; none = word_no_dash next word; goes = rw (some, word_no_dash next word, h) refl }

pub some_spaces : (s : List ℕ) (b : Bool) → b ≡ eqb (length s) 0 → b ≡ false → is_empty s ≡ false
some_spaces [] b e none = absurd (false≢true (sym none ∙ e))
some_spaces (x ∷ s) b e none = refl

-- what comes after a mark
pub no_space_in : (b : Bool) → IsTrue (not b) → b ≡ false
no_space_in false h = refl
no_space_in true h = absurd (false≢true h)

pub some_front : (t : List ℕ) (k : ℕ) → begins_with k t ≡ true → 1 ≤ length t
some_front [] k h = absurd (false≢true h)
some_front (b ∷ bs) k h = omega arith

never : (a b : Bool) → (a && b && false) ≡ false
never true true = refl
never true false = refl
never false b = refl

no_text : (least : ℕ) (t : List ℕ) → is_space t ≡ false → across false (Some least) false t ≡ None
unfolding across
no_text least [] none = refl
no_text least (b ∷ bs) none = across_here false (Some least) false b bs none ∙ ap (λ (x : Bool). cond x (Some 0) None) (never (not (eqb b 35)) (not (ends_text false (b ∷ bs))))

white_feed : (b : ℕ) → eqb b 10 ≡ true → is_white b ≡ false
white_feed b h = rw (at_byte (λ x. eqb x 10) b 32 h refl, at_byte (λ x. eqb x 10) b 9 h refl) refl

shallow : (least : ℕ) (line : List ℕ) → prefix_len (λ b. eqb b 32) line < least → begins_deep (Some least) line ≡ false
shallow least line less = rw (false_from_ne_true (nat_le least (prefix_len (λ b. eqb b 32) line)) (λ e. absurd (omega (arith, leb-true least (prefix_len (λ b. eqb b 32) line) e, less)))) refl

pub scalar_ends : (least : ℕ) (t after rest : List ℕ) (n : ℕ) → begins_with 10 t ≡ true → after ≡ drop 1 t → n ≡ prefix_len (λ b. eqb b 32) after →
    rest ≡ drop n after → n < least → is_space rest ≡ false → upto (ends_plain false (Some least)) t ≡ 0
scalar_ends least [] after rest n h one run back less none = absurd (false≢true h)
scalar_ends least (b ∷ bs) after rest n h one run back less none =
    let feed : b ≡ 10 = eqb-true b 10 h in
    let line : n ≡ prefix_len (λ x. eqb x 32) bs = run ∙ ap (prefix_len (λ x. eqb x 32)) one in
    let following : rest ≡ drop n bs = back ∙ ap (drop n) one in
    let low : begins_deep (Some least) bs ≡ false = shallow least bs (omega (arith, line, less)) in
    let first = across_line false (Some least) true b bs (white_feed b h) h in
    let over = go_run (λ x. eqb x 32) false (Some least) false 1 n bs (more 1 (across false (Some least) false bs)) spaces_white line refl in
    let gone : across false (Some least) false (drop n bs) ≡ None = ap (across false (Some least) false) (sym following) ∙ no_text least rest none in
    let stop : across false (Some least) true (b ∷ bs) ≡ None = first ∙ (ap (λ (d : Bool). more 1 (across false (Some least) d bs)) low ∙ (sym over ∙ ap (more (1 + n)) gone)) in
    plain_stop false (Some least) (b ∷ bs) (rw feed refl) stop

pub feed_content : (n : ℤ) (t tail rest : List ℕ) → begins_with 10 t ≡ true → tail ≡ take 1 t → rest ≡ drop 1 t →
    filled_at n t ≡ Some (record { space = []; anchor = []; apart = []; head = []; tail = tail; raw = []; plain = false; alone = false; rest = rest })
unfolding upto
feed_content n [] tail rest h a b = absurd (false≢true h)
feed_content n (b ∷ bs) tail rest h a c =
    let here = content_nothing n (10 ∷ bs) [] (10 ∷ bs) (Some (take 1 (10 ∷ bs), drop 1 (10 ∷ bs))) refl refl refl (feed_tail (10 ∷ bs) refl) in
    rw (a, c) (subst (λ (x : ℕ). filled_at n (x ∷ bs) ≡ Some (record { space = []; anchor = []; apart = []; head = []; tail = take 1 (x ∷ bs); raw = []; plain = false; alone = false; rest = drop 1 (x ∷ bs) })) (sym (eqb-true b 10 h)) here)

pub marked_entry : (gap : List ℕ) (column : ℕ) (b : Begun) (f : Filled) → is_entry b.mark ≡ true → filled_at (parent_of b.mark (column + b.columns)) b.rest ≡ Some f → marked_sliced gap column b ≡ Some (row_of gap column b f)
marked_entry gap column b f entry h = rw h (rw entry refl)

-- words up to where a scalar may end, and what comes then
pub words_all : (spaces : Option ℕ) (t next : List ℕ) (n more : ℕ) →
    upto (ends_plain false spaces) t ≡ n + upto (ends_plain false spaces) (drop n t) → next ≡ drop n t → more ≡ upto (ends_plain false spaces) next →
    n + more ≡ upto (ends_plain false spaces) t
words_all spaces t next n more value back here = sym (value ∙ ap (λ (k : ℕ). n + k) (ap (upto (ends_plain false spaces)) (sym back) ∙ sym here))

-- a front of a word is a word head where it is on one line
pub word_head : (t : List ℕ) (n : ℕ) → front is_word_byte t ≡ true → holds_break (take n t) ≡ false → is_word_head (take n t) ≡ true
word_head t zero word line = refl
word_head [] (suc n) word line = refl
word_head (b ∷ bs) (suc n) word line =
    ap (λ (x : Bool). (x && not (holds_break (b ∷ take n bs))) || borrows_quoted (b ∷ take n bs)) word
    ∙ ap (λ (x : Bool). not x || borrows_quoted (b ∷ take n bs)) line

pub and_both : {a b : Bool} → a ≡ true → b ≡ true → (a && b) ≡ true
and_both {a} {b} one other = ap (λ (x : Bool). x && b) one ∙ other
