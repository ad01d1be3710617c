-- Words of a plain scalar on one line, with one space between each two.
use Rattle.std.proofs.Common.{◌≡◌, ℕ, suc, ◌+◌, ◌≤◌, Bool, true, false, not, ◌&&◌, ◌||◌, eqb, Option, List, [], ◌∷◌, length, take, drop}
use Rattle.std.{proofs.Common.{length-drop, ◌-◌, refl, sym, ap, ◌∙◌, subst, arith, inl, inr}, specs.List.prefix_len}
use Rattle.std.{proofs.lemmas.List.drop-drop, proofs.lemmas.Bool.{false≢true, and_parts, cases_Bool, or_cases}}
use Rattle.yq_core.{specs.Plain.{ends_plain, ends_text, holds_break}, specs.Runs.run_goes_on}
use Rattle.yq_core.{specs.Text.{upto, is_empty, is_feed, is_space, is_white}, specs.declared.runs.Run.TheVariants.Plain}
use Rattle.yq_core.{proofs.Across.{across_upto, plain_next, rest_is}, proofs.Bools.at_byte, proofs.PlainRuns.run_after}
use Rattle.yq_scalar_reader.{specs.Words.{begins_word, goes_on}, proofs.WordLaws.across_word}

neither : (a b : Bool) → (a || b) ≡ false → (a ≡ false) × (b ≡ false)
neither false false h = (refl, refl)
neither false true h = absurd (false≢true (sym h))
neither true b h = absurd (false≢true (sym h))

no_break : (b : Bool) → not b ≡ true → b ≡ false
no_break false h = refl
no_break true h = absurd (false≢true h)

-- a run has no break
pub run_line : (t : List ℕ) (m : ℕ) → holds_break (take (prefix_len (run_goes_on Plain) t + m) t) ≡ holds_break (take m (drop (prefix_len (run_goes_on Plain) t) t))
run_line [] m = let none : 0 + m ≡ m = omega arith in ap (λ (k : ℕ). holds_break (take k [])) none
run_line (b ∷ bs) m = elim (cases_Bool (run_goes_on Plain b)) [
  | inl i ↦
      let same : suc (prefix_len (run_goes_on Plain) bs) ≡ prefix_len (run_goes_on Plain) (b ∷ bs) = rw i (omega arith) in
      let other : is_feed b ≡ false = at_byte (run_goes_on Plain) b 10 i refl in
      let less : suc (prefix_len (run_goes_on Plain) bs) + m ≡ suc (prefix_len (run_goes_on Plain) bs + m) = omega arith in
      subst (λ (n : ℕ). holds_break (take (n + m) (b ∷ bs)) ≡ holds_break (take m (drop n (b ∷ bs)))) same (ap (λ (k : ℕ). holds_break (take k (b ∷ bs))) less ∙ rw other (run_line bs m))
  | inr i ↦
      let none : 0 ≡ prefix_len (run_goes_on Plain) (b ∷ bs) = rw i refl in
      subst (λ (n : ℕ). holds_break (take (n + m) (b ∷ bs)) ≡ holds_break (take m (drop n (b ∷ bs)))) none (let same : 0 + m ≡ m = omega arith in ap (λ (k : ℕ). holds_break (take k (b ∷ bs))) same)
]

-- nor has the byte after it, where the scalar goes on
space_feed : (b : ℕ) (bs : List ℕ) → begins_word (b ∷ bs) ≡ true → is_feed b ≡ false
space_feed b bs h = at_byte (λ x. eqb x 32) b 10 (and_parts (eqb b 32) _ h).0 refl

text_feed : (b : ℕ) (bs : List ℕ) → is_space (b ∷ bs) ≡ false → is_feed b ≡ false
text_feed b bs h = (neither (is_feed b) _ (neither (is_white b) _ h).1).0

inside : (t : List ℕ) → (not (is_empty t) && (not (is_space t) && not (ends_text false t))) ≡ true → (is_space t ≡ false) × (ends_text false t ≡ false)
inside t h =
    let p = and_parts (not (is_space t)) (not (ends_text false t)) (and_parts (not (is_empty t)) _ h).1 in
    (no_break (is_space t) p.0, no_break (ends_text false t) p.1)

on_feed : (b : ℕ) (bs : List ℕ) → goes_on (b ∷ bs) ≡ true → is_feed b ≡ false
on_feed b bs h = elim (or_cases (begins_word (b ∷ bs)) _ h) [ inl w ↦ space_feed b bs w | inr p ↦ text_feed b bs (inside (b ∷ bs) p).0 ]

pub some_on : (t : List ℕ) → goes_on t ≡ true → 1 ≤ length t
some_on [] h = absurd (false≢true h)
some_on (b ∷ bs) h = omega arith

pub on_line : (t : List ℕ) (m : ℕ) → goes_on t ≡ true → holds_break (take (suc m) t) ≡ holds_break (take m (drop 1 t))
on_line [] m h = absurd (false≢true h)
on_line (b ∷ bs) m h = rw (on_feed b bs h) refl

-- the scalar goes on over it
pub on_upto : (spaces : Option ℕ) (t : List ℕ) → goes_on t ≡ true → upto (ends_plain false spaces) t ≡ 1 + upto (ends_plain false spaces) (drop 1 t)
on_upto spaces [] h = absurd (false≢true h)
on_upto spaces (b ∷ bs) h = elim (or_cases (begins_word (b ∷ bs)) _ h) [
  | inl w ↦ across_upto false spaces (b ∷ bs) 1 (across_word false spaces (b ∷ bs) w)
  | inr p ↦
      let q = inside (b ∷ bs) p in
      plain_next false spaces (b ∷ bs) (omega arith) q.0 q.1 ∙ ap (λ (l : List ℕ). 1 + upto (ends_plain false spaces) l) (rest_is b bs)
]

-- The scalar goes on up to a rest, on its line.
pub record OnLine (text rest : List ℕ) (n : ℕ) : Type 0 where
  pub within : n + length rest ≡ length text
  pub back : rest ≡ drop n text
  pub so_far : (spaces : Option ℕ) → n + upto (ends_plain false spaces) rest ≡ upto (ends_plain false spaces) text
  pub line : (m : ℕ) → holds_break (take (n + m) text) ≡ holds_break (take m rest)

pub line_start : (text : List ℕ) → OnLine text text 0
line_start text = record {
  within = omega arith;
  back = refl;
  so_far = λ spaces. omega arith;
  line = λ m. let same : 0 + m ≡ m = omega arith in ap (λ (k : ℕ). holds_break (take k text)) same;
}

-- over a run
pub line_run : (text rest next : List ℕ) (n run : ℕ) → run ≡ prefix_len (run_goes_on Plain) rest → run ≤ length rest → next ≡ drop run rest → OnLine text rest n → OnLine text next (n + run)
line_run text rest next n run is le after o =
    let left : length next ≡ length rest - run = ap length after ∙ length-drop run rest in
    let lines : (m : ℕ) → holds_break (take (run + m) rest) ≡ holds_break (take m next) =
    λ m. subst (λ (k : ℕ). holds_break (take (k + m) rest) ≡ holds_break (take m (drop k rest))) (sym is) (run_line rest m)
    ∙ ap (λ (l : List ℕ). holds_break (take m l)) (sym after) in
    record {
      within = omega (arith, left, le, o.within);
      back = after ∙ (ap (drop run) o.back ∙ drop-drop run n text);
      so_far = λ spaces. run_after false spaces rest next n run _ is after (o.so_far spaces);
      line = λ m. let same : n + run + m ≡ n + (run + m) = omega arith in ap (λ (k : ℕ). holds_break (take k text)) same ∙ (o.line (run + m) ∙ lines m);
    }

-- over one byte
pub line_step : (text rest next : List ℕ) (n : ℕ) → next ≡ drop 1 rest → goes_on rest ≡ true → OnLine text rest n → OnLine text next (n + 1)
line_step text rest next n after on o =
    let left : length next ≡ length rest - 1 = ap length after ∙ length-drop 1 rest in
    let lines : (m : ℕ) → holds_break (take (suc m) rest) ≡ holds_break (take m next) = λ m. on_line rest m on ∙ ap (λ (l : List ℕ). holds_break (take m l)) (sym after) in
    let ends : (spaces : Option ℕ) → upto (ends_plain false spaces) rest ≡ 1 + upto (ends_plain false spaces) next = λ spaces. on_upto spaces rest on ∙ ap (λ (l : List ℕ). 1 + upto (ends_plain false spaces) l) (sym after) in
    record {
      within = omega (arith, left, some_on rest on, o.within);
      back = after ∙ (ap (drop 1) o.back ∙ drop-drop 1 n text);
      so_far = λ spaces. let e = ends spaces in let s = o.so_far spaces in omega (arith, e, s);
      line = λ m. let same : n + 1 + m ≡ n + suc m = omega arith in ap (λ (k : ℕ). holds_break (take k text)) same ∙ (o.line (suc m) ∙ lines m);
    }

-- up to where it may end
pub line_ends : (text rest : List ℕ) (n : ℕ) (spaces : Option ℕ) → OnLine text rest n → upto (ends_plain false spaces) text ≡ n + upto (ends_plain false spaces) (drop n text)
line_ends text rest n spaces o = sym (o.so_far spaces) ∙ ap (λ (l : List ℕ). n + upto (ends_plain false spaces) l) o.back

pub line_whole : (text rest : List ℕ) (n : ℕ) → OnLine text rest n → holds_break (take n text) ≡ false
line_whole text rest n o = let same : n ≡ n + 0 = omega arith in ap (λ (k : ℕ). holds_break (take k text)) same ∙ o.line 0
