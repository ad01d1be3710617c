-- What is asked of a line and of the lines under it.
use Rattle.std.proofs.Common.{rules, ◌≡◌, ℕ, Option, Some, None, Bool, true, false, ◌&&◌, refl, sym, arith}
use Rattle.std.{proofs.lemmas.Bool.{false≢true, eq-eqb, le-leb}, specs.Prelude.is_some}
use Rattle.yq_core.specs.Tree.{Node}
use Rattle.yq_outline.{specs.Ends.has_no_lines, specs.Group.is_open}
use Rattle.yq_outline.specs.Outline.{LineMark, Bare, Key, Dash, Line, level, Outline, end, row}
use Rattle.yq_outline.{specs.Sound.{is_sound_outline, head_is_sound, are_sound_under, is_entry_line}, specs.Positions.has_no_mark}

-- no lines are sound
pub none_sound : (d : ℕ) (u : Outline) → has_no_lines u ≡ true → is_sound_outline d u ≡ true
none_sound d end e = rw (le-leb 0 d (omega arith)) refl
none_sound d (row l u a) e = absurd (false≢true e)

open_end : (o : Option Node) (u : Outline) → has_no_lines u ≡ true → is_open o u ≡ true
open_end None u e = refl
open_end (Some h) end e = refl
open_end (Some h) (row l u a) e = absurd (false≢true e)

and_true : (b : Bool) → (b && true) ≡ b
and_true true = refl
and_true false = refl

-- a line under which there are none
pub alone_sound : (d n : ℕ) (l : Line) (u : Outline) → level l ≡ n → has_no_lines u ≡ true → are_sound_under d n l u ≡ head_is_sound d l.head
alone_sound d n l u same e = rw (eq-eqb (level l) n same, open_end l.head u e, none_sound d u e) (and_true (head_is_sound d l.head))

-- a line with a head, and lines under it
pub both_there : (d n : ℕ) (l : Line) (u : Outline) → true ≡ is_some l.head → has_no_lines u ≡ false → are_sound_under d n l u ≡ false
both_there d n l u some e = search (rules, false≢true)

-- a line without a head, with lines under it
pub under_sound : (d n : ℕ) (l : Line) (u : Outline) → level l ≡ n → false ≡ is_some l.head → is_sound_outline d u ≡ are_sound_under d n l u
under_sound d n l u same h5 = search (rules, eq-eqb, false≢true)

pub bare_under : (some alone head : Bool) → (alone ≡ false) → ((some && alone) && head) ≡ false
bare_under true alone head e = rw e refl
bare_under false alone head e = refl

pub bare_head : (some alone head : Bool) → (head ≡ false) → ((some && alone) && head) ≡ false
bare_head true true head e = e
bare_head true false head e = refl
bare_head false alone head e = refl

pub bare_passes : (some alone head : Bool) → true ≡ some → alone ≡ true → head ≡ true → ((some && alone) && head) ≡ true
bare_passes some alone head e f g = rw (sym e, f, g) refl

pub entry_is : (m : LineMark) → false ≡ has_no_mark m → is_entry_line m ≡ true
entry_is Bare e = absurd (false≢true e)
entry_is (Key k) e = refl
entry_is Dash e = refl
