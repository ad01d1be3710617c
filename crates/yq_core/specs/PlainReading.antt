-- Reading (own; you may skip it: the clauses `found` and `only` show that it agrees with the grammar).
use Rattle.std.specs.Prelude.{ℕ, Bool, ◌&&◌, not, ◌==◌, Option, Some, None, List, [], ◌∷◌, if◌then◌else◌}
use Rattle.yq_core.{specs.Answers.more, specs.Text.{is_white, is_feed, is_break}, specs.Plain.{begins_deep, ends_text}}

-- how far it is over white space and breaks to where a plain scalar goes on, if it does; deep says whether it may on this line (own)
unfoldable pub across : Bool → Option ℕ → Bool → List ℕ → Option ℕ
across flow spaces deep [] = None
across flow spaces deep (b ∷ bs) =
    if is_white b then more 1 (across flow spaces deep bs)
    else (if is_feed b then more 1 (across flow spaces (begins_deep spaces bs) bs)
    else (if is_break (b ∷ bs) then more 1 (across flow spaces deep bs)
    else (if not (b == 35) && not (ends_text flow (b ∷ bs)) && deep then Some 0 else None)))
