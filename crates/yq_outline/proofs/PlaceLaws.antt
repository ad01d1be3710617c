-- The law of places, from those of plugging.
use Rattle.std.proofs.Common.{◌≡◌, ◌<◌, ◌∷◌, ◌++◌, Option, Some, sym, ap, ◌∙◌, subst, append_assoc}
use Rattle.yq_outline.specs.Outline.{Line, level, Outline, row, flatten, IsEven}
use Rattle.yq_outline.{specs.Places.{plug, lines_before, lines_after, FoundLine, find}, specs.Laws.{with_lines, NodeExchanged}}
use Rattle.yq_outline.{proofs.Allowing.Allows, proofs.Plug.{flatten-plug, plug-even, allows_from}}
use Rattle.yq_outline.{proofs.Values.{If, PathChanges, path_value}, proofs.Finding.{IsFoundIn, path_whole}}

pub at : {A : Type 0} (P : A → Type 0) (r : Option A) (x : A) → r ≡ Some x → If r P → P x
at {A} P r x e h = let Q : Option A → Type 0 = λ r. If r P in subst Q e h

-- the lines of an outline with others in a place
pub placed : (f : FoundLine) (l : Line) (u : Outline) → flatten (plug f.place (row l u f.after)) ≡ with_lines f (l ∷ flatten u)
placed f l u = flatten-plug f.place (row l u f.after) ∙ ap (λ x. lines_before f.place ++ (l ∷ x)) (append_assoc (flatten u) (flatten f.after) (lines_after f.place))

pub exchanged : NodeExchanged
exchanged n o s ss rest f even found g m l u same lev open' whole deep under new =
    let is : plug f.place (row f.line f.under f.after) ≡ o = at (IsFoundIn o) (find s ss o) (f, rest) found (path_whole s ss o) in
    let old : Allows n f.place (level f.line) × IsEven (level f.line) (row f.line f.under f.after) =
    allows_from n f.place f.line f.under f.after (subst (λ x. IsEven n x) (sym is) even) in
    let new_even : IsEven (level f.line) (row l u f.after) = (lev, open', whole, (m, subst (λ k. k < m) lev deep, under), old.1.4) in (
      ap flatten (sym is) ∙ placed f f.line f.under,
      record {
        outline = plug f.place (row l u f.after);
        even = plug-even n (level f.line) f.place (row l u f.after) old.0 new_even;
        lines_are = placed f l u;
        node_is = at (PathChanges s ss o) (find s ss o) (f, rest) found (path_value s ss o) g l u same lev new;
      },
    )
