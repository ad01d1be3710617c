-- Edits one after the other lead from text to text.
use Rattle.std.proofs.Common.{rules, ◌≡◌, inl, inr, ℕ, List, [], ◌∷◌, ◌++◌, refl, sym, ap, ◌∙◌, subst, append_assoc, append-nil}
use Rattle.yq_text.specs.Splice.{Splice}
use Rattle.yq_edit_laws.{specs.Answers.EditFails, specs.Edit.{Edit, gives, edit_after, edit_then, in_order}}
use Rattle.yq_edit_laws.specs.Theorems.{InOrder, Leading, StopsInOrder}
use Rattle.yq_semantics.specs.Judgement.{ExprError}

-- what is known of each step, said otherwise
pub leads_so : {A : Type 0} (R S : Leading A) → ((x : A) (t new : List ℕ) (cs : List Splice) → R x t new cs → S x t new cs) →
    (xs : List A) (t new : List ℕ) (cs : List Splice) → InOrder R xs t new cs → InOrder S xs t new cs
leads_so R S each [] t new cs h = h
leads_so R S each (x ∷ xs) t new cs h = (h.0, h.1, h.2, each x t h.0 h.1 h.3, leads_so R S each xs h.0 new h.2 h.4, h.5)

-- one step more
pub leads_on : {A : Type 0} (R : Leading A) (xs : List A) (x : A) (t m new : List ℕ) (cs ds : List Splice) → InOrder R xs t m cs →
    R x m new ds → InOrder R (xs ++ x ∷ []) t new (cs ++ ds)
leads_on R [] x t m new cs ds h step = search (rules, ap (λ l. l ++ ds) h.1 ∙ sym (append-nil ds))
leads_on R (y ∷ xs) x t m new cs ds h step = search (rules, append_assoc, leads_on R xs x h.0 m new h.2 ds h.4 step)

-- steps that give texts give the last one
pub leads_give : {A : Type 0} (f : A → List ℕ → Edit) (R : Leading A) → ((x : A) (t new : List ℕ) (cs : List Splice) → R x t new cs → f x t ≡ gives new cs) →
    (xs : List A) (t new : List ℕ) (cs : List Splice) → InOrder R xs t new cs → in_order f xs t ≡ gives new cs
leads_give f R each [] t new cs h = λ i. gives (h.0 i) (sym h.1 i)
leads_give f R each (x ∷ xs) t new cs h =
    ap (edit_then (in_order f xs)) (each x t h.0 h.1 h.3)
    ∙ (ap (edit_after h.1) (leads_give f R each xs h.0 new h.2 h.4) ∙ ap (gives new) (sym h.5))

-- an edit that fails, also after splices
pub fails_after : (e : ExprError) (cs : List Splice) (r : Edit) → EditFails e r → EditFails e (edit_after cs r)
fails_after e cs r h = search rules

-- and without these
pub fails_itself : (e : ExprError) (cs : List Splice) (r : Edit) → EditFails e (edit_after cs r) → EditFails e r
fails_itself e cs r h = search rules

-- an edit after no splices
pub following_none : (r : Edit) → edit_after [] r ≡ r
following_none r = search rules

-- an edit after splices, after others
pub after_both : (bs cs : List Splice) (r : Edit) → edit_after (bs ++ cs) r ≡ edit_after bs (edit_after cs r)
after_both bs cs (gives t ds) = ap (gives t) (append_assoc bs cs ds)
after_both bs cs _ = refl

-- a step that fails fails all that come after it
pub fails_on : (e : ExprError) (g : List ℕ → Edit) (r : Edit) → EditFails e r → EditFails e (edit_then g r)
fails_on e g r h = search rules

-- and those that came before it
pub leads_fail : {A : Type 0} (f : A → List ℕ → Edit) (R : Leading A) → ((x : A) (t new : List ℕ) (cs : List Splice) → R x t new cs → f x t ≡ gives new cs) →
    (xs : List A) (y : A) (ys : List A) (t m : List ℕ) (cs : List Splice) (e : ExprError) → InOrder R xs t m cs → EditFails e (f y m) → EditFails e (in_order f (xs ++ y ∷ ys) t)
leads_fail f R each [] y ys t m cs e h fails = fails_on e (in_order f ys) (f y t) (subst (λ s. EditFails e (f y s)) (sym h.0) fails)
leads_fail f R each (x ∷ xs) y ys t m cs e h fails = search (rules, fails_after, leads_fail f R each xs y ys h.0 m h.2 e h.4 fails)

-- a thing that is refused stops those that come after others
pub leads_stop : {A : Type 0} (R : Leading A) (S : A → List ℕ → Type 0) (xs : List A) (y : A) (ys : List A) (t m : List ℕ) (cs : List Splice) → InOrder R xs t m cs →
    S y m → StopsInOrder R S (xs ++ y ∷ ys) t
leads_stop R S [] y ys t m cs h stops = inl (subst (S y) (sym h.0) stops)
leads_stop R S (x ∷ xs) y ys t m cs h stops = inr (h.0, h.1, h.3, leads_stop R S xs y ys h.0 m h.2 h.4 stops)
