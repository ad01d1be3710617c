-- What an edit gives of a text.
use Rattle.std.specs.Prelude.{ℕ, List, [], ◌∷◌, ◌++◌, Option, Some, None}
use Rattle.yq_row_table.specs.Rows.{Cut}
use Rattle.yq_semantics.{specs.declared.refusal.Refusal.Refusal, specs.declared.refusal.Refusal.TheVariants.TooLarge}
use Rattle.yq_text.{specs.Splice.Splice, specs.Script.Segment, specs.Exchanging.{Exchange, exchange_of}}
use Rattle.yq_text.specs.Exchanging as exchange

-- What an edit gives: the text has no reading, it is refused, or it gives a new text by these changes (own).
pub data Edit : Type 0 where
  unreadable : Edit
  refuses : Refusal → Edit
  gives : List ℕ → List Splice → Edit

-- an edit with splices before its own (own)
abbrev pub edit_after : List Splice → Edit → Edit
edit_after cs unreadable = unreadable
edit_after cs (refuses why) = refuses why
edit_after cs (gives t ds) = gives t (cs ++ ds)

-- an edit, and then one of the text that it gives (own)
abbrev pub edit_then : (List ℕ → Edit) → Edit → Edit
edit_then f unreadable = unreadable
edit_then f (refuses why) = refuses why
edit_then f (gives t cs) = edit_after cs (f t)

-- an edit for each thing in order, each of the text that the one before gives (own)
abbrev pub in_order : {A : Type 0} → (A → List ℕ → Edit) → List A → List ℕ → Edit
in_order f [] t = gives t []
in_order f (x ∷ xs) t = edit_then (in_order f xs) (f x t)

-- an edit by the reading of a text, if it has one (own)
abbrev pub by_reading : (Cut → Edit) → Option Cut → Edit
by_reading f None = unreadable
by_reading f (Some c) = f c

-- what an exchange gives as an edit (own)
abbrev pub exchange_edit : Exchange → Edit
exchange_edit (exchange.gives t cs) = gives t cs
exchange_edit exchange.too_large = refuses TooLarge

-- what segments of a text give, unless the new text is too large (own)
abbrev pub edit_of_segments : List Segment → Edit
edit_of_segments ss = exchange_edit (exchange_of ss)
