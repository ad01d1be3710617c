-- Items and entries put into a flow collection of a head that was empty when that was read, after the first one (YAML 1.2.2, 7.4; own).
use Rattle.std.specs.Prelude.{◌≡◌, ⊤, ℕ, false, List, [], ◌++◌, drop, map, Option, Some, None}
use Rattle.yq_core.{specs.Collections.CollPieces, specs.Entries.tree_step, specs.Paths.Step}
use Rattle.yq_flow_edits.specs.FlowEdits.{after_appended, is_none}
use Rattle.yq_row_table.specs.Rows.{Cut, cut_text}
use Rattle.yq_places.specs.FlowNodes.{flow_collection}
use Rattle.yq_semantics.specs.Operations.{Operation}
use Rattle.yq_batch.{specs.Runs.{Runs, RunsOn, cut_with, now_text, stem_of}, specs.declared.adding.FilledRun.FilledRun}
use Rattle.yq_batch.specs.declared.head.HeadInText.{HeadInText}
use denote.Bor.{Bor}
use Rattle.yq_core.specs.declared.path.Step as declared

-- The collection to which steps lead in a cut has an item or entry, and the bracket of another one, and one more comes before these last bytes (own).
pub record IsFilledCollection (w : CollPieces) (cut : Cut) (n : ℕ) (steps : List Step) (after : List ℕ) : Type 0 where
  pub coll : CollPieces
  pub found : flow_collection n steps cut ≡ Some coll
  pub close : coll.close ≡ w.close
  pub some : is_none coll.items ≡ false
  pub following_is : after_appended coll ≡ after

-- what is known of the empty collection into which a run put the last one, if it did: the next one comes where the run ends (own)
abbrev pub IsKnownFilled : (c cut : Cut) → ℕ → List Step → ℕ → Option (Bor (List declared.Step)) → Type 0
IsKnownFilled c cut n stem done None = ⊤
IsKnownFilled c cut n stem done (Some k) =
    (w : CollPieces) → flow_collection n (stem ++ map tree_step k.now) c ≡ Some w →
    IsFilledCollection w cut n (stem ++ map tree_step k.now) (drop done (cut_text c))

-- A run of the code is one, with what it knows (own).
pub record FillsSo (x : HeadInText) (r : FilledRun) : Type 0 where
  pub run : Runs x r.run
  pub filled : IsKnownFilled (cut_with x) run.cut x.doc (stem_of x) r.run.done r.filled

-- the text that it has made so far (own)
abbrev pub filled_text : HeadInText → FilledRun → List ℕ
filled_text x r = now_text (cut_with x) r.run

-- the steps lead to the collection that is known (own)
abbrev pub IsSameFilled : Option (Bor (List declared.Step)) → List Step → Type 0
IsSameFilled known steps = (k : Bor (List declared.Step)) × (known ≡ Some k) × (map tree_step k.now ≡ steps)

-- nothing leads to what is put into a collection, and its steps are these (own)
abbrev pub FillsFirst : (lead : List ℕ) → List Step → Bor (List declared.Step) → Type 0
FillsFirst lead steps k = (lead ≡ []) × (map tree_step k.now ≡ steps)

-- An operation is carried out on the text of a run, which goes on after it with what it knows then (own).
pub record FillsOn (op : Operation) (x : HeadInText) (before after : FilledRun) : Type 0 where
  pub on : RunsOn op x before.run after.run
  pub filled : IsKnownFilled (cut_with x) on.run.cut x.doc (stem_of x) after.run.done after.filled
