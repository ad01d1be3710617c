-- What a list of commands does to files, to their histories, and to an output (own).
use Rattle.std.specs.Prelude.{◌≡◌, ◌≢◌, ◌+◌, ◌-◌, ◌^◌, ◌<◌, ◌++◌, ℕ, Bool, true, List, Option, Vec, IsTrue, IfOk, All, min, Result}
use Rattle.std.{specs.FinMap.get, specs.List.list_all, specs.declared.alloc.Global.Global}
use Rattle.yq_journal.specs.History.{History}
use Rattle.yq_args.specs.declared.command.Command.{Command}
use Rattle.yq_history.specs.Pair.{GoodIn}
use Rattle.yq_store.specs.FileMap.{FileMap}
use Rattle.yq_commands.{specs.declared.answer.Answer.Answer, specs.CommandNames.IsNotNamed}
use Rattle.yq_commands.specs.Lists.{AllOnOrApart, Keeps, Reply, RunExactly, RunsAll, answers_in, has_memory, printed_in}
use Rattle.yq_store.specs.declared.store.Store as store
use Rattle.yq_commands.specs.declared.output.Out as output

-- No call failed: the count of failures is what it was, and below the number at which it stays.
pub record NoneFailed {S : Type 0} (failures : S → ℕ) (old new : S) : Type 0 where
  pub stays : failures new ≡ failures old
  pub below : failures new < 2 ^ 64 - 1

-- an output that can be observed took these bytes after those that it had
abbrev pub HasTaken : {S : Type 0} → Bool → (S → List ℕ) → S → S → List ℕ → Type 0
HasTaken observable taken old new bytes = IsTrue observable → taken new ≡ taken old ++ bytes

-- the same where no call of it failed
abbrev pub HasTakenUnlessFailed : {S : Type 0} → (S → ℕ) → Bool → (S → List ℕ) → S → S → List ℕ → Type 0
HasTakenUnlessFailed failures observable taken old new bytes = NoneFailed failures old new → HasTaken observable taken old new bytes

-- What is asked of a file and a journal before these commands.
pub record StartsGood (commands : List Command) (old : FileMap) (file journal : List ℕ) (h : Option History) : Type 0 where
  pub two_names : file ≢ journal
  -- each command works on the two, or on neither
  pub on_or_apart : AllOnOrApart file journal commands
  -- the file holds the text at the cursor of the history, and the journal its edits
  pub good : GoodIn old file journal h

-- What is so of them after the commands: they are good for a history again, to which the replies lead.
pub record EndsGood (Leads : Option History → Type 0) (new : FileMap) (file journal : List ℕ) : Type 0 where
  pub after : Option History
  pub leads : Leads after
  pub good : GoodIn new file journal after

-- What the answers to a list of commands say, by a way from history to history that the replies lead.
pub record AnswersTo (Leads : List ℕ → List ℕ → Option History → List Command → List Reply → Option History → Type 0) (commands : List Command)
    {S : Type 0} (content : S → FileMap) (old new : S) (Took : List ℕ → Type 0) (answers : Vec Answer Global) : Type 0 where
  -- for each command its answer, and what it printed
  pub replies : List Reply
  pub answered : answers_in replies ≡ answers.items
  pub printed : Took (printed_in replies)
  -- each command in turn did what is defined, or was refused and changed nothing
  pub kept : Keeps (content old) commands replies (content new)
  -- each file that held the text at the cursor of its history holds the one at the cursor of the history to which the replies lead
  pub histories : (file journal : List ℕ) (h : Option History) → StartsGood commands (content old) file journal h
      → EndsGood (Leads file journal h commands replies) (content new) file journal

-- answers where memory was there for each command: each command was carried out, or refused for its cause, and for no other
abbrev pub AnswersExactly : List Command → {S : Type 0} → (S → FileMap) → S → S → (List ℕ → Type 0) → Vec Answer Global → Type 0
AnswersExactly commands content old new Took answers =
    list_all has_memory answers.items ≡ true → AnswersTo RunExactly commands content old new Took answers

-- by a store and an output before and after a list of commands
module _ {S W : Type 0} (d : store.Ghosts S) (w : output.Ghosts W) (old new : S) (before after : W) (commands : List Command) where
  -- where the store keeps what is put into it, the replies lead from history to history, and what they printed went to the output
  abbrev pub RunsList : {E : Type 0} → Result (Vec Answer Global) E → Type 0
  RunsList r = IsTrue d.keeps → IfOk r (AnswersTo RunsAll commands d.content old new (HasTakenUnlessFailed w.failures w.observable w.taken before after))

  -- the same where no call failed: then a command is refused exactly for its cause
  abbrev pub RunsByCause : {E : Type 0} → Result (Vec Answer Global) E → Type 0
  RunsByCause r =
      IsTrue d.keeps → NoneFailed d.failures old new → NoneFailed w.failures before after →
      IfOk r (AnswersExactly commands d.content old new (HasTaken w.observable w.taken before after))

-- the names that no command names hold what they held
abbrev pub UnnamedStay : List Command → {S : Type 0} → (S → FileMap) → S → S → Type 0
UnnamedStay commands content old new = (q : List ℕ) → All (IsNotNamed q) commands → get (content new) q ≡ get (content old) q

-- a count of failures went up by the answers that are counted, up to the last number of 64 bits, where it stays
abbrev pub CountsAnswers : {S E : Type 0} → (List Answer → ℕ) → (S → ℕ) → S → S → Result (Vec Answer Global) E → Type 0
CountsAnswers counted failures old new r =
    failures old < 2 ^ 64 → IfOk r (λ answers. failures new ≡ min (failures old + counted answers.items) (2 ^ 64 - 1))
