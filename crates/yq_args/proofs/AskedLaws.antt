-- What a command's word asks for, by the name that it has.
use Rattle.std.proofs.Common.{rules, ◌≡◌, ◌∙◌, ◌&&◌, Bool, true, false, Option, Some, None, is_some, option_map, List, ap}
use Rattle.std.{specs.Prelude.codes, specs.Str.bytes_eq}
use Rattle.clap.specs.Words.{Row, Text, first_of}
use Rattle.yq_args.specs.Asked.{journal_name, names_fit, names_journal}

-- of two tests the second fails
second_fails : (b : Bool) → (b && false) ≡ false
second_fails b = search rules

-- a text that is missing, whatever the names are
pub missing_fails : (n : Bool) (text : Option Text) → text ≡ None → (n && is_some text) ≡ false
missing_fails n text is = ap (λ t. n && is_some t) is ∙ second_fails n

-- names that aren't allowed: the file's is `-`, or the journal's is the same
module _ (found journal : Option Text) (file : Text) (is : found ≡ Some file) where
  pub dash_fails : bytes_eq file (codes "-") ≡ true → names_fit found journal ≡ false
  dash_fails dash = search rules

  pub same_fails : (text : Text) → text ≡ journal_name journal file → bytes_eq text file ≡ true → names_fit found journal ≡ false
  same_fails text named same = search rules

-- whether something is there, seen through a function
pub is_some_mapped : {A B : Type 0} (f : A → B) (o : Option A) → is_some o ≡ is_some (option_map f o)
is_some_mapped f o = search rules

-- a journal is named in the rows of the command that is found
pub named_in_rows : (o : Option (Text × List Row)) (rows : List Row) → Some rows ≡ option_map (λ p. p.1) o → is_some (first_of (codes "journal") rows) ≡ names_journal o
named_in_rows o rows is = search rules
