-- What segments of a text change of it, and what an answer says of that.
use Rattle.std.specs.Prelude.{◌≡◌, ◌-◌, false, List, ◌++◌, length, take, drop, Option, Some, None, Result, Ok, Err, string_bytes}
use Rattle.std.{specs.Str.IsUtf8, specs.declared.alloc.AllocError.AllocError}
use Rattle.yq_text.specs.Exchanging.{exchange_of, gives, too_large}
use Rattle.yq_text.specs.Script.{Segment, old_text, new_text, are_kept, kept_front, kept_back}
use Rattle.yq_text.specs.declared.changed.ChangedMiddle.{ChangedMiddle}

-- What segments change of their text: so many bytes stay at both ends, which are characters, and where one is replaced, the new text is the old one with
-- another text between these (own).
pub record IsChange (ss : List Segment) (c : ChangedMiddle) : Type 0 where
  pub front : c.front ≡ length (kept_front ss)
  pub back : c.back ≡ length (kept_back ss)
  pub front_text : IsUtf8 (kept_front ss)
  pub back_text : IsUtf8 (kept_back ss)
  pub exact : exchange_of ss ≡ gives (new_text ss) c.splices.items
  pub text : are_kept ss ≡ false → new_text ss ≡ take c.front (old_text ss) ++ (string_bytes c.new ++ drop (length (old_text ss) - c.back) (old_text ss))

-- the answer is what segments change of their text, or nothing, where the new one would be too large; lack of memory says nothing (own)
abbrev pub Changes : Result (Option ChangedMiddle) AllocError → List Segment → Type 0
Changes (Ok (Some c)) ss = IsChange ss c
Changes (Ok None) ss = exchange_of ss ≡ too_large
Changes (Err e) ss = Unit {0}
