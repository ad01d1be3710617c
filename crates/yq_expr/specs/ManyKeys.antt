-- Missing keys that are more than collections may be nested (own).
use Rattle.std.{specs.Prelude.{◌≡◌, ◌<◌, Bool, true, false, List, length}, specs.List.list_all}
use Rattle.yq_core.specs.Inline.{depth_limit}
use Rattle.yq_semantics.{specs.Changes.{is_overlong_key, step_key}, specs.Program.{PathStep, key, index, each}}

-- whether a step is to the value of a key (own)
abbrev pub is_key_step : PathStep → Bool
is_key_step (key k) = true
is_key_step (index i) = false
is_key_step each = false

-- whether a step is to that of too long a key (own)
abbrev pub is_long_step : PathStep → Bool
is_long_step s = is_overlong_key (step_key s)

-- steps to the values of keys, one for each of more collections than may be nested (own)
pub record AreManyKeys (ms : List PathStep) : Type 0 where
  pub many : depth_limit < length ms
  pub keys : list_all is_key_step ms ≡ true
