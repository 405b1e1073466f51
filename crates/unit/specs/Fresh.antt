-- A fresh unit, as its owner lends it.
use Rattle.std.specs.Prelude.{◌≡◌, ℕ, List, length, replicate, None}
use Rattle.model.specs.Config.{Config}
use Rattle.model.specs.State.{fresh_core, fresh_port}
use Rattle.model.specs.Plans.{empty_plans}
use Rattle.layout.specs.Numbers.{numbers_of}
use Rattle.layout.specs.Unit.{Unit, unit_long, config_given, unit_in, set_numbers, set_plans, blank_of}

-- a unit of this configuration with nothing in it but the numbers of a fresh one and the plans of its empty tables
abbrev pub fresh_unit : Config → Unit
fresh_unit c = set_plans (set_numbers (blank_of c) (numbers_of fresh_core None fresh_port)) empty_plans

-- made of the characters cs of a configuration and a parameter block of that length
pub record FreshPromise (cs : List ℕ) (long : ℕ) (u block : List ℕ) : Type 0 where
  pub means : unit_in u ≡ fresh_unit (config_given cs)
  pub long_is : length u ≡ unit_long
  pub block-cleared : block ≡ replicate long 0
