-- What a constructor of a measure answers: the number, or that it is outside its range. Assumes nothing.
use Rattle.std.specs.Prelude.{Bool, true, false, ℤ, Option, None, Some}
use Rattle.base_integers.specs.Meaning.Ranges.{Range, outside}
use Rattle.base_measures.specs.declared.Tenths.{Tenths}
use Rattle.base_measures.specs.declared.Cents.{Cents}
use Rattle.base_measures.specs.declared.Grains.{Grains}
use Rattle.base_measures.specs.declared.Microcents.{Microcents}
use Rattle.base_measures.specs.declared.Ptdf.{Ptdf}
use Rattle.base_measures.specs.declared.Share.{Share}

-- the measure, or none, by the test whether the number is outside its range
abbrev pub held_by : {A : Type 0} → A → Bool → Option A
held_by held true = None
held_by held false = Some held

abbrev pub tenths_by : ℤ → Bool → Option Tenths
tenths_by x = held_by (record { 0 = x })

abbrev pub cents_by : ℤ → Bool → Option Cents
cents_by x = held_by (record { 0 = x })

abbrev pub grains_by : ℤ → Bool → Option Grains
grains_by x = held_by (record { 0 = x })

abbrev pub microcents_by : ℤ → Bool → Option Microcents
microcents_by x = held_by (record { 0 = x })

abbrev pub ptdf_by : ℤ → Bool → Option Ptdf
ptdf_by x = held_by (record { 0 = x })

abbrev pub share_by : ℤ → Bool → Option Share
share_by x = held_by (record { 0 = x })

abbrev pub tenths_in : Range → ℤ → Option Tenths
tenths_in r x = tenths_by x (outside r x)

abbrev pub cents_in : Range → ℤ → Option Cents
cents_in r x = cents_by x (outside r x)

abbrev pub grains_in : Range → ℤ → Option Grains
grains_in r x = grains_by x (outside r x)

abbrev pub microcents_in : Range → ℤ → Option Microcents
microcents_in r x = microcents_by x (outside r x)

abbrev pub ptdf_in : Range → ℤ → Option Ptdf
ptdf_in r x = ptdf_by x (outside r x)

abbrev pub share_in : Range → ℤ → Option Share
share_in r x = share_by x (outside r x)
