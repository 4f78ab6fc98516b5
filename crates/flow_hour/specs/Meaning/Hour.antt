-- REQUEST S-3 for an hour: its net positions with export positive (ours with their sign turned), and its zone
-- prices. The table asks the verdict table with room for a report, then causes 81 to 85 of these positions and
-- prices. Assumes nothing.
use Rattle.std.specs.Prelude.{List, [], ◌∷◌, ◌++◌, ℕ, zero, suc, length, ℤ, pos, ◌-ℤ◌}
use Rattle.std.proofs.Math.Option.{none}
use Rattle.base_causes.specs.declared.Outcome.{Outcome}
use Rattle.base_causes.specs.Meaning.Causes.{Cause, refusal, answer}
use Rattle.rules.specs.Meaning.Layout.{report_room}
use Rattle.rules.specs.Meaning.Hour.{case_of, plan_of, prices_of, net, zone_price, rent}
use Rattle.rules.specs.Meaning.Verdict.{table}
use Rattle.flow_network.specs.Meaning.Network.{Network}
use Rattle.flow_pairs.specs.Meaning.Pairs.{network_of}
use Rattle.flow_intuitive.specs.declared.Carried.{Carried}
use Rattle.flow_intuitive.specs.Meaning.Intuitive.{intuitive_causes, scratch_by, EntryAnswer}

-- a list of n numbers, by their places
unfoldable pub list_to : ℕ → (ℕ → ℤ) → List ℤ
list_to zero f = []
list_to (suc n) f = list_to n f ++ (f n ∷ [])

-- net positions with export positive, and zone prices in grains
unfoldable pub hour_exports : List ℕ → List ℕ → List ℤ
hour_exports s t = list_to (case_of s).zones (λ z. pos 0 -ℤ net (case_of s) (plan_of s t) z)

unfoldable pub hour_prices : List ℕ → List ℕ → List ℤ
hour_prices s t = list_to (case_of s).zones (λ z. zone_price (case_of s) (prices_of s t) z)

abbrev pub hour_network : List ℕ → List ℕ → List ℕ → Network
hour_network s t pairs = network_of (hour_exports s t) (hour_prices s t) pairs

-- the rent that the judgement reports (rule 11)
abbrev pub hour_rent : List ℕ → List ℕ → ℤ
hour_rent s t = rent (case_of s) (plan_of s t) (prices_of s t)

-- THE TABLE, for a case s, a proposal t, pairs, and a scratch of `room` numbers of which n are needed, 324 or 96
-- (S-13)
unfoldable pub asked_causes : List ℕ → List ℕ → List ℕ → ℕ → ℕ → List Cause
asked_causes s t pairs n room = table none s t report_room (case_of s) (plan_of s t) (prices_of s t) ++ intuitive_causes (hour_exports s t) (hour_prices s t) pairs n room

unfoldable pub hour_outcome : List ℕ → List ℕ → List ℕ → ℕ → ℕ → Outcome
hour_outcome s t pairs n room = answer (refusal (asked_causes s t pairs n room))

-- the scratch afterwards
unfoldable pub hour_scratch : List ℕ → List ℕ → List ℕ → ℕ → List ℤ → List ℤ
hour_scratch s t pairs n scratch = scratch_by (refusal (asked_causes s t pairs n (length scratch))) n scratch

-- WHAT AN ENTRY ANSWERS for an hour, with n = 324 or 96: the lent scratch, the result and the scratch afterwards
abbrev pub HourAnswer : List ℕ → List ℕ → List ℕ → ℕ → List ℤ → Carried → List ℤ → Type 0
HourAnswer s t pairs n scratch = EntryAnswer (hour_outcome s t pairs n (length scratch)) (hour_network s t pairs) (hour_scratch s t pairs n scratch)
