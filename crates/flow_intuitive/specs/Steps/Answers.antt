-- The last rows of the table, what an examination of rows answers, and a yes or no as a number. Assumes nothing.
use Rattle.std.specs.Prelude.{◌≡◌, Bool, true, false, List, [], ◌∷◌, ℕ, Result, MatchResult}
use Rattle.std.proofs.Math.Option.{Option, none, some}
use Rattle.base_causes.specs.declared.Outcome.{Outcome}
use Rattle.base_causes.specs.Meaning.Causes.{Cause, once, each}
use Rattle.rules.specs.Meaning.Verdict.{◌under◌}
use Rattle.flow_pairs.specs.Meaning.Pairs.{pair_count, bad_pair}

-- 84 and 85, for some number of zones
abbrev pub rest_causes : ℕ → List ℕ → ℕ → ℕ → List Cause
rest_causes zones pairs n room = each 84 (pair_count pairs) (bad_pair zones pairs) ∷ once 85 (room under n) ∷ []

-- an examination answers a table's refusal
abbrev pub Examined : Option Outcome → Result (Unit {0}) Outcome → Type 0
Examined x r = MatchResult r (λ u. x ≡ none) (λ o. x ≡ some o)

-- a yes is 1, a no 0
abbrev pub flag_of : Bool → ℕ
flag_of true = 1
flag_of false = 0
