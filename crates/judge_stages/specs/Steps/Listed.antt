-- What the driver asks of a family list, where there is one (S-11), in terms of the table's rows. Assumes nothing.
use Rattle.std.specs.Prelude.{◌≡◌, List, [], ℕ, ◌≤◌, ◌<◌}
use Rattle.std.specs.declared.option.Option as code
use Rattle.std.specs.declared.option.Option.TheVariants.{None, Some}
use Rattle.std.proofs.Common.{refl, arith}
use Rattle.std.proofs.Math.Option.{Option, none, some}
use Rattle.rules.specs.Meaning.Hour.{Case, Plan}
use Rattle.base_causes.specs.Meaning.Causes.{verdict, failing, refusal}
use Rattle.base_causes.proofs.Promised.CauseLaws.{row-found, row-clear, place-below}
use Rattle.rules.specs.Meaning.Verdict.{excess_fraction, fraction_causes, family_causes}
use Rattle.family_list.specs.declared.ReadableFamilies.{ReadableFamilies}

-- the list that was read, if there is one
abbrev pub list_read : code.Option ReadableFamilies → Option (List ℕ)
list_read (Some f) = some f.list.now
list_read None = none

-- without a list its rows pass
pub no-list : (c : Case) → refusal (family_causes none c) ≡ none
unfolding refusal
no-list c = refl

pub no-fraction : (c : Case) (p : Plan) → refusal (fraction_causes none c p) ≡ none
unfolding refusal
no-fraction c p = refl

-- ROW 28
module _ (f : List ℕ) (c : Case) (p : Plan) where
  pub fraction-over : {k : ℕ} → failing (excess_fraction f c p) ≡ some k → refusal (fraction_causes (some f) c p) ≡ some (verdict 28 k)
  fraction-over {k} e = row-found (excess_fraction f c p) [] k e

  pub fractions-within : failing (excess_fraction f c p) ≡ none → refusal (fraction_causes (some f) c p) ≡ none
  unfolding refusal
  fractions-within e = row-clear (excess_fraction f c p) [] e

  -- a child's place fits an index
  pub place-few : {k : ℕ} → c.orders ≤ 512 → failing (excess_fraction f c p) ≡ some k → k < 4294967296
  place-few {k} h e = place-below _ _ k 4294967296 e (omega arith)
