-- `short_single::short` meets its contract: for a price that is not below zero, what is left of the room.
-- Assumes nothing.
use Rattle.std.proofs.Common.{◌≡◌, ℤ, false, subst, sym, ap, ◌∙◌, rules}
use Rattle.std.specs.Prelude.{pos, ◌*ℤ◌}
use Rattle.std.specs.Int.Signed.{lt_z}
use Rattle.base_integers.specs.Steps.Ranges.{is_false}
use Rattle.base_limits.specs.Meaning.Exact.{Costs}
use Rattle.short_single.specs.Steps.Short.{kept-is, kept-costs}
use Rattle.short_single.proofs.short.Goals as goal
use Rattle.short_single.proofs.short.Goals.{Else-lt}

not-below : (c : Else-lt) → lt_z c.args.price.0 (pos 0) ≡ false
not-below c = search rules

pub cost-requires-2 : goal.cost-requires-2
cost-requires-2 c =
    let a = c.args in
    subst (λ (x : ℤ). Costs x a.price.0) (sym c.minus-2.ensures) (kept-costs a.room.0 a.used.0 a.price.0 c.requires (is_false (not-below (goal.at.cost-requires-2 c).Else-lt)))

pub returns : goal.returns
returns c =
    let a = c.args in
    record {
      value = c.cost-2.ensures.parts_value ∙ ap (λ (x : ℤ). x *ℤ a.price.0) c.minus-2.ensures ∙ kept-is a.room.0 a.used.0 a.price.0 (is_false (not-below (goal.at.returns c).Else-lt));
      parts_in = c.cost-2.ensures.parts_lt_parts_in_one;
    }
