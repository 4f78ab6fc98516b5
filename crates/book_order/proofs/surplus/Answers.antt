-- `book_order::surplus` meets its contract: quantity and prices within their limits keep the product far below 2 ^ 63.
use Rattle.std.proofs.Common.{ap, ◌∙◌, arith, w64}
use Rattle.std.specs.Prelude.{ℤ, ◌*ℤ◌}
use Rattle.base_integers.specs.Steps.Size.{near_fits, near_mul, near_within}
use Rattle.base_integers.specs.Steps.Machine.{sfits-by}
use Rattle.base_limits.specs.Meaning.Limits as limits
use Rattle.rules.specs.Meaning.Hour.{above}
use Rattle.rules.proofs.Promised.Fits.{in-grains, near-above}
use Rattle.book_order.proofs.surplus.Goals as goal

pub cost-requires : goal.cost-requires
cost-requires c =
    let gain = c.unit_gain.ensures ∙ ap (λ (z : ℤ). above c.args.order.buys z c.args.at.0) c.in_grains-price.ensures in
    sfits-by w64 (ap (λ (z : ℤ). c.args.order.quantity.0 *ℤ z) gain)
    (near_fits w64 (omega arith) (near_mul (near_within 100000 limits.quantity _ (omega arith) (omega arith) c.requires.within)
    (near-above c.args.order.buys _ _ (in-grains _ c.requires.within_2) c.requires.within_3)))
