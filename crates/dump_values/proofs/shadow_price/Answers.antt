-- `dump_values::shadow_price` meets its contract: the nearest whole number of a product that is not negative, within
-- the measure's limits.
use Rattle.std.proofs.Common.{◌≡◌, sym, ap, ◌∙◌, subst, T, lit≤}
use Rattle.std.specs.Prelude.{Float, ℕ, pos, Option}
use Rattle.std.specs.Float.{binary64}
use Rattle.std.specs.Float.Ieee.{le, mul, of_bits}
use Rattle.base_integers.specs.Steps.Ranges.{is_true}
use Rattle.base_limits.specs.Meaning.Limits as limits
use Rattle.base_measures.specs.Meaning.Held.{cents_in}
use Rattle.dump_binary64.specs.Meaning.Machine.{zero64, times}
use Rattle.dump_binary64.specs.Meaning.Answer.{whole_up_to}
use Rattle.dump_binary64.proofs.Steps.Cutting.{times-not-negative}
use Rattle.dump_binary64.proofs.Steps.Whole.{zero_test}
use Rattle.dump_values.proofs.Steps.Agree.{hundred-bits}
use Rattle.dump_values.proofs.Steps.Taken.{bits_are, shadow-held, shadow-outside, shadow-far}
use Rattle.dump_values.proofs.shadow_price.Goals as goal
use Rattle.dump_values.proofs.shadow_price.Goals.{After-shadow_price}

-- the product, with its constant as a value
product_is : (x : Float) → mul binary64 x (of_bits binary64 0x4059_0000_0000_0000) ≡ times x 100
product_is x = ap (mul binary64 x) hundred-bits

whole : (x : Float) {r : Option ℕ} → r ≡ whole_up_to (mul binary64 x (of_bits binary64 0x4059_0000_0000_0000)) 4294967295 → whole_up_to (times x 100) 4294967295 ≡ r
whole x e = ap (λ (p : Float). whole_up_to p 4294967295) (sym (product_is x)) ∙ sym e

pub nearest_up_to-requires : goal.nearest_up_to-requires
nearest_up_to-requires c = subst (λ (p : Float). T (le zero64 p)) (sym (product_is c.args.x)) (times-not-negative c.args.x 100 c.requires (lit≤ tt) (is_true (zero_test c.args.x c.if-x.true)))

pub returns-in_err-n : goal.returns-in_err-n
returns-in_err-n c = let x = c.args.x in c.from_residual.ensures ∙ shadow-far x (whole x c.nearest_up_to.ensures ∙ c.in_err-n.was)

-- the number's test
tested : (c : After-shadow_price) → cents_in limits.shadow_price (pos c.in_ok-n.n) ≡ c.shadow_price.result
tested c = ap (cents_in limits.shadow_price) (sym c.from.ensures) ∙ sym c.shadow_price.ensures

pub returns-in_err-shadow_price : goal.returns-in_err-shadow_price
returns-in_err-shadow_price c =
    let x = c.args.x in
    c.from_residual-in_err-shadow_price.ensures
    ∙ shadow-outside x c.in_ok-n.n (whole x c.nearest_up_to.ensures ∙ c.in_ok-n.was)
    (tested (goal.at.returns-in_err-shadow_price c).After-shadow_price ∙ c.in_err-shadow_price.was)

pub returns-in_ok-shadow_price : goal.returns-in_ok-shadow_price
returns-in_ok-shadow_price c =
    let x = c.args.x in
    bits_are c.from-then-x.ensures
    ∙ shadow-held x c.in_ok-n.n c.in_ok-shadow_price.field-0 (zero_test x c.if-x.true) (whole x c.nearest_up_to.ensures ∙ c.in_ok-n.was)
    (tested (goal.at.returns-in_ok-shadow_price c).After-shadow_price ∙ c.in_ok-shadow_price.was)
