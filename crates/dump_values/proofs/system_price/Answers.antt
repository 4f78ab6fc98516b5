-- `dump_values::system_price` meets its contract, for a product on either side of zero.
use Rattle.std.proofs.Common.{◌≡◌, sym, ap, ◌∙◌, subst, T, of_z, w64}
use Rattle.std.specs.Prelude.{Float}
use Rattle.std.specs.Float.{binary64}
use Rattle.std.specs.Float.Ieee.{mul, of_bits}
use Rattle.std.specs.Float.Ieee.Scale.{finite}
use Rattle.base_integers.specs.Steps.Ranges.{is_true}
use Rattle.dump_binary64.specs.Meaning.Machine.{times}
use Rattle.dump_binary64.proofs.Steps.Products.{Signs}
use Rattle.dump_binary64.proofs.Steps.Whole.{zero_test}
use Rattle.dump_values.specs.Meaning.Fields.{sign_of, system_by}
use Rattle.dump_values.proofs.Steps.Agree.{hundred-bits, down-from-zero}
use Rattle.dump_values.proofs.Steps.Taken.{bits_are, up-held, up-outside, down-held, down-most, down-outside, price-signs, minus_is}
use Rattle.dump_values.proofs.system_price.Goals as goal

-- the product, with its constant as a value
abbrev product : Float → Float
product x = mul binary64 x (of_bits binary64 0x4059_0000_0000_0000)

product_is : (x : Float) → product x ≡ times x 100
product_is x = ap (mul binary64 x) hundred-bits

signs : (x : Float) → T (finite x) → Signs (sign_of x) (product x)
signs x h = subst (Signs (sign_of x)) (sym (product_is x)) (price-signs x h)

pub returns-in_err-n : goal.returns-in_err-n
returns-in_err-n c =
    let x = c.args.x in
    c.from_residual.ensures
    ∙ up-outside (product x) (is_true (zero_test (product x) c.if-p.true)) (sym c.nearest_up_to.ensures ∙ c.in_err-n.was)
    ∙ ap system_by (product_is x)

pub returns-in_ok-n : goal.returns-in_ok-n
returns-in_ok-n c =
    let x = c.args.x in
    bits_are c.from.ensures
    ∙ up-held (product x) c.in_ok-n.n (is_true (zero_test (product x) c.if-p.true)) (sym c.nearest_up_to.ensures ∙ c.in_ok-n.was)
    ∙ ap system_by (product_is x)

pub nearest_up_to-requires-else-p : goal.nearest_up_to-requires-else-p
nearest_up_to-requires-else-p c = let x = c.args.x in down-from-zero (product x) (sign_of x) (signs x c.requires) (zero_test (product x) c.if-p.false)

pub returns-in_err-n-2 : goal.returns-in_err-n-2
returns-in_err-n-2 c =
    let x = c.args.x in
    c.from_residual-in_err-n-2.ensures
    ∙ down-outside (product x) (sign_of x) (signs x c.requires) (zero_test (product x) c.if-p.false) (sym c.nearest_up_to-else-p.ensures ∙ c.in_err-n-2.was)
    ∙ ap system_by (product_is x)

pub returns-in_ok-n-2 : goal.returns-in_ok-n-2
returns-in_ok-n-2 c =
    let x = c.args.x in
    let n = c.in_ok-n-2.n in
    let e = sym c.nearest_up_to-else-p.ensures ∙ c.in_ok-n-2.was in
    bits_are (c.cast_unsigned.ensures ∙ ap (of_z w64) (minus_is n c.from-else-p.result (down-most (product x) n e) c.from-else-p.ensures))
    ∙ down-held (product x) (sign_of x) (signs x c.requires) (zero_test (product x) c.if-p.false) n e
    ∙ ap system_by (product_is x)
