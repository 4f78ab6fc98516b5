-- `dump_values::flow` meets its contract: the product of a flow that is not negative is not negative, and its cut is a
-- word or none.
use Rattle.std.proofs.Common.{◌≡◌, sym, ap, ◌∙◌, subst, T, lit≤}
use Rattle.std.specs.Prelude.{Float}
use Rattle.std.specs.Float.{binary64}
use Rattle.std.specs.Float.Ieee.{le, mul, of_bits}
use Rattle.base_integers.specs.Steps.Ranges.{is_true}
use Rattle.dump_binary64.specs.Meaning.Machine.{zero64, times}
use Rattle.dump_binary64.specs.Meaning.Answer.{whole_below}
use Rattle.dump_binary64.proofs.Steps.Cutting.{times-not-negative}
use Rattle.dump_binary64.proofs.Steps.Whole.{zero_test}
use Rattle.dump_values.proofs.Steps.Agree.{ten-bits}
use Rattle.dump_values.proofs.Steps.Taken.{bits_are, flow-held, flow-outside}
use Rattle.dump_values.proofs.flow.Goals as goal

-- the product, with its constant as a value
product_is : (x : Float) → mul binary64 x (of_bits binary64 0x4024_0000_0000_0000) ≡ times x 10
product_is x = ap (mul binary64 x) ten-bits

pub cut_to_word-requires : goal.cut_to_word-requires
cut_to_word-requires c = subst (λ (p : Float). T (le zero64 p)) (sym (product_is c.args.x)) (times-not-negative c.args.x 10 c.requires (lit≤ tt) (is_true (zero_test c.args.x c.if-x.true)))

pub returns-in_err-n : goal.returns-in_err-n
returns-in_err-n c =
    let x = c.args.x in
    c.from_residual.ensures
    ∙ flow-outside x (zero_test x c.if-x.true) (ap whole_below (sym (product_is x)) ∙ sym c.cut_to_word.ensures ∙ c.in_err-n.was)

pub returns-in_ok-n : goal.returns-in_ok-n
returns-in_ok-n c =
    let x = c.args.x in
    bits_are c.from.ensures
    ∙ flow-held x c.in_ok-n.n (zero_test x c.if-x.true) (ap whole_below (sym (product_is x)) ∙ sym c.cut_to_word.ensures ∙ c.in_ok-n.was)
