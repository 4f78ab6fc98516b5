-- `flow_max::all_exports` meets its contract: 16 exports of up to 51,200,000 have a sum of 64 bits. Assumes nothing.
use Rattle.std.proofs.Common.{ℕ, ◌+◌, ◌∙◌, sym, refl, arith, get_or}
use Rattle.std.specs.Prelude.{pos}
use Rattle.base_integers.specs.Meaning.Difference.{up}
use Rattle.base_integers.specs.Meaning.NaturalSums.{sum_nat}
use Rattle.base_integers.specs.Steps.NaturalSums.{sum_more, sum_bound}
use Rattle.flow_max.proofs.all_exports.Goals as goal

pub loop-z-init : goal.loop-z-init
unfolding sum_nat
loop-z-init c = refl

pub overflow_add-sum : goal.overflow_add-sum
overflow_add-sum c =
    omega (
      arith,
      c.amount-sum.ensures,
      sum_bound c.loop-z.z 51200000 (λ y. up (get_or c.args.net_exports.now y (pos 0))) (λ y p. c.requires.1 y (omega arith)),
      c.requires.1 c.loop-z.z c.loop-z-test.true,
    )

pub loop-z-preserved : goal.loop-z-preserved
loop-z-preserved c =
    (λ i. c.loop-z.invariant i + c.amount-sum.ensures i) ∙ sym (sum_more c.loop-z.z (λ (y : ℕ). up (get_or c.args.net_exports.now y (pos 0))))
