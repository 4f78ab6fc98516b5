-- `sheet_numbers::padded` meets its contract: one zero more, and none left. Assumes nothing.
use Rattle.std.proofs.Common.{◌≡◌, ℕ, [], ◌+◌, ◌*◌, ◌-◌, ◌<◌, sym, ap, ◌∙◌, arith}
use Rattle.text_rules.specs.Meaning.Text.{value_from}
use Rattle.sheet_numbers.specs.Meaning.Numeral.{first_of}
use Rattle.sheet_numbers.specs.Steps.Capped.{capped}
use Rattle.sheet_numbers.proofs.Steps.Capped.{capped_le}
use Rattle.sheet_numbers.proofs.Steps.Turns.{zero_more, no_zero}
use Rattle.sheet_numbers.proofs.padded.Goals as goal

pub loop-preserved : goal.loop-preserved
loop-preserved c =
    let l = c.loop in
    let e = c.with_digit-value.ensures in
    let left : 0 < c.args.n - l.counter = omega (arith, c.loop-test.true) in
    let less : c.args.n - (l.counter + 1) ≡ c.args.n - l.counter - 1 = omega arith in
    record {
      within = omega (arith, e, capped_le (10 * l.value + 0));
      same = (λ i. capped (value_from (e i) (first_of (less i) []))) ∙ sym (zero_more l.value (c.args.n - l.counter) left) ∙ l.invariant.same;
    }

pub returns : goal.returns
returns c =
    let l = c.loop in
    let none : c.args.n - l.counter ≡ 0 = omega (arith, c.loop-test.false) in
    sym (no_zero l.value l.invariant.within) ∙ ap (λ (n : ℕ). capped (value_from l.value (first_of n []))) (sym none) ∙ l.invariant.same
