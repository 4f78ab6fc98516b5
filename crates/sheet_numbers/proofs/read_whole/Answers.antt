-- `sheet_numbers::read_whole` meets its contract: one digit more, another byte, and the end of the text. Assumes
-- nothing.
use Rattle.std.proofs.Common.{◌≡◌, ◌∙◌, length, arith}
use Rattle.sheet_numbers.proofs.Steps.Scan.{as_digit, lead-other, lead-end}
use Rattle.sheet_numbers.proofs.Steps.Turns.{whole-turn, whole-done}
use Rattle.sheet_numbers.proofs.read_whole.Goals as goal

pub returns-then-not-is_ascii_digit : goal.returns-then-not-is_ascii_digit
returns-then-not-is_ascii_digit c =
    let a = c.args in
    whole-done a.s.now a.at c.loop-i.value c.loop-i.i c.loop-i.invariant (lead-other a.s.now c.loop-i.i c.loop-i-test.true (as_digit _ c.if-not-is_ascii_digit.ensures.value))

pub loop-i-preserved : goal.loop-i-preserved
loop-i-preserved c =
    let a = c.args in
    whole-turn a.s.now a.at c.loop-i.value c.loop-i.i c.loop-i.invariant c.loop-i-test.true (as_digit _ c.if-not-is_ascii_digit.ensures.value) c.with_digit-value.ensures

pub returns : goal.returns
returns c =
    let a = c.args in
    let end : length a.s.now ≡ c.loop-i.i = omega arith in
    (λ j. record { value = c.loop-i.value; end = end j }) ∙ whole-done a.s.now a.at c.loop-i.value c.loop-i.i c.loop-i.invariant (lead-end a.s.now c.loop-i.i c.loop-i-test.false)
