-- `sheet_numbers::read_decimals` meets its contract: a digit that counts, one past those, another byte, and the end of
-- the text. Assumes nothing.
use Rattle.std.proofs.Common.{◌≡◌, ◌∙◌, arith, length}
use Rattle.sheet_numbers.proofs.Steps.Scan.{as_digit, lead-other, lead-end}
use Rattle.sheet_numbers.proofs.Steps.Turns.{turn-counts, turn-past, turns-done}
use Rattle.sheet_numbers.proofs.read_decimals.Goals as goal
use Rattle.sheet_numbers.proofs.read_decimals.Goals.{then-left-gt0, else-left-gt0}

pub returns-then-not-is_ascii_digit : goal.returns-then-not-is_ascii_digit
returns-then-not-is_ascii_digit c =
    let a = c.args in
    let l = c.loop-i in
    let other = lead-other a.s.now l.i c.loop-i-test.true (as_digit _ c.if-not-is_ascii_digit.ensures.value) in
    turns-done a.s.now a.at a.x a.k l.value l.left l.finer l.i l.invariant other c.held.ensures

pub loop-i-preserved : goal.loop-i-preserved
loop-i-preserved c =
    let a = c.args in
    let l = c.loop-i in
    let digit = as_digit _ c.if-not-is_ascii_digit.ensures.value in
    elim c.if-left-gt0.branch [
      | then-left-gt0 w ↦ turn-counts a.s.now a.at a.x a.k l.value l.left l.finer l.i l.invariant c.loop-i-test.true digit w.if-left-gt0.true (omega (arith, w.value-is, w.from.ensures)) w.left-is w.finer-is
      | else-left-gt0 w ↦ turn-past a.s.now a.at a.x a.k l.value l.left l.finer l.i l.invariant c.loop-i-test.true digit w.if-left-gt0.false w.value-is w.left-is w.finer-is
    ]

pub returns : goal.returns
returns c =
    let a = c.args in
    let l = c.loop-i in
    let none = lead-end a.s.now l.i c.loop-i-test.false in
    let end : length a.s.now ≡ l.i = omega arith in
    (λ j. record { value = c.held-2.result; missing = l.left; finer = l.finer; end = end j })
    ∙ turns-done a.s.now a.at a.x a.k l.value l.left l.finer l.i l.invariant none c.held-2.ensures
