-- `put_last`: each turn puts two digits in front, and one more goes there where k is odd. Assumes nothing.
use Rattle.std.specs.Prelude.{◌≡◌, ℕ, ◌+◌, ◌-◌, ◌*◌, ◌/◌, ◌^◌}
use Rattle.std.proofs.Common.{suc, refl, sym, ap, ◌∙◌, arith}
use Rattle.std.proofs.lemmas.List.Edits.{sets}
use Rattle.text_rules.specs.Meaning.Text.{last_digits}
use Rattle.text_rules.proofs.Promised.Value.{last-length}
use Rattle.text_rules.proofs.Steps.Digits.{put-digit, put_two, hundredth}
use Rattle.text_decimal.proofs.put_last.Goals as goal
use Rattle.text_decimal.proofs.put_last.Goals.{then-k-eq1, else-k-eq1}

pub loop-pair-init : goal.loop-pair-init
unfolding last_digits
loop-pair-init c = (omega arith, refl)

pub loop-pair-preserved : goal.loop-pair-preserved
loop-pair-preserved c =
    let l = c.loop-pair in
    let p = c.power-hundred in
    let a = c.args in
    let more : suc (suc (2 * l.pair)) ≡ 2 * (l.pair + 1) = omega arith in
    let there : a.at + a.k - 2 * l.pair - 2 ≡ a.at + a.k - 2 * (l.pair + 1) = omega arith in (
      hundredth _ a.n l.rest p.result p.ensures l.invariant.0 ∙ ap (λ (k : ℕ). a.n / 10 ^ k) more,
      put_two a.out.now l.out (a.at + a.k - 2 * l.pair - 2) (a.at + a.k - 2 * l.pair) _ a.n l.rest p.result _ _ p.ensures (omega arith) l.invariant.1 l.invariant.0 c.digit.ensures c.digit-in-loop-pair.ensures
          ∙ (λ j. sets a.out.now (there j) (last_digits (more j) a.n)),
    )

-- all digits are there, whether one was left after the pairs or none
pub returns : goal.returns
returns c =
    let a = c.args in
    let l = c.loop-pair in
    record {
      bytes = elim c.if-k-eq1.branch [
        | then-k-eq1 w ↦
            let one : suc (2 * l.pair) ≡ a.k = omega (arith, w.if-k-eq1.true) in
            w.out-is
            ∙ put-digit a.out.now l.out a.at (a.at + a.k - 2 * l.pair) _ a.n l.rest w.digit-then-k-eq1.result (omega (arith, w.if-k-eq1.true)) l.invariant.1 l.invariant.0 w.digit-then-k-eq1.ensures
            ∙ ap (λ (k : ℕ). sets a.out.now a.at (last_digits k a.n)) one
        | else-k-eq1 w ↦
            let all : 2 * l.pair ≡ a.k = omega (arith, w.if-k-eq1.false) in
            let first : a.at + a.k - 2 * l.pair ≡ a.at = omega (arith, w.if-k-eq1.false) in
            w.out-is ∙ l.invariant.1 ∙ (λ j. sets a.out.now (first j) (last_digits (all j) a.n))
      ];
      position = ap (λ (k : ℕ). a.at + k) (sym (last-length a.k a.n));
    }
