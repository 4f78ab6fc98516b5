-- `count_places`: a number has a digit more than the power of ten that it reaches; 0 has as many as 1. Assumes nothing.
use Rattle.std.specs.Prelude.{◌≡◌, ℕ, ◌+◌, ◌*◌, ◌^◌, ◌≤◌, ◌<◌, max}
use Rattle.std.proofs.Common.{ap, ◌∙◌, arith, pow-suc}
use Rattle.std.proofs.Math.Decide.{dec_lt}
use Rattle.text_rules.specs.Meaning.Text.{places}
use Rattle.text_rules.proofs.Steps.Places.{places-one, places-past, places-at-most}
use Rattle.text_decimal.proofs.count_places.Goals as goal

power-reached : (m r : ℕ) → 10 ^ r ≤ m → m < 10 * 10 ^ r → r + 1 ≡ places m
power-reached m r h l = omega (arith, places-past r m h, places-at-most r m (omega (arith, pow-suc 10 r)))

one-for-zero : (n : ℕ) → places (max n 1) ≡ places n
one-for-zero n = elim (dec_lt 0 n) [
  | yes l ↦ let same : max n 1 ≡ n = omega arith in ap places same
  | no g ↦ omega (arith, places-one (max n 1) (omega arith), places-one n (omega arith))
]

pub returns : goal.returns
returns c = power-reached (max c.args.n 1) c.ilog10.result (omega (arith, c.ilog10.ensures.power_le)) (omega (arith, c.ilog10.ensures.next_power_gt)) ∙ one-for-zero c.args.n
