-- `put_amount`: a sign and the size where the number is below zero, else the size alone. Assumes nothing.
use Rattle.std.specs.Prelude.{◌≡◌, true, false, ◌∷◌, ℕ, length}
use Rattle.std.specs.Int.{w64}
use Rattle.std.proofs.Common.{sym, ap, ◌∙◌, arith, length-set, to_z}
use Rattle.text_rules.specs.Meaning.Text.{size_text, amount_text}
use Rattle.text_rules.proofs.Promised.Value.{amount-negative, amount-positive}
use Rattle.text_rules.proofs.Steps.Put.{put_as, put_then, put_byte}
use Rattle.text_decimal.proofs.put_amount.Goals as goal
use Rattle.text_decimal.proofs.put_amount.Goals.{After-negative}
use Rattle.text_decimal.proofs.put_amount.Given.{Over}

-- the amount's text, by the size and the test's answer
signed : (g : Over) (c : After-negative g) → c.negative.result ≡ true → amount_text g.row.DECIMALS (to_z w64 c.args.x.0) ≡ 45 ∷ size_text g.row.DECIMALS c.size-n.result
signed g c e =
    amount-negative g.row.DECIMALS (to_z w64 c.args.x.0) (sym c.negative.ensures ∙ e)
    ∙ ap (λ (n : ℕ). 45 ∷ size_text g.row.DECIMALS n) (sym c.size-n.ensures)

unsigned : (g : Over) (c : After-negative g) → c.negative.result ≡ false → amount_text g.row.DECIMALS (to_z w64 c.args.x.0) ≡ size_text g.row.DECIMALS c.size-n.result
unsigned g c e =
    amount-positive g.row.DECIMALS (to_z w64 c.args.x.0) (sym c.negative.ensures ∙ e)
    ∙ ap (λ (n : ℕ). size_text g.row.DECIMALS n) (sym c.size-n.ensures)

pub bounds-out-at : goal.bounds-out-at
bounds-out-at g c = omega (arith, ap length (signed g (goal.at.bounds-out-at g c).After-negative c.if-negative.true), c.requires.x_in_bounds)

pub put_size-requires-clause-n_in_bounds : goal.put_size-requires-clause-n_in_bounds
put_size-requires-clause-n_in_bounds g c =
    simp length-set (omega (arith, ap length (signed g (goal.at.put_size-requires-clause-n_in_bounds g c).After-negative c.if-negative.true), c.requires.x_in_bounds))

pub returns-then-negative : goal.returns-then-negative
returns-then-negative g c =
    put_as (sym (signed g (goal.at.returns-then-negative g c).After-negative c.if-negative.true)) (put_then (put_byte c.args.out.now c.args.at 45) c.put_size.ensures)

pub put_size-requires-2-clause-n_in_bounds : goal.put_size-requires-2-clause-n_in_bounds
put_size-requires-2-clause-n_in_bounds g c =
    omega (arith, ap length (unsigned g (goal.at.put_size-requires-2-clause-n_in_bounds g c).After-negative c.if-negative.false), c.requires.x_in_bounds)

pub returns : goal.returns
returns g c = put_as (sym (unsigned g (goal.at.returns g c).After-negative c.if-negative.false)) c.put_size-2.ensures
