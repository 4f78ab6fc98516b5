-- `sheet_numbers::past_sign` meets its contract: with a minus sign and without. Assumes nothing.
use Rattle.std.proofs.Common.{◌≡◌, Bool, cond, ◌+◌, sym, ap, ◌∙◌, arith}
use Rattle.sheet_numbers.specs.Meaning.Numeral.{negative}
use Rattle.sheet_numbers.proofs.past_sign.Goals as goal

pub returns-then-starts_at : goal.returns-then-starts_at
unfolding negative
returns-then-starts_at c = ap (λ (b : Bool). c.args.at + cond b 1 0) (sym (sym c.starts_at.ensures ∙ c.if-starts_at.true))

pub returns : goal.returns
unfolding negative
returns c =
    let none : c.args.at ≡ c.args.at + 0 = omega arith in
    none ∙ ap (λ (b : Bool). c.args.at + cond b 1 0) (sym (sym c.starts_at.ensures ∙ c.if-starts_at.false))
