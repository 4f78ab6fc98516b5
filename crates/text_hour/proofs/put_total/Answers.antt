-- `text_hour::put_total` meets its contract: name, amount and newline, each where the one before ends.
-- Assumes nothing.
use Rattle.std.proofs.Common.{◌≡◌, ◌++◌, length, ap, arith, length-append, to_z}
use Rattle.std.specs.Int.{w64}
use Rattle.text_rules.specs.Meaning.Text.{amount_text}
use Rattle.text_rules.specs.Meaning.Put.{Put}
use Rattle.text_rules.proofs.Steps.Put.{put_as, put-length, put_then}
use Rattle.text_rules.proofs.Steps.Complement.{bits-text}
use Rattle.rules.specs.Meaning.Lines.{total_line}
use Rattle.text_hour.proofs.put_total.Goals as goal
use Rattle.text_hour.proofs.put_total.Goals.{After-bits, After-put_amount-end}

pub put_text-amount-requires : goal.put_text-amount-requires
unfolding total_line
put_text-amount-requires c = omega (arith, simp length-append at c.requires)

amount-is : (c : After-bits) → amount_text 8 (to_z w64 c.bits.result.0) ≡ amount_text 8 c.args.total.0
amount-is c = bits-text 8 c.bits.ensures.fits c.bits.ensures.value

pub put_amount-end-requires-clause-x_in_bounds : goal.put_amount-end-requires-clause-x_in_bounds
unfolding total_line
put_amount-end-requires-clause-x_in_bounds c =
    let name = c.put_text-amount.ensures in
    omega (arith, simp length-append at c.requires, name.position, put-length name, ap length (amount-is (goal.at.put_amount-end-requires-clause-x_in_bounds c).After-bits))

-- the name and the amount
both : (c : After-put_amount-end) → Put c.args.out.now c.args.at (c.args.name.now ++ amount_text 8 c.args.total.0) c.put_amount-end.new.out c.put_amount-end.result
both c = put_then c.put_text-amount.ensures (put_as (bits-text 8 c.bits.ensures.fits c.bits.ensures.value) c.put_amount-end.ensures)

pub put_text-requires : goal.put_text-requires
unfolding total_line
put_text-requires c =
    let p = both (goal.at.put_text-requires c).After-put_amount-end in
    omega (arith, simp length-append at c.requires, simp length-append at p.position, put-length p)

pub returns : goal.returns
unfolding total_line
returns c = put_then (both (goal.at.returns c).After-put_amount-end) c.put_text.ensures
