-- `text_hour::put_zone` meets its contract: name and zone, price and newline, each where the one before ends.
-- Assumes nothing.
use Rattle.std.proofs.Common.{◌≡◌, ◌++◌, length, ap, arith, length-append, to_z}
use Rattle.std.specs.Int.{w64}
use Rattle.text_rules.specs.Meaning.Ascii.{ascii}
use Rattle.text_rules.specs.Meaning.Text.{count_text, amount_text}
use Rattle.text_rules.specs.Meaning.Put.{Put}
use Rattle.text_rules.proofs.Steps.Put.{put_as, put-length, put_then}
use Rattle.text_rules.proofs.Steps.Complement.{bits-text}
use Rattle.rules.specs.Meaning.Lines.{price_line}
use Rattle.text_hour.proofs.put_zone.Goals as goal
use Rattle.text_hour.proofs.put_zone.Goals.{After-bits, After-put_amount-end}

pub put_named-amount-requires : goal.put_named-amount-requires
unfolding price_line
put_named-amount-requires c = simp length-append (omega (arith, simp length-append at c.requires))

amount-is : (c : After-bits) → amount_text 7 (to_z w64 c.bits.result.0) ≡ amount_text 7 c.args.price.0
amount-is c = bits-text 7 c.bits.ensures.fits c.bits.ensures.value

pub put_amount-end-requires-clause-x_in_bounds : goal.put_amount-end-requires-clause-x_in_bounds
unfolding price_line
put_amount-end-requires-clause-x_in_bounds c =
    let zone = c.put_named-amount.ensures in
    omega (arith, simp length-append at c.requires, simp length-append at zone.position, put-length zone, ap length (amount-is (goal.at.put_amount-end-requires-clause-x_in_bounds c).After-bits))

-- the zone and its price
both : (c : After-put_amount-end) → Put c.args.out.now c.args.at (ascii "price " ++ count_text c.args.zone ++ ascii " " ++ amount_text 7 c.args.price.0) c.put_amount-end.new.out c.put_amount-end.result
both c = put_then c.put_named-amount.ensures (put_as (bits-text 7 c.bits.ensures.fits c.bits.ensures.value) c.put_amount-end.ensures)

pub put_text-requires : goal.put_text-requires
unfolding price_line
put_text-requires c =
    let p = both (goal.at.put_text-requires c).After-put_amount-end in
    omega (arith, simp length-append at c.requires, simp length-append at p.position, put-length p)

pub returns : goal.returns
unfolding price_line
returns c = put_then (both (goal.at.returns c).After-put_amount-end) c.put_text.ensures
