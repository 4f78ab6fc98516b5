-- `text_hour::put_hour` meets its contract: the totals' lines and then the prices' lines. Assumes nothing.
use Rattle.std.proofs.Common.{arith, length-append}
use Rattle.text_rules.proofs.Steps.Put.{put-length, put_then}
use Rattle.rules.specs.Meaning.Lines.{hour_lines}
use Rattle.text_hour.proofs.put_hour.Goals as goal

pub put_totals-first_price-requires : goal.put_totals-first_price-requires
unfolding hour_lines
put_totals-first_price-requires c = omega (arith, simp length-append at c.requires.prices_in_bounds)

pub put_prices-requires-clause-prices_in_bounds : goal.put_prices-requires-clause-prices_in_bounds
unfolding hour_lines
put_prices-requires-clause-prices_in_bounds c =
    let p = c.put_totals-first_price.ensures in
    omega (arith, simp length-append at c.requires.prices_in_bounds, p.position, put-length p)

pub returns : goal.returns
unfolding hour_lines
returns c = put_then c.put_totals-first_price.ensures c.put_prices.ensures
