-- `text_hour::put_prices` meets its contract: a zone's line has room where all have. Assumes nothing.
use Rattle.std.specs.Prelude.{◌≡◌, ℤ}
use Rattle.std.proofs.Common.{ℕ, ◌<◌, List, length, take, get_or, refl, ap, arith, get_or-take, length-take}
use Rattle.text_rules.proofs.Steps.Put.{put_as, put-length, put_then}
use Rattle.base_measures.specs.declared.Grains.{Grains}
use Rattle.rules.specs.Meaning.Lines.{price_line, price_lines}
use Rattle.report_file.specs.Meaning.Prices.{no_grains, grains_at}
use Rattle.text_hour.specs.Steps.Texts.{prices-more, prices-within}
use Rattle.text_hour.proofs.put_prices.Goals as goal

pub loop-z-init : goal.loop-z-init
unfolding price_lines
loop-z-init c = record { bytes = refl; position = omega arith }

-- a zone that the loop goes over has its own price
its-price : (zones z : ℕ) (prices : List Grains) → z < length (take zones prices) → (get_or (take zones prices) z no_grains).0 ≡ grains_at prices z
its-price zones z prices h = ap (λ (g : Grains). g.0) (get_or-take zones prices z no_grains (omega (arith, length-take zones prices)))

pub put_zone-next-requires : goal.put_zone-next-requires
put_zone-next-requires c =
    let a = c.args in
    let z = c.loop-z.z in
    let room = prices-within z a.zones (grains_at a.prices) (omega (arith, length-take a.zones a.prices)) in
    let line = ap (λ (p : ℤ). length (price_line z p)) (its-price a.zones z a.prices c.loop-z-test.true) in
    omega (arith, room, line, put-length c.loop-z.invariant)

pub loop-z-preserved : goal.loop-z-preserved
loop-z-preserved c =
    let a = c.args in
    let z = c.loop-z.z in
    let line = put_as (ap (price_line z) (its-price a.zones z a.prices c.loop-z-test.true)) c.put_zone-next.ensures in
    put_as (prices-more z (grains_at a.prices)) (put_then c.loop-z.invariant line)
