-- `put_prices`: after z turns the first z prices are written. Assumes nothing.
use Rattle.std.specs.Prelude.{◌+◌, ◌*◌}
use Rattle.std.proofs.Common.{refl, ap, ◌∙◌, arith, get_or-take, length-take, of_z}
use Rattle.std.specs.Int.{w64}
use Rattle.std.proofs.lemmas.List.Edits.{sets}
use Rattle.base_integers.specs.Meaning.Bytes.{bytes_of, signed64}
use Rattle.base_measures.specs.declared.Grains.{Grains}
use Rattle.rules.specs.Meaning.Report.{price_bytes}
use Rattle.report_file.specs.Meaning.Prices.{no_grains, grains_at}
use Rattle.report_file.specs.Steps.Written.{next-price}
use Rattle.report_file.proofs.put_prices.Goals as goal

pub loop-z-init : goal.loop-z-init
unfolding price_bytes
loop-z-init c = refl

pub loop-z-preserved : goal.loop-z-preserved
unfolding signed64
loop-z-preserved c =
    let z = c.loop-z.z in
    let e = c.bits.ensures.value ∙ ap (λ (g : Grains). of_z w64 g.0) (get_or-take c.args.zones c.args.prices z no_grains (omega (arith, length-take c.args.zones c.args.prices))) in
    c.put.ensures ∙ (λ j. sets (c.loop-z.invariant j) (48 + 8 * z) (bytes_of 8 (e j))) ∙ next-price c.args.report.now z (grains_at c.args.prices)
