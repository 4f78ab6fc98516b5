-- `book_surplus::order_surplus` meets its contract: rule 8 at the zone's price where that is in range, else zero.
use Rattle.std.proofs.Common.{sym, ◌∙◌}
use Rattle.base_integers.specs.Steps.Ranges.{is_false, within}
use Rattle.base_limits.specs.Meaning.Limits as limits
use Rattle.base_measures.specs.Steps.Held.{grains-held}
use Rattle.book_surplus.proofs.order_surplus.Goals as goal

pub surplus-requires-clause-within_3 : goal.surplus-requires-clause-within_3
surplus-requires-clause-within_3 c =
    let h = grains-held _ _ c.in-Some.price (sym c.zone_price.ensures ∙ c.in-Some.is) in
    rw h.1 (within limits.zone_price _ (is_false h.0))
