-- `book_surplus::first_price_outside` meets its contract: the first zone is what `position` answers.
use Rattle.std.specs.Prelude.{pos}
use Rattle.std.proofs.Common.{ap, ◌∙◌, rules, tests}
use Rattle.std.proofs.lemmas.Iterator.{YieldsList-from_slice}
use Rattle.std.proofs.lemmas.Iterator.Search.{position_from_yields_List}
use Rattle.base_integers.specs.Meaning.Ranges.{outside}
use Rattle.base_limits.specs.Meaning.Limits as limits
use Rattle.base_causes.specs.Meaning.Place.{place_of}
use Rattle.book_surplus.specs.Meaning.BookState.{first_price_outside}
use Rattle.book_surplus.proofs.Steps.Position.{place_of_position}
use Rattle.book_surplus.proofs.first_price_outside.Goals as goal

pub returns : goal.returns
unfolding first_price_outside
returns c =
    let test = outside limits.zone_price in
    let found = position_from_yields_List test _ _ c.position.result c.position.ensures.ran (YieldsList-from_slice c.args.prices.now cc) (λ x b q k. search (rules, tests)) in
    ap place_of found ∙ place_of_position test (pos 0) c.args.prices.now
