-- `short_hour::put_links`: the pairs of the links so far are written.
use Rattle.std.proofs.Common.{◌≡◌, ◌+◌, ◌*◌}
use Rattle.std.proofs.lemmas.List.Edits.{sets}
use Rattle.short_single.specs.Meaning.OfHour.{link_of}
use Rattle.short_rules.specs.Meaning.Answer.{pairs_to}
use Rattle.short_hour.proofs.put_links.Given as goal

abbrev pub invariant-loop-l : goal.invariant-loop-l
invariant-loop-l l =
    l.out ≡ sets l.fn.out (2 * (l.hour.hour.«case».counts.orders + l.hour.hour.«case».counts.branches)) (pairs_to l.l (link_of l.hour))
