-- `short_hour::put_branches`: the pairs of the branches so far are written.
use Rattle.std.proofs.Common.{◌≡◌, ◌*◌}
use Rattle.std.proofs.lemmas.List.Edits.{sets}
use Rattle.short_single.specs.Meaning.OfHour.{branch_of}
use Rattle.short_rules.specs.Meaning.Answer.{pairs_to}
use Rattle.short_hour.proofs.put_branches.Given as goal

abbrev pub invariant-loop-m : goal.invariant-loop-m
invariant-loop-m l =
    l.out ≡ sets l.fn.out (2 * l.hour.hour.«case».counts.orders) (pairs_to l.m (branch_of l.hour))
