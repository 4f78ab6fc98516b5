-- The loop's invariant: row 84 refuses no pair before this one, and those pairs are in `seen`.
use Rattle.std.proofs.Common.{◌≡◌}
use Rattle.std.proofs.Math.Option.{none}
use Rattle.base_causes.specs.Meaning.Causes.{first_below}
use Rattle.base_zone_set.specs.Steps.Pairs.{Seen}
use Rattle.flow_pairs.specs.Meaning.Pairs.{first_zone, second_zone, bad_pair}
use Rattle.flow_pairs.proofs.first_bad_pair.Given as goal

abbrev pub invariant-loop-k : goal.invariant-loop-k
invariant-loop-k l = (first_below l.k (bad_pair l.zones l.pairs) ≡ none) × Seen (first_zone l.pairs) (second_zone l.pairs) l.k l.seen
