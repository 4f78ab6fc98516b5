-- The cursor stands at the link of this turn, no link before it has a field at fault, and the set holds the pairs of
-- those links; the case has at most sixteen zones.
use Rattle.std.proofs.Common.{◌≡◌, ◌≤◌}
use Rattle.std.proofs.Math.Option.{none}
use Rattle.rules.specs.Meaning.Layout.{link_at, from_in, to_in}
use Rattle.base_causes.specs.Meaning.Causes.{first_below}
use Rattle.case_header.specs.Meaning.CaseReadable.{link_cause}
use Rattle.base_zone_set.specs.Steps.Pairs.{Seen}
use Rattle.case_links.proofs.walk_links.Given as goal

abbrev pub invariant-loop : goal.invariant-loop
invariant-loop l = (l.cursor.at ≡ link_at l.case.bytes.now l.counter) × (first_below l.counter (link_cause l.case.bytes.now).fails ≡ none) × Seen (from_in l.case.bytes.now) (to_in l.case.bytes.now) l.counter l.seen × (l.case.counts.zones ≤ 16)
