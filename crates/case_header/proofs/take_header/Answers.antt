-- `case_header::take_header` meets its contract: each field stands where the one before it ended, and the last ends
-- at byte 14. Assumes nothing.
use Rattle.std.proofs.Common.{sym, ap, ◌∙◌, le-ltb, length, Ok}
use Rattle.rules.specs.Meaning.Layout.{case_version, zones_in, branches_in, links_in, orders_in, tolerance_in}
use Rattle.bytes_read.specs.Steps.Taking.{none-taken, mark-next, byte_next, half-next, word_next}
use Rattle.case_header.specs.Meaning.Answer.{header_in, taken_by}
use Rattle.case_header.proofs.take_header.Goals as goal

pub returns : goal.returns
unfolding case_version zones_in branches_in links_in orders_in tolerance_in
returns c =
    let s = c.args.«case».now in
    let mark = mark-next (none-taken s c.new.ensures) c.take.ensures c.in-Some.is in
    let version = half-next mark.taken c.take-2.ensures c.in-Some-take.is in
    let zones = byte_next version.taken c.take-3.ensures c.in-Some-take-2.is in
    let branches = byte_next zones.taken c.take-4.ensures c.in-Some-take-3.is in
    let links = byte_next branches.taken c.take-5.ensures c.in-Some-take-4.is in
    let orders = half-next links.taken c.take-6.ensures c.in-Some-take-5.is in
    let tolerance = word_next orders.taken c.take-7.ensures c.in-Some-take-6.is in
    (λ j. Ok (record {
      mark = mark.is j;
      version = (c.from.ensures ∙ version.is) j;
      zones = zones.is j;
      branches = branches.is j;
      links = links.is j;
      orders = orders.is j;
      tolerance = tolerance.is j;
      past = tolerance.taken.past j;
    }))
    ∙ ap (taken_by (header_in s)) (sym (le-ltb (length s) 14 tolerance.taken.inside))
