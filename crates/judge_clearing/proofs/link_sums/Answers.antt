-- Each link is one of the case's, with its zones below 16; as long as no flow is above its room, no flow is above
-- 100,000 tenths, so the parts are far below 2 ^ 63.
use Rattle.std.proofs.Common.{◌≡◌, List, ℕ, ◌+◌, ◌≤◌, ◌<◌, Bool, refl, ap, sym, subst, ◌∙◌, arith, nltb→le, SFits}
use Rattle.std.proofs.Math.Option.{none}
use Rattle.std.proofs.Math.ListN.{set}
use Rattle.std.proofs.Math.IntN.{ℤ, pos, ◌+ℤ◌, ◌-ℤ◌, ◌*ℤ◌, +ℤ_idr}
use Rattle.std.specs.Int.{w64}
use Rattle.std.specs.Int.Signed.{lt_z}
use Rattle.std.specs.Ordering.{int_cmp, is_lt}
use Rattle.base_measures.specs.Steps.Derived.{less-is}
use Rattle.base_integers.specs.Meaning.Sums.{sum_to}
use Rattle.base_integers.specs.Steps.Size.{Near, near_fits, near_sub, near_mul, near-pos, near-unsigned}
use Rattle.base_integers.specs.Steps.Machine.{sfits-by}
use Rattle.base_limits.specs.Meaning.Limits.{parts_in_one}
use Rattle.rules.specs.Meaning.Layout.{flow_in}
use Rattle.rules.specs.Meaning.Hour.{case_of, plan_of, link_use, link_room, inflow, outflow, lta_part, fb_part}
use Rattle.base_causes.specs.Meaning.Causes.{first_below}
use Rattle.base_causes.proofs.Promised.CauseLaws.{first-here, first-later, first-nowhere, not-below}
use Rattle.rules.specs.Meaning.Verdict.{◌over◌}
use Rattle.rules.proofs.Promised.Fits.{flow-in, partial-near}
use Rattle.case_links.specs.declared.Link.{Link}
use Rattle.case_links.specs.Meaning.Link.{link_of}
use Rattle.case_header.specs.declared.Counts.{Counts}
use Rattle.proposal_file.specs.declared.ProposalOpening.{ProposalOpening}
use Rattle.proposal_file.specs.Meaning.Read.{HourReadFrom}
use Rattle.proposal_file.specs.Meaning.InRange.{VolumesInRange}
use Rattle.proposal_file.specs.Steps.Read.{sound, links-is, share-is, share-in}
use Rattle.base_measures.specs.declared.Tenths.{Tenths}
use Rattle.base_measures.specs.declared.Load.{Load}
use Rattle.base_measures.specs.Meaning.TenthsHold.{tenths_at, TenthsHold}
use Rattle.judge_clearing.specs.Steps.Parts.{partly, in-set, out-next, out-set}
use Rattle.judge_clearing.proofs.link_sums.Goals as goal

-- LINK l OF THE HOUR, as it was read
module _ {s t : List ℕ} {counts : Counts} {opening : ProposalOpening} (h : HourReadFrom s t counts opening) (l : ℕ) (i : l < counts.links) where
  inside : l < (case_of s).links
  inside = omega (arith, links-is h)

  to-small : (case_of s).to l < 16
  to-small = omega (arith, (sound h).placed.to-in l inside, (sound h).zones-in.1)

  from-small : (case_of s).from l < 16
  from-small = omega (arith, (sound h).placed.from-in l inside, (sound h).zones-in.1)

  module _ {k : Link} (e : k ≡ link_of s l) where
    to-is : k.to ≡ (case_of s).to l
    unfolding case_of
    to-is = ap (λ (x : Link). x.to) e

    from-is : k.from ≡ (case_of s).from l
    unfolding case_of
    from-is = ap (λ (x : Link). x.from) e

    to-in : k.to < 16
    to-in = omega (arith, to-is, to-small)

    from-in : k.from < 16
    from-in = omega (arith, from-is, from-small)

    room-fits : SFits w64 (opening.share.0 *ℤ k.capacity.0)
    unfolding case_of plan_of
    room-fits =
        sfits-by w64 (λ j. share-is h j *ℤ (e j).capacity.0)
        (near_fits w64 (omega arith) (near_mul (near-unsigned _ 100000 (share-in h)) (near-unsigned _ 100000 ((sound h).capacity-in l inside))))

    -- the test of its flow
    answered : {f : Tenths} {u r : Load} {b : Bool} → f.0 ≡ pos (flow_in s t l) → u.0 ≡ f.0 *ℤ pos parts_in_one → r.0 ≡ opening.share.0 *ℤ k.capacity.0 → b ≡ is_lt (int_cmp r.0 u.0)
        → b ≡ link_use (case_of s) (plan_of s t) l over link_room (case_of s) (plan_of s t) l
    unfolding link_room link_use case_of plan_of
    answered {u = w} {r = x} q u r a = a ∙ less-is x.0 w.0 ∙ (λ j. lt_z ((r ∙ (λ n. share-is h n *ℤ (e n).capacity.0)) j) ((u ∙ ap (λ (x : ℤ). x *ℤ pos parts_in_one) q) j))

  -- where no flow so far is above its room, the parts fit
  module _ (passed : first_below (l + 1) (λ j. link_use (case_of s) (plan_of s t) j over link_room (case_of s) (plan_of s t) j) ≡ none) where
    flows-small : (j : ℕ) → j < l + 1 → (plan_of s t).flow j ≤ 100000
    flows-small j k =
        flow-in (case_of s) (sound h) (plan_of s t) (share-in h) j (omega (arith, inside))
        (nltb→le (link_room (case_of s) (plan_of s t) j) (link_use (case_of s) (plan_of s t) j) (not-below _ _ passed j k))

    near : VolumesInRange (case_of s) (plan_of s t) → (n : ℕ) → n ≤ l + 1 → (z : ℕ) → Near 64000000 (partly (case_of s) (plan_of s t) n n z)
    near v n k z = partial-near (case_of s) (sound h) (plan_of s t) v.within n (omega (arith, inside)) (λ j m. flows-small j (omega arith)) z

no_flow : (x : ℤ) → x -ℤ (pos 0 -ℤ pos 0) ≡ x
no_flow x = +ℤ_idr x

pub loop-l-init : goal.loop-l-init
unfolding sum_to first_below
loop-l-init c = record {
  within = refl;
  parts = record { long = c.requires.tenths_hold.long; each = λ z h. c.requires.tenths_hold.each z h ∙ sym (no_flow _) };
}

pub scaled_by_one-requires : goal.scaled_by_one-requires
unfolding flow_in
scaled_by_one-requires c =
    sfits-by w64 (ap (λ (x : ℤ). x *ℤ pos parts_in_one) c.flow_at-flow.ensures.value)
    (near_fits w64 (omega arith) (near_mul (near-unsigned _ 4294967295 (omega (arith, c.flow_at-flow.ensures.upper_bound))) (near-pos parts_in_one)))

pub of_volume-requires : goal.of_volume-requires
of_volume-requires c = room-fits c.args.filled.hour.read c.loop-l.l c.loop-l-test.true c.link_at-link.ensures

pub returns-then-lt-clause-overused : goal.returns-then-lt-clause-overused
returns-then-lt-clause-overused c =
    let h = c.args.filled.hour.read in
    let l = c.loop-l.l in
    let i = c.loop-l-test.true in
    first-here _ l (inside h l i) c.loop-l.invariant.within
    (sym (answered h l i c.link_at-link.ensures c.flow_at-flow.ensures.value c.scaled_by_one.ensures c.of_volume.ensures c.lt.ensures) ∙ c.if-lt.true)

pub offset_bounds-parts-to : goal.offset_bounds-parts-to
offset_bounds-parts-to c = omega (arith, to-in c.args.filled.hour.read c.loop-l.l c.loop-l-test.true c.link_at-link.ensures)

pub bounds-parts-to : goal.bounds-parts-to
bounds-parts-to c = to-in c.args.filled.hour.read c.loop-l.l c.loop-l-test.true c.link_at-link.ensures

pub minus-requires : goal.minus-requires
unfolding plan_of
minus-requires c =
    let h = c.args.filled.hour.read in
    let l = c.loop-l.l in
    let i = c.loop-l-test.true in
    let e = c.link_at-link.ensures in
    let to = c.link_at-link.result.to in
    let passed = first-later _ l c.loop-l.invariant.within (sym (answered h l i e c.flow_at-flow.ensures.value c.scaled_by_one.ensures c.of_volume.ensures c.lt.ensures) ∙ c.if-lt.false) in
    sfits-by w64 (λ j. c.loop-l.invariant.parts.each to (to-in h l i e) j -ℤ c.flow_at-flow.ensures.value j)
    (near_fits w64 (omega arith) (near_sub (near h l i passed c.args.filled.within l (omega arith) to) (near-unsigned _ 100000 (flows-small h l i passed l (omega arith)))))

pub offset_bounds-parts-to-in-loop-l : goal.offset_bounds-parts-to-in-loop-l
offset_bounds-parts-to-in-loop-l c = omega (arith, to-in c.args.filled.hour.read c.loop-l.l c.loop-l-test.true c.link_at-link.ensures)

pub bounds-parts-to-in-loop-l : goal.bounds-parts-to-in-loop-l
bounds-parts-to-in-loop-l c = to-in c.args.filled.hour.read c.loop-l.l c.loop-l-test.true c.link_at-link.ensures

pub offset_bounds-parts-from : goal.offset_bounds-parts-from
offset_bounds-parts-from c = omega (arith, from-in c.args.filled.hour.read c.loop-l.l c.loop-l-test.true c.link_at-link.ensures)

pub bounds-parts-from : goal.bounds-parts-from
bounds-parts-from c = from-in c.args.filled.hour.read c.loop-l.l c.loop-l-test.true c.link_at-link.ensures

pub plus-requires : goal.plus-requires
unfolding plan_of
plus-requires c =
    let h = c.args.filled.hour.read in
    let l = c.loop-l.l in
    let i = c.loop-l-test.true in
    let e = c.link_at-link.ensures in
    let to = c.link_at-link.result.to in
    let from = c.link_at-link.result.from in
    let xs = c.loop-l.parts in
    let cs = case_of c.args.filled.hour.case.bytes.now in
    let p = plan_of c.args.filled.hour.case.bytes.now c.args.filled.hour.proposal.now in
    let passed = first-later _ l c.loop-l.invariant.within (sym (answered h l i e c.flow_at-flow.ensures.value c.scaled_by_one.ensures c.of_volume.ensures c.lt.ensures) ∙ c.if-lt.false) in
    let entered = in-set cs p l xs to c.minus.result (to-is h l i e) (to-small h l i) c.loop-l.invariant.parts (c.minus.ensures ∙ ap (λ (y : ℤ). tenths_at xs to -ℤ y) c.flow_at-flow.ensures.value) in
    sfits-by w64 (ap (λ (x : ℤ). tenths_at (set xs to c.minus.result) from +ℤ x) c.flow_at-flow.ensures.value ∙ out-next cs p l _ from c.minus.result (from-is h l i e) (from-small h l i) entered)
    (near_fits w64 (omega arith) (near h l i passed c.args.filled.within (l + 1) (omega arith) from))

pub offset_bounds-parts-from-in-loop-l : goal.offset_bounds-parts-from-in-loop-l
offset_bounds-parts-from-in-loop-l c = omega (arith, from-in c.args.filled.hour.read c.loop-l.l c.loop-l-test.true c.link_at-link.ensures)

pub bounds-parts-from-in-loop-l : goal.bounds-parts-from-in-loop-l
bounds-parts-from-in-loop-l c = from-in c.args.filled.hour.read c.loop-l.l c.loop-l-test.true c.link_at-link.ensures

pub loop-l-preserved : goal.loop-l-preserved
unfolding plan_of
loop-l-preserved c =
    let h = c.args.filled.hour.read in
    let l = c.loop-l.l in
    let i = c.loop-l-test.true in
    let e = c.link_at-link.ensures in
    let to = c.link_at-link.result.to in
    let from = c.link_at-link.result.from in
    let xs = c.loop-l.parts in
    let cs = case_of c.args.filled.hour.case.bytes.now in
    let p = plan_of c.args.filled.hour.case.bytes.now c.args.filled.hour.proposal.now in
    let entered = in-set cs p l xs to c.minus.result (to-is h l i e) (to-small h l i) c.loop-l.invariant.parts (c.minus.ensures ∙ ap (λ (y : ℤ). tenths_at xs to -ℤ y) c.flow_at-flow.ensures.value) in
    record {
      within = first-later _ l c.loop-l.invariant.within (sym (answered h l i e c.flow_at-flow.ensures.value c.scaled_by_one.ensures c.of_volume.ensures c.lt.ensures) ∙ c.if-lt.false);
      parts = out-set cs p l _ from c.plus.result (from-is h l i e) (from-small h l i) entered
          (c.plus.ensures ∙ ap (λ (x : ℤ). tenths_at (set xs to c.minus.result) from +ℤ x) c.flow_at-flow.ensures.value);
    }

pub returns-clause-within : goal.returns-clause-within
returns-clause-within c = first-nowhere _ c.loop-l.l (omega (arith, links-is c.args.filled.hour.read)) (omega (arith, links-is c.args.filled.hour.read)) c.loop-l.invariant.within

pub returns-clause-parts : goal.returns-clause-parts
unfolding fb_part lta_part inflow outflow
returns-clause-parts c =
    let cs = case_of c.args.filled.hour.case.bytes.now in
    let p = plan_of c.args.filled.hour.case.bytes.now c.args.filled.hour.proposal.now in
    let e : c.loop-l.l ≡ cs.links = omega (arith, links-is c.args.filled.hour.read) in
    subst (λ (k : ℕ). TenthsHold (partly cs p k k) c.loop-l.parts) e c.loop-l.invariant.parts
