-- The parent is an order, and the two products are the row's.
use Rattle.std.proofs.Common.{◌≡◌, List, ℕ, ◌<◌, ap, sym, ◌∙◌, arith, ℤ, pos, ◌*ℤ◌, SFits}
use Rattle.std.specs.Int.{w64}
use Rattle.rules.specs.Meaning.Layout.{volume_in}
use Rattle.rules.specs.Meaning.Hour.{case_of, plan_of}
use Rattle.rules.specs.Meaning.Verdict.{exceeds_parent}
use Rattle.rules.proofs.Steps.Passed.{case-sound}
use Rattle.book_order.specs.declared.Order.{Order}
use Rattle.case_header.specs.declared.Counts.{Counts}
use Rattle.case_orders.specs.Meaning.Order.{order_of}
use Rattle.proposal_file.specs.Meaning.ProposalValid.{ProposalValid}
use Rattle.proposal_file.specs.Meaning.InRange.{VolumesInRange}
use Rattle.family_fractions.specs.Steps.Fraction.{product-fits, fraction-test}
use Rattle.family_fractions.proofs.exceeds_parent.Goals as goal

module _ {s t : List ℕ} {k : Counts} (p : ProposalValid s k t) where
  all_in : (i : ℕ) → i < k.orders → i < (case_of s).orders
  unfolding case_of
  all_in i h = omega (arith, ap (λ (k : Counts). k.orders) p.opened.counts)

  -- the product of a volume and a quantity
  fits : VolumesInRange (case_of s) (plan_of s t) → (i j : ℕ) → i < k.orders → j < k.orders → {x : ℤ} {o : Order} → x ≡ pos (volume_in s t i) → o ≡ order_of s j → SFits w64 (x *ℤ o.quantity.0)
  unfolding case_of plan_of
  fits v i j h l e q =
      product-fits (case_of s) (plan_of s t) (case-sound s p.opened.readable) v i j (all_in i h) (all_in j l) e (ap (λ (o : Order). o.quantity.0) q)

pub returns-in_default : goal.returns-in_default
returns-in_default c = sym (ap (exceeds_parent (case_of c.args.listed.filled.hour.case.bytes.now) (plan_of c.args.listed.filled.hour.case.bytes.now c.args.listed.filled.hour.proposal.now) c.args.i) (sym c.in_default.ensures))

pub order_at-above-requires : goal.order_at-above-requires
order_at-above-requires c = omega (arith, c.args.listed.families.readable.exist.exists c.args.i c.in-Some.parent c.requires.i_lt_orders (sym c.in-Some.ensures))

pub volume_at-parent_volume-requires : goal.volume_at-parent_volume-requires
volume_at-parent_volume-requires c = omega (arith, c.args.listed.families.readable.exist.exists c.args.i c.in-Some.parent c.requires.i_lt_orders (sym c.in-Some.ensures))

pub greater_part-requires-clause-sfits : goal.greater_part-requires-clause-sfits
greater_part-requires-clause-sfits c =
    let parent-in = c.args.listed.families.readable.exist.exists c.args.i c.in-Some.parent c.requires.i_lt_orders (sym c.in-Some.ensures) in
    fits c.args.listed.filled.hour.read.proposed c.args.listed.filled.within c.in-Some.parent c.args.i (omega arith) (omega arith) c.volume_at-parent_volume.ensures c.order_at-child.ensures

pub greater_part-requires-clause-sfits_2 : goal.greater_part-requires-clause-sfits_2
greater_part-requires-clause-sfits_2 c =
    let parent-in = c.args.listed.families.readable.exist.exists c.args.i c.in-Some.parent c.requires.i_lt_orders (sym c.in-Some.ensures) in
    fits c.args.listed.filled.hour.read.proposed c.args.listed.filled.within c.args.i c.in-Some.parent (omega arith) (omega arith) c.volume_at-volume.ensures c.order_at-above.ensures

pub returns : goal.returns
unfolding case_of plan_of
returns c =
    let cs = case_of c.args.listed.filled.hour.case.bytes.now in
    let p = plan_of c.args.listed.filled.hour.case.bytes.now c.args.listed.filled.hour.proposal.now in
    c.greater_part.ensures
    ∙ fraction-test cs p c.args.i c.in-Some.parent c.volume_at-parent_volume.ensures (ap (λ (o : Order). o.quantity.0) c.order_at-child.ensures) c.volume_at-volume.ensures (ap (λ (o : Order). o.quantity.0) c.order_at-above.ensures)
    ∙ ap (exceeds_parent cs p c.args.i) c.in-Some.ensures
