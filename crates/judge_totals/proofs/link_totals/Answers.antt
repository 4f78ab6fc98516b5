-- Each link is one of the case's, at the spread of its zones' prices; the sums so far fit.
use Rattle.std.proofs.Common.{◌≡◌, List, ℕ, ◌≤◌, ◌<◌, refl, ap, sym, ◌∙◌, arith, ℤ, pos, ◌-ℤ◌, ◌*ℤ◌, SFits}
use Rattle.std.specs.Int.{w64}
use Rattle.base_integers.specs.Meaning.Sums.{sum_to}
use Rattle.base_integers.specs.Meaning.Machine.{SumsFit}
use Rattle.base_integers.specs.Meaning.Order.{positive}
use Rattle.base_integers.specs.Steps.Order.{times-positive}
use Rattle.base_integers.specs.Steps.Size.{near_fits, near_mul, near-unsigned}
use Rattle.base_integers.specs.Steps.Machine.{step, step_fits, sfits-by}
use Rattle.base_measures.specs.declared.Grains.{Grains}
use Rattle.rules.specs.Meaning.Layout.{contracted_in}
use Rattle.rules.specs.Meaning.Hour.{case_of, prices_of, spread, link_value, link_total, link_owed, owed}
use Rattle.rules.proofs.Promised.Fits.{system-near, apart-prices, linkTotal-sums, owed-sums}
use Rattle.case_links.specs.declared.Link.{Link}
use Rattle.case_links.specs.Meaning.Link.{link_of}
use Rattle.case_header.specs.declared.Counts.{Counts}
use Rattle.proposal_file.specs.declared.ProposalOpening.{ProposalOpening}
use Rattle.proposal_file.specs.Meaning.Read.{HourReadFrom}
use Rattle.proposal_file.specs.Steps.Read.{sound, links-is, shadow-in}
use Rattle.report_file.specs.Meaning.Prices.{grains_at, PricesHold, PricesInRange}
use Rattle.judge_totals.proofs.link_totals.Goals as goal

module _ {s t : List ℕ} {counts : Counts} {opening : ProposalOpening} (h : HourReadFrom s t counts opening) where
  totals-fit : PricesInRange (case_of s) (prices_of s t) → SumsFit (λ j. link_value (case_of s) (prices_of s t) j) (case_of s).links
  totals-fit r = linkTotal-sums _ (sound h) _ (system-near s t) (shadow-in h) r.within

  owed-fit : PricesInRange (case_of s) (prices_of s t) → SumsFit (λ j. link_owed (case_of s) (prices_of s t) j) (case_of s).links
  owed-fit r = owed-sums _ (sound h) _ (system-near s t) (shadow-in h) r.within

  -- LINK l OF THE HOUR, as it was read
  module _ (l : ℕ) (i : l < counts.links) where
    inside : l < (case_of s).links
    inside = omega (arith, links-is h)

    to-known : (case_of s).to l < (case_of s).zones
    to-known = (sound h).placed.to-in l inside

    from-known : (case_of s).from l < (case_of s).zones
    from-known = (sound h).placed.from-in l inside

    contracted-most : (case_of s).contracted l ≤ 100000
    contracted-most = omega (arith, (sound h).contracted-in l inside, (sound h).capacity-in l inside)

    module _ {k : Link} (e : k ≡ link_of s l) where
      to-is : k.to ≡ (case_of s).to l
      unfolding case_of
      to-is = ap (λ (x : Link). x.to) e

      from-is : k.from ≡ (case_of s).from l
      unfolding case_of
      from-is = ap (λ (x : Link). x.from) e

      capacity-is : k.capacity.0 ≡ pos ((case_of s).capacity l)
      unfolding case_of
      capacity-is = ap (λ (x : Link). x.capacity.0) e

      to-in : k.to < 16
      to-in = omega (arith, to-is, to-known, (sound h).zones-in.1)

      from-in : k.from < 16
      from-in = omega (arith, from-is, from-known, (sound h).zones-in.1)

      -- AT ITS SPREAD
      module _ {prices : List Grains} (p : PricesHold (case_of s) (prices_of s t) prices) where
        spread-is : grains_at prices k.to -ℤ grains_at prices k.from ≡ spread (case_of s) (prices_of s t) l
        unfolding spread
        spread-is = λ j. (ap (grains_at prices) to-is ∙ p.each _ to-known) j -ℤ (ap (grains_at prices) from-is ∙ p.each _ from-known) j

        spread-fits : PricesInRange (case_of s) (prices_of s t) → SFits w64 (grains_at prices k.to -ℤ grains_at prices k.from)
        unfolding spread
        spread-fits r = sfits-by w64 spread-is (near_fits w64 (omega arith) (apart-prices _ _ (r.within _ to-known) (r.within _ from-known)))

        module _ {m x : ℤ} {n : ℕ} (q : m ≡ grains_at prices k.to -ℤ grains_at prices k.from) (v : x ≡ pos n) where
          -- a volume of at most 100,000 tenths
          volume-fits : PricesInRange (case_of s) (prices_of s t) → n ≤ 100000 → SFits w64 (x *ℤ m)
          unfolding spread
          volume-fits r few =
              sfits-by w64 (λ j. v j *ℤ (q ∙ spread-is) j) (near_fits w64 (omega arith) (near_mul (near-unsigned n 100000 few)
              (apart-prices _ _ (r.within _ to-known) (r.within _ from-known))))

          -- its product, or zero where that is negative
          volume-term : {y z : ℤ} → y ≡ x *ℤ m → z ≡ positive y → z ≡ pos n *ℤ positive (spread (case_of s) (prices_of s t) l)
          volume-term f g = g ∙ ap positive (f ∙ (λ j. v j *ℤ (q ∙ spread-is) j)) ∙ sym (times-positive n (spread (case_of s) (prices_of s t) l))

    contracted-is : {x : ℤ} → x ≡ pos (contracted_in s l) → x ≡ pos ((case_of s).contracted l)
    unfolding case_of
    contracted-is q = q

pub loop-l-init : goal.loop-l-init
unfolding sum_to
loop-l-init c = record { total = refl; owed = refl }

pub offset_bounds-priced-to : goal.offset_bounds-priced-to
offset_bounds-priced-to c = omega (arith, to-in c.args.priced.hour.read c.loop-l.l c.loop-l-test.true c.link_at-link.ensures)

pub bounds-priced-to : goal.bounds-priced-to
bounds-priced-to c = to-in c.args.priced.hour.read c.loop-l.l c.loop-l-test.true c.link_at-link.ensures

pub offset_bounds-priced-from : goal.offset_bounds-priced-from
offset_bounds-priced-from c = omega (arith, from-in c.args.priced.hour.read c.loop-l.l c.loop-l-test.true c.link_at-link.ensures)

pub bounds-priced-from : goal.bounds-priced-from
bounds-priced-from c = from-in c.args.priced.hour.read c.loop-l.l c.loop-l-test.true c.link_at-link.ensures

pub minus-spread-requires : goal.minus-spread-requires
minus-spread-requires c = spread-fits c.args.priced.hour.read c.loop-l.l c.loop-l-test.true c.link_at-link.ensures c.args.priced.hold c.args.priced.in_range

pub cost-requires : goal.cost-requires
cost-requires c =
    let h = c.args.priced.hour.read in
    let l = c.loop-l.l in
    let i = c.loop-l-test.true in
    let e = c.link_at-link.ensures in
    volume-fits h l i e c.args.priced.hold c.minus-spread.ensures (capacity-is h l i e) c.args.priced.in_range ((sound h).capacity-in l (inside h l i))

pub plus-total-requires : goal.plus-total-requires
unfolding link_value
plus-total-requires c =
    let h = c.args.priced.hour.read in
    let l = c.loop-l.l in
    let i = c.loop-l-test.true in
    let e = c.link_at-link.ensures in
    step_fits (totals-fit h c.args.priced.in_range) l (inside h l i) c.loop-l.invariant.total
    (volume-term h l i e c.args.priced.hold c.minus-spread.ensures (capacity-is h l i e) c.cost.ensures c.positive.ensures)

pub cost-requires-in-loop-l : goal.cost-requires-in-loop-l
cost-requires-in-loop-l c =
    let h = c.args.priced.hour.read in
    let l = c.loop-l.l in
    let i = c.loop-l-test.true in
    volume-fits h l i c.link_at-link.ensures c.args.priced.hold c.minus-spread.ensures (contracted-is h l i c.contracted_at-contracted.ensures) c.args.priced.in_range (contracted-most h l i)

pub plus-owed-requires : goal.plus-owed-requires
unfolding link_owed
plus-owed-requires c =
    let h = c.args.priced.hour.read in
    let l = c.loop-l.l in
    let i = c.loop-l-test.true in
    step_fits (owed-fit h c.args.priced.in_range) l (inside h l i) c.loop-l.invariant.owed
    (volume-term h l i c.link_at-link.ensures c.args.priced.hold c.minus-spread.ensures (contracted-is h l i c.contracted_at-contracted.ensures) c.cost-in-loop-l.ensures c.positive-in-loop-l.ensures)

pub loop-l-preserved : goal.loop-l-preserved
unfolding link_value link_owed
loop-l-preserved c =
    let h = c.args.priced.hour.read in
    let l = c.loop-l.l in
    let i = c.loop-l-test.true in
    let e = c.link_at-link.ensures in
    record {
      total = step (totals-fit h c.args.priced.in_range) l c.loop-l.invariant.total
          (volume-term h l i e c.args.priced.hold c.minus-spread.ensures (capacity-is h l i e) c.cost.ensures c.positive.ensures) c.plus-total.ensures;
      owed = step (owed-fit h c.args.priced.in_range) l c.loop-l.invariant.owed
          (volume-term h l i e c.args.priced.hold c.minus-spread.ensures (contracted-is h l i c.contracted_at-contracted.ensures) c.cost-in-loop-l.ensures c.positive-in-loop-l.ensures) c.plus-owed.ensures;
    }

pub returns-clause-total : goal.returns-clause-total
unfolding link_total
returns-clause-total c =
    let cs = case_of c.args.priced.hour.case.bytes.now in
    let d = prices_of c.args.priced.hour.case.bytes.now c.args.priced.hour.proposal.now in
    let e : c.loop-l.l ≡ cs.links = omega (arith, links-is c.args.priced.hour.read) in
    c.loop-l.invariant.total ∙ ap (λ (n : ℕ). sum_to n (λ j. link_value cs d j)) e

pub returns-clause-owed : goal.returns-clause-owed
unfolding owed
returns-clause-owed c =
    let cs = case_of c.args.priced.hour.case.bytes.now in
    let d = prices_of c.args.priced.hour.case.bytes.now c.args.priced.hour.proposal.now in
    let e : c.loop-l.l ≡ cs.links = omega (arith, links-is c.args.priced.hour.read) in
    c.loop-l.invariant.owed ∙ ap (λ (n : ℕ). sum_to n (λ j. link_owed cs d j)) e
