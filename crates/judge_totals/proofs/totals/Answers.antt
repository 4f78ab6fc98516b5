-- Each total is its rule's, and all fit 64 bits.
use Rattle.std.proofs.Common.{◌≡◌, List, ℕ, cond, eqb, ◌∙◌, arith, ℤ, ◌+ℤ◌, ◌-ℤ◌, SFits}
use Rattle.std.specs.Int.{w64}
use Rattle.base_integers.specs.Meaning.Order.{larger}
use Rattle.base_integers.specs.Steps.Size.{near_fits}
use Rattle.base_integers.specs.Steps.Machine.{sfits-by}
use Rattle.rules.specs.Meaning.Hour.{case_of, plan_of, prices_of, surplus, branch_total, link_total, welfare, no_link, network_bound, bound, gap}
use Rattle.rules.specs.Meaning.Report.{totals_of}
use Rattle.rules.proofs.Promised.Fits.{system-near, bound-near, gap-near}
use Rattle.case_header.specs.declared.Counts.{Counts}
use Rattle.proposal_file.specs.declared.ProposalOpening.{ProposalOpening}
use Rattle.proposal_file.specs.Meaning.Read.{HourReadFrom}
use Rattle.proposal_file.specs.Meaning.InRange.{VolumesInRange}
use Rattle.proposal_file.specs.Steps.Read.{sound, links-is, shadow-in}
use Rattle.report_file.specs.Meaning.Prices.{PricesInRange}
use Rattle.judge_totals.proofs.totals.Goals as goal

-- rule 10's part of the network, by the count of links
abbrev taken : ℕ → ℤ → ℤ → ℤ
taken n x y = cond (eqb n 0) x (larger x y)

module _ {s t : List ℕ} {counts : Counts} {opening : ProposalOpening} (h : HourReadFrom s t counts opening) {branches links network surpluses : ℤ} (b : branches ≡ branch_total (case_of s) (prices_of s t)) (l : links ≡ link_total (case_of s) (prices_of s t))
    (n : network ≡ taken counts.links branches links) (q : surpluses ≡ surplus (case_of s) (prices_of s t)) where
  -- the bound and the gap as the machine adds them
  bound-of : surpluses +ℤ network ≡ bound (case_of s) (prices_of s t)
  unfolding bound network_bound no_link
  bound-of = λ j. q j +ℤ (n ∙ (λ i. taken (links-is h i) (b i) (l i))) j

  bound-fits : PricesInRange (case_of s) (prices_of s t) → SFits w64 (surpluses +ℤ network)
  bound-fits r = sfits-by w64 bound-of (near_fits w64 (omega arith) (bound-near _ (sound h) _ (system-near s t) (shadow-in h) r.within))

  module _ {x w : ℤ} (e : x ≡ surpluses +ℤ network) (v : w ≡ welfare (case_of s) (plan_of s t)) where
    gap-of : x -ℤ w ≡ gap (case_of s) (plan_of s t) (prices_of s t)
    unfolding gap
    gap-of = λ j. (e ∙ bound-of) j -ℤ v j

    gap-fits : PricesInRange (case_of s) (prices_of s t) → VolumesInRange (case_of s) (plan_of s t) → SFits w64 (x -ℤ w)
    gap-fits r k = sfits-by w64 gap-of (near_fits w64 (omega arith) (gap-near _ (sound h) _ (system-near s t) (shadow-in h) r.within _ k.within))

pub plus-bound-requires : goal.plus-bound-requires
plus-bound-requires c = bound-fits c.args.priced.hour.read c.requires.on_branches_value c.link_totals.ensures.total c.network_bound-network.ensures c.surpluses.ensures c.args.priced.in_range

pub minus-gap-requires : goal.minus-gap-requires
minus-gap-requires c =
    gap-fits c.args.priced.hour.read c.requires.on_branches_value c.link_totals.ensures.total c.network_bound-network.ensures c.surpluses.ensures
    c.plus-bound.ensures c.requires.total_welfare_value c.args.priced.in_range c.requires.volumes_in_range

pub returns : goal.returns
unfolding totals_of
returns c =
    let h = c.args.priced.hour.read in
    let b = c.requires.on_branches_value in
    let l = c.link_totals.ensures.total in
    let n = c.network_bound-network.ensures in
    let q = c.surpluses.ensures in
    λ j. record {
      welfare = c.requires.total_welfare_value j;
      bound = (c.plus-bound.ensures ∙ bound-of h b l n q) j;
      gap = (c.minus-gap.ensures ∙ gap-of h b l n q c.plus-bound.ensures c.requires.total_welfare_value) j;
      rent = c.requires.congestion_value j;
      owed = c.link_totals.ensures.owed j;
    }
