-- A readable case and an accepted hour in the Annex's terms. The case's clearings are the solutions of (60) to
-- (72), and none has more than the reported welfare and gap together. The proposal is one of them; its prices are
-- those of (73) to (80), and its rent is the left side of (81). What is owed is at most the right side (S-4); in an
-- hour with a link (S-6) the rent covers it up to the gap. Assumes nothing.
use Rattle.std.specs.Prelude.{◌≡◌, refl, Bool, List, ℕ, ◌<◌, length, T, ℤ, pos, ◌+ℤ◌, ◌-ℤ◌, ◌*ℤ◌, ◌≤ℤ◌}
use Rattle.std.proofs.Common.{sym, ap, subst, ◌∙◌, arith}
use Rattle.base_integers.specs.Steps.Difference.{at, ◌⊖◌, ◌⊗◌, eq-by, eq-fact}
use Rattle.base_integers.specs.Meaning.Order.{positive}
use Rattle.base_integers.specs.Steps.Order.{scaled, le_trans}
use Rattle.base_integers.specs.Steps.Sums.{sum-ext}
use Rattle.rules.specs.Meaning.Hour.{Case, Plan, Prices, case_of, plan_of, prices_of, zone_price, welfare, spread, link_value, link_total, link_owed, owed, bound, gap}
use Rattle.rules.specs.Meaning.Clearing.{Placed, Clearing}
use Rattle.rules.specs.Meaning.Annex.{Solution, Feasible, PairsOnce, Connected, every_pair, capacity_lta, congestion_rent, liabilities}
use Rattle.rules.specs.Meaning.AnnexPromise.{IsClearing, IsFeasible, AnnexDemand3, multipliers_of}
use Rattle.rules.specs.Meaning.Verdict.{outcome, Readable}
use Rattle.rules.specs.Meaning.Report.{Reported, reports, buffer_after, reported_welfare, reported_gap, reported_rent, reported_price}
use Rattle.rules.proofs.Steps.Passed.{case-sound, case-pairs, sound}
use Rattle.rules.proofs.Promised.Reported.{reported}
use Rattle.rules.proofs.Promised.Guarantee.{Accepted, Demand3, demand-3, links-covered, owed-within}
use Rattle.rules.proofs.Promised.Annex.CommercialFlows.{every-pair-connected}
use Rattle.rules.proofs.Promised.Annex.Extended as extended
use Rattle.rules.proofs.Promised.Annex.AnnexPrices as prices

-- THE CLEARINGS OF A READABLE CASE are the solutions of (60) to (72), over any commercial lines that connect the zones
pub solution-clears : (s : List ℕ) → Readable s → (x : Solution) → Feasible (case_of s) x → IsClearing (case_of s) x
solution-clears s r x fe = extended.sound (case_of s) (case-sound s r).placed (case-pairs s r) x fe

pub clearing-solves : (s : List ℕ) → Readable s → (p : Plan) → Clearing (case_of s) p → (line : ℕ → ℕ → Bool) → Connected (case_of s).zones line → IsFeasible (case_of s) line p
clearing-solves s r p cl line q = extended.complete (case_of s) (case-sound s r).placed p cl (case-pairs s r) line q

-- a bound over a denominator, under other names for the bounded number and the denominator
same-bound : (b : ℤ) {v w : ℤ} {d e : ℕ} → w ≡ v → e ≡ d → w ≤ℤ (pos e *ℤ b) → v ≤ℤ (pos d *ℤ b)
same-bound b p q h = rw (← p, ← q) h

-- where each contracted volume is its link's capacity, owed is the link total
all-contracted : (c : Case) (d : Prices) → ((l : ℕ) → l < c.links → c.contracted l ≡ c.capacity l) → owed c d ≡ link_total c d
unfolding owed link_owed link_total link_value
all-contracted c d e = sum-ext c.links _ _ (λ l h. ap (λ (n : ℕ). pos n *ℤ positive (spread c d l)) (e l h))

pub annex-demand-3 : (s t buffer : List ℕ) → Accepted s t (length buffer) → AnnexDemand3 s t (buffer_after s t buffer)
unfolding reports multipliers_of plan_of gap congestion_rent liabilities
annex-demand-3 s t buffer a = record {
  is-feasible = proposal;
  welfare-is = sym proposal.agree.welfare-is ∙ sym r.welfare-at;
  is-accurate = λ x fe.
      let y = solution-clears s readable x fe in
      same-bound (reported_welfare (buffer_after s t buffer) +ℤ reported_gap (buffer_after s t buffer)) y.agree.welfare-is y.same.den (demand.is-accurate y.plan y.clearing);
  is-priced = prices.priced-of c every_pair (prices_of s t);
  price-is = r.price-at;
  is-complementary = λ z. prices.complementary c ok once (prices_of s t) (plan_of s t) demand.is-allowed proposal.solution proposal.same proposal.feasible (no_gap (welfare c (plan_of s t)) (bound c (prices_of s t)) (sym r.gap-at ∙ z));
  is-network-best = λ x nw. rw (r.rent-at, r.gap-at)
      (le_trans (rw (sum-ext c.zones (λ l. x.netpos l *ℤ reported_price (buffer_after s t buffer) l) (λ l. x.netpos l *ℤ zone_price c (prices_of s t) l) (λ l h. cc (r.price-at l h)))
      (prices.network-le c ok x nw (prices_of s t)))
      (scaled x.den (prices.rent-earns c ok (prices_of s t) (plan_of s t) demand.is-allowed refl)));
  rent-is = rent-here;
  owed-within = rw (r.owed-at, right_side) (owed-within s readable (prices_of s t));
  owed_all = λ e. r.owed-at ∙ all-contracted c (prices_of s t) e ∙ sym right_side;
  is-covered = λ linked. rw (rent-here, right_side, r.gap-at, r.rent-at) (links-covered s t (length buffer) a linked);
}
  where
    no_gap : (w b : ℤ) → b -ℤ w ≡ pos 0 → pos 1 *ℤ b ≡ w
    no_gap w b h = eq-by (at (pos 1) ⊗ at b) (at w) (omega (arith, eq-fact (at b ⊖ at w) (at (pos 0)) h))

    spreads : (z : ℤ) {a b u v : ℤ} → a ≡ u → b ≡ v → z *ℤ positive (a -ℤ b) ≡ z *ℤ positive (u -ℤ v)
    spreads z p q = λ i. z *ℤ positive (p i -ℤ q i)

    c : Case
    c = case_of s

    wrote : T (reports (outcome s t (length buffer)).number)
    wrote = subst (λ (n : ℕ). T (reports n)) (sym a.answer) tt

    readable : Readable s
    readable = (sound s t (length buffer) wrote).readable

    ok : Placed c
    ok = (case-sound s readable).placed

    once : PairsOnce c
    once = case-pairs s readable

    r : Reported (outcome s t (length buffer)).number c (plan_of s t) (prices_of s t) (buffer_after s t buffer)
    r = reported s t buffer wrote

    demand : Demand3 s t (buffer_after s t buffer)
    demand = demand-3 s t buffer a

    proposal : IsFeasible c every_pair (plan_of s t)
    proposal = clearing-solves s readable (plan_of s t) demand.is-allowed every_pair (every-pair-connected c.zones)

    rent-here : congestion_rent c proposal.solution (reported_price (buffer_after s t buffer)) ≡ reported_rent (buffer_after s t buffer)
    rent-here = sum-ext c.zones _ _ (λ l h. ap (λ (z : ℤ). proposal.solution.netpos l *ℤ z) (r.price-at l h)) ∙ prices.rent-is c (plan_of s t) proposal.solution proposal.agree (prices_of s t) ∙ sym r.rent-at

    right_side : liabilities c (reported_price (buffer_after s t buffer)) ≡ link_total c (prices_of s t)
    right_side =
        sum-ext c.zones _ _ (λ l h. sum-ext c.zones _ _ (λ k g. spreads (capacity_lta c l k) (r.price-at k g) (r.price-at l h)))
        ∙ prices.liabilities-are c ok (prices_of s t)
