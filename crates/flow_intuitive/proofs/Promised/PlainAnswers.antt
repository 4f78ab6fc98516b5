-- YES, NO AND THE TOTAL IN PLAIN NUMBERS (S-3, S-13), both ways, for every result that meets an entry's contract
-- with number 0. A yes is flows that leave each zone its net position. A no is a set of zones that no pair of
-- rising or equal price leaves and whose positions sum to more than zero. The total is the largest that any flows
-- carry. Pair k is the bytes 2 k and 2 k + 1, and `get_or xs z (pos 0)` is the number of zone z. Assumes nothing.
use Rattle.std.specs.Prelude.{◌≡◌, refl, ◌↔◌, Bool, true, false, List, ℕ, zero, suc, ◌+◌, ◌*◌, ◌/◌, ◌≤◌, ◌<◌, eqb, length, get_or, ℤ, pos, negsuc, neg_ℤ, ◌-ℤ◌, ◌*ℤ◌, ◌≤ℤ◌, ◌<ℤ◌}
use Rattle.std.proofs.Common.{sym, ap, subst, ◌∙◌, arith, ltb→lt, lt→ltb}
use Rattle.std.proofs.Math.Option.{none}
use Rattle.std.proofs.Math.Decide.{dec_lt}
use Rattle.base_integers.specs.Meaning.Difference.{up, dn}
use Rattle.base_integers.specs.Steps.Difference.{at, ◌⊖◌, ◌⊗◌, ⊝◌, eq-by, eq-fact, le-by, le-fact}
use Rattle.base_integers.specs.Meaning.Sums as whole
use Rattle.base_integers.specs.Meaning.Sums.{sum_to}
use Rattle.base_integers.specs.Meaning.NaturalSums.{sum_nat, only}
use Rattle.base_integers.specs.Steps.NaturalSums.{sum-ext, sum-parts}
use Rattle.base_causes.specs.declared.Outcome.{Outcome}
use Rattle.flow_pairs.specs.Meaning.Pairs.{pair_count, network_of}
use Rattle.flow_pairs.proofs.Promised.PlainPairs.{is-pair, pair-leads, pair-counts}
use Rattle.flow_pairs.proofs.Promised.Worth.{as-much-imported}
use Rattle.flow_network.specs.Meaning.Network.{Network, FeasibleAll, DeficientSet, Largest}
use Rattle.flow_network.proofs.Promised.Duality.{not-both, one-largest, yes-total, no-total}
use Rattle.flow_network.proofs.Promised.PlainFlows.{brought_to, taken_from, Routed, yes-routed, Shipped, largest-is}
use Rattle.flow_intuitive.specs.declared.Carried.{Carried}
use Rattle.flow_intuitive.specs.Meaning.Intuitive.{intuitive_refusal, IntuitiveAnswer}
use Rattle.flow_intuitive.proofs.Promised.Causes.{intuitive-none}
use Rattle.flow_intuitive.proofs.Steps.Sizes.{placed, balanced, pairs-even}

-- the flow into zone z along the pairs, and out of it
abbrev pub flows_in : List ℕ → (ℕ → ℕ) → ℕ → ℕ
flows_in pairs flow z = sum_nat (length pairs / 2) (λ k. only (eqb (get_or pairs (2 * k + 1) 0) z) (flow k))

abbrev pub flows_out : List ℕ → (ℕ → ℕ) → ℕ → ℕ
flows_out pairs flow z = sum_nat (length pairs / 2) (λ k. only (eqb (get_or pairs (2 * k) 0) z) (flow k))

-- PAIR k COUNTS: the price of its first zone is at most that of its second
abbrev pub Counts : List ℤ → List ℕ → ℕ → Type 0
Counts prices pairs k = get_or prices (get_or pairs (2 * k) 0) (pos 0) ≤ℤ get_or prices (get_or pairs (2 * k + 1) 0) (pos 0)

-- A YES: flows along pairs that count, such that each zone's net position is its outflow less its inflow
pub record Routes (net_exports prices : List ℤ) (pairs : List ℕ) : Type 0 where
  pub flow : ℕ → ℕ
  pub counts : (k : ℕ) → 2 * k < length pairs → 0 < flow k → Counts prices pairs k
  pub position-is : (z : ℕ) → z < length net_exports → get_or net_exports z (pos 0) ≡ pos (flows_out pairs flow z) -ℤ pos (flows_in pairs flow z)

-- A NO: zones that no pair that counts leaves, whose net positions sum to more than zero
pub record Enclosed (net_exports prices : List ℤ) (pairs : List ℕ) : Type 0 where
  pub set : ℕ → Bool
  pub none-leaves : (k : ℕ) → 2 * k < length pairs → Counts prices pairs k → set (get_or pairs (2 * k) 0) ≡ true → set (get_or pairs (2 * k + 1) 0) ≡ true
  pub exports-more : pos 0 <ℤ sum_to (length net_exports) (λ z. whole.only (set z) (get_or net_exports z (pos 0)))

-- FLOWS THAT CARRY u, in fractions over d (whole ones are those over 1). An exporting zone sends up to its
-- position, an importing one gets up to its own. In each zone what it sends and its inflow equal what it gets and
-- its outflow
pub record FlowsCarry (net_exports prices : List ℤ) (pairs : List ℕ) (d u : ℕ) : Type 0 where
  pub flow : ℕ → ℕ
  pub export-used : ℕ → ℕ
  pub import-used : ℕ → ℕ
  pub counts : (k : ℕ) → 2 * k < length pairs → 0 < flow k → Counts prices pairs k
  pub export-used-within : (z : ℕ) → z < length net_exports → 0 < export-used z → pos (export-used z) ≤ℤ (pos d *ℤ get_or net_exports z (pos 0))
  pub import-used-within : (z : ℕ) → z < length net_exports → 0 < import-used z → pos (import-used z) ≤ℤ (pos d *ℤ neg_ℤ (get_or net_exports z (pos 0)))
  pub zone-conserved : (z : ℕ) → z < length net_exports → export-used z + flows_in pairs flow z ≡ import-used z + flows_out pairs flow z
  pub total-is : sum_nat (length net_exports) export-used ≡ u

-- THE LARGEST TOTAL t: some flows carry it, and none carry more, not even in fractions
abbrev pub LargestCarried : List ℤ → List ℤ → List ℕ → ℕ → Type 0
LargestCarried net_exports prices pairs t = FlowsCarry net_exports prices pairs 1 t × ((d u : ℕ) → FlowsCarry net_exports prices pairs d u → u ≤ d * t)

-- the sum of all exports: the positive parts of the positions
abbrev pub every_export : List ℤ → ℕ
every_export net_exports = sum_nat (length net_exports) (λ z. up (get_or net_exports z (pos 0)))

clash : false ≡ true → ⊥
clash e = let z : ◌≡◌ {A = ℕ} 0 1 = cc in omega arith

-- a part of a position that is an export, and one that is an import
sends : (d s : ℕ) (x : ℤ) → (s ≤ d * up x) ↔ (0 < s → pos s ≤ℤ (pos d *ℤ x))
sends d s x = (out x, λ f. back f (dec_lt 0 s))
  where
    out : (x : ℤ) → s ≤ d * up x → 0 < s → pos s ≤ℤ (pos d *ℤ x)
    out (pos m) h l = le-by (at (pos s)) (at (pos d) ⊗ at (pos m)) (omega arith)
    out (negsuc m) h l = absurd (omega arith)

    back : (0 < s → pos s ≤ℤ (pos d *ℤ x)) → Dec (0 < s) → s ≤ d * up x
    back f (yes l) = omega (arith, le-fact (at (pos s)) (at (pos d) ⊗ at x) (f l))
    back f (no l) = omega arith

gets : (d s : ℕ) (x : ℤ) → (s ≤ d * dn x) ↔ (0 < s → pos s ≤ℤ (pos d *ℤ neg_ℤ x))
gets d s x = (out x, λ f. back f (dec_lt 0 s))
  where
    out : (x : ℤ) → s ≤ d * dn x → 0 < s → pos s ≤ℤ (pos d *ℤ neg_ℤ x)
    out (pos m) h l = absurd (omega arith)
    out (negsuc m) h l = le-by (at (pos s)) (at (pos d) ⊗ (⊝◌ (at (negsuc m)))) (omega arith)

    back : (0 < s → pos s ≤ℤ (pos d *ℤ neg_ℤ x)) → Dec (0 < s) → s ≤ d * dn x
    back f (yes l) = omega (arith, le-fact (at (pos s)) (at (pos d) ⊗ (⊝◌ (at x))) (f l))
    back f (no l) = omega arith

module _ (net_exports prices : List ℤ) (pairs : List ℕ) (n room : ℕ) (passed : intuitive_refusal net_exports prices pairs n room ≡ none) where
  abbrev c : Network
  c = network_of net_exports prices pairs

  pub two_bytes : (k : ℕ) → k < pair_count pairs → 2 * k + 1 < length pairs
  two_bytes k h = omega (arith, h, pairs-even net_exports prices pairs n room passed)

  pub count-is : pair_count pairs ≡ length pairs / 2
  count-is = omega (arith, pairs-even net_exports prices pairs n room passed)

  in_is : (flow : ℕ → ℕ) (z : ℕ) → brought_to c flow z ≡ flows_in pairs flow z
  in_is flow z = sum-ext (pair_count pairs) _ _ (λ k h. ap (λ (y : ℕ). only (eqb y z) (flow k)) (pair-leads net_exports prices pairs k (two_bytes k h)).1)
      ∙ ap (λ (m : ℕ). sum_nat m (λ k. only (eqb (get_or pairs (2 * k + 1) 0) z) (flow k))) count-is

  out-is : (flow : ℕ → ℕ) (z : ℕ) → taken_from c flow z ≡ flows_out pairs flow z
  out-is flow z = sum-ext (pair_count pairs) _ _ (λ k h. ap (λ (y : ℕ). only (eqb y z) (flow k)) (pair-leads net_exports prices pairs k (two_bytes k h)).0)
      ∙ ap (λ (m : ℕ). sum_nat m (λ k. only (eqb (get_or pairs (2 * k) 0) z) (flow k))) count-is

  pub counted : (flow : ℕ → ℕ) → ((k : ℕ) → k < c.pairs → c.counted k ≡ false → flow k ≡ 0) ↔ ((k : ℕ) → 2 * k < length pairs → 0 < flow k → Counts prices pairs k)
  counted flow = (λ f k h l. by k ((is-pair pairs k).1 h) l (c.counted k) refl (f k ((is-pair pairs k).1 h)), λ f k h e. zero-if k h e (f k ((is-pair pairs k).0 h)) (dec_lt 0 (flow k)))
    where
      by : (k : ℕ) → k < pair_count pairs → 0 < flow k → (b : Bool) → c.counted k ≡ b → (c.counted k ≡ false → flow k ≡ 0) → Counts prices pairs k
      by k h l true e f = (pair-counts net_exports prices pairs k (two_bytes k h)).0 e
      by k h l false e f = absurd (omega (arith, l, f e))

      zero-if : (k : ℕ) → k < pair_count pairs → c.counted k ≡ false → (0 < flow k → Counts prices pairs k) → Dec (0 < flow k) → flow k ≡ 0
      zero-if k h e f (yes l) = absurd (clash (sym e ∙ (pair-counts net_exports prices pairs k (two_bytes k h)).1 (f l)))
      zero-if k h e f (no l) = omega arith

  -- flows of the network
  routes : Routed c ↔ Routes net_exports prices pairs
  routes = (
    λ r. record {
      flow = r.flow;
      counts = (counted r.flow).0 r.counted-only;
      position-is = λ z l. eq-by (at (get_or net_exports z (pos 0))) (at (pos (flows_out pairs r.flow z)) ⊖ at (pos (flows_in pairs r.flow z))) (omega (arith, r.zone-conserved z l, in_is r.flow z, out-is r.flow z));
    },
    λ r. record {
      flow = r.flow;
      counted-only = (counted r.flow).1 r.counts;
      zone-conserved = λ z l. omega (arith, eq-fact (at (get_or net_exports z (pos 0))) (at (pos (flows_out pairs r.flow z)) ⊖ at (pos (flows_in pairs r.flow z))) (r.position-is z l), in_is r.flow z, out-is r.flow z);
    },
  )

  shipped : (d u : ℕ) → Shipped c d u ↔ FlowsCarry net_exports prices pairs d u
  shipped d u = (
    λ f. record {
      flow = f.flow;
      export-used = f.export-used;
      import-used = f.import-used;
      counts = (counted f.flow).0 f.counted-only;
      export-used-within = λ z l. (sends d (f.export-used z) (get_or net_exports z (pos 0))).0 (f.export-used-within z l);
      import-used-within = λ z l. (gets d (f.import-used z) (get_or net_exports z (pos 0))).0 (f.import-used-within z l);
      zone-conserved = λ z l. omega (arith, f.zone-conserved z l, in_is f.flow z, out-is f.flow z);
      total-is = f.total-is;
    },
    λ f. record {
      flow = f.flow;
      export-used = f.export-used;
      import-used = f.import-used;
      counted-only = (counted f.flow).1 f.counts;
      export-used-within = λ z l. (sends d (f.export-used z) (get_or net_exports z (pos 0))).1 (f.export-used-within z l);
      import-used-within = λ z l. (gets d (f.import-used z) (get_or net_exports z (pos 0))).1 (f.import-used-within z l);
      zone-conserved = λ z l. omega (arith, f.zone-conserved z l, in_is f.flow z, out-is f.flow z);
      total-is = f.total-is;
    },
  )

  -- more exported than imported in a set: the positions of its zones sum to more than zero
  parts : (set : ℕ → Bool) → up (sum_to (length net_exports) (λ z. whole.only (set z) (get_or net_exports z (pos 0)))) + sum_nat (length net_exports) (λ z. only (set z) (c.imports z))
      ≡ sum_nat (length net_exports) (λ z. only (set z) (c.exports z)) + dn (sum_to (length net_exports) (λ z. whole.only (set z) (get_or net_exports z (pos 0))))
  parts set =
      omega (
        arith,
        sum-parts (λ z. whole.only (set z) (get_or net_exports z (pos 0))) (length net_exports),
        sum-ext (length net_exports) (λ z. dn (whole.only (set z) (get_or net_exports z (pos 0)))) (λ z. only (set z) (c.imports z)) (λ z l. below (set z) (get_or net_exports z (pos 0))),
        sum-ext (length net_exports) (λ z. up (whole.only (set z) (get_or net_exports z (pos 0)))) (λ z. only (set z) (c.exports z)) (λ z l. above (set z) (get_or net_exports z (pos 0))),
      )
    where
      below : (b : Bool) (x : ℤ) → dn (whole.only b x) ≡ only b (dn x)
      below true x = refl
      below false x = refl

      above : (b : Bool) (x : ℤ) → up (whole.only b x) ≡ only b (up x)
      above true x = refl
      above false x = refl

  more : (s : ℤ) (i e : ℕ) → up s + i ≡ e + dn s → (i < e) ↔ (pos 0 <ℤ s)
  more (pos zero) i e q = (λ h. absurd (omega arith), λ h. absurd h.lt)
  more (pos (suc m)) i e q = (λ h. record { lt = lt→ltb 0 (suc m) (omega arith) }, λ h. omega arith)
  more (negsuc m) i e q = (λ h. absurd (omega arith), λ h. absurd h.lt)

  enclosed : DeficientSet c ↔ Enclosed net_exports prices pairs
  enclosed = (
    λ x. record {
      set = x.set;
      none-leaves = λ k h l e. let p = (is-pair pairs k).1 h in
          let to = pair-leads net_exports prices pairs k (two_bytes k p) in
          ap x.set (sym to.1) ∙ x.closed k p ((pair-counts net_exports prices pairs k (two_bytes k p)).1 l) (ap x.set to.0 ∙ e);
      exports-more = (more _ _ _ (parts x.set)).0 x.exceeds;
    },
    λ x. record {
      set = x.set;
      closed = λ k p l e. let to = pair-leads net_exports prices pairs k (two_bytes k p) in
          ap x.set to.1 ∙ x.none-leaves k ((is-pair pairs k).0 p) ((pair-counts net_exports prices pairs k (two_bytes k p)).0 l) (ap x.set (sym to.0) ∙ e);
      exceeds = (more _ _ _ (parts x.set)).1 x.exports-more;
    },
  )

-- FOR A RESULT THAT MEETS THE CONTRACT of either entry
module _ (net_exports prices : List ℤ) (pairs : List ℕ) (n : ℕ) (s : List ℤ) (r : Carried) (s' : List ℤ) (met : IntuitiveAnswer net_exports prices pairs n s r s') (taken : r.number ≡ 0) where
  passed : intuitive_refusal net_exports prices pairs n (length s) ≡ none
  passed = intuitive-none net_exports prices pairs n (length s) (sym (ap (λ (o : Outcome). o.number) met.outcome) ∙ taken)

  feasible-all : FeasibleAll (network_of net_exports prices pairs) ↔ Routes net_exports prices pairs
  feasible-all =
      let both = yes-routed (network_of net_exports prices pairs) (placed net_exports prices pairs n (length s) passed) (as-much-imported net_exports prices pairs (balanced net_exports prices pairs n (length s) passed)) in
      let plain = routes net_exports prices pairs n (length s) passed in
      (λ i. plain.0 (both.0 i), λ i. both.1 (plain.1 i))

  never : FeasibleAll (network_of net_exports prices pairs) → DeficientSet (network_of net_exports prices pairs) → ⊥
  never = not-both (network_of net_exports prices pairs) (placed net_exports prices pairs n (length s) passed)

  -- YES
  pub says-yes : (r.intuitive ≡ 1) ↔ Routes net_exports prices pairs
  says-yes = (λ y. feasible-all.0 (met.a-yes taken y), λ f. by (dec_lt 0 r.intuitive) (feasible-all.1 f))
    where
      by : Dec (0 < r.intuitive) → FeasibleAll (network_of net_exports prices pairs) → r.intuitive ≡ 1
      by (yes h) i = omega (arith, h, met.yes_or_no)
      by (no h) i = absurd (never i (met.a-no taken (omega arith)))

  -- NO
  pub says-no : (r.intuitive ≡ 0) ↔ Enclosed net_exports prices pairs
  says-no = (λ y. (enclosed net_exports prices pairs n (length s) passed).0 (met.a-no taken y), λ f. by (dec_lt 0 r.intuitive) ((enclosed net_exports prices pairs n (length s) passed).1 f))
    where
      by : Dec (0 < r.intuitive) → DeficientSet (network_of net_exports prices pairs) → r.intuitive ≡ 0
      by (yes h) x = absurd (never (met.a-yes taken (omega (arith, h, met.yes_or_no))) x)
      by (no h) x = omega arith

  -- THE TOTAL, in tenths
  pub says-total : (t : ℕ) → (r.total.0 ≡ pos t) ↔ LargestCarried net_exports prices pairs t
  says-total t = (
    λ e. let v = met.largest taken in
        let w = (largest-is (network_of net_exports prices pairs) t).0 (subst (λ (u : ℕ). Largest (network_of net_exports prices pairs) u) (ap up (sym v.is ∙ e)) v.largest) in
        ((plain 1 t).0 w.0, λ d u f. w.1 d u ((plain d u).1 f)),
    λ w. let v = met.largest taken in
        v.is ∙ ap pos (one-largest (network_of net_exports prices pairs) v.volume t v.largest ((largest-is (network_of net_exports prices pairs) t).1 ((plain 1 t).1 w.0, λ d u f. w.1 d u ((plain d u).0 f)))),
  )
    where
      plain : (d u : ℕ) → Shipped (network_of net_exports prices pairs) d u ↔ FlowsCarry net_exports prices pairs d u
      plain = shipped net_exports prices pairs n (length s) passed

  total-up : up r.total.0 ≡ (met.largest taken).volume
  total-up = ap up (met.largest taken).is

  yes-all : r.intuitive ≡ 1 → up r.total.0 ≡ every_export net_exports
  yes-all y = total-up ∙ yes-total (network_of net_exports prices pairs) (met.largest taken).volume (met.a-yes taken y) (met.largest taken).largest

  no_less : r.intuitive ≡ 0 → up r.total.0 < every_export net_exports
  no_less y = omega (arith, total-up, no-total (network_of net_exports prices pairs) (placed net_exports prices pairs n (length s) passed) (met.largest taken).volume (met.a-no taken y) (met.largest taken).largest)

  total-nat : r.total.0 ≡ pos (up r.total.0)
  total-nat = (met.largest taken).is ∙ ap pos (sym total-up)

  -- THE TOTAL OF A YES is the sum of all exports, and that of a no is less
  pub yes-is-all : (r.intuitive ≡ 1) ↔ (r.total.0 ≡ pos (every_export net_exports))
  yes-is-all = (λ y. total-nat ∙ ap pos (yes-all y), λ e. by (dec_lt 0 r.intuitive) e)
    where
      by : Dec (0 < r.intuitive) → r.total.0 ≡ pos (every_export net_exports) → r.intuitive ≡ 1
      by (yes h) e = omega (arith, h, met.yes_or_no)
      by (no h) e = absurd (omega (arith, no_less (omega arith), ap up e))

  pub no-is-less : (r.intuitive ≡ 0) ↔ (r.total.0 <ℤ pos (every_export net_exports))
  no-is-less = (
    λ y. subst (λ (x : ℤ). x <ℤ pos (every_export net_exports)) (sym total-nat) (record { lt = lt→ltb (up r.total.0) (every_export net_exports) (no_less y) }),
    λ l. by (dec_lt 0 r.intuitive) (ltb→lt (up r.total.0) (every_export net_exports) (subst (λ (x : ℤ). x <ℤ pos (every_export net_exports)) total-nat l).lt),
  )
    where
      by : Dec (0 < r.intuitive) → up r.total.0 < every_export net_exports → r.intuitive ≡ 0
      by (yes h) l = absurd (omega (arith, l, yes-all (omega (arith, h, met.yes_or_no))))
      by (no h) l = omega arith
