-- The Annex's extended formulation allows exactly the clearings of document 01. Every feasible solution is a
-- clearing (SOUND), and every clearing is a feasible solution (COMPLETE), with the same volumes, LTA flows and
-- share. So welfare and net positions are the same. Commercial flows may be confined to any lines that connect the
-- zones; the Annex's go between any two zones. Assumes nothing.
use Rattle.std.specs.Prelude.{◌≡◌, refl, Bool, true, false, not, T, eqb, nat_abs, ◌+ℤ◌, ◌-ℤ◌, ◌*ℤ◌, ◌≤ℤ◌}
use Rattle.std.proofs.Math.Path.{sym, ap}
use Rattle.std.proofs.Common.{subst, ◌∙◌, arith, eqb→eq, T_not}
use Rattle.std.proofs.Math.Option.{Option, none, some}
use Prim.Native.Nat.{ℕ, ◌*◌, ◌≤◌, ◌<◌}
use Rattle.std.proofs.Math.Dec.{eqb_refl}
use Rattle.std.proofs.Math.IntN.{ℤ, pos}
use Rattle.std.specs.Int.Signed.{≤ℤ_refl, yes_non_neg, pos-nat_abs}
use Rattle.base_integers.specs.Steps.Difference.{at, ◌⊕◌, ◌⊖◌, ◌⊗◌, le-by, eq-by, le-fact, eq-fact}
use Rattle.base_integers.specs.Steps.Ranges.{and_both, and_left, and_right}
use Rattle.base_integers.specs.Meaning.Sums.{sum_to, only}
use Rattle.base_integers.specs.Steps.Sums.{sum-ext, sum-zero, sum-add, sum-sub, sum-scale-l, sum-swap, sum_nonneg, sum-le, only-on, only-off, only-both, only-swap, sum_one, sum-key}
use Rattle.base_limits.specs.Meaning.Limits.{parts_in_one}
use Rattle.rules.specs.Meaning.Hour.{Case, Plan, signed, buys, order_net, net, inflow, outflow, lta_part, fb_part, net_sum, link_use, link_room, branch_use, branch_room, order_welfare, welfare}
use Rattle.rules.specs.Meaning.Clearing.{Placed, Clearing}
use Rattle.rules.specs.Meaning.Annex.{Solution, Feasible, PairsOnce, Connected, joins, by_pair, capacity_lta, net_flow, objective}
use Rattle.rules.specs.Meaning.AnnexPromise.{Same, Agree, IsClearing, IsFeasible}
use Rattle.rules.proofs.Steps.Duality.{signed-times}
use Rattle.base_causes.specs.Meaning.Causes.{first_below}
use Rattle.base_causes.proofs.Promised.CauseLaws.{first-is, not-below}
use Rattle.rules.proofs.Promised.Annex.CommercialFlows.{net-plain, net-sum, net-ext, Carried, balanced-carried}

-- LINKS BY ORDERED PAIR
joins-yes : (c : Case) (j l k : ℕ) → T (joins c j l k) → (c.from j ≡ l) × (c.to j ≡ k)
unfolding joins
joins-yes c j l k t = (eqb→eq (c.from j) l (and_left (eqb (c.from j) l) (eqb (c.to j) k) t), eqb→eq (c.to j) k (and_right (eqb (c.from j) l) (eqb (c.to j) k) t))

joins-own : (c : Case) (j : ℕ) → T (joins c j (c.from j) (c.to j))
unfolding joins
joins-own c j = and_both (eqb (c.from j) (c.from j)) (eqb (c.to j) (c.to j)) (eqb_refl (c.from j)) (eqb_refl (c.to j))

-- a pair of zones is that of a link, or of none
pub by-link : (c : Case) (P : ℕ → ℕ → Type 0) (l k : ℕ) → ((j : ℕ) → j < c.links → P (c.from j) (c.to j)) → (((j : ℕ) → j < c.links → T (not (joins c j l k))) → P l k) → P l k
by-link c P l k linked unlinked = by (first_below c.links (λ j. joins c j l k)) refl
  where
    by : (r : Option ℕ) → first_below c.links (λ j. joins c j l k) ≡ r → P l k
    by (some j) e =
        let g = first-is c.links (λ j. joins c j l k) j e in
        let own = joins-yes c j l k g.holds in
        subst (λ (z : ℕ). P l z) own.1 (subst (λ (z : ℕ). P z (c.to j)) own.0 (linked j g.place_in))
    by none e = unlinked (not-below c.links (λ j. joins c j l k) e)

-- the pair of a link has the link's amount
pub of-link : (c : Case) → PairsOnce c → (f : ℕ → ℤ) (j : ℕ) → j < c.links → by_pair c f (c.from j) (c.to j) ≡ f j
unfolding by_pair
of-link c o f j h =
    sum_one c.links j (λ i. only (joins c i (c.from j) (c.to j)) (f i)) h (λ i l ne. only-off (joins c i (c.from j) (c.to j)) (f i) (λ t. ne (sym (same i l (joins-yes c i (c.from j) (c.to j) t)))))
    ∙ only-on (joins c j (c.from j) (c.to j)) (f j) (joins-own c j)
  where
    same : (i : ℕ) → i < c.links → (c.from i ≡ c.from j) × (c.to i ≡ c.to j) → i ≡ j
    same i l e = o.once i j l h e.0 e.1

-- a pair without a link has zero
pub of_none : (c : Case) (f : ℕ → ℤ) (l k : ℕ) → ((j : ℕ) → j < c.links → T (not (joins c j l k))) → by_pair c f l k ≡ pos 0
unfolding by_pair
of_none c f l k no-link = sum-ext c.links _ (λ j. pos 0) (λ j h. only-off (joins c j l k) (f j) (T_not (joins c j l k) (no-link j h))) ∙ sum-zero c.links

module _ (c : Case) (ok : Placed c) where
  into-zone : (f : ℕ → ℤ) (z : ℕ) → sum_to c.zones (λ k. by_pair c f k z) ≡ sum_to c.links (λ j. only (eqb (c.to j) z) (f j))
  unfolding by_pair joins
  into-zone f z =
      sum-swap c.zones c.links (λ k j. only (joins c j k z) (f j))
      ∙ sum-ext c.links _ _ (λ j h. sum-ext c.zones _ _ (λ k g. only-both (eqb (c.from j) k) (eqb (c.to j) z) (f j)) ∙ sum-key c.zones (c.from j) (only (eqb (c.to j) z) (f j)) (ok.from-in j h))

  out-of-zone : (f : ℕ → ℤ) (z : ℕ) → sum_to c.zones (λ k. by_pair c f z k) ≡ sum_to c.links (λ j. only (eqb (c.from j) z) (f j))
  unfolding by_pair joins
  out-of-zone f z =
      sum-swap c.zones c.links (λ k j. only (joins c j z k) (f j))
      ∙ sum-ext c.links _ _ (λ j h. sum-ext c.zones _ _ (λ k g. only-both (eqb (c.from j) z) (eqb (c.to j) k) (f j) ∙ only-swap (eqb (c.from j) z) (eqb (c.to j) k) (f j)) ∙ sum-key c.zones (c.to j) (only (eqb (c.from j) z) (f j)) (ok.to-in j h))

  -- rule 2's LTA part is (71)'s sum over pairs
  lta-is : (p : Plan) (g : ℕ → ℕ → ℤ) → ((l k : ℕ) → l < c.zones → k < c.zones → g l k ≡ by_pair c (λ j. pos (p.flow j)) l k)
      → (z : ℕ) → z < c.zones → net_flow c.zones g z ≡ lta_part c p z
  unfolding lta_part inflow outflow
  lta-is p g e z h =
      net-ext c.zones g (by_pair c (λ j. pos (p.flow j))) e z h
      ∙ net-plain c.zones (by_pair c (λ j. pos (p.flow j))) z
      ∙ (cc (into-zone (λ j. pos (p.flow j)) z, out-of-zone (λ j. pos (p.flow j)) z))

-- a flow that is not negative, within a share of a capacity of zero, is zero
no_flow : (f a k : ℤ) → pos 0 ≤ℤ f → (pos parts_in_one *ℤ f) ≤ℤ (a *ℤ k) → k ≡ pos 0 → f ≡ pos 0
no_flow f a k h l e = eq-by (at f) (at (pos 0)) (omega (arith, le-fact (at (pos 0)) (at f) h, le-fact (at (pos parts_in_one) ⊗ at f) (at a ⊗ at (pos 0)) (rw e at l)))

module _ (c : Case) (ok : Placed c) (o : PairsOnce c) (p : Plan) (x : Solution) (same : Same c p x) (fe : Feasible c x) where
  -- the LTA flow of every pair is that of its link, or zero where there is none
  pub unlinked-zero : (l k : ℕ) → l < c.zones → k < c.zones → ((j : ℕ) → j < c.links → T (not (joins c j l k))) → x.flow_lta l k ≡ pos 0
  unfolding capacity_lta
  unlinked-zero l k hl hk g = no_flow (x.flow_lta l k) x.alpha2 (capacity_lta c l k) (fe.network.flowLTA-in l k hl hk) (fe.network.link l k hl hk) (of_none c (λ j. pos (c.capacity j)) l k g)

  pairs-are : (l k : ℕ) → l < c.zones → k < c.zones → x.flow_lta l k ≡ by_pair c (λ j. pos (p.flow j)) l k
  pairs-are l k hl hk = by-link c (λ l k. x.flow_lta l k ≡ by_pair c f l k) l k
      (λ j h. sym (same.flow j h) ∙ sym (of-link c o f j h))
      (λ g. unlinked-zero l k hl hk g ∙ sym (of_none c f l k g))
    where
      f : ℕ → ℤ
      f j = pos (p.flow j)

  pub agree : Agree c p x
  unfolding welfare order_welfare objective net order_net fb_part
  agree = record {
    welfare-is = ap (λ (z : ℤ). pos parts_in_one *ℤ z) (sum-ext c.orders _ _ (λ i h. signed-times (buys c i) (pos (p.volume i)) (c.price i) ∙ ap (λ (z : ℤ). signed (buys c i) z *ℤ c.price i) (same.volume i h)));
    net-is = net-same;
    lta-part-is = lta-same;
    fb-part-is = λ l h. rest (net c p l) (lta_part c p l) (x.netpos_fb l) (x.netpos_lta l) (net-same l h ∙ fe.network.netpos-is l h) (lta-same l h);
  }
    where
      net-same : (l : ℕ) → l < c.zones → net c p l ≡ x.netpos l
      net-same l h = sum-ext c.orders _ _ (λ i g. ap (λ (z : ℤ). only (eqb (c.zone i) l) (signed (buys c i) z)) (same.volume i g)) ∙ fe.orders-net l h

      lta-same : (l : ℕ) → l < c.zones → lta_part c p l ≡ x.netpos_lta l
      lta-same l h = sym (fe.network.netposLTA-is l h ∙ lta-is c ok p x.flow_lta pairs-are l h)

      rest : (a b f g : ℤ) → a ≡ f +ℤ g → b ≡ g → a -ℤ b ≡ f
      rest a b f g e d = eq-by (at a ⊖ at b) (at f) (omega (arith, eq-fact (at a) (at f ⊕ at g) e, eq-fact (at b) (at g) d))

  balanced : net_sum c p ≡ pos 0
  unfolding net_sum
  balanced =
      sum-ext c.zones (λ l. net c p l) (λ l. net_flow c.zones x.flow_fb l +ℤ net_flow c.zones x.flow_lta l) (λ l h.
      agree.net-is l h ∙ fe.network.netpos-is l h ∙ (cc (fe.network.netposFB-is l h, fe.network.netposLTA-is l h)))
      ∙ sum-add c.zones (λ l. net_flow c.zones x.flow_fb l) (λ l. net_flow c.zones x.flow_lta l)
      ∙ (cc (net-sum c.zones x.flow_fb, net-sum c.zones x.flow_lta))

  pub clears : Clearing c p
  unfolding link_use link_room branch_use branch_room capacity_lta
  clears = record {
    den-positive = omega (arith, same.den, fe.network.den-positive);
    volume-in = λ i h. volume-le (p.volume i) (x.accepted i) p.den x.den (c.quantity i) same.den (same.volume i h) (fe.accepted-in i h).1;
    without-links = λ e. none p.share x.alpha2 same.share (fe.network.no-LTA e);
    share-in = share-le p.share p.den x.alpha1 x.alpha2 x.den same.den same.share fe.network.alpha-sum fe.network.alpha-in.0;
    balance = balanced;
    link = λ j h. link-le (p.flow j) p.share (c.capacity j) (x.flow_lta (c.from j) (c.to j)) x.alpha2 (capacity_lta c (c.from j) (c.to j))
        (same.flow j h) same.share (of-link c o (λ j. pos (c.capacity j)) j h) (fe.network.link (c.from j) (c.to j) (ok.from-in j h) (ok.to-in j h));
    branch = λ m h. rw (
      sum-ext c.zones (λ l. c.ptdf m l *ℤ fb_part c p l) (λ l. c.ptdf m l *ℤ x.netpos_fb l) (λ l g. ap (λ (z : ℤ). c.ptdf m l *ℤ z) (agree.fb-part-is l g)),
      first-weight p.den x.den (pos p.share) x.alpha1 x.alpha2 same.den same.share fe.network.alpha-sum,
    )
        (fe.network.branch m h);
  }
    where
      volume-le : (v : ℕ) (a : ℤ) (e d q : ℕ) → e ≡ d → pos v ≡ a → a ≤ℤ pos (d * q) → v ≤ e * q
      volume-le v a e d q u w h = omega (arith, eq-fact (at (pos v)) (at a) w, le-fact (at a) (at (pos (d * q))) h, ap (λ (k : ℕ). k * q) u)

      none : (s : ℕ) (a : ℤ) → pos s ≡ a → a ≡ pos 0 → s ≡ 0
      none s a u w = omega (arith, eq-fact (at (pos s)) (at a) u, eq-fact (at a) (at (pos 0)) w)

      share-le : (s e : ℕ) (a b : ℤ) (d : ℕ) → e ≡ d → pos s ≡ b → a +ℤ b ≡ pos (parts_in_one * d) → pos 0 ≤ℤ a → s ≤ parts_in_one * e
      share-le s e a b d u w h l = omega (arith, eq-fact (at (pos s)) (at b) w, eq-fact (at a ⊕ at b) (at (pos (parts_in_one * d))) h, le-fact (at (pos 0)) (at a) l)

      link-le : (f s k : ℕ) (g a b : ℤ) → pos f ≡ g → pos s ≡ a → b ≡ pos k → (pos parts_in_one *ℤ g) ≤ℤ (a *ℤ b) → f * parts_in_one ≤ s * k
      link-le f s k g a b u w v h = omega (arith, le-fact (at (pos parts_in_one) ⊗ at (pos f)) (at (pos s) ⊗ at (pos k)) (rw (← u, ← w, v) at h))

      first-weight : (e d : ℕ) (s a b : ℤ) → e ≡ d → s ≡ b → a +ℤ b ≡ pos (parts_in_one * d) → pos (parts_in_one * e) -ℤ s ≡ a
      first-weight e d s a b u w h = eq-by (at (pos (parts_in_one * e)) ⊖ at s) (at a) (omega (arith, eq-fact (at s) (at b) w, eq-fact (at a ⊕ at b) (at (pos (parts_in_one * d))) h))

-- SOUND
unfoldable pub plan_from : Case → Solution → Plan
plan_from c x = record {
  den = x.den;
  share = nat_abs x.alpha2;
  volume = λ i. nat_abs (x.accepted i);
  flow = λ j. nat_abs (x.flow_lta (c.from j) (c.to j));
}

pub sound : (c : Case) → Placed c → PairsOnce c → (x : Solution) → Feasible c x → IsClearing c x
unfolding plan_from
sound c ok o x fe = record {
  plan = plan_from c x;
  clearing = clears c ok o (plan_from c x) x same fe;
  same = same;
  agree = agree c ok o (plan_from c x) x same fe;
}
  where
    size : (z : ℤ) → pos 0 ≤ℤ z → pos (nat_abs z) ≡ z
    size z h = pos-nat_abs z (yes_non_neg h)

    same : Same c (plan_from c x) x
    same = record {
      den = refl;
      share = size x.alpha2 fe.network.alpha-in.1;
      volume = λ i h. size (x.accepted i) (fe.accepted-in i h).0;
      flow = λ j h. size (x.flow_lta (c.from j) (c.to j)) (fe.network.flowLTA-in (c.from j) (c.to j) (ok.from-in j h) (ok.to-in j h));
    }

-- COMPLETE
-- the solution of a plan, where the commercial flows g carry the plan's flow-based parts
unfoldable pub solution_from : Case → Plan → (ℕ → ℕ → ℤ) → Solution
solution_from c p g = record {
  den = p.den;
  accepted = λ i. pos (p.volume i);
  netpos = net c p;
  netpos_fb = fb_part c p;
  netpos_lta = lta_part c p;
  flow = λ l k. g l k +ℤ by_pair c (λ j. pos (p.flow j)) l k;
  flow_fb = g;
  flow_lta = by_pair c (λ j. pos (p.flow j));
  alpha1 = pos (parts_in_one * p.den) -ℤ pos p.share;
  alpha2 = pos p.share;
}

module _ (c : Case) (ok : Placed c) (p : Plan) (cl : Clearing c p) where
  -- the flow-based parts sum to zero, since the net positions do and each LTA flow leaves one zone and enters another
  fb-balanced : sum_to c.zones (λ z. fb_part c p z) ≡ pos 0
  unfolding fb_part net_sum
  fb-balanced =
      sum-sub c.zones (λ z. net c p z) (λ z. lta_part c p z)
      ∙ (cc (cl.balance, sum-ext c.zones (λ z. lta_part c p z) (λ z. net_flow c.zones pairs z) (λ z h. sym (lta-is c ok p pairs (λ l k hl hk. refl) z h)), net-sum c.zones pairs))
    where
      pairs : ℕ → ℕ → ℤ
      pairs = by_pair c (λ j. pos (p.flow j))

  is-feasible : {line : ℕ → ℕ → Bool} (r : Carried c.zones line (fb_part c p)) → Feasible c (solution_from c p r.flow)
  unfolding solution_from net order_net fb_part link_use link_room branch_use branch_room capacity_lta by_pair
  is-feasible r = record {
    orders-net = λ l h. refl;
    accepted-in = λ i h. (le-by (at (pos 0)) (at (pos (p.volume i))) (omega arith), le-by (at (pos (p.volume i))) (at (pos (p.den * c.quantity i))) (omega (arith, cl.volume-in i h)));
    network = record {
      den-positive = cl.den-positive;
      netpos-is = λ l h. whole (net c p l) (lta_part c p l);
      flow-is = λ l k hl hk. refl;
      alpha-sum = back (pos (parts_in_one * p.den)) (pos p.share);
      alpha-in = (le-by (at (pos 0)) (at (pos (parts_in_one * p.den)) ⊖ at (pos p.share)) (omega (arith, cl.share-in)), le-by (at (pos 0)) (at (pos p.share)) (omega arith));
      no-LTA = λ e. ap pos (cl.without-links e);
      branch = cl.branch;
      netposFB-is = λ l h. sym (r.carries l h);
      flowFB-in = λ l k hl hk. r.flow-in l k;
      link = λ l k hl hk. rw (
        ← sum-scale-l c.links (λ j. only (joins c j l k) (pos (p.flow j))) (pos parts_in_one),
        ← sum-scale-l c.links (λ j. only (joins c j l k) (pos (c.capacity j))) (pos p.share),
      )
          (sum-le c.links _ _ (λ j h. pair-le (joins c j l k) (p.flow j) p.share (c.capacity j) (cl.link j h)));
      netposLTA-is = λ l h. sym (lta-is c ok p (by_pair c (λ j. pos (p.flow j))) (λ l k hl hk. refl) l h);
      flowLTA-in = λ l k hl hk. sum_nonneg c.links (λ j. only (joins c j l k) (pos (p.flow j))) (λ j h. pair-in (joins c j l k) (p.flow j));
    };
  }
    where
      whole : (a b : ℤ) → a ≡ (a -ℤ b) +ℤ b
      whole a b = eq-by (at a) ((at a ⊖ at b) ⊕ at b) (omega arith)

      back : (a b : ℤ) → (a -ℤ b) +ℤ b ≡ a
      back a b = eq-by ((at a ⊖ at b) ⊕ at b) (at a) (omega arith)

      pair-le : (b : Bool) (f s k : ℕ) → f * parts_in_one ≤ s * k → (pos parts_in_one *ℤ only b (pos f)) ≤ℤ (pos s *ℤ only b (pos k))
      pair-le true f s k h = le-by (at (pos parts_in_one) ⊗ at (pos f)) (at (pos s) ⊗ at (pos k)) (omega arith)
      pair-le false f s k h = le-by (at (pos parts_in_one) ⊗ at (pos 0)) (at (pos s) ⊗ at (pos 0)) (omega arith)

      pair-in : (b : Bool) (f : ℕ) → pos 0 ≤ℤ only b (pos f)
      pair-in true f = le-by (at (pos 0)) (at (pos f)) (omega arith)
      pair-in false f = ≤ℤ_refl (pos 0)

  pub complete : PairsOnce c → (line : ℕ → ℕ → Bool) → Connected c.zones line → IsFeasible c line p
  unfolding solution_from
  complete o line q = record {
    solution = solution_from c p r.flow;
    feasible = is-feasible r;
    same = same;
    agree = agree c ok o p (solution_from c p r.flow) same (is-feasible r);
    along-lines = record { elsewhere = λ l k hl hk t. r.elsewhere l k t };
  }
    where
      r : Carried c.zones line (fb_part c p)
      r = balanced-carried q (fb_part c p) fb-balanced

      same : Same c p (solution_from c p r.flow)
      same = record { den = refl; share = refl; volume = λ i h. refl; flow = λ j h. sym (of-link c o (λ j. pos (p.flow j)) j h) }
