-- An accepted hour, as the stages after its judgement have it. Each of its shortfalls can be computed in 64 bits:
-- in whole microcents it is at most the gap. Assumes nothing.
use Rattle.std.specs.Prelude.{◌≡◌, List, ℕ, ◌*◌, ◌≤◌, ◌<◌, get_or, ℤ, pos, ◌-ℤ◌, ◌*ℤ◌, ◌≤ℤ◌}
use Rattle.std.proofs.Math.Path.{refl}
use Rattle.std.proofs.Common.{ap, arith}
use Rattle.std.proofs.Math.Dec.{T, ltb→lt}
use Rattle.std.specs.Int.Signed.{lt_z}
use Rattle.base_integers.specs.Steps.Difference.{at, ◌⊗◌, le-by, le-fact, eq-fact}
use Rattle.base_integers.specs.Steps.Size.{Near, near_le, near_sub, near_mul, near-sum, near-pos, near-unsigned, near_within}
use Rattle.base_integers.specs.Meaning.Machine.{SumsFit}
use Rattle.base_limits.specs.Meaning.Limits as limits
use Rattle.base_limits.specs.Meaning.Limits.{parts_in_one}
use Rattle.base_measures.specs.declared.Tenths.{Tenths}
use Rattle.rules.specs.Meaning.Hour.{Case, Plan, Prices, case_of, plan_of, prices_of, buys, above, fb_part, link_use, link_room, branch_use, branch_room, zone_price, surplus_of, order_surplus, spread, gap}
use Rattle.rules.proofs.Steps.Passed.{CaseSound}
use Rattle.rules.proofs.Promised.Fits.{in-grains, near-above, apart-prices, fbPart-near, branchUse-sums, flow-in, volumes-in}
use Rattle.case_header.specs.declared.Counts.{Counts}
use Rattle.proposal_file.specs.declared.ProposalOpening.{ProposalOpening}
use Rattle.base_measures.specs.Meaning.TenthsHold.{tenths_at}
use Rattle.proposal_file.specs.Steps.Read.{sound, share-is, share-in, shadow-in}
use Rattle.short_rules.specs.Meaning.Shortfalls.{earned, order_shortfall, branch_shortfall, link_shortfall}
use Rattle.short_single.specs.Steps.Short.{short_of, Shortable, order-as, branch-as, link-as}
use Rattle.short_single.specs.Meaning.HourAccepted.{HourAccepted}

-- the load of a zone's part on a branch with these PTDFs
abbrev pub load_on : List ℤ → List Tenths → ℕ → ℤ
load_on row parts z = get_or row z (pos 0) *ℤ tenths_at parts z

module _ {s t : List ℕ} {k : Counts} {opening : ProposalOpening} (j : HourAccepted s t k opening) where
  abbrev c : Case
  c = case_of s

  abbrev p : Plan
  p = plan_of s t

  abbrev d : Prices
  d = prices_of s t

  case-in : CaseSound (case_of s)
  case-in = sound j.read

  pub volume-in : (i : ℕ) → i < (case_of s).orders → (plan_of s t).volume i ≤ (case_of s).quantity i
  unfolding plan_of
  volume-in = volumes-in c p refl j.clearing

  pub flow-small : (l : ℕ) → l < (case_of s).links → (plan_of s t).flow l ≤ 100000
  flow-small l h = flow-in c case-in p (share-in j.read) l h (j.clearing.link l h)

  -- no shortfall is above the gap, and the gap is small
  small_of : {x y : ℤ} → x ≡ y → y ≤ℤ (pos parts_in_one *ℤ gap c p d) → x ≤ℤ pos 900000000000000000000000
  small_of e h = below _ _ (gap c p d) e h j.gap-small
    where
      below : (x y g : ℤ) → x ≡ y → y ≤ℤ (pos parts_in_one *ℤ g) → g ≤ℤ pos 1000000000000000 → x ≤ℤ pos 900000000000000000000000
      below x y g e h k = le-by (at x) (at (pos 900000000000000000000000)) (omega (
        arith,
        eq-fact (at x) (at y) e,
        le-fact (at y) (at (pos parts_in_one) ⊗ at g) h,
        le-fact (at g) (at (pos 1000000000000000)) k,
      ))

  -- ORDER i
  abbrev pub gain_of : ℕ → ℤ
  gain_of i = above (buys c i) (pos parts_in_one *ℤ c.price i) (zone_price c d (c.zone i))

  pub order_is : (i : ℕ) → short_of (pos (c.quantity i) *ℤ pos parts_in_one) (pos (p.volume i) *ℤ pos parts_in_one) (gain_of i) ≡ order_shortfall c p d i
  unfolding order_shortfall earned order_surplus surplus_of
  order_is i = order-as (c.quantity i) (p.volume i) (gain_of i)

  pub order-shortable : (i : ℕ) → i < c.orders → Shortable (pos (c.quantity i) *ℤ pos parts_in_one) (pos (p.volume i) *ℤ pos parts_in_one) (gain_of i)
  order-shortable i h = record {
    room-near = near_le (omega arith) (near_mul (near-unsigned (c.quantity i) 100000 (case-in.quantity-in i h)) (near-pos parts_in_one));
    used-near = near_le (omega arith) (near_mul (near-unsigned (p.volume i) 100000 (omega (arith, volume-in i h, case-in.quantity-in i h))) (near-pos parts_in_one));
    price-near = near_le (omega arith) (near-above (buys c i) _ _ (in-grains _ (case-in.price-in i h)) (j.prices-in.within _ (case-in.placed.zone-in i h)));
    used-in = le-by (at (pos (p.volume i)) ⊗ at (pos parts_in_one)) (at (pos (c.quantity i)) ⊗ at (pos parts_in_one)) (omega (arith, volume-in i h));
    turned-in = λ t. le-by (at (pos 0)) (at (pos (p.volume i)) ⊗ at (pos parts_in_one)) (omega arith);
    small = small_of (order_is i) (j.accounted.order-within i h);
  }

  -- BRANCH m
  pub rest-is : pos parts_in_one -ℤ opening.share.0 ≡ pos parts_in_one -ℤ pos (plan_of s t).share
  rest-is = ap (λ (x : ℤ). pos parts_in_one -ℤ x) (share-is j.read)

  pub rest-near : Near 200000 (pos parts_in_one -ℤ pos (plan_of s t).share)
  rest-near = near_sub (near-pos parts_in_one) (near-unsigned (plan_of s t).share 100000 (share-in j.read))

  pub branch-is : (m : ℕ) → short_of (branch_room c p m) (branch_use c p m) (pos parts_in_one *ℤ pos (d.shadow m)) ≡ branch_shortfall c p d m
  unfolding branch_shortfall
  branch-is m = branch-as (d.shadow m) (branch_room c p m) (branch_use c p m)

  pub loads-fit : (m : ℕ) → m < c.branches → SumsFit (λ z. c.ptdf m z *ℤ fb_part c p z) c.zones
  loads-fit m h = branchUse-sums c case-in p volume-in flow-small m h

  pub branch-shortable : (m : ℕ) → m < c.branches → Shortable (branch_room c p m) (branch_use c p m) (pos parts_in_one *ℤ pos (d.shadow m))
  unfolding branch_room branch_use plan_of
  branch-shortable m h = record {
    room-near = near_le (omega arith) (near_mul rest-near (near_within 500000 limits.margin (c.ram m) (omega arith) (omega arith) (case-in.ram-in m h)));
    used-near = near_le (omega (arith, case-in.zones-in.1)) (near-sum c.zones 12800000000000 _
        (λ z l. near_mul (near_within 200000 limits.ptdf (c.ptdf m z) (omega arith) (omega arith) (case-in.ptdf-in m z h l)) (fbPart-near c case-in p volume-in flow-small z)));
    price-near = near_le (omega arith) (near_mul (near-pos parts_in_one) (near-unsigned (d.shadow m) 1000000 (shadow-in j.read m h)));
    used-in = j.clearing.branch m h;
    turned-in = λ t. absurd (above_zero (parts_in_one * d.shadow m) t);
    small = small_of (branch-is m) (j.accounted.branch-within m h);
  }
    where
      above_zero : (n : ℕ) → T (lt_z (pos n) (pos 0)) → ⊥
      above_zero n t = omega (arith, ltb→lt n 0 t)

  -- LINK l
  pub link-is : (l : ℕ) → short_of (pos p.share *ℤ pos (c.capacity l)) (pos (p.flow l) *ℤ pos parts_in_one) (spread c d l) ≡ link_shortfall c p d l
  unfolding link_shortfall
  link-is l = link-as (c.capacity l) p.share (p.flow l) (spread c d l)

  pub spread-near : (l : ℕ) → l < c.links → Near 45000000000 (spread c d l)
  unfolding spread
  spread-near l h = apart-prices _ _ (j.prices-in.within _ (case-in.placed.to-in l h)) (j.prices-in.within _ (case-in.placed.from-in l h))

  pub link-shortable : (l : ℕ) → l < c.links → Shortable (pos p.share *ℤ pos (c.capacity l)) (pos (p.flow l) *ℤ pos parts_in_one) (spread c d l)
  unfolding link_use link_room
  link-shortable l h = record {
    room-near = near_le (omega arith) (near_mul (near-unsigned p.share 100000 (share-in j.read)) (near-unsigned (c.capacity l) 100000 (case-in.capacity-in l h)));
    used-near = near_le (omega arith) (near_mul (near-unsigned (p.flow l) 100000 (flow-small l h)) (near-pos parts_in_one));
    price-near = near_le (omega arith) (spread-near l h);
    used-in = le-by (at (pos (p.flow l)) ⊗ at (pos parts_in_one)) (at (pos p.share) ⊗ at (pos (c.capacity l))) (omega (arith, j.clearing.link l h));
    turned-in = λ t. le-by (at (pos 0)) (at (pos (p.flow l)) ⊗ at (pos parts_in_one)) (omega arith);
    small = small_of (link-is l) (j.accounted.link-within l h);
  }
