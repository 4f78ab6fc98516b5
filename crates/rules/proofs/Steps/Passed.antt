-- What the rows of the table leave where they pass: every limit of a readable case and of a proposal, and a
-- clearing of the case. Assumes nothing.
use Rattle.std.specs.Prelude.{◌≡◌, Bool, true, false, not, ◌&&◌, ◌||◌, List, [], ◌∷◌, ℕ, suc, ◌+◌, ◌*◌, ◌≤◌, ◌<◌, length, T, pos, ◌≤ℤ◌}
use Rattle.std.proofs.Math.Path.{refl, ap}
use Rattle.std.proofs.Common.{sym, subst, arith}
use Rattle.std.proofs.Math.Option.{none}
use Rattle.std.proofs.Math.Decide.{dec_lt}
use Rattle.std.proofs.Math.Dec.{eqb, eqb→eq, eqb_refl, T_not, nleb→lt, nltb→le}
use Rattle.std.specs.Int.Signed.{lt_z_no}
use Rattle.base_integers.specs.Meaning.Ranges.{Within, is_zero}
use Rattle.base_integers.specs.Steps.Ranges.{within, nat-within, nor-left, nor-right, and_both, zero_is}
use Rattle.base_limits.specs.Meaning.Limits as limits
use Rattle.base_limits.specs.Meaning.Limits.{parts_in_one}
use Rattle.rules.specs.Meaning.Layout.{report_room, link_fields, order_fields, case_length, proposal_length}
use Rattle.rules.specs.Meaning.Hour.{Case, Plan, Prices, case_of, plan_of, prices_of, net_sum, link_use, link_room, zone_price, no_link, gap}
use Rattle.rules.specs.Meaning.Clearing.{Placed, Clearing}
use Rattle.rules.specs.Meaning.Annex.{PairsOnce}
use Rattle.base_causes.specs.Meaning.Causes.{refusal, Pass}
use Rattle.base_causes.proofs.Promised.CauseLaws.{has-before, is_cause, row_of, has_cause, before, row-passed, lacks, no_place, later, none-zero, cause_numbered, number-passes, field-at-passes}
use Rattle.rules.specs.Meaning.Verdict.{◌over◌, unknown, branch_fault, repeated, link_fault, row_fault, order_fault, room_causes, case_causes, proposal_causes, wide_tolerance, clearing_causes, table, outcome, Readable, case_refusal, proposal_refusal}
use Rattle.rules.specs.Meaning.Report.{reports}

-- ROWS 1 TO 8 PASSED
pub record CaseSound (c : Case) : Type 0 where
  pub zones-in : (1 ≤ c.zones) × (c.zones ≤ 16)
  pub branches-in : c.branches ≤ 64
  pub links-in : c.links ≤ 64
  pub orders-in : c.orders ≤ 512
  pub tolerance-in : c.tolerance ≤ 1000000000
  pub ram-in : (m : ℕ) → m < c.branches → Within limits.margin (c.ram m)
  pub ptdf-in : (m z : ℕ) → m < c.branches → z < c.zones → Within limits.ptdf (c.ptdf m z)
  pub placed : Placed c
  pub capacity-in : (l : ℕ) → l < c.links → c.capacity l ≤ 100000
  pub contracted-in : (l : ℕ) → l < c.links → c.contracted l ≤ c.capacity l
  pub side-in : (i : ℕ) → i < c.orders → c.side i ≤ 1
  pub quantity-in : (i : ℕ) → i < c.orders → c.quantity i ≤ 100000
  pub quantity-within : (i : ℕ) → i < c.orders → Within limits.quantity (pos (c.quantity i))
  pub price-in : (i : ℕ) → i < c.orders → Within limits.order_price (c.price i)

-- ROWS 9 TO 14 PASSED
pub record ProposalSound (c : Case) (p : Plan) (d : Prices) : Type 0 where
  pub share-in : p.share ≤ parts_in_one
  pub shadow-in : (m : ℕ) → m < c.branches → d.shadow m ≤ 1000000

-- ROWS 21 TO 25 PASSED
pub record ClearingSound (c : Case) (p : Plan) (d : Prices) : Type 0 where
  pub clearing : Clearing c p
  pub zonePrice-in : (z : ℕ) → z < c.zones → Within limits.zone_price (zone_price c d z)

pub not-not : (b : Bool) → T (not (not b)) → T b
not-not true t = tt
not-not false t = absurd t

pub nor-4 : (a b e f : Bool) → T (not (a || b || e || f)) → T (not a) × T (not b) × T (not e) × T (not f)
nor-4 false false false false t = (tt, tt, tt, tt)
nor-4 false false false true t = absurd t
nor-4 false false true f t = absurd t
nor-4 false true e f t = absurd t
nor-4 true b e f t = absurd t

module _ (s : List ℕ) (c : Case) (passed : refusal (case_causes s c) ≡ none) where
  -- the row of a number, and of a header field by its offset
  case_row : (n : ℕ) → Pass (cause_numbered n (case_causes s c))
  case_row = number-passes (case_causes s c) passed

  header-field : (k : ℕ) → Pass (row_of 4 k (case_causes s c))
  header-field = field-at-passes (case_causes s c) passed 4

  -- no field of a branch, a link or an order is at fault
  branch-ok : (m n : ℕ) → m < c.branches → n < 1 + c.zones → T (not (branch_fault c m n))
  unfolding case_causes cause_numbered
  branch-ok m n h k = no_place (1 + c.zones) (branch_fault c m) ((case_row 6).pass m h) n k

  link-ok : (l n : ℕ) → l < c.links → n < link_fields → T (not (link_fault c l n))
  unfolding case_causes cause_numbered
  link-ok l n h k = no_place link_fields (link_fault c l) ((case_row 7).pass l h) n k

  order-ok : (i n : ℕ) → i < c.orders → n < order_fields → T (not (order_fault c i n))
  unfolding case_causes cause_numbered
  order-ok i n h k = no_place order_fields (order_fault c i) ((case_row 8).pass i h) n k

  pub case-rows-sound : CaseSound c
  unfolding case_causes row_of is_cause branch_fault link_fault order_fault row_fault
  case-rows-sound = record {
    zones-in = nat-within 1 16 c.zones ((header-field 5).pass 0 (omega arith));
    branches-in = (nat-within 0 64 c.branches ((header-field 6).pass 0 (omega arith))).1;
    links-in = (nat-within 0 64 c.links ((header-field 7).pass 0 (omega arith))).1;
    orders-in = (nat-within 0 512 c.orders ((header-field 8).pass 0 (omega arith))).1;
    tolerance-in = (nat-within 0 1000000000 c.tolerance ((header-field 10).pass 0 (omega arith))).1;
    ram-in = λ m h. within limits.margin (c.ram m) (branch-ok m 0 h (omega arith));
    ptdf-in = λ m z h k. within limits.ptdf (c.ptdf m z) (branch-ok m (suc z) h (omega arith));
    placed = record {
      from-in = λ l h. nleb→lt c.zones (c.from l) (nor-left (unknown c.zones (c.from l)) _ (link-ok l 0 h (omega arith)));
      to-in = λ l h. nleb→lt c.zones (c.to l) (nor-left (unknown c.zones (c.to l)) _ (link-ok l 1 h (omega arith)));
      zone-in = λ i h. nleb→lt c.zones (c.zone i) (order-ok i 0 h (omega arith));
    };
    capacity-in = λ l h. (nat-within 0 100000 (c.capacity l) (link-ok l 2 h (omega arith))).1;
    contracted-in = λ l h. nltb→le (c.capacity l) (c.contracted l) (link-ok l 3 h (omega arith));
    side-in = λ i h. nltb→le 1 (c.side i) (order-ok i 1 h (omega arith));
    quantity-in = λ i h. (nat-within 1 100000 (c.quantity i) (order-ok i 2 h (omega arith))).1;
    quantity-within = λ i h. within limits.quantity (pos (c.quantity i)) (order-ok i 2 h (omega arith));
    price-in = λ i h. within limits.order_price (c.price i) (order-ok i 3 h (omega arith));
  }

  pub case-rows-length : length s ≡ case_length s
  unfolding case_causes cause_numbered
  case-rows-length = eqb→eq (length s) (case_length s) (not-not (eqb (length s) (case_length s)) ((case_row 5).pass 0 (omega arith)))

  -- no link has an earlier one's pair
  pair-differs : (i j : ℕ) → i < j → j < c.links → c.from i ≡ c.from j → c.to i ≡ c.to j → ⊥
  unfolding link_fault repeated
  pair-differs i j h l e f = T_not (eqb (c.from i) (c.from j) && eqb (c.to i) (c.to j))
      (no_place j _ (nor-right (unknown c.zones (c.from j)) (repeated c j) (link-ok j 0 l (omega arith))) i h)
      (rw (e, f) (and_both (eqb (c.from j) (c.from j)) (eqb (c.to j) (c.to j)) (eqb_refl (c.from j)) (eqb_refl (c.to j))))

  pub case-rows-pairs : PairsOnce c
  case-rows-pairs = record {
    once = λ i j h l e f. elim (dec_lt i j) [
      | yes a ↦ absurd (pair-differs i j a l e f)
      | no a ↦ elim (dec_lt j i) [ yes b ↦ absurd (pair-differs j i b h (sym e) (sym f)) | no b ↦ omega arith ]
    ];
  }

-- a readable case
pub case-sound : (s : List ℕ) → Readable s → CaseSound (case_of s)
unfolding case_refusal
case-sound s r = case-rows-sound s (case_of s) r.none-holds

pub case-length : (s : List ℕ) → Readable s → length s ≡ case_length s
unfolding case_refusal
case-length s r = case-rows-length s (case_of s) r.none-holds

pub case-pairs : (s : List ℕ) → Readable s → PairsOnce (case_of s)
unfolding case_refusal
case-pairs s r = case-rows-pairs s (case_of s) r.none-holds

module _ (s t : List ℕ) (c : Case) (p : Plan) (d : Prices) (passed : refusal (proposal_causes s t c p d) ≡ none) where
  proposal-row : (n : ℕ) → Pass (cause_numbered n (proposal_causes s t c p d))
  proposal-row = number-passes (proposal_causes s t c p d) passed

  pub proposal-rows-sound : ProposalSound c p d
  unfolding proposal_causes cause_numbered
  proposal-rows-sound = record {
    share-in = (nat-within 0 100000 p.share ((proposal-row 13).pass 0 (omega arith))).1;
    shadow-in = λ m h. (nat-within 0 1000000 (d.shadow m) ((proposal-row 14).pass m h)).1;
  }

  pub proposal-rows-length : length t ≡ proposal_length s
  unfolding proposal_causes cause_numbered
  proposal-rows-length = eqb→eq (length t) (proposal_length s) (not-not (eqb (length t) (proposal_length s)) ((proposal-row 12).pass 0 (omega arith)))

pub proposal-sound : (s t : List ℕ) → proposal_refusal s t ≡ none → ProposalSound (case_of s) (plan_of s t) (prices_of s t)
unfolding proposal_refusal
proposal-sound s t e = proposal-rows-sound s t (case_of s) (plan_of s t) (prices_of s t) e

pub proposal-length : (s t : List ℕ) → proposal_refusal s t ≡ none → length t ≡ proposal_length s
unfolding proposal_refusal
proposal-length s t e = proposal-rows-length s t (case_of s) (plan_of s t) (prices_of s t) e

-- row 27 (S-6)
no-share : (c : Case) (share : ℕ) → c.links ≡ 0 → T (not (no_link c && share over 0)) → share ≡ 0
unfolding no_link
no-share c share e t = none (nltb→le 0 share (subst (λ (n : ℕ). T (not (eqb n 0 && share over 0))) e t))
  where
    none : share ≤ 0 → share ≡ 0
    none h = omega arith

-- the rows before 26
module _ (c : Case) (p : Plan) (d : Prices) (one : p.den ≡ 1) (share-in : p.share ≤ parts_in_one)
    (rows : (n k : ℕ) → T (has_cause n k (before 26 (clearing_causes none c p d))) → Pass (row_of n k (clearing_causes none c p d))) where
  pub clearing-rows-sound : ClearingSound c p d
  unfolding clearing_causes before has_cause row_of is_cause
  clearing-rows-sound = record {
    clearing = record {
      den-positive = omega (arith, one);
      volume-in = λ i h. omega (arith, one, ap (λ (k : ℕ). k * c.quantity i) one, nltb→le (c.quantity i) (p.volume i) ((rows 21 0 tt).pass i h));
      share-in = omega (arith, one);
      without-links = λ e. no-share c p.share e ((rows 27 0 tt).pass 0 (omega arith));
      balance = zero_is (net_sum c p) (not-not (is_zero (net_sum c p)) ((rows 22 0 tt).pass 0 (omega arith)));
      link = λ l h. nltb→le (link_room c p l) (link_use c p l) ((rows 23 0 tt).pass l h);
      branch = λ m h. lt_z_no ((rows 24 0 tt).pass m h);
    };
    zonePrice-in = λ z h. within limits.zone_price (zone_price c d z) ((rows 25 0 tt).pass z h);
  }

either : {X : Type 0} (a b : Bool) → T (a || b) → (T a → X) → (T b → X) → X
either true b t f g = f tt
either false b t f g = g t

-- VERDICT 0 OR 26: what passed
pub record Sound (s t : List ℕ) (room : ℕ) : Type 0 where
  pub readable : Readable s
  pub proposed : proposal_refusal s t ≡ none
  pub cleared : ClearingSound (case_of s) (plan_of s t) (prices_of s t)
  pub enough-room : report_room ≤ room

module _ (s t : List ℕ) (room : ℕ) where
  c : Case
  c = case_of s

  p : Plan
  p = plan_of s t

  d : Prices
  d = prices_of s t

  -- for a number n that no row before the clearing's has
  parts : (n : ℕ) → T (lacks n (room_causes room)) → T (lacks n (case_causes s c)) → T (lacks n (proposal_causes s t c p d)) → T (lacks n (wide_tolerance c ∷ [])) → (outcome s t room).number ≡ n
      → ((i k : ℕ) → T (has_cause i k (before 26 (clearing_causes none c p d))) → T (has_cause i k (before n (clearing_causes none c p d)))) → Sound s t room
  unfolding outcome table case_refusal proposal_refusal room_causes before has_cause row_of is_cause plan_of c p d
  parts n l₀ l₁ l₂ l₃ e up =
      let a = later n (room_causes room) _ l₀ e in
      let b = later n (case_causes s c) _ l₁ a.then-second in
      let f = later n (proposal_causes s t c p d) _ l₂ b.then-second in
      let g = later n (wide_tolerance c ∷ []) _ l₃ f.then-second in
      record {
        readable = record { none-holds = b.none_first };
        proposed = f.none_first;
        cleared = clearing-rows-sound c p d refl (proposal-rows-sound s t c p d f.none_first).share-in
            (λ i k h. row-passed n (clearing_causes none c p d) g.then-second i k (up i k h));
        enough-room = nltb→le room report_room ((row-passed 0 (room_causes room) (none-zero (room_causes room) a.none_first) 30 0 tt).pass 0 (omega arith));
      }

  -- VERDICT 0 OR 26
  pub sound : T (reports (outcome s t room).number) → Sound s t room
  unfolding reports room_causes case_causes proposal_causes clearing_causes lacks before
  sound r = either (eqb (outcome s t room).number 0) (eqb (outcome s t room).number 26) r
      (λ e. parts 0 tt tt tt tt (eqb→eq (outcome s t room).number 0 e) (λ i k h. has-before 26 i k (clearing_causes none c p d) h))
      (λ e. parts 26 tt tt tt tt (eqb→eq (outcome s t room).number 26 e) (λ i k h. h))

  -- VERDICT 0: the gap is at most the tolerance
  pub within-tolerance : (outcome s t room).number ≡ 0 → gap (case_of s) (plan_of s t) (prices_of s t) ≤ℤ limits.microcents_of (pos (case_of s).tolerance)
  unfolding outcome table room_causes case_causes proposal_causes clearing_causes before has_cause row_of is_cause
  within-tolerance e = lt_z_no ((row-passed 0 (table none s t room (case_of s) (plan_of s t) (prices_of s t)) e 26 0 tt).pass 0 (omega arith))

  -- and the tolerance is at most 10,000 cents (S-12)
  pub narrow-tolerance : (outcome s t room).number ≡ 0 → (case_of s).tolerance ≤ 10000
  unfolding outcome table room_causes case_causes proposal_causes clearing_causes before has_cause row_of is_cause
  narrow-tolerance e = (nat-within 0 10000 (case_of s).tolerance ((row-passed 0 (table none s t room (case_of s) (plan_of s t) (prices_of s t)) e 15 0 tt).pass 0 (omega arith))).1
