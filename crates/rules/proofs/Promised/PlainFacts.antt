-- READABLE IN PLAIN FACTS, both ways and in the paper's own numbers. A case is readable if and only if its lengths,
-- ranges and links are as these facts say; a proposal passes 9 to 14 for it if and only if its own are. A link's
-- reverse pair is free: nothing here forbids it. Assumes nothing.
use Rattle.std.specs.Prelude.{◌≡◌, refl, ◌≢◌, Bool, true, false, not, ◌&&◌, List, length, T, leb, ltb, pos, neg_ℤ, ◌≤ℤ◌}
use Rattle.std.proofs.Math.Option.{none}
use Prim.Native.Nat.{ℕ, zero, suc, ◌+◌, ◌≤◌, ◌<◌}
use Rattle.std.proofs.Common.{arith, eqb→eq, leb→le, ltb→lt, nltb→le, T_not}
use Rattle.std.proofs.Math.Dec.{eqb, eqb_refl, not_T}
use Rattle.base_integers.specs.Steps.Ranges.{inside, nat-within, nat-inside, nor-right, nor-both, and_both, and_left, and_right, is_true, is_false}
use Rattle.base_limits.specs.Meaning.Limits as limits
use Rattle.rules.specs.Meaning.Layout.{u8_at, case_version, zones_in, branches_in, links_in, orders_in, tolerance_in, ram_in, ptdf_in, from_in, to_in, capacity_in, contracted_in, zone_in, side_in, quantity_in, price_in, case_length, proposal_version, share_in, shadow_in, proposal_length, link_fields, order_fields}
use Rattle.rules.specs.Meaning.Hour.{case_of, plan_of, prices_of}
use Rattle.base_causes.specs.Meaning.Causes.{any_below, Pass}
use Rattle.base_causes.proofs.Promised.CauseLaws.{any_none, no_place, cause_numbered, number-passes, Comes, past, none_left}
use Rattle.rules.specs.Meaning.Verdict.{differ, unknown, not_mark, branch_fault, repeated, link_fault, row_fault, order_fault, case_causes, proposal_causes, Readable, case_refusal, proposal_refusal}
use Rattle.rules.proofs.Steps.Passed.{not-not, case-sound, case-length, case-pairs, proposal-sound, proposal-length}

pub record CaseFacts (s : List ℕ) : Type 0 where
  pub header-there : 14 ≤ length s
  -- LTC
  pub mark-is : (u8_at s 0 ≡ 76) × ((u8_at s 1 ≡ 84) × (u8_at s 2 ≡ 67))
  -- 1 or 2 (S-4)
  pub version-in : (1 ≤ case_version s) × (case_version s ≤ 2)
  pub zones-in : (1 ≤ zones_in s) × (zones_in s ≤ 16)
  pub branches-in : branches_in s ≤ 64
  pub links-in : links_in s ≤ 64
  pub orders-in : orders_in s ≤ 512
  pub tolerance-in : tolerance_in s ≤ 1000000000
  pub length-is : length s ≡ case_length s
  pub margin-in : (m : ℕ) → m < branches_in s → (neg_ℤ (pos 500000) ≤ℤ ram_in s m) × (ram_in s m ≤ℤ pos 500000)
  pub ptdf-in : (m z : ℕ) → m < branches_in s → z < zones_in s → (neg_ℤ (pos 200000) ≤ℤ ptdf_in s m z) × (ptdf_in s m z ≤ℤ pos 200000)
  pub from-in : (l : ℕ) → l < links_in s → from_in s l < zones_in s
  pub to-in : (l : ℕ) → l < links_in s → to_in s l < zones_in s
  pub zones-differ : (l : ℕ) → l < links_in s → from_in s l ≢ to_in s l
  pub capacity-in : (l : ℕ) → l < links_in s → capacity_in s l ≤ 100000
  pub contracted-in : (l : ℕ) → l < links_in s → contracted_in s l ≤ capacity_in s l
  pub pair-once : (k l : ℕ) → k < l → l < links_in s → from_in s k ≡ from_in s l → to_in s k ≢ to_in s l
  pub zone-in : (i : ℕ) → i < orders_in s → zone_in s i < zones_in s
  pub side-in : (i : ℕ) → i < orders_in s → side_in s i ≤ 1
  pub quantity-in : (i : ℕ) → i < orders_in s → (1 ≤ quantity_in s i) × (quantity_in s i ≤ 100000)
  pub price-in : (i : ℕ) → i < orders_in s → (neg_ℤ (pos 50000) ≤ℤ price_in s i) × (price_in s i ≤ℤ pos 400000)

pub record ProposalFacts (s t : List ℕ) : Type 0 where
  pub header-there : 13 ≤ length t
  -- LTP
  pub mark-is : (u8_at t 0 ≡ 76) × ((u8_at t 1 ≡ 84) × (u8_at t 2 ≡ 80))
  pub version-is : proposal_version t ≡ 1
  pub length-is : length t ≡ proposal_length s
  pub share-in : share_in t ≤ 100000
  pub shadow-in : (m : ℕ) → m < branches_in s → shadow_in s t m ≤ 1000000

-- TESTS AND WHAT THEY SAY
pub yes-not-not : (b : Bool) → T b → T (not (not b))
yes-not-not true t = tt
yes-not-not false t = absurd t

pub eq-eqb : (a b : ℕ) → a ≡ b → T (eqb a b)
eq-eqb a b e = rw e (eqb_refl b)

pub le-nltb : (m n : ℕ) → n ≤ m → T (not (ltb m n))
le-nltb m n h = not_T (ltb m n) (λ t. never (ltb→lt m n t))
  where
    never : m < n → ⊥
    never l = omega arith

pub lt-nleb : (m n : ℕ) → n < m → T (not (leb m n))
lt-nleb m n h = not_T (leb m n) (λ t. never (leb→le m n t))
  where
    never : m ≤ n → ⊥
    never l = omega arith

pub marked : (a b e : ℕ) (s : List ℕ) → T (not (not_mark a b e s)) → (u8_at s 0 ≡ a) × ((u8_at s 1 ≡ b) × (u8_at s 2 ≡ e))
unfolding not_mark
marked a b e s t =
    let all = not-not (eqb (u8_at s 0) a && eqb (u8_at s 1) b && eqb (u8_at s 2) e) t in
    let two = and_left (eqb (u8_at s 0) a && eqb (u8_at s 1) b) (eqb (u8_at s 2) e) all in (
      eqb→eq (u8_at s 0) a (and_left (eqb (u8_at s 0) a) (eqb (u8_at s 1) b) two),
      (eqb→eq (u8_at s 1) b (and_right (eqb (u8_at s 0) a) (eqb (u8_at s 1) b) two), eqb→eq (u8_at s 2) e (and_right (eqb (u8_at s 0) a && eqb (u8_at s 1) b) (eqb (u8_at s 2) e) all)),
    )

pub mark-passes : (a b e : ℕ) (s : List ℕ) → (u8_at s 0 ≡ a) × ((u8_at s 1 ≡ b) × (u8_at s 2 ≡ e)) → T (not (not_mark a b e s))
unfolding not_mark
mark-passes a b e s h = yes-not-not (eqb (u8_at s 0) a && eqb (u8_at s 1) b && eqb (u8_at s 2) e)
    (and_both (eqb (u8_at s 0) a && eqb (u8_at s 1) b) (eqb (u8_at s 2) e)
    (and_both (eqb (u8_at s 0) a) (eqb (u8_at s 1) b) (eq-eqb (u8_at s 0) a h.0) (eq-eqb (u8_at s 1) b h.1.0)) (eq-eqb (u8_at s 2) e h.1.1))

-- a case version (S-4)
pub one-or-two : (v : ℕ) → T (not (differ v 1 && differ v 2)) → (1 ≤ v) × (v ≤ 2)
one-or-two v t = by (eqb v 1) (eqb v 2) refl refl t
  where
    by : (a b : Bool) → eqb v 1 ≡ a → eqb v 2 ≡ b → T (not (not a && not b)) → (1 ≤ v) × (v ≤ 2)
    by true b p q t = let e = eqb→eq v 1 (is_true p) in (omega (arith, e), omega (arith, e))
    by false true p q t = let e = eqb→eq v 2 (is_true q) in (omega (arith, e), omega (arith, e))
    by false false p q t = absurd t

pub version-passes : (v : ℕ) → (1 ≤ v) × (v ≤ 2) → T (not (differ v 1 && differ v 2))
version-passes zero h = absurd (omega (arith, h.0))
version-passes (suc zero) h = tt
version-passes (suc (suc zero)) h = tt
version-passes (suc (suc (suc v))) h = absurd (omega (arith, h.1))

-- A CASE
pub case-facts : (s : List ℕ) → Readable s → CaseFacts s
unfolding case_refusal case_causes cause_numbered case_of link_fault
case-facts s r =
    let ok = case-sound s r in
    record {
      header-there = nltb→le (length s) 14 ((row 1).pass 0 (omega arith));
      mark-is = marked 76 84 67 s ((row 2).pass 0 (omega arith));
      version-in = one-or-two (case_version s) ((row 3).pass 0 (omega arith));
      zones-in = ok.zones-in;
      branches-in = ok.branches-in;
      links-in = ok.links-in;
      orders-in = ok.orders-in;
      tolerance-in = ok.tolerance-in;
      length-is = case-length s r;
      margin-in = λ m h. ((ok.ram-in m h).least-le, (ok.ram-in m h).le-greatest);
      ptdf-in = λ m z h k. ((ok.ptdf-in m z h k).least-le, (ok.ptdf-in m z h k).le-greatest);
      from-in = ok.placed.from-in;
      to-in = ok.placed.to-in;
      zones-differ = λ l h e. T_not (eqb (from_in s l) (to_in s l)) (nor-right (unknown (zones_in s) (to_in s l)) _ (no_place link_fields (link_fault (case_of s) l) ((row 7).pass l h) 1 (omega arith))) (eq-eqb (from_in s l) (to_in s l) e);
      capacity-in = ok.capacity-in;
      contracted-in = ok.contracted-in;
      pair-once = λ k l h i e f. differ k l h ((case-pairs s r).once k l (omega (arith, h, i)) i e f);
      zone-in = ok.placed.zone-in;
      side-in = ok.side-in;
      quantity-in = λ i h. nat-within 1 100000 (quantity_in s i) (inside limits.quantity (pos (quantity_in s i)) (ok.quantity-within i h));
      price-in = λ i h. ((ok.price-in i h).least-le, (ok.price-in i h).le-greatest);
    }
  where
    row : (n : ℕ) → Pass (cause_numbered n (case_causes s (case_of s)))
    row = number-passes (case_causes s (case_of s)) r.none-holds

    differ : (k l : ℕ) → k < l → k ≡ l → ⊥
    differ k l h e = omega arith

-- no field of a row is at fault where none of its tests holds
none-at-fault : (w : ℕ) (f : ℕ → Bool) → ((n : ℕ) → n < w → T (not (f n))) → T (not (any_below w f))
none-at-fault w f h = is_false (any_none w f h)

module _ (s : List ℕ) (f : CaseFacts s) where
  branch-passes : (m : ℕ) → m < branches_in s → (n : ℕ) → n < 1 + zones_in s → T (not (branch_fault (case_of s) m n))
  unfolding branch_fault case_of
  branch-passes m h zero k = inside limits.margin (ram_in s m) (record { least-le = (f.margin-in m h).0; le-greatest = (f.margin-in m h).1 })
  branch-passes m h (suc z) k = let w = f.ptdf-in m z h (omega (arith, k)) in inside limits.ptdf (ptdf_in s m z) (record { least-le = w.0; le-greatest = w.1 })

  link-passes : (l : ℕ) → l < links_in s → (n : ℕ) → n < link_fields → T (not (link_fault (case_of s) l n))
  unfolding link_fault repeated case_of
  link-passes l h zero k = nor-both (unknown (zones_in s) (from_in s l)) _ (lt-nleb (zones_in s) (from_in s l) (f.from-in l h)) (none-at-fault l _ (λ i g.
      not_T (eqb (from_in s i) (from_in s l) && eqb (to_in s i) (to_in s l)) (λ t. f.pair-once i l g h
      (eqb→eq (from_in s i) (from_in s l) (and_left (eqb (from_in s i) (from_in s l)) (eqb (to_in s i) (to_in s l)) t)) (eqb→eq (to_in s i) (to_in s l) (and_right (eqb (from_in s i) (from_in s l)) (eqb (to_in s i) (to_in s l)) t)))))
  link-passes l h (suc zero) k = nor-both (unknown (zones_in s) (to_in s l)) (eqb (from_in s l) (to_in s l)) (lt-nleb (zones_in s) (to_in s l) (f.to-in l h))
      (not_T (eqb (from_in s l) (to_in s l)) (λ t. f.zones-differ l h (eqb→eq (from_in s l) (to_in s l) t)))
  link-passes l h (suc (suc zero)) k = nat-inside 0 100000 (capacity_in s l) (omega arith) (f.capacity-in l h)
  link-passes l h (suc (suc (suc n))) k = le-nltb (capacity_in s l) (contracted_in s l) (f.contracted-in l h)

  order-passes : (i : ℕ) → i < orders_in s → (n : ℕ) → n < order_fields → T (not (order_fault (case_of s) i n))
  unfolding order_fault row_fault case_of
  order-passes i h zero k = lt-nleb (zones_in s) (zone_in s i) (f.zone-in i h)
  order-passes i h (suc zero) k = le-nltb 1 (side_in s i) (f.side-in i h)
  order-passes i h (suc (suc zero)) k = nat-inside 1 100000 (quantity_in s i) (f.quantity-in i h).0 (f.quantity-in i h).1
  order-passes i h (suc (suc (suc n))) k = inside limits.order_price (price_in s i) (record { least-le = (f.price-in i h).0; le-greatest = (f.price-in i h).1 })

  pub facts-readable : Readable s
  unfolding case_refusal case_causes case_of
  facts-readable = record {
    none-holds =
        let rows : Comes (case_causes s (case_of s)) none =
        past (record { pass = λ k h. le-nltb (length s) 14 f.header-there })
        (past (record { pass = λ k h. mark-passes 76 84 67 s f.mark-is })
        (past (record { pass = λ k h. version-passes (case_version s) f.version-in })
        (past (record { pass = λ k h. nat-inside 1 16 (zones_in s) f.zones-in.0 f.zones-in.1 })
        (past (record { pass = λ k h. nat-inside 0 64 (branches_in s) (omega arith) f.branches-in })
        (past (record { pass = λ k h. nat-inside 0 64 (links_in s) (omega arith) f.links-in })
        (past (record { pass = λ k h. nat-inside 0 512 (orders_in s) (omega arith) f.orders-in })
        (past (record { pass = λ k h. nat-inside 0 1000000000 (tolerance_in s) (omega arith) f.tolerance-in })
        (past (record { pass = λ k h. yes-not-not (eqb (length s) (case_length s)) (eq-eqb (length s) (case_length s) f.length-is) })
        (past (record { pass = λ m h. none-at-fault (1 + zones_in s) (branch_fault (case_of s) m) (branch-passes m h) })
        (past (record { pass = λ l h. none-at-fault link_fields (link_fault (case_of s) l) (link-passes l h) })
        (past (record { pass = λ i h. none-at-fault order_fields (order_fault (case_of s) i) (order-passes i h) }) none_left))))))))))) in
        rows.is;
  }

-- A PROPOSAL for the case s
pub proposal-facts : (s t : List ℕ) → proposal_refusal s t ≡ none → ProposalFacts s t
unfolding proposal_refusal proposal_causes cause_numbered case_of plan_of prices_of
proposal-facts s t e = record {
  header-there = nltb→le (length t) 13 ((row 9).pass 0 (omega arith));
  mark-is = marked 76 84 80 t ((row 10).pass 0 (omega arith));
  version-is = eqb→eq (proposal_version t) 1 (not-not (eqb (proposal_version t) 1) ((row 11).pass 0 (omega arith)));
  length-is = proposal-length s t e;
  share-in = (proposal-sound s t e).share-in;
  shadow-in = (proposal-sound s t e).shadow-in;
}
  where
    row : (n : ℕ) → Pass (cause_numbered n (proposal_causes s t (case_of s) (plan_of s t) (prices_of s t)))
    row = number-passes (proposal_causes s t (case_of s) (plan_of s t) (prices_of s t)) e

pub facts-pass : (s t : List ℕ) → ProposalFacts s t → proposal_refusal s t ≡ none
unfolding proposal_refusal proposal_causes case_of plan_of prices_of
facts-pass s t f =
    let rows : Comes (proposal_causes s t (case_of s) (plan_of s t) (prices_of s t)) none =
    past (record { pass = λ k h. le-nltb (length t) 13 f.header-there })
    (past (record { pass = λ k h. mark-passes 76 84 80 t f.mark-is })
    (past (record { pass = λ k h. yes-not-not (eqb (proposal_version t) 1) (eq-eqb (proposal_version t) 1 f.version-is) })
    (past (record { pass = λ k h. yes-not-not (eqb (length t) (proposal_length s)) (eq-eqb (length t) (proposal_length s) f.length-is) })
    (past (record { pass = λ k h. nat-inside 0 100000 (share_in t) (omega arith) f.share-in })
    (past (record { pass = λ m h. nat-inside 0 1000000 (shadow_in s t m) (omega arith) (f.shadow-in m h) }) none_left))))) in
    rows.is
