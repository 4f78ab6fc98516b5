-- What a rearranged case and a rearranged proposal hold: the case with its orders rearranged, the plan with its
-- volumes rearranged. Assumes nothing.
use Rattle.std.specs.Prelude.{◌≡◌, Bool, ◌&&◌, List, ℕ, zero, suc, ◌+◌, ◌*◌, ◌≤◌, ◌<◌, length}
use Rattle.std.proofs.Math.Path.{refl, sym, ap}
use Rattle.std.proofs.Common.{◌∙◌}
use Rattle.std.proofs.Math.Bool.{true, false, not, cond}
use Rattle.std.proofs.Math.Nat.{mul-le-mul_right}
use native.Mathlib.Omega.{arith}
use Rattle.std.proofs.Math.Dec.{eqb}
use Rattle.rules_rearranged.specs.Meaning.Permutation.{Permutation}
use Rattle.rules.specs.Meaning.Layout.{u8_at, u32_at, i32_at, case_header, case_version, case_length, zones_in, branches_in, links_in, orders_in, tolerance_in, branch_size, branch_at, branch_field_at, ram_in, ptdf_in, contracts, contracted_size, link_size, link_at, link_field_at, from_in, to_in, capacity_in, contracted_in, order_size, order_at, zone_in, side_in, quantity_in, price_in, proposal_header, proposal_version, proposal_length, share_in, system_in, volume_in, flow_in, shadow_at, shadow_in}
use Rattle.rules.specs.Meaning.Hour.{case_of, plan_of, prices_of}
use Rattle.rules.specs.Meaning.Verdict.{not_mark}
use Rattle.rules.proofs.Steps.SameTables.{SameTables}
use Rattle.rules_rearranged.specs.Meaning.Rearranged.{Reordered, rearranged_case, rearranged_proposal}
use Rattle.rules_rearranged.proofs.Steps.ReorderedBytes.{is-reordered, u8-before, u16-before, u32-before, i32-before, u32-after, u8-row, u32-row, i32-row}
use Rattle.rules_rearranged.proofs.Steps.MovedOrders.{moved_case, with_volumes}

-- where the orders begin, and where order i begins
abbrev start : List ℕ → ℕ
start s = order_at s 0

order-at : (s : List ℕ) (i k : ℕ) → order_at s i + k ≡ start s + i * order_size + k
unfolding order_at
order-at s i k = omega arith

order_is : (s : List ℕ) (i : ℕ) → order_at s i ≡ start s + i * order_size + 0
unfolding order_at
order_is s i = omega arith

module _ (s : List ℕ) (π : Permutation (orders_in s)) (whole : length s ≡ case_length s) where
  abbrev s'' : List ℕ
  s'' = rearranged_case s π

  pub moved : Reordered (order_at s 0) order_size (orders_in s) π.source s (rearranged_case s π)
  unfolding rearranged_case order_at case_length
  moved = is-reordered (start s) order_size (orders_in s) π.source s (omega (arith, whole)) π.source_in

  header-in : case_header ≤ start s
  unfolding order_at
  header-in = omega arith

  pub zones-same : zones_in s'' ≡ zones_in s
  unfolding zones_in
  zones-same = u8-before moved 5 (omega (arith, header-in))

  pub branches-same : branches_in s'' ≡ branches_in s
  unfolding branches_in
  branches-same = u8-before moved 6 (omega (arith, header-in))

  pub links-same : links_in s'' ≡ links_in s
  unfolding links_in
  links-same = u8-before moved 7 (omega (arith, header-in))

  pub orders-same : orders_in s'' ≡ orders_in s
  unfolding orders_in
  orders-same = u16-before moved 8 (omega (arith, header-in))

  pub tolerance-same : tolerance_in s'' ≡ tolerance_in s
  unfolding tolerance_in
  tolerance-same = u32-before moved 10 (omega (arith, header-in))

  pub version-same : case_version s'' ≡ case_version s
  unfolding case_version
  version-same = u16-before moved 3 (omega (arith, header-in))

  -- where the parts stand
  branch-at-same : (m : ℕ) → branch_at s'' m ≡ branch_at s m
  unfolding branch_at branch_size
  branch-at-same m = λ j. case_header + m * (4 + 4 * zones-same j)

  link-at-same : (l : ℕ) → link_at s'' l ≡ link_at s l
  unfolding link_at branch_size
  link-at-same l = λ j. case_header + branches-same j * (4 + 4 * zones-same j) + l * link_size (version-same j)

  order-at-same : (i : ℕ) → order_at s'' i ≡ order_at s i
  unfolding order_at branch_size
  order-at-same i = λ j. case_header + branches-same j * (4 + 4 * zones-same j) + links-same j * link_size (version-same j) + i * order_size

  pub length-demanded : case_length s'' ≡ case_length s
  unfolding case_length branch_size
  length-demanded = λ j. case_header + branches-same j * (4 + 4 * zones-same j) + links-same j * link_size (version-same j) + orders-same j * order_size

  pub length-same : length s'' ≡ length s
  length-same = moved.long

  branch_in : (m : ℕ) → m < branches_in s → branch_at s m + branch_size s ≤ start s
  unfolding branch_at order_at
  branch_in m h = omega (arith, mul-le-mul_right (branch_size s) h)

  ptdf-in : (m z : ℕ) → m < branches_in s → z < zones_in s → branch_at s m + 4 + 4 * z + 4 ≤ start s
  unfolding branch_size
  ptdf-in m z h l = omega (arith, branch_in m h)

  ram-in : (m : ℕ) → m < branches_in s → branch_at s m + 4 ≤ start s
  unfolding branch_size
  ram-in m h = omega (arith, branch_in m h)

  link-in : (l : ℕ) → l < links_in s → link_at s l + link_size (case_version s) ≤ start s
  unfolding link_at order_at
  link-in l h = omega (arith, mul-le-mul_right (link_size (case_version s)) h)

  -- the offset of each field of a branch and of a link
  pub branch-field-same : (m n : ℕ) → branch_field_at s'' m n ≡ branch_field_at s m n
  branch-field-same m zero = branch-at-same m
  branch-field-same m (suc z) = ap (λ (x : ℕ). x + 4 + 4 * z) (branch-at-same m)

  pub link-field-same : (l n : ℕ) → link_field_at s'' l n ≡ link_field_at s l n
  link-field-same l zero = link-at-same l
  link-field-same l (suc zero) = ap (λ (x : ℕ). x + 1) (link-at-same l)
  link-field-same l (suc (suc zero)) = ap (λ (x : ℕ). x + 2) (link-at-same l)
  link-field-same l (suc (suc (suc n))) = ap (λ (x : ℕ). x + 6) (link-at-same l)

  capacity-same : (l : ℕ) → l < links_in s → capacity_in s'' l ≡ capacity_in s l
  unfolding capacity_in
  capacity-same l h = ap (u32_at s'') (link-field-same l 2) ∙ u32-before moved (link_at s l + 2) (omega (arith, link-in l h))

  -- in version 2 the contracted volume stands before the orders; in version 1 it is the capacity
  contracted-same : (l : ℕ) → l < links_in s → contracted_in s'' l ≡ contracted_in s l
  unfolding contracted_in contracted_size
  contracted-same l h = (λ j. cond (contracts (version-same j)) (u32_at s'' (link-field-same l 3 j)) (capacity-same l h j)) ∙ by (contracts (case_version s)) refl
    where
      by : (b : Bool) → contracts (case_version s) ≡ b → cond b (u32_at s'' (link_field_at s l 3)) (capacity_in s l) ≡ cond b (u32_at s (link_field_at s l 3)) (capacity_in s l)
      by true e =
          let four : contracted_size (case_version s) ≡ 4 = ap {B = ℕ} (λ (b : Bool). cond b 4 0) e in
          u32-before moved (link_at s l + 6) (omega (arith, link-in l h, four))
      by false e = refl

  -- a field of an order
  byte-moved : (i k : ℕ) → i < orders_in s → k < order_size → u8_at s'' (order_at s'' i + k) ≡ u8_at s (order_at s (π.source i) + k)
  byte-moved i k h l = ap (λ (x : ℕ). u8_at s'' (x + k)) (order-at-same i) ∙ ap (u8_at s'') (order-at s i k) ∙ u8-row moved i h k l ∙ ap (u8_at s) (sym (order-at s (π.source i) k))

  word_moved : (i k : ℕ) → i < orders_in s → k + 4 ≤ order_size → u32_at s'' (order_at s'' i + k) ≡ u32_at s (order_at s (π.source i) + k)
  word_moved i k h l = ap (λ (x : ℕ). u32_at s'' (x + k)) (order-at-same i) ∙ ap (u32_at s'') (order-at s i k) ∙ u32-row moved i h k l ∙ ap (u32_at s) (sym (order-at s (π.source i) k))

  signed-moved : (i k : ℕ) → i < orders_in s → k + 4 ≤ order_size → i32_at s'' (order_at s'' i + k) ≡ i32_at s (order_at s (π.source i) + k)
  signed-moved i k h l = ap (λ (x : ℕ). i32_at s'' (x + k)) (order-at-same i) ∙ ap (i32_at s'') (order-at s i k) ∙ i32-row moved i h k l ∙ ap (i32_at s) (sym (order-at s (π.source i) k))

  first-moved : (i : ℕ) → i < orders_in s → u8_at s'' (order_at s'' i) ≡ u8_at s (order_at s (π.source i))
  first-moved i h = ap (u8_at s'') (order-at-same i ∙ order_is s i) ∙ u8-row moved i h 0 (omega arith) ∙ ap (u8_at s) (sym (order_is s (π.source i)))

  -- THE CASE, with its orders rearranged
  pub case-moved : SameTables (moved_case (case_of s) π.source) (case_of (rearranged_case s π))
  unfolding moved_case case_of ram_in ptdf_in from_in to_in zone_in side_in quantity_in price_in
  case-moved = record {
    zones-same = sym zones-same;
    branches-same = sym branches-same;
    links-same = sym links-same;
    orders-same = sym orders-same;
    tolerance-same = sym tolerance-same;
    ram-same = λ m h. sym (ap (i32_at s'') (branch-field-same m 0) ∙ i32-before moved (branch_at s m) (ram-in m h));
    ptdf-same = λ m z h l. sym (ap (i32_at s'') (branch-field-same m (suc z)) ∙ i32-before moved (branch_at s m + 4 + 4 * z) (ptdf-in m z h l));
    from-same = λ l h. sym (ap (u8_at s'') (link-field-same l 0) ∙ u8-before moved (link_at s l) (omega (arith, link-in l h)));
    to_same = λ l h. sym (ap (u8_at s'') (link-field-same l 1) ∙ u8-before moved (link_at s l + 1) (omega (arith, link-in l h)));
    capacity-same = λ l h. sym (capacity-same l h);
    contracted-same = λ l h. sym (contracted-same l h);
    zone-same = λ i h. sym (first-moved i h);
    side_same = λ i h. sym (byte-moved i 1 h (omega arith));
    quantity-same = λ i h. sym (word_moved i 2 h (omega arith));
    price-same = λ i h. sym (signed-moved i 6 h (omega arith));
  }

  pub mark-same : (a b e : ℕ) → not_mark a b e (rearranged_case s π) ≡ not_mark a b e s
  unfolding not_mark
  mark-same a b e = λ j. not (eqb (u8-before moved 0 (omega (arith, header-in)) j) a && eqb (u8-before moved 1 (omega (arith, header-in)) j) b && eqb (u8-before moved 2 (omega (arith, header-in)) j) e)

  -- THE PROPOSAL, with its volumes rearranged
  module _ (t : List ℕ) (right : length t ≡ proposal_length s) where
    abbrev t'' : List ℕ
    t'' = rearranged_proposal s π t

    pub volumes-moved : Reordered proposal_header 4 (orders_in s) π.source t (rearranged_proposal s π t)
    unfolding rearranged_proposal proposal_length
    volumes-moved = is-reordered proposal_header 4 (orders_in s) π.source t (omega (arith, right)) π.source_in

    volume-at : (i : ℕ) → proposal_header + 4 * i ≡ proposal_header + i * 4 + 0
    volume-at i = omega arith

    pub volume-moved : (i : ℕ) → i < orders_in s → volume_in (rearranged_case s π) (rearranged_proposal s π t) i ≡ volume_in s t (π.source i)
    unfolding volume_in
    volume-moved i h = ap (u32_at t'') (volume-at i) ∙ u32-row volumes-moved i h 0 (omega arith) ∙ ap (u32_at t) (sym (volume-at (π.source i)))

    -- all else of the plan, and the prices, are the same: the bytes after the volumes have stayed, up to the end of
    -- the file and past it
    pub plan-moved : plan_of (rearranged_case s π) (rearranged_proposal s π t) ≡ with_volumes (plan_of s t) (volume_in (rearranged_case s π) (rearranged_proposal s π t))
    unfolding plan_of with_volumes share_in flow_in
    plan-moved = λ j. record {
      den = 1;
      share = u32-before volumes-moved 5 (omega arith) j;
      volume = volume_in (rearranged_case s π) (rearranged_proposal s π t);
      flow = λ l. (ap (λ (n : ℕ). u32_at t'' (proposal_header + 4 * (n + l))) orders-same ∙ u32-after volumes-moved (proposal_header + 4 * (orders_in s + l)) (omega arith)) j;
    }

    pub prices-same : prices_of (rearranged_case s π) (rearranged_proposal s π t) ≡ prices_of s t
    unfolding prices_of system_in shadow_in shadow_at
    prices-same = λ j. record {
      system = i32-before volumes-moved 9 (omega arith) j;
      shadow = λ m. ((λ i. u32_at t'' (proposal_header + 4 * (orders-same i + links-same i + m))) ∙ u32-after volumes-moved (proposal_header + 4 * (orders_in s + links_in s + m)) (omega arith)) j;
    }

    -- its header and its length
    pub proposal-mark-same : (a b e : ℕ) → not_mark a b e (rearranged_proposal s π t) ≡ not_mark a b e t
    unfolding not_mark
    proposal-mark-same a b e = λ j. not (eqb (u8-before volumes-moved 0 (omega arith) j) a && eqb (u8-before volumes-moved 1 (omega arith) j) b && eqb (u8-before volumes-moved 2 (omega arith) j) e)

    pub proposal-version-same : proposal_version (rearranged_proposal s π t) ≡ proposal_version t
    unfolding proposal_version
    proposal-version-same = u16-before volumes-moved 3 (omega arith)

    pub proposal-length-same : length (rearranged_proposal s π t) ≡ length t
    proposal-length-same = volumes-moved.long

  pub shadow-at-same : (m : ℕ) → shadow_at (rearranged_case s π) m ≡ shadow_at s m
  unfolding shadow_at
  shadow-at-same m = λ j. proposal_header + 4 * (orders-same j + links-same j + m)

  pub proposal-demanded : proposal_length (rearranged_case s π) ≡ proposal_length s
  unfolding proposal_length
  proposal-demanded = λ j. proposal_header + 4 * (orders-same j + links-same j + branches-same j)
