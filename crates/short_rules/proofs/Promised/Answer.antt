-- S-14 FOR AN ANSWER: in an output that begins with the numbers of an accepted hour, each pair is its order's,
-- branch's or link's shortfall. None is negative, all together are at most the gap, and at gap zero every number is
-- zero. Assumes nothing.
use Rattle.std.specs.Prelude.{◌≡◌, refl, ℕ, zero, suc, ◌+◌, ◌*◌, ◌%◌, ◌-◌, ◌≤◌, ◌<◌, length, T, ℤ, pos, negsuc, neg_ℤ, nat_abs, ◌+ℤ◌, ◌-ℤ◌, ◌*ℤ◌, ◌≤ℤ◌}
use Rattle.std.proofs.Common.{sym, ◌∙◌, length-append}
use Rattle.std.proofs.Math.Path.{ap, subst}
use mathlib.Core.List.{List, ◌++◌, append_assoc}
use native.Mathlib.Omega.{arith}
use Rattle.std.proofs.Math.Decide.{dec_lt}
use Rattle.std.specs.Int.{w64}
use Rattle.base_integers.specs.Steps.Difference.{at, ◌⊗◌, le-by, le-fact}
use Rattle.base_integers.specs.Steps.Order.{le_trans}
use Rattle.base_integers.specs.Steps.Size.{Near, near_fits}
use Rattle.base_integers.specs.Meaning.Sums.{sum_to}
use Rattle.base_integers.specs.Steps.Sums.{sum-ext, sum-split}
use Rattle.base_limits.specs.Meaning.Limits.{parts_in_one, microcents_of}
use Rattle.rules.specs.Meaning.Hour.{Case, Plan, Prices, case_of, plan_of, prices_of, branch_use, branch_room, order_surplus, gap}
use Rattle.rules.specs.Meaning.Report.{reports}
use Rattle.rules.proofs.Steps.Passed.{sound, case-sound}
use Rattle.rules.proofs.Promised.Guarantee.{Accepted, gap-range}
use Rattle.short_rules.specs.Meaning.Shortfalls.{earned, order_shortfall, branch_shortfall, link_shortfall, all_shortfalls, Accounted}
use Rattle.short_rules.specs.Meaning.Answer.{whole_of, parts_of, pairs_to, shortfall_numbers, shortfall_count, whole_at, shortfall_at, Answers}
use Rattle.short_rules.proofs.Steps.Pairs.{Pair, pair-value, pairs-long, pair-here, pair-past, parts-range, whole-range}
use Rattle.short_rules.proofs.Promised.Account.{hour-accounted}

-- two numbers for each order, each branch and each link
pub numbers-long : (c : Case) (p : Plan) (d : Prices) → length (shortfall_numbers c p d) ≡ 2 * shortfall_count c
unfolding shortfall_numbers shortfall_count
numbers-long c p d =
    length-append (pairs_to c.orders _) (pairs_to c.branches _ ++ pairs_to c.links _)
    ∙ ap (λ (n : ℕ). length (pairs_to c.orders (λ i. order_shortfall c p d i)) + n) (length-append (pairs_to c.branches _) (pairs_to c.links _))
    ∙ omega (arith, pairs-long c.orders (λ i. order_shortfall c p d i), pairs-long c.branches (λ m. branch_shortfall c p d m), pairs-long c.links (λ l. link_shortfall c p d l))

module _ (c : Case) (p : Plan) (d : Prices) (rest : List ℤ) where
  abbrev out : List ℤ
  out = shortfall_numbers c p d ++ rest

  abbrev of-orders : List ℤ
  of-orders = pairs_to c.orders (λ i. order_shortfall c p d i)

  abbrev of-branches : List ℤ
  of-branches = pairs_to c.branches (λ m. branch_shortfall c p d m)

  abbrev of-links : List ℤ
  of-links = pairs_to c.links (λ l. link_shortfall c p d l)

  out-is : out ≡ of-orders ++ (of-branches ++ (of-links ++ rest))
  unfolding shortfall_numbers
  out-is = append_assoc of-orders (of-branches ++ of-links) rest ∙ ap (λ (r : List ℤ). of-orders ++ r) (append_assoc of-branches of-links rest)

  pub order-pair : (i : ℕ) → i < c.orders → Pair out i (order_shortfall c p d i)
  order-pair i h = subst (λ (r : List ℤ). Pair r i (order_shortfall c p d i)) (sym out-is) (pair-here c.orders (λ i. order_shortfall c p d i) (of-branches ++ (of-links ++ rest)) i h)

  pub branch-pair : (m : ℕ) → m < c.branches → Pair out (c.orders + m) (branch_shortfall c p d m)
  branch-pair m h = subst (λ (r : List ℤ). Pair r (c.orders + m) (branch_shortfall c p d m)) (sym out-is)
      (pair-past c.orders (λ i. order_shortfall c p d i) (of-branches ++ (of-links ++ rest)) m (pair-here c.branches (λ m. branch_shortfall c p d m) (of-links ++ rest) m h))

  pub link-pair : (l : ℕ) → l < c.links → Pair out (c.orders + c.branches + l) (link_shortfall c p d l)
  link-pair l h =
      let e : c.orders + (c.branches + l) ≡ c.orders + c.branches + l = omega arith in
      subst (λ (n : ℕ). Pair out n (link_shortfall c p d l)) e (subst (λ (r : List ℤ). Pair r (c.orders + (c.branches + l)) (link_shortfall c p d l)) (sym out-is)
      (pair-past c.orders (λ i. order_shortfall c p d i) (of-branches ++ (of-links ++ rest)) (c.branches + l)
      (pair-past c.branches (λ m. branch_shortfall c p d m) (of-links ++ rest) l (pair-here c.links (λ l. link_shortfall c p d l) rest l h))))

  module _ (g : ℤ) (a : Accounted c p d g) where
    -- a shortfall of the hour, at its place
    record Stands (n : ℕ) : Type 0 where
      x : ℤ
      pair : Pair out n x
      not_negative : pos 0 ≤ℤ x
      within : x ≤ℤ (pos parts_in_one *ℤ g)
      at_zero : g ≡ pos 0 → x ≡ pos 0

    of-order : (i : ℕ) → i < c.orders → Stands i
    of-order i h = record { x = order_shortfall c p d i; pair = order-pair i h; not_negative = a.order-in i h; within = a.order-within i h; at_zero = λ z. a.order-zero z i h }

    of-branch : (m : ℕ) → m < c.branches → Stands (c.orders + m)
    of-branch m h = record { x = branch_shortfall c p d m; pair = branch-pair m h; not_negative = a.branch_in m h; within = a.branch-within m h; at_zero = λ z. a.branch-zero z m h }

    of-link : (l : ℕ) → l < c.links → Stands (c.orders + c.branches + l)
    of-link l h = record { x = link_shortfall c p d l; pair = link-pair l h; not_negative = a.link-in l h; within = a.link-within l h; at_zero = λ z. a.link-zero z l h }

    stands : (n : ℕ) → n < shortfall_count c → Stands n
    unfolding shortfall_count
    stands n h = elim (dec_lt n c.orders) [
      | yes l ↦ of-order n l
      | no f ↦ elim (dec_lt n (c.orders + c.branches)) [
        | yes l ↦ let e : c.orders + (n - c.orders) ≡ n = omega arith in subst (λ (k : ℕ). Stands k) e (of-branch (n - c.orders) (omega arith))
        | no k ↦ let e : c.orders + c.branches + (n - (c.orders + c.branches)) ≡ n = omega arith in subst (λ (k : ℕ). Stands k) e (of-link (n - (c.orders + c.branches)) (omega (arith, h)))
      ]
    ]

    sum_is : sum_to (shortfall_count c) (λ n. shortfall_at out n) ≡ all_shortfalls c p d
    unfolding shortfall_count all_shortfalls
    sum_is =
        sum-split (c.orders + c.branches) c.links (λ n. shortfall_at out n)
        ∙ ap (λ (x : ℤ). x +ℤ sum_to c.links (λ l. shortfall_at out (c.orders + c.branches + l))) (sum-split c.orders c.branches (λ n. shortfall_at out n))
        ∙ (λ j. sum-ext c.orders (λ i. shortfall_at out i) (λ i. order_shortfall c p d i) (λ i h. pair-value (a.order-in i h) (order-pair i h)) j
        +ℤ sum-ext c.branches (λ m. shortfall_at out (c.orders + m)) (λ m. branch_shortfall c p d m) (λ m h. pair-value (a.branch_in m h) (branch-pair m h)) j
        +ℤ sum-ext c.links (λ l. shortfall_at out (c.orders + c.branches + l)) (λ l. link_shortfall c p d l) (λ l h. pair-value (a.link-in l h) (link-pair l h)) j)

-- 100,000 times whole microcents has no parts
size-of-minus : (n : ℕ) → nat_abs (neg_ℤ (pos n)) ≡ n
size-of-minus zero = refl
size-of-minus (suc n) = refl

whole-has-none : (n : ℕ) → 100000 * n % 100000 ≡ 0
whole-has-none n = omega arith

no-parts : (x : ℤ) → parts_of (pos parts_in_one *ℤ x) ≡ pos 0
unfolding parts_of
no-parts (pos n) = ap pos (whole-has-none n)
no-parts (negsuc n) = ap (λ (k : ℕ). pos (k % 100000)) (size-of-minus (100000 * suc n)) ∙ ap pos (whole-has-none (suc n))

order-parts : (c : Case) (p : Plan) (d : Prices) (i : ℕ) → parts_of (order_shortfall c p d i) ≡ pos 0
unfolding order_shortfall
order-parts c p d i = no-parts (order_surplus c d i -ℤ earned c p d i)

branch-parts : (c : Case) (p : Plan) (d : Prices) (m : ℕ) → parts_of (branch_shortfall c p d m) ≡ pos 0
unfolding branch_shortfall
branch-parts c p d m = no-parts (pos (d.shadow m) *ℤ (branch_room c p m -ℤ branch_use c p m))

-- FOR AN ACCEPTED HOUR: no gap is above the highest tolerance
pub gap-small : (s t : List ℕ) (room : ℕ) → Accepted s t room → gap (case_of s) (plan_of s t) (prices_of s t) ≤ℤ pos 1000000000000000
unfolding reports
gap-small s t room a = le_trans (gap-range s t room a).1 (highest (case_of s).tolerance (case-sound s (sound s t room (subst (λ (n : ℕ). T (reports n)) (sym a.answer) tt)).readable).tolerance-in)
  where
    highest : (n : ℕ) → n ≤ 1000000000 → microcents_of (pos n) ≤ℤ pos 1000000000000000
    highest n h = le-by (at (pos 1000000) ⊗ at (pos n)) (at (pos 1000000000000000)) (omega arith)

pub hour-answers : (s t : List ℕ) (room : ℕ) → Accepted s t room → (rest : List ℤ)
    → Answers (case_of s) (plan_of s t) (prices_of s t) (shortfall_numbers (case_of s) (plan_of s t) (prices_of s t) ++ rest)
unfolding whole_of parts_of
hour-answers s t room acc rest = record {
  order_is = λ i h. pair-value (a.order-in i h) (order-pair c p d rest i h);
  branch-is = λ m h. pair-value (a.branch_in m h) (branch-pair c p d rest m h);
  link-is = λ l h. pair-value (a.link-in l h) (link-pair c p d rest l h);
  order-whole = λ i h. (order-pair c p d rest i h).parts_is ∙ order-parts c p d i;
  branch-whole = λ m h. (branch-pair c p d rest m h).parts_is ∙ branch-parts c p d m;
  parts_in = λ n h. let w = stands c p d rest g a n h in subst (λ (z : ℤ). (pos 0 ≤ℤ z) × (z ≤ℤ pos 99999)) (sym w.pair.parts_is) (parts-range w.x);
  whole_in = whole_in;
  whole-fits = λ n h. near_fits w64 (omega arith) (near _ g (whole_in n h) (gap-small s t room acc));
  none-negative = λ n h. let w = stands c p d rest g a n h in subst (λ (z : ℤ). pos 0 ≤ℤ z) (sym (pair-value w.not_negative w.pair)) w.not_negative;
  together = subst (λ (z : ℤ). z ≤ℤ (pos parts_in_one *ℤ g)) (sym (sum_is c p d rest g a)) a.together;
  all-zero = λ z n h. let w = stands c p d rest g a n h in (w.pair.whole_is ∙ ap whole_of (w.at_zero z), w.pair.parts_is ∙ ap parts_of (w.at_zero z));
}
  where
    c : Case
    c = case_of s

    p : Plan
    p = plan_of s t

    d : Prices
    d = prices_of s t

    g : ℤ
    g = gap c p d

    a : Accounted c p d g
    a = hour-accounted s t room acc

    whole_in : (n : ℕ) → n < shortfall_count c → (pos 0 ≤ℤ whole_at (shortfall_numbers c p d ++ rest) n) × (whole_at (shortfall_numbers c p d ++ rest) n ≤ℤ g)
    whole_in n h = let w = stands c p d rest g a n h in subst (λ (z : ℤ). (pos 0 ≤ℤ z) × (z ≤ℤ g)) (sym w.pair.whole_is) (whole-range w.x g w.not_negative w.within)

    near : (x g : ℤ) → (pos 0 ≤ℤ x) × (x ≤ℤ g) → g ≤ℤ pos 1000000000000000 → Near 1000000000000000 x
    near x g h k = omega (arith, le-fact (at (pos 0)) (at x) h.0, le-fact (at x) (at g) h.1, le-fact (at g) (at (pos 1000000000000000)) k)
