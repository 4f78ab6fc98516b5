-- WHAT THE ENTRY ANSWERS (S-14): for an accepted hour its shortfalls, each as two numbers, whole microcents and
-- hundred-thousandths of one. An hour that is not accepted gets the judgement's answer with room for a report, so
-- 30 does not occur. Assumes nothing.
use Rattle.std.specs.Prelude.{◌≡◌, List, [], ◌∷◌, ◌++◌, ℕ, zero, suc, ◌+◌, ◌*◌, ◌/◌, ◌%◌, ◌<◌, length, get_or, drop, ℤ, pos, nat_abs, ◌+ℤ◌, ◌*ℤ◌, ◌≤ℤ◌}
use Rattle.std.proofs.Math.Option.{Option, none, some}
use Rattle.std.specs.Int.{w64}
use Rattle.std.proofs.Common.{SFits}
use Rattle.base_integers.specs.Meaning.Sums.{sum_to}
use Rattle.base_limits.specs.Meaning.Limits.{parts_in_one}
use Rattle.base_causes.specs.declared.Outcome.{Outcome}
use Rattle.base_causes.specs.Meaning.Causes.{Cause, refusal, answer, once}
use Rattle.rules.specs.Meaning.Layout.{report_room}
use Rattle.rules.specs.Meaning.Hour.{Case, Plan, Prices, case_of, plan_of, prices_of, gap}
use Rattle.rules.specs.Meaning.Verdict.{◌under◌, table}
use Rattle.short_rules.specs.Meaning.Shortfalls.{order_shortfall, branch_shortfall, link_shortfall}

-- TWO NUMBERS for a shortfall. It is never negative, so whole microcents can be split off; as one number it would
-- fit 64 bits only thanks to the tolerance's limit
unfoldable pub whole_of : ℤ → ℤ
whole_of x = pos (nat_abs x / parts_in_one)

unfoldable pub parts_of : ℤ → ℤ
parts_of x = pos (nat_abs x % parts_in_one)

-- the numbers of n shortfalls, in order
unfoldable pub pairs_to : ℕ → (ℕ → ℤ) → List ℤ
pairs_to zero f = []
pairs_to (suc n) f = pairs_to n f ++ (whole_of (f n) ∷ parts_of (f n) ∷ [])

-- each order, then each branch, then each link, in file order
unfoldable pub shortfall_numbers : Case → Plan → Prices → List ℤ
shortfall_numbers c p d =
    pairs_to c.orders (λ i. order_shortfall c p d i)
    ++ (pairs_to c.branches (λ m. branch_shortfall c p d m)
    ++ pairs_to c.links (λ l. link_shortfall c p d l))

-- how many there are
unfoldable pub shortfall_count : Case → ℕ
shortfall_count c = c.orders + c.branches + c.links

-- THE TABLE, for a case s, a proposal t and an output of `room` numbers: the verdict table, and then 86: the output
-- is too short
unfoldable pub shortfall_causes : List ℕ → List ℕ → ℕ → List Cause
shortfall_causes s t room = table none s t report_room (case_of s) (plan_of s t) (prices_of s t) ++ (once 86 (room under (2 * shortfall_count (case_of s))) ∷ [])

unfoldable pub shortfall_outcome : List ℕ → List ℕ → ℕ → Outcome
shortfall_outcome s t room = answer (refusal (shortfall_causes s t room))

-- what is written, nothing for a refusal; the output afterwards, unchanged past what is written
abbrev pub written_by : Option Outcome → List ℤ → List ℤ
written_by (some o) numbers = []
written_by none numbers = numbers

unfoldable pub shortfall_written : List ℕ → List ℕ → ℕ → List ℤ
shortfall_written s t room = written_by (refusal (shortfall_causes s t room)) (shortfall_numbers (case_of s) (plan_of s t) (prices_of s t))

unfoldable pub shortfall_output : List ℕ → List ℕ → List ℤ → List ℤ
shortfall_output s t out = let w = shortfall_written s t (length out) in w ++ drop (length w) out

-- READ BACK: pair n of an output
unfoldable pub whole_at : List ℤ → ℕ → ℤ
whole_at out n = get_or out (2 * n) (pos 0)

unfoldable pub parts_at : List ℤ → ℕ → ℤ
parts_at out n = get_or out (2 * n + 1) (pos 0)

unfoldable pub shortfall_at : List ℤ → ℕ → ℤ
shortfall_at out n = whole_at out n *ℤ pos parts_in_one +ℤ parts_at out n

-- WHAT IS PROMISED OF AN ANSWER
pub record Answers (c : Case) (p : Plan) (d : Prices) (out : List ℤ) : Type 0 where
  -- each pair is its order's, branch's or link's shortfall
  pub order_is : (i : ℕ) → i < c.orders → shortfall_at out i ≡ order_shortfall c p d i
  pub branch-is : (m : ℕ) → m < c.branches → shortfall_at out (c.orders + m) ≡ branch_shortfall c p d m
  pub link-is : (l : ℕ) → l < c.links → shortfall_at out (c.orders + c.branches + l) ≡ link_shortfall c p d l
  -- the parts of a microcent are below 100,000, and zero for orders and branches; each whole fits 64 bits
  pub order-whole : (i : ℕ) → i < c.orders → parts_at out i ≡ pos 0
  pub branch-whole : (m : ℕ) → m < c.branches → parts_at out (c.orders + m) ≡ pos 0
  pub parts_in : (n : ℕ) → n < shortfall_count c → (pos 0 ≤ℤ parts_at out n) × (parts_at out n ≤ℤ pos 99999)
  pub whole_in : (n : ℕ) → n < shortfall_count c → (pos 0 ≤ℤ whole_at out n) × (whole_at out n ≤ℤ gap c p d)
  pub whole-fits : (n : ℕ) → n < shortfall_count c → SFits w64 (whole_at out n)
  -- none is negative, all together are at most the gap, and at gap zero each number is zero
  pub none-negative : (n : ℕ) → n < shortfall_count c → pos 0 ≤ℤ shortfall_at out n
  pub together : sum_to (shortfall_count c) (λ n. shortfall_at out n) ≤ℤ (pos parts_in_one *ℤ gap c p d)
  pub all-zero : gap c p d ≡ pos 0 → (n : ℕ) → n < shortfall_count c → (whole_at out n ≡ pos 0) × (parts_at out n ≡ pos 0)
