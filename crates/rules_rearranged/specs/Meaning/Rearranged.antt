-- The order of orders (request S-9): a case with its orders in another order, and a proposal with its volumes moved
-- alike. `OrderOfOrders` shows what is the same for the two hours. Assumes nothing.
use Rattle.std.specs.Prelude.{◌≡◌, Bool, List, [], ◌++◌, ℕ, zero, suc, ◌+◌, ◌*◌, ◌≤◌, ◌<◌, length, get_or, take, drop}
use Rattle.rules_rearranged.specs.Meaning.Permutation.{Permutation}
use Rattle.rules.specs.Meaning.Layout.{zones_in, order_at, order_size, orders_in, proposal_header, proposal_length}
use Rattle.rules.specs.Meaning.Hour.{Case, Plan, case_of, plan_of, prices_of, zone_price}
use Rattle.base_causes.specs.declared.Outcome.{Outcome}
use Rattle.rules.specs.Meaning.Verdict.{excess_volume, outcome, Readable}
use Rattle.rules.specs.Meaning.Report.{totals_of, buffer_after}

-- ROWS OF A FILE, each of `size` bytes, from an offset on: row i, and the first n of a list of rows in a run
unfoldable pub file_row : ℕ → ℕ → List ℕ → ℕ → List ℕ
file_row start size s i = take size (drop (start + i * size) s)

unfoldable pub joined_rows : ℕ → (ℕ → List ℕ) → List ℕ
joined_rows zero row = []
joined_rows (suc n) row = joined_rows n row ++ row n

-- the file with its n rows in another order: place i has the row from `source i`. All before and after the rows
-- stays.
unfoldable pub reordered : (start size n : ℕ) → (ℕ → ℕ) → List ℕ → List ℕ
reordered start size n source s = take start s ++ (joined_rows n (λ i. file_row start size s (source i)) ++ drop (start + n * size) s)

-- the same byte by byte; `Places` shows that the two agree
pub record Reordered (start size n : ℕ) (source : ℕ → ℕ) (s s'' : List ℕ) : Type 0 where
  pub long : length s'' ≡ length s
  pub before : (k : ℕ) → k < start → get_or s'' k 0 ≡ get_or s k 0
  pub row : (i k : ℕ) → i < n → k < size → get_or s'' (start + i * size + k) 0 ≡ get_or s (start + source i * size + k) 0
  pub after : (k : ℕ) → start + n * size ≤ k → get_or s'' k 0 ≡ get_or s k 0

-- THE ORDERS OF A CASE, ten bytes each, and THE VOLUMES OF A PROPOSAL for it, four bytes each
unfoldable pub rearranged_case : (s : List ℕ) → Permutation (orders_in s) → List ℕ
rearranged_case s π = reordered (order_at s 0) order_size (orders_in s) π.source s

unfoldable pub rearranged_proposal : (s : List ℕ) → Permutation (orders_in s) → List ℕ → List ℕ
rearranged_proposal s π t = reordered proposal_header 4 (orders_in s) π.source t

-- ROW 21 AT ORDER i: its volume is above its quantity
unfoldable pub excess : Case → Plan → ℕ → Bool
excess c p = (excess_volume c p).fails

-- THE SAME VERDICT, o before and o' after: only the index of 21 may move
pub record SameVerdict (o o' : Outcome) : Type 0 where
  pub number_same : o'.number ≡ o.number
  pub index_same : (o.number ≡ 21 → ⊥) → o'.index ≡ o.index

-- THE SAME HOUR, case s and proposal t before, s'' and t'' after. The case is still readable, the proposal still has
-- the right length for it, and both lengths are unchanged. Verdict, totals, zone prices and every byte of the
-- report buffer afterwards are the same
pub record SameHour (s t s'' t'' : List ℕ) : Type 0 where
  pub readable : Readable s''
  pub case-length : length s'' ≡ length s
  pub proposal-length : length t'' ≡ length t
  pub right-length : length t'' ≡ proposal_length s''
  pub verdict : (room : ℕ) → SameVerdict (outcome s t room) (outcome s'' t'' room)
  pub totals : totals_of (case_of s'') (plan_of s'' t'') (prices_of s'' t'') ≡ totals_of (case_of s) (plan_of s t) (prices_of s t)
  pub prices : (z : ℕ) → z < zones_in s → zone_price (case_of s'') (prices_of s'' t'') z ≡ zone_price (case_of s) (prices_of s t) z
  pub buffer : (b : List ℕ) → buffer_after s'' t'' b ≡ buffer_after s t b
