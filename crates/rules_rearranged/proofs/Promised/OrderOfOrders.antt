-- The order of orders does not matter (request S-9). Rearrange the orders of a readable case, and in the same way
-- the volumes of a proposal of the right length. The verdict is the same, except for the index of 21. So is every
-- total, every zone price and every byte of the report buffer. Assumes nothing.
use Rattle.std.specs.Prelude.{◌≡◌, Bool, not, ◌&&◌, ℕ, zero, suc, ◌+◌, ◌<◌, length, ℤ, pos}
use Rattle.std.proofs.Math.Path.{refl, sym, ap, subst}
use Rattle.std.proofs.Common.{◌∙◌, arith}
use Rattle.std.proofs.Math.Bool.{cond}
use mathlib.Core.List.{List, ◌++◌}
use Rattle.std.proofs.Math.Option.{none}
use Rattle.std.proofs.Math.Dec.{T}
use Rattle.std.proofs.Math.ListN.{drop}
use Rattle.base_integers.specs.Meaning.Bytes.{signed64}
use Rattle.base_integers.specs.Meaning.Ranges.{outside, is_zero}
use Rattle.rules_rearranged.specs.Meaning.Permutation.{Permutation}
use Rattle.base_limits.specs.Meaning.Limits as limits
use Rattle.rules.specs.Meaning.Layout.{tolerance_in, orders_in, volume_in, case_length, proposal_length, case_header, proposal_header, branch_field_at, link_fields, link_field_at, order_fields, shadow_at, zone_price_at}
use Rattle.rules.specs.Meaning.Hour.{Case, Plan, Prices, case_of, plan_of, prices_of, link_use, link_room, branch_room, branch_price, zone_price, no_link}
use Rattle.base_causes.specs.declared.Outcome.{Outcome}
use Rattle.base_causes.specs.Meaning.Causes.{first_below, any_below, refusal, answer, once}
use Rattle.rules.specs.Meaning.Verdict.{◌under◌, ◌over◌, ◌over_z◌, differ, branch_fault, link_fault, order_fault, bad_order_field, room_causes, case_causes, proposal_causes, clearing_causes, table, outcome, Readable, case_refusal}
use Rattle.rules.specs.Meaning.Report.{totals_of, header_bytes, total_bytes, price_bytes, report_text, report_bytes, report_size, reports, written, buffer_after}
use Rattle.base_causes.proofs.Promised.CauseLaws.{First, first-none, lacks, cause_numbered, number-passes, row-by-number}
use Rattle.rules.specs.Meaning.Clearing.{Placed}
use Rattle.rules.proofs.Steps.SameTables.{SameTables, counted, counted_is, any-ext, branch-fault, link-fault, order-fault, net-sum, link-broken, branch-broken, zone-price, gap_same, totals-same}
use Rattle.rules.proofs.Steps.Passed.{case-sound, case-length}
use Rattle.rules_rearranged.specs.Meaning.Rearranged.{rearranged_case, rearranged_proposal, excess, SameVerdict, SameHour}
use Rattle.rules_rearranged.proofs.Steps.MovedOrders.{moved_case, with_volumes, still_placed, branch-fault-is, link-fault-is, net-sum-moved, branch-use-moved, gap-moved, totals-moved}
use Rattle.rules_rearranged.proofs.Steps.RearrangedFile.{case-moved, volume-moved, plan-moved, prices-same, mark-same, version-same, length-same, length-demanded, branch-field-same, link-field-same, shadow-at-same, proposal-mark-same, proposal-version-same, proposal-length-same, proposal-demanded}
use Rattle.rules_rearranged.proofs.Steps.SameRows.{SameRows, no_row, and-row, same_row, same-each, same-each-at, same-each-field, nowhere-row, refusal-same, SameTable, after-rows, same_answer, same-but-21, nowhere-after}

-- the report's prices
price-bytes : (n : ℕ) (f f' : ℕ → ℤ) → ((z : ℕ) → z < n → f' z ≡ f z) → price_bytes n f' ≡ price_bytes n f
unfolding price_bytes
price-bytes zero f f' h = refl
price-bytes (suc n) f f' h = λ j. price-bytes n f f' (λ z l. h z (omega arith)) j ++ signed64 (h n (omega arith) j)

-- ROWS 1 TO 8: a rearranged case is readable too
module _ (s : List ℕ) (π : Permutation (orders_in s)) (r : Readable s) where
  abbrev c : Case
  c = case_of s

  abbrev s'' : List ℕ
  s'' = rearranged_case s π

  -- the rearranged case under the first one's counts; below them its fields are those of the case with its orders
  -- moved
  abbrev moved : Case
  moved = moved_case (case_of s) π.source

  abbrev c' : Case
  c' = counted moved (case_of s'')

  whole : length s ≡ case_length s
  whole = case-length s r

  m : SameTables moved (case_of s'')
  m = case-moved s π whole

  case-is : case_of s'' ≡ c'
  case-is = sym (counted_is moved (case_of s'') m)

  placed : Placed moved
  unfolding case_of
  placed = still_placed c π (case-sound s r).placed

  -- no order was at fault, so none is now
  abbrev at_fault : Case → ℕ → Bool
  at_fault x i = any_below order_fields (order_fault x i)

  none_before : first_below c.orders (at_fault c) ≡ none
  unfolding case_refusal case_causes cause_numbered
  none_before = first-none c.orders (at_fault c) (number-passes (case_causes s c) r.none-holds 8).pass

  none_after : first_below c.orders (at_fault c') ≡ none
  unfolding case_of order_fault moved_case
  none_after = nowhere-after π (at_fault c) (at_fault c')
      (λ i h. any-ext order_fields (order_fault c' i) (order_fault c (π.source i)) (λ n k. sym (order-fault moved (case_of s'') m i n h))) none_before

  branch_same : (b n : ℕ) → b < c.branches → n < 1 + c.zones → branch_fault c' b n ≡ branch_fault c b n
  unfolding case_of moved_case
  branch_same b n h k = sym (branch-fault moved (case_of s'') m b n h k) ∙ branch-fault-is c π b n

  link-same : (l n : ℕ) → l < c.links → n < link_fields → link_fault c' l n ≡ link_fault c l n
  unfolding case_of moved_case
  link-same l n h k = sym (link-fault moved (case_of s'') m l n h) ∙ link-fault-is c π l n

  case_rows : SameRows (case_causes s c) (case_causes s'' c')
  unfolding case_causes counted moved_case
  case_rows =
      and-row (same_row (λ j. once 1 (length-same s π whole j under case_header)))
      (and-row (same_row (λ j. once 2 (mark-same s π whole 76 84 67 j)))
      (and-row (same_row (λ j. once 3 (differ (version-same s π whole j) 1 && differ (version-same s π whole j) 2)))
      (and-row (same_row refl)
      (and-row (same_row refl)
      (and-row (same_row refl)
      (and-row (same_row refl)
      (and-row (same_row refl)
      (and-row (same_row (λ j. once 5 (differ (length-same s π whole j) (length-demanded s π whole j))))
      (and-row (same-each-field 6 (branch_fault c) (branch_fault c') (branch_field_at s) (branch_field_at s'') branch_same (branch-field-same s π whole))
      (and-row (same-each-field 7 (link_fault c) (link_fault c') (link_field_at s) (link_field_at s'') link-same (link-field-same s π whole))
      (and-row (nowhere-row (bad_order_field s c) (bad_order_field s'' c') refl none_before none_after)
      no_row)))))))))))

  pub still-readable : Readable s''
  unfolding case_refusal
  still-readable = record { none-holds = ap (λ (x : Case). refusal (case_causes s'' x)) case-is ∙ refusal-same case_rows ∙ r.none-holds }

  -- ROWS 9 TO 26, of a proposal of the right length
  module _ (t : List ℕ) (right : length t ≡ proposal_length s) where
    abbrev t'' : List ℕ
    t'' = rearranged_proposal s π t

    abbrev p : Plan
    p = plan_of s t

    abbrev d : Prices
    d = prices_of s t

    abbrev p' : Plan
    p' = with_volumes p (volume_in s'' t'')

    plan-is : plan_of s'' t'' ≡ p'
    plan-is = plan-moved s π whole t right

    prices-are : prices_of s'' t'' ≡ d
    prices-are = prices-same s π whole t right

    proposal-rows : SameRows (proposal_causes s t c p d) (proposal_causes s'' t'' c' p' d)
    unfolding proposal_causes counted moved_case with_volumes
    proposal-rows =
        and-row (same_row (λ j. once 9 (proposal-length-same s π whole t right j under proposal_header)))
        (and-row (same_row (λ j. once 10 (proposal-mark-same s π whole t right 76 84 80 j)))
        (and-row (same_row (λ j. once 11 (differ (proposal-version-same s π whole t right j) 1)))
        (and-row (same_row (λ j. once 12 (differ (proposal-length-same s π whole t right j) (proposal-demanded s π whole j))))
        (and-row (same_row refl)
        (and-row (same-each-at 14 _ _ (shadow_at s) (shadow_at s'') (λ b h. refl) (shadow-at-same s π whole))
        no_row)))))

    -- the orders with a volume above their quantity are the same, at their new places
    pub excess-moved : (i : ℕ) → i < orders_in s → excess (case_of s'') (plan_of s'' t'') i ≡ excess c p (π.source i)
    unfolding case_of plan_of excess moved_case
    excess-moved i h = λ j. volume-moved s π whole t right i h j over sym (m.quantity-same i h) j

    clearing-rows : SameTable (clearing_causes none c p d) (clearing_causes none c' p' d)
    unfolding clearing_causes no_link excess case_of plan_of counted moved_case with_volumes link_use link_room branch_room zone_price branch_price
    clearing-rows =
        let x = volume-moved s π whole t right in
        same-but-21 π (excess c p) (excess c' p') excess-moved
        (and-row (same_row (λ j. once 22 (not (is_zero ((sym (net-sum moved (case_of s'') m p') ∙ net-sum-moved c π p (volume_in s'' t'') x) j)))))
        (and-row (same_row refl)
        (and-row (same-each 23 _ _ (λ l h. sym (link-broken moved (case_of s'') m p' l h)))
        (and-row (same-each 24 _ _ (λ b h. sym (branch-broken moved (case_of s'') m p' b h) ∙ ap (λ (x : ℤ). x over_z (branch_room c p b)) (branch-use-moved c π p (volume_in s'' t'') x b)))
        (and-row (same-each 25 _ _ (λ z h. ap (outside limits.zone_price) (sym (zone-price moved (case_of s'') m d z h))))
        (and-row (same_row (λ j. once 26 (((sym (gap_same moved (case_of s'') m d placed p') ∙ gap-moved c π p (volume_in s'' t'') x d) j) over_z (limits.microcents_of (pos c.tolerance)))))
        no_row))))))

    -- THE VERDICT IS THE SAME, except for the index of 21
    pub same-verdict : (room : ℕ) → SameVerdict (outcome s t room) (outcome s'' t'' room)
    unfolding outcome table room_causes counted case_of moved_case tolerance_in
    same-verdict room = subst (λ (x : Outcome). SameVerdict (outcome s t room) x) (λ j. answer (refusal (table none s'' t'' room (sym case-is j) (sym plan-is j) (sym prices-are j))))
        (same_answer (after-rows (and-row (same_row refl) no_row) (after-rows case_rows (after-rows proposal-rows (after-rows (and-row (same_row refl) no_row) clearing-rows)))).same)

    -- THE INDEX OF 21 is the first new place of an order at fault
    pub index-of-21 : (room : ℕ) → (outcome s t room).number ≡ 21 → First (orders_in s) (λ i. excess c p (π.source i)) (outcome s'' t'' room).index
    unfolding outcome table room_causes case_causes proposal_causes clearing_causes lacks cause_numbered case_of excess moved_case
    index-of-21 room e =
        let row = row-by-number 21 (table none s'' t'' room (case_of s'') (plan_of s'' t'') (prices_of s'' t'')) (omega arith) tt tt ((same-verdict room).number_same ∙ e) in
        let place = row.first-place in
        let here : (outcome s'' t'' room).index ≡ row.place = ap (λ (o : Outcome). o.index) row.is in
        let below : row.place < orders_in s = subst (λ (n : ℕ). row.place < n) (sym m.orders-same) place.place_in in
        subst (λ (k : ℕ). First (orders_in s) (λ i. excess c p (π.source i)) k) (sym here) (record {
          place_in = below;
          holds = subst T (excess-moved row.place below) place.holds;
          none_before = λ i h. subst (λ (b : Bool). T (not b)) (excess-moved i (omega (arith, h, below))) (place.none_before i h);
        })

    -- EVERY TOTAL AND EVERY ZONE PRICE IS THE SAME, whatever the verdict
    pub same-totals : totals_of (case_of s'') (plan_of s'' t'') (prices_of s'' t'') ≡ totals_of c p d
    unfolding case_of plan_of
    same-totals = (λ j. totals_of (case-is j) (plan-is j) (prices-are j)) ∙ sym (totals-same moved (case_of s'') m d placed p') ∙ totals-moved c π p (volume_in s'' t'') (volume-moved s π whole t right) d

    pub same-prices : (z : ℕ) → z < c.zones → zone_price (case_of s'') (prices_of s'' t'') z ≡ zone_price c d z
    unfolding zone_price branch_price moved_case
    same-prices z h = (λ j. zone_price (case-is j) (prices-are j) z) ∙ sym (zone-price moved (case_of s'') m d z h)

    -- EVERY BYTE OF THE REPORT BUFFER IS THE SAME
    zones-are : (case_of s'').zones ≡ c.zones
    unfolding moved_case
    zones-are = sym m.zones-same

    report-same : (number : ℕ) → report_bytes number (case_of s'') (plan_of s'' t'') (prices_of s'' t'') ≡ report_bytes number c p d
    unfolding report_bytes report_text
    report-same number = (λ j. report_text number (zones-are j) (same-totals j) (zone_price (case_of s'') (prices_of s'' t'')))
        ∙ ap (λ (b : List ℕ). header_bytes number c.zones ++ total_bytes (totals_of c p d) ++ b) (price-bytes c.zones (zone_price c d) (zone_price (case_of s'') (prices_of s'' t'')) same-prices)

    pub same-buffer : (buffer : List ℕ) → buffer_after s'' t'' buffer ≡ buffer_after s t buffer
    unfolding buffer_after written report_size
    same-buffer buffer =
        let e = (same-verdict (length buffer)).number_same in
        λ j. cond (reports (e j)) ((report-same (outcome s'' t'' (length buffer)).number ∙ ap (λ (n : ℕ). report_bytes n c p d) e) j ++ drop (zone_price_at (zones-are j)) buffer) buffer

-- S-9
pub order-of-orders : (s t : List ℕ) → Readable s → length t ≡ proposal_length s → (π : Permutation (orders_in s)) → SameHour s t (rearranged_case s π) (rearranged_proposal s π t)
unfolding case_of
order-of-orders s t r right π = record {
  readable = still-readable s π r;
  case-length = length-same s π (case-length s r);
  proposal-length = proposal-length-same s π (case-length s r) t right;
  right-length = proposal-length-same s π (case-length s r) t right ∙ right ∙ sym (proposal-demanded s π (case-length s r));
  verdict = same-verdict s π r t right;
  totals = same-totals s π r t right;
  prices = same-prices s π r t right;
  buffer = same-buffer s π r t right;
}
