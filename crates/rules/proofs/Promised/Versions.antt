-- S-4: VERSION 1 IS READ WITH CONTRACTED EQUAL TO CAPACITY. Take any case of version 1, readable or not, and the
-- case of version 2 that repeats each link's capacity as its contracted volume. Both are judged alike, whatever the
-- proposal and the buffer: number, totals, prices and every byte of the report are the same. The index is the same
-- too, except that an offset of 7 or 8 moves with its field. Assumes nothing.
use Rattle.std.specs.Prelude.{◌≡◌, Bool, true, false, List, [], ◌∷◌, ◌++◌, T, eqb, drop, ℤ, pos}
use Rattle.std.proofs.Math.Path.{refl, sym, ap}
use Rattle.std.proofs.Common.{◌∙◌, subst}
use Rattle.std.proofs.Math.Bool.{not, cond}
use Rattle.std.proofs.Math.Option.{Option, none, some}
use Prim.Native.Nat.{ℕ, zero, suc, ◌+◌, ◌*◌, ◌-◌, ◌≤◌, ◌<◌}
use Rattle.std.proofs.Math.Decide.{dec_lt}
use native.Mathlib.Omega.{arith}
use borrow.Author.Tests.{le-ltb, lt-ltb, eq-eqb, ne_eqb}
use Rattle.std.proofs.Math.Dec.{ltb}
use Rattle.std.proofs.Math.ListN.{length}
use Rattle.base_integers.specs.Meaning.Bytes.{signed64}
use Rattle.base_integers.specs.Meaning.Ranges.{outside, is_zero}
use Rattle.base_integers.specs.Steps.Ranges.{is_true, is_false}
use Rattle.base_limits.specs.Meaning.Limits as limits
use Rattle.rules.specs.Meaning.Layout.{u32_at, case_version, links_in, contracts, capacity_in, contracted_in, branch_field_at, link_fields, link_field_at, order_fields, order_field_at, zone_counts, branch_counts, link_counts, order_counts, case_length, flow_in, shadow_at, shadow_in, share_in, system_in, volume_in, proposal_length}
use Rattle.rules.specs.Meaning.Hour.{Case, Plan, Prices, case_of, plan_of, prices_of, zone_price, no_link}
use Rattle.base_causes.specs.declared.Outcome.{Outcome}
use Rattle.base_causes.specs.Meaning.Causes.{Cause, verdict, first_below, any_below, first_field, place_else, refusal, answer}
use Rattle.base_causes.proofs.Promised.CauseLaws.{First, first-is, first-ext, first-field, row-found, row-clear, field-fails, else-refusal, refusal-append, behind}
use Rattle.rules.specs.Meaning.Verdict.{◌over_z◌, differ, branch_fault, link_fault, order_fault, room_causes, case_causes, proposal_causes, clearing_causes, judgement_causes, table, outcome, case_refusal, Readable, case_header_causes, case_body_causes}
use Rattle.rules.specs.Meaning.Report.{price_bytes, header_bytes, total_bytes, report_text, report_bytes, report_size, reports, written, buffer_after}
use Rattle.rules.specs.Meaning.Clearing.{Placed}
use Rattle.rules.proofs.Steps.Passed.{case-rows-sound, case-rows-length, case-sound, sound}
use Rattle.rules.proofs.Steps.SameTables.{SameTables, counted, counted_is, any-ext, branch-fault, link-fault, order-fault, net-sum, link-broken, branch-broken, zone-price, gap_same, totals-same}
use Rattle.rules.proofs.Promised.PlainFacts.{case-facts}
use Rattle.rules.proofs.Promised.RefusedField.{contracted-named}
use Rattle.rules.proofs.Promised.Reported.{unchanged}
use Rattle.rules.specs.Meaning.Versions.{upgraded, moved_index, moved}
use Rattle.rules.proofs.Steps.Upgraded as bytes

-- A TABLE WITH MAPPED OUTCOMES: the same places and tests, row by row
abbrev mapped : (Outcome → Outcome) → Option Outcome → Option Outcome
mapped f (some o) = some (f o)
mapped f none = none

row-mapped : (f : Outcome → Outcome) (r q : Cause) (rs qs : List Cause) → r.places ≡ q.places → ((k : ℕ) → k < r.places → r.fails k ≡ q.fails k)
    → ((k : ℕ) → First r.places r.fails k → verdict q.number (q.index k) ≡ f (verdict r.number (r.index k)))
    → refusal qs ≡ mapped f (refusal rs) → refusal (q ∷ qs) ≡ mapped f (refusal (r ∷ rs))
row-mapped f r q rs qs places fails index rest = by (first_below r.places r.fails) refl
  where
    other : first_below q.places q.fails ≡ first_below r.places r.fails
    other = ap (λ (n : ℕ). first_below n q.fails) (sym places) ∙ sym (first-ext r.places r.fails q.fails fails)

    by : (o : Option ℕ) → first_below r.places r.fails ≡ o → refusal (q ∷ qs) ≡ mapped f (refusal (r ∷ rs))
    by (some k) x = row-found q qs k (other ∙ x) ∙ ap some (index k (first-is r.places r.fails k x)) ∙ ap (mapped f) (sym (row-found r rs k x))
    by none x = row-clear q qs (other ∙ x) ∙ rest ∙ ap (mapped f) (sym (row-clear r rs x))

-- rows with mapped outcomes, and one row more
record Maps (f : Outcome → Outcome) (rs qs : List Cause) : Type 0 where
  is : refusal qs ≡ mapped f (refusal rs)

no_rows : {f : Outcome → Outcome} → Maps f [] []
unfolding refusal
no_rows = record { is = refl }

more : {f : Outcome → Outcome} {r q : Cause} {rs qs : List Cause} → r.places ≡ q.places → ((k : ℕ) → k < r.places → r.fails k ≡ q.fails k)
    → ((k : ℕ) → First r.places r.fails k → verdict q.number (q.index k) ≡ f (verdict r.number (r.index k))) → Maps f rs qs → Maps f (r ∷ rs) (q ∷ qs)
more {f} {r} {q} {rs} {qs} places fails index rest = record { is = row-mapped f r q rs qs places fails index rest.is }

rows-mapped : (f : Outcome → Outcome) (rs qs xs ys : List Cause) → refusal qs ≡ mapped f (refusal rs) → (refusal rs ≡ none → refusal ys ≡ mapped f (refusal xs))
    → refusal (qs ++ ys) ≡ mapped f (refusal (rs ++ xs))
rows-mapped f rs qs xs ys first rest = by (refusal rs) refl
  where
    by : (o : Option Outcome) → refusal rs ≡ o → refusal (qs ++ ys) ≡ mapped f (refusal (rs ++ xs))
    by (some x) e =
        refusal-append qs ys ∙ ap (λ (o : Option Outcome). else-refusal o (refusal ys)) (first ∙ ap (mapped f) e)
        ∙ ap (mapped f) (sym (refusal-append rs xs ∙ ap (λ (o : Option Outcome). else-refusal o (refusal xs)) e))
    by none e =
        refusal-append qs ys ∙ ap (λ (o : Option Outcome). else-refusal o (refusal ys)) (first ∙ ap (mapped f) e)
        ∙ rest e ∙ ap (mapped f) (sym (refusal-append rs xs ∙ ap (λ (o : Option Outcome). else-refusal o (refusal xs)) e))

answer-mapped : (s : List ℕ) (o : Option Outcome) → answer (mapped (moved s) o) ≡ moved s (answer o)
unfolding moved_index
answer-mapped s (some o) = refl
answer-mapped s none = refl

-- the first field at fault, where the tests agree
field-same : (w : ℕ) (f g : ℕ → Bool) → ((k : ℕ) → k < w → f k ≡ g k) → first_field w f ≡ first_field w g
unfolding first_field
field-same w f g h = ap place_else (first-ext w f g h)

prices-same : (n : ℕ) (f g : ℕ → ℤ) → ((z : ℕ) → z < n → f z ≡ g z) → price_bytes n f ≡ price_bytes n g
unfolding price_bytes
prices-same zero f g h = refl
prices-same (suc n) f g h = λ j. prices-same n f g (λ z k. h z (omega arith)) j ++ signed64 (h n (omega arith) j)

module _ (s : List ℕ) (version-1 : case_version s ≡ 1) (long : 14 ≤ length s) where
  -- A CASE OF THE LENGTH THAT ITS HEADER DEMANDS
  module _ (whole : length s ≡ case_length s) where
    abbrev v : List ℕ
    v = upgraded s

    same : SameTables (case_of s) (case_of v)
    same = bytes.same s version-1 long whole

    -- THE ROWS of the second case under the first one's counts
    abbrev c : Case
    c = case_of s

    abbrev e : Case
    e = counted c (case_of v)

    abbrev f : Outcome → Outcome
    f = moved s

    -- in version 1 the contracted volume is never at fault
    below-contracted : (l n : ℕ) → n < link_fields → T (link_fault c l n) → n < 3
    below-contracted l zero h t = omega arith
    below-contracted l (suc zero) h t = omega arith
    below-contracted l (suc (suc zero)) h t = omega arith
    below-contracted l (suc (suc (suc n))) h t = absurd (other (contracted-named s l (subst (λ (k : ℕ). T (link_fault c l k)) (omega arith) t)).0)
      where
        other : case_version s ≡ 2 → ⊥
        other q = omega (arith, version-1, q)

    case-mapped : refusal (case_causes v e) ≡ mapped f (refusal (case_causes s c))
    unfolding case_causes counted moved_index
    case-mapped =
        let rows : Maps f (case_causes s c) (case_causes v e) =
        more refl (λ k h. le-ltb (length s) 14 long ∙ sym (le-ltb (length v) 14 (bytes.still-long s version-1 long))) (λ k x. refl)
        (more refl (λ k h. bytes.mark-same s version-1 long) (λ k x. refl)
        (more refl (λ k h. bytes.version-same s version-1 long) (λ k x. refl)
        (more refl (λ k h. refl) (λ k x. refl)
        (more refl (λ k h. refl) (λ k x. refl)
        (more refl (λ k h. refl) (λ k x. refl)
        (more refl (λ k h. refl) (λ k x. refl)
        (more refl (λ k h. refl) (λ k x. refl)
        (more refl (λ k h. ap not (eq-eqb (length s) (case_length s) whole) ∙ sym (ap not (eq-eqb (length v) (case_length v) (bytes.upgraded-whole s version-1 long whole)))) (λ k x. refl)
        (more refl (λ m h. any-ext (1 + c.zones) (branch_fault c m) (branch_fault e m) (λ n k. branch-fault c (case_of v) same m n h k)) branch-named
        (more refl (λ l h. any-ext link_fields (link_fault c l) (link_fault e l) (λ n k. link-fault c (case_of v) same l n h)) link-named
        (more refl (λ i h. any-ext order_fields (order_fault c i) (order_fault e i) (λ n k. order-fault c (case_of v) same i n h)) order-named no_rows))))))))))) in
        rows.is
      where
        branch-named : (m : ℕ) → First c.branches (λ m. any_below (1 + c.zones) (branch_fault c m)) m
            → verdict 6 (branch_field_at v m (first_field (1 + c.zones) (branch_fault e m))) ≡ verdict 6 (branch_field_at s m (first_field (1 + c.zones) (branch_fault c m)))
        branch-named m x = ap (verdict 6) (bytes.branch-field-at s version-1 long m (first_field (1 + c.zones) (branch_fault e m))
            ∙ ap (branch_field_at s m) (sym (field-same (1 + c.zones) (branch_fault c m) (branch_fault e m) (λ n k. branch-fault c (case_of v) same m n x.place_in k))))

        link-named : (l : ℕ) → First c.links (λ l. any_below link_fields (link_fault c l)) l
            → verdict 7 (link_field_at v l (first_field link_fields (link_fault e l))) ≡ verdict 7 (moved_index s 7 (link_field_at s l (first_field link_fields (link_fault c l))))
        link-named l x =
            let g = first-field link_fields (link_fault c l) x.holds in
            ap (verdict 7) (ap (link_field_at v l) (sym (field-same link_fields (link_fault c l) (link_fault e l) (λ n k. link-fault c (case_of v) same l n x.place_in)))
            ∙ bytes.link-moves s version-1 long l (first_field link_fields (link_fault c l)) (below-contracted l (first_field link_fields (link_fault c l)) g.place_in g.holds))

        order-named : (i : ℕ) → First c.orders (λ i. any_below order_fields (order_fault c i)) i
            → verdict 8 (order_field_at v i (first_field order_fields (order_fault e i))) ≡ verdict 8 (moved_index s 8 (order_field_at s i (first_field order_fields (order_fault c i))))
        order-named i x = ap (verdict 8) (ap (order_field_at v i) (sym (field-same order_fields (order_fault c i) (order_fault e i) (λ n k. order-fault c (case_of v) same i n x.place_in)))
            ∙ bytes.order-moves s version-1 long i (first_field order_fields (order_fault c i)))

    -- the second case under its own counts
    whole-refusal : case_refusal v ≡ mapped f (case_refusal s)
    unfolding case_refusal
    whole-refusal = ap (λ (x : Case). refusal (case_causes v x)) (sym (counted_is c (case_of v) same)) ∙ case-mapped

    -- THE PROPOSAL is the same for both
    module _ (t : List ℕ) where
      abbrev p : Plan
      p = plan_of s t

      abbrev d : Prices
      d = prices_of s t

      plan-same : plan_of v t ≡ p
      unfolding plan_of volume_in flow_in
      plan-same = λ j. record { den = 1; share = share_in t; volume = λ i. u32_at t (13 + 4 * i); flow = λ l. u32_at t (13 + 4 * (bytes.orders-are s version-1 long j + l)) }

      shadow-at : (m : ℕ) → shadow_at v m ≡ shadow_at s m
      unfolding shadow_at
      shadow-at m = λ j. 13 + 4 * (bytes.orders-are s version-1 long j + bytes.links-are s version-1 long j + m)

      prices-are : prices_of v t ≡ d
      unfolding prices_of shadow_in
      prices-are = λ j. record { system = system_in t; shadow = λ m. u32_at t (shadow-at m j) }

      length-same : proposal_length s ≡ proposal_length v
      unfolding proposal_length
      length-same = sym (λ j. 13 + 4 * (bytes.orders-are s version-1 long j + bytes.links-are s version-1 long j + bytes.branches-are s version-1 long j))

      proposal-mapped : refusal (proposal_causes v t e p d) ≡ mapped f (refusal (proposal_causes s t c p d))
      unfolding proposal_causes counted moved_index
      proposal-mapped =
          let rows : Maps f (proposal_causes s t c p d) (proposal_causes v t e p d) =
          more refl (λ k h. refl) (λ k x. refl)
          (more refl (λ k h. refl) (λ k x. refl)
          (more refl (λ k h. refl) (λ k x. refl)
          (more refl (λ k h. ap (λ (n : ℕ). differ (length t) n) length-same) (λ k x. refl)
          (more refl (λ k h. refl) (λ k x. refl)
          (more refl (λ m h. refl) (λ m x. ap (verdict 14) (shadow-at m)) no_rows))))) in
          rows.is

      judgement-mapped : Placed c → refusal (judgement_causes none e p d) ≡ mapped f (refusal (judgement_causes none c p d))
      unfolding clearing_causes counted moved_index no_link
      judgement-mapped ok =
          let rows : Maps f (judgement_causes none c p d) (judgement_causes none e p d) =
          more refl (λ k h. refl) (λ k x. refl)
          (more refl (λ i h. ap (λ (n : ℕ). ltb n (p.volume i)) (same.quantity-same i h)) (λ k x. refl)
          (more refl (λ k h. ap (λ (x : ℤ). not (is_zero x)) (net-sum c (case_of v) same p)) (λ k x. refl)
          (more refl (λ k h. refl) (λ k x. refl)
          (more refl (λ l h. link-broken c (case_of v) same p l h) (λ k x. refl)
          (more refl (λ m h. branch-broken c (case_of v) same p m h) (λ k x. refl)
          (more refl (λ z h. ap (outside limits.zone_price) (zone-price c (case_of v) same d z h)) (λ k x. refl)
          (more refl (λ k h. ap (λ (x : ℤ). x over_z (limits.microcents_of (pos c.tolerance))) (gap_same c (case_of v) same d ok p)) (λ k x. refl) no_rows))))))) in
          rows.is

      case-is : case_of v ≡ e
      case-is = sym (counted_is c (case_of v) same)

      -- Up to here binary64 holds every whole number and a half exactly.
      whole-outcome : (room : ℕ) → outcome v t room ≡ moved s (outcome s t room)
      unfolding outcome table room_causes moved_index
      whole-outcome room =
          (λ j. answer (refusal (table none v t room (case-is j) (plan-same j) (prices-are j))))
          ∙ ap answer (rows-mapped f (room_causes room) (room_causes room) (case_causes s c ++ (proposal_causes s t c p d ++ judgement_causes none c p d)) (case_causes v e ++ (proposal_causes v t e p d ++ judgement_causes none e p d)) room-mapped
          (λ x. rows-mapped f (case_causes s c) (case_causes v e) (proposal_causes s t c p d ++ judgement_causes none c p d) (proposal_causes v t e p d ++ judgement_causes none e p d) case-mapped
          (λ readable. rows-mapped f (proposal_causes s t c p d) (proposal_causes v t e p d) (judgement_causes none c p d) (judgement_causes none e p d) proposal-mapped
          (λ y. judgement-mapped (case-rows-sound s c readable).placed))))
          ∙ answer-mapped s (refusal (table none s t room c p d))
        where
          room-mapped : refusal (room_causes room) ≡ mapped f (refusal (room_causes room))
          room-mapped = let rows : Maps f (room_causes room) (room_causes room) = more refl (λ k h. refl) (λ k x. refl) no_rows in rows.is

      -- EVERY BYTE OF THE REPORT BUFFER
      report-same : (number : ℕ) → Placed c → report_bytes number e p d ≡ report_bytes number c p d
      unfolding report_bytes report_text counted
      report-same number ok = sym (λ j. header_bytes number c.zones ++ total_bytes (totals-same c (case_of v) same d ok p j) ++ prices-same c.zones (zone_price c d) (zone_price e d) (zone-price c (case_of v) same d) j)

      whole-buffer : (buffer : List ℕ) → buffer_after v t buffer ≡ buffer_after s t buffer
      unfolding buffer_after written report_size counted
      whole-buffer buffer =
          (λ j. written (whole-outcome (length buffer) j) (case-is j) (plan-same j) (prices-are j) buffer)
          ∙ by (reports number) refl
        where
          number : ℕ
          number = (outcome s t (length buffer)).number

          by : (b : Bool) → reports number ≡ b → cond b (report_bytes number e p d ++ drop (report_size c) buffer) buffer ≡ cond b (report_bytes number c p d ++ drop (report_size c) buffer) buffer
          by true q = ap (λ (r : List ℕ). r ++ drop (report_size c) buffer) (report-same number (case-sound s (sound s t (length buffer) (is_true q)).readable).placed)
          by false q = refl

  -- A CASE OF ANOTHER LENGTH is refused by its header or by 5, and so is the case of version 2
  module _ (other : length s ≡ case_length s → ⊥) where
    abbrev w : List ℕ
    w = upgraded s

    header-mapped : refusal (case_header_causes w (case_of w)) ≡ mapped (moved s) (refusal (case_header_causes s (case_of s)))
    unfolding case_of moved_index
    header-mapped =
        let rows : Maps (moved s) (case_header_causes s (case_of s)) (case_header_causes w (case_of w)) =
        more refl (λ k h. le-ltb (length s) 14 long ∙ sym (le-ltb (length w) 14 (bytes.still-long s version-1 long))) (λ k x. refl)
        (more refl (λ k h. bytes.mark-same s version-1 long) (λ k x. refl)
        (more refl (λ k h. bytes.version-same s version-1 long) (λ k x. refl)
        (more refl (λ k h. sym (ap (λ (n : ℕ). outside zone_counts (pos n)) (bytes.zones-are s version-1 long))) (λ k x. refl)
        (more refl (λ k h. sym (ap (λ (n : ℕ). outside branch_counts (pos n)) (bytes.branches-are s version-1 long))) (λ k x. refl)
        (more refl (λ k h. sym (ap (λ (n : ℕ). outside link_counts (pos n)) (bytes.links-are s version-1 long))) (λ k x. refl)
        (more refl (λ k h. sym (ap (λ (n : ℕ). outside order_counts (pos n)) (bytes.orders-are s version-1 long))) (λ k x. refl)
        (more refl (λ k h. sym (ap (λ (n : ℕ). outside limits.tolerance (pos n)) (bytes.tolerance-is s version-1 long))) (λ k x. refl) no_rows))))))) in
        rows.is

    other-refusal : refusal (case_causes w (case_of w)) ≡ mapped (moved s) (refusal (case_causes s (case_of s)))
    unfolding case_causes moved_index
    other-refusal = rows-mapped (moved s) (case_header_causes s (case_of s)) (case_header_causes w (case_of w)) (case_body_causes s (case_of s)) (case_body_causes w (case_of w)) header-mapped (λ x.
        field-fails 5 0 (behind 5 (case_body_causes w (case_of w))) (ap not (ne_eqb (length w) (case_length w) (bytes.other-too s version-1 long other)))
        ∙ ap (mapped (moved s)) (sym (field-fails 5 0 (behind 5 (case_body_causes s (case_of s))) (ap not (ne_eqb (length s) (case_length s) other)))))

-- A FILE OF UNDER 14 BYTES is refused by 1, in both versions
module _ (s : List ℕ) (short : length s < 14) where
  short-refusal : refusal (case_causes (upgraded s) (case_of (upgraded s))) ≡ mapped (moved s) (refusal (case_causes s (case_of s)))
  unfolding case_causes moved_index
  short-refusal =
      field-fails 1 0 (behind 1 (case_causes (upgraded s) (case_of (upgraded s)))) (lt-ltb (length (upgraded s)) 14 (bytes.short-too s short))
      ∙ ap (mapped (moved s)) (sym (field-fails 1 0 (behind 1 (case_causes s (case_of s))) (lt-ltb (length s) 14 short)))

-- EVERY CASE OF VERSION 1
dec_eq : (a b : ℕ) → Dec (a ≡ b)
dec_eq a b = elim (dec_lt a b) [
  | yes l ↦ no (λ e. omega arith)
  | no g ↦ elim (dec_lt b a) [ yes l ↦ no (λ e. omega arith) | no h ↦ yes (omega arith) ]
]

module _ (s : List ℕ) (version-1 : case_version s ≡ 1) where
  -- each link contracts its capacity, in this case and in the one of version 2
  pub contracted-is : (l : ℕ) → contracted_in s l ≡ capacity_in s l
  unfolding contracted_in contracts
  contracted-is l = ap (λ (n : ℕ). cond (eqb n 2) (u32_at s (link_field_at s l 3)) (capacity_in s l)) version-1

  pub upgraded-is : Readable s → (case_version (upgraded s) ≡ 2) × ((l : ℕ) → l < links_in s → contracted_in (upgraded s) l ≡ capacity_in (upgraded s) l)
  unfolding case_of
  upgraded-is r =
      let ok = case-facts s r in
      let same = bytes.same s version-1 ok.header-there ok.length-is in
      (bytes.version-2 s version-1 ok.header-there, λ l h. sym (same.contracted-same l h) ∙ contracted-is l ∙ same.capacity-same l h)

  same-refusal : case_refusal (upgraded s) ≡ mapped (moved s) (case_refusal s)
  unfolding case_refusal
  same-refusal = elim (dec_lt (length s) 14) [
    | yes short ↦ short-refusal s short
    | no g ↦ elim (dec_eq (length s) (case_length s)) [
      | yes whole ↦ whole-refusal s version-1 (omega arith) whole
      | no other ↦ other-refusal s version-1 (omega arith) other
    ]
  ]

  pub same-readable : Readable s → Readable (upgraded s)
  same-readable r = record { none-holds = same-refusal ∙ ap (mapped (moved s)) r.none-holds }

  -- a case that is refused, with any proposal
  refused-outcome : (t : List ℕ) (room : ℕ) → (refusal (case_causes s (case_of s)) ≡ none → ⊥) → outcome (upgraded s) t room ≡ moved s (outcome s t room)
  unfolding outcome table case_refusal room_causes moved_index
  refused-outcome t room refused =
      let v = upgraded s in
      ap answer (rows-mapped (moved s) (room_causes room) (room_causes room) (case_causes s (case_of s) ++ (proposal_causes s t (case_of s) (plan_of s t) (prices_of s t) ++ judgement_causes none (case_of s) (plan_of s t) (prices_of s t))) (case_causes v (case_of v) ++ (proposal_causes v t (case_of v) (plan_of v t) (prices_of v t) ++ judgement_causes none (case_of v) (plan_of v t) (prices_of v t))) room-mapped
      (λ x. rows-mapped (moved s) (case_causes s (case_of s)) (case_causes v (case_of v)) (proposal_causes s t (case_of s) (plan_of s t) (prices_of s t) ++ judgement_causes none (case_of s) (plan_of s t) (prices_of s t)) (proposal_causes v t (case_of v) (plan_of v t) (prices_of v t) ++ judgement_causes none (case_of v) (plan_of v t) (prices_of v t)) same-refusal
      (λ none-holds. absurd (refused none-holds))))
      ∙ answer-mapped s (refusal (table none s t room (case_of s) (plan_of s t) (prices_of s t)))
    where
      room-mapped : refusal (room_causes room) ≡ mapped (moved s) (refusal (room_causes room))
      room-mapped = let rows : Maps (moved s) (room_causes room) (room_causes room) = more refl (λ k h. refl) (λ k x. refl) no_rows in rows.is

  -- NUMBER AND INDEX
  pub same_outcome : (t : List ℕ) (room : ℕ) → outcome (upgraded s) t room ≡ moved s (outcome s t room)
  unfolding case_refusal
  same_outcome t room = elim (dec_lt (length s) 14) [
    | yes short ↦ refused-outcome t room (λ e. never-short short (case-facts s (record { none-holds = e })).header-there)
    | no g ↦ elim (dec_eq (length s) (case_length s)) [
      | yes whole ↦ whole-outcome s version-1 (omega arith) whole t room
      | no other ↦ refused-outcome t room (λ e. other (case-rows-length s (case_of s) e))
    ]
  ]
    where
      never-short : length s < 14 → 14 ≤ length s → ⊥
      never-short h k = omega arith

  -- EVERY BYTE OF THE REPORT BUFFER, and so every total and every price
  pub same-buffer : (t buffer : List ℕ) → buffer_after (upgraded s) t buffer ≡ buffer_after s t buffer
  same-buffer t buffer = by (reports (outcome s t (length buffer)).number) refl
    where
      by : (b : Bool) → reports (outcome s t (length buffer)).number ≡ b → buffer_after (upgraded s) t buffer ≡ buffer_after s t buffer
      by true q =
          let ok = case-facts s (sound s t (length buffer) (is_true q)).readable in
          whole-buffer s version-1 ok.header-there ok.length-is t buffer
      by false q =
          unchanged (upgraded s) t buffer (is_false (ap (λ (o : Outcome). reports o.number) (same_outcome t (length buffer)) ∙ q)) ∙ sym (unchanged s t buffer (is_false q))
