-- VERDICTS IN PLAIN NUMBERS, both ways: which hours are 30, which pass 15, which are valued, and which of those are
-- 0 and which 26. The numbers are the paper's own and cite no limit: 176 bytes, 10,000 cents, a million microcents
-- to the cent, zone prices in grains. Assumes nothing.
use Rattle.std.specs.Prelude.{◌≡◌, Bool, not, ◌&&◌, ◌||◌, ℕ, ◌≤◌, ◌<◌, ltb, ℤ, neg_ℤ, ◌*ℤ◌, ◌≤ℤ◌, ◌<ℤ◌}
use Rattle.std.proofs.Math.Path.{refl, ap}
use Rattle.std.proofs.Common.{sym, subst, eqb→eq}
use Rattle.std.proofs.Math.Bool.{true, false}
use mathlib.Core.List.{List, [], ◌∷◌, ◌++◌}
use Rattle.std.proofs.Math.Option.{none, some}
use native.Mathlib.Omega.{arith}
use Rattle.std.proofs.Math.Dec.{T, eqb, ltb→lt, lt→ltb, nltb→le, not_T}
use Rattle.std.proofs.Math.IntN.{pos}
use Rattle.std.specs.Int.Signed.{lt_z, lt_z_yes, lt_z_no, clash_ℤ}
use Rattle.base_integers.specs.Meaning.Ranges.{outside, is_zero}
use Rattle.base_integers.specs.Steps.Ranges.{inside, nat-within, nat-inside}
use Rattle.base_limits.specs.Meaning.Limits as limits
use Rattle.rules.specs.Meaning.Layout.{zones_in, tolerance_in}
use Rattle.rules.specs.Meaning.Hour.{Case, Plan, Prices, case_of, plan_of, prices_of, net_sum, link_use, link_room, branch_use, branch_room, zone_price, no_link, gap}
use Rattle.rules.specs.Meaning.Clearing.{Clearing}
use Rattle.base_causes.specs.Meaning.Causes.{Cause, verdict, refusal, answer}
use Rattle.base_causes.proofs.Promised.CauseLaws.{Comes, past, none_left, none_both, none_each, row-passes, row-passed, row-by-number, row-answers, number-passes, cause_numbered, lacks, before, has_cause, row_of, is_cause}
use Rattle.rules.specs.Meaning.Verdict.{◌over◌, small_buffer, room_causes, case_causes, proposal_causes, wide_tolerance, wide_gap, clearing_causes, table, outcome, family_outcome, case_refusal, proposal_refusal}
use Rattle.rules.specs.Meaning.Report.{reports}
use Rattle.rules.proofs.Steps.Passed.{sound}
use Rattle.rules.proofs.Promised.PlainFacts.{CaseFacts, ProposalFacts, case-facts, facts-readable, proposal-facts, facts-pass}

-- 30: the report buffer has less than 176 bytes, whatever else holds, with and without a family list
module _ (s t : List ℕ) (room : ℕ) where
  pub small-buffer : room < 176 → outcome s t room ≡ verdict 30 0
  unfolding outcome table room_causes case_causes proposal_causes clearing_causes lacks before cause_numbered refusal
  small-buffer h = row-answers 30 (table none s t room (case_of s) (plan_of s t) (prices_of s t)) tt refl 0 (record { place_in = omega arith; holds = lt→ltb room 176 h; none_before = λ i l. absurd (nothing i l) })
    where
      nothing : (i : ℕ) → i < 0 → ⊥
      nothing i l = omega arith

  pub only-small-buffer : (outcome s t room).number ≡ 30 → room < 176
  unfolding outcome table room_causes case_causes proposal_causes clearing_causes lacks before cause_numbered
  only-small-buffer e = ltb→lt room 176 (row-by-number 30 (table none s t room (case_of s) (plan_of s t) (prices_of s t)) (omega arith) tt tt e).first-place.holds

  pub small-buffer-family : (f : List ℕ) → room < 176 → family_outcome s t f room ≡ verdict 30 0
  unfolding family_outcome table room_causes case_causes proposal_causes clearing_causes lacks before cause_numbered refusal
  small-buffer-family f h = row-answers 30 (table (some f) s t room (case_of s) (plan_of s t) (prices_of s t)) tt refl 0 (record { place_in = omega arith; holds = lt→ltb room 176 h; none_before = λ i l. absurd (nothing i l) })
    where
      nothing : (i : ℕ) → i < 0 → ⊥
      nothing i l = omega arith

  pub only-small-buffer-family : (f : List ℕ) → (family_outcome s t f room).number ≡ 30 → room < 176
  unfolding family_outcome table room_causes case_causes proposal_causes clearing_causes lacks before cause_numbered
  only-small-buffer-family f e = ltb→lt room 176 (row-by-number 30 (table (some f) s t room (case_of s) (plan_of s t) (prices_of s t)) (omega arith) tt tt e).first-place.holds

-- READ: none of 30 and 1 to 15
pub record ReadFacts (s t : List ℕ) (room : ℕ) : Type 0 where
  pub enough-room : 176 ≤ room
  pub case-is : CaseFacts s
  pub proposal-is : ProposalFacts s t
  -- S-12, in cents
  pub tolerance-narrow : tolerance_in s ≤ 10000

abbrev pub read_causes : List ℕ → List ℕ → ℕ → List Cause
read_causes s t room = room_causes room ++ (case_causes s (case_of s) ++ (proposal_causes s t (case_of s) (plan_of s t) (prices_of s t) ++ (wide_tolerance (case_of s) ∷ [])))

module _ (s t : List ℕ) (room : ℕ) where
  pub read-passes : ReadFacts s t room → refusal (read_causes s t room) ≡ none
  unfolding room_causes case_refusal proposal_refusal refusal case_of
  read-passes r =
      let last : List Cause = wide_tolerance (case_of s) ∷ [] in
      let proposed : List Cause = proposal_causes s t (case_of s) (plan_of s t) (prices_of s t) in
      none_both (room_causes room) (case_causes s (case_of s) ++ (proposed ++ last)) (row-passes (small_buffer room) [] (record { pass = λ k h. not_T (ltb room 176) (λ t. small (ltb→lt room 176 t)) }))
      (none_both (case_causes s (case_of s)) (proposed ++ last) (facts-readable s r.case-is).none-holds
      (none_both proposed last (facts-pass s t r.proposal-is)
      (row-passes (wide_tolerance (case_of s)) [] (record { pass = λ k h. nat-inside 0 10000 (tolerance_in s) (omega arith) r.tolerance-narrow }))))
    where
      small : room < 176 → ⊥
      small h = omega (arith, h, r.enough-room)

  pub passes-read : refusal (read_causes s t room) ≡ none → ReadFacts s t room
  unfolding room_causes case_refusal proposal_refusal cause_numbered case_of
  passes-read e =
      let a = none_each (room_causes room) _ e in
      let b = none_each (case_causes s (case_of s)) _ a.1 in
      let f = none_each (proposal_causes s t (case_of s) (plan_of s t) (prices_of s t)) _ b.1 in
      record {
        enough-room = nltb→le room 176 ((number-passes (room_causes room) a.0 30).pass 0 (omega arith));
        case-is = case-facts s (record { none-holds = b.0 });
        proposal-is = proposal-facts s t f.0;
        tolerance-narrow = (nat-within 0 10000 (tolerance_in s) ((number-passes (wide_tolerance (case_of s) ∷ []) f.1 15).pass 0 (omega arith))).1;
      }

-- VALUED: none of 21 to 25 and 27 either. The proposal is a clearing of the case, and every zone price is from
-- -50,000 to 400,000 cents, in grains
pub record ClearedFacts (s t : List ℕ) : Type 0 where
  pub is-clearing : Clearing (case_of s) (plan_of s t)
  pub price-in : (z : ℕ) → z < zones_in s → (neg_ℤ (pos 5000000000) ≤ℤ zone_price (case_of s) (prices_of s t) z) × (zone_price (case_of s) (prices_of s t) z ≤ℤ pos 40000000000)

abbrev cleared_causes : Case → Plan → Prices → List Cause
cleared_causes c p d = before 26 (clearing_causes none c p d)

within-nltb : (m n : ℕ) → n ≤ m → T (not (ltb m n))
within-nltb m n h = not_T (ltb m n) (λ t. never (ltb→lt m n t))
  where
    never : m < n → ⊥
    never l = omega arith

within-nltZ : (a b : ℤ) → b ≤ℤ a → T (not (lt_z a b))
within-nltZ a b h = not_T (lt_z a b) (λ t. clash_ℤ (lt_z_yes t) h)

zero-zero : (x : ℤ) → x ≡ pos 0 → T (not (not (is_zero x)))
unfolding is_zero outside
zero-zero x e = subst (λ (y : ℤ). T (not (not (is_zero y)))) (sym e) tt

no-share : (links share : ℕ) → (links ≡ 0 → share ≡ 0) → T (not (eqb links 0 && share over 0))
no-share links share f = by (eqb links 0) refl
  where
    by : (b : Bool) → eqb links 0 ≡ b → T (not (b && share over 0))
    by true e = within-nltb 0 share (omega (arith, f (eqb→eq links 0 (subst T (sym e) tt))))
    by false e = tt

module _ (s t : List ℕ) (room : ℕ) where
  cleared-passes : ClearedFacts s t → refusal (cleared_causes (case_of s) (plan_of s t) (prices_of s t)) ≡ none
  unfolding clearing_causes before case_of plan_of no_link
  cleared-passes f =
      let k = f.is-clearing in
      let rows : Comes (cleared_causes (case_of s) (plan_of s t) (prices_of s t)) none =
      past (record { pass = λ i h. within-nltb ((case_of s).quantity i) ((plan_of s t).volume i) (omega (arith, k.volume-in i h)) })
      (past (record { pass = λ i h. zero-zero (net_sum (case_of s) (plan_of s t)) k.balance })
      (past (record { pass = λ i h. no-share (case_of s).links (plan_of s t).share k.without-links })
      (past (record { pass = λ l h. within-nltb (link_room (case_of s) (plan_of s t) l) (link_use (case_of s) (plan_of s t) l) (k.link l h) })
      (past (record { pass = λ m h. within-nltZ (branch_room (case_of s) (plan_of s t) m) (branch_use (case_of s) (plan_of s t) m) (k.branch m h) })
      (past (record { pass = λ z h. inside limits.zone_price (zone_price (case_of s) (prices_of s t) z) (record { least-le = (f.price-in z h).0; le-greatest = (f.price-in z h).1 }) }) none_left))))) in
      rows.is

  narrow_at : (n : ℕ) → T (has_cause 15 0 (before n (table none s t room (case_of s) (plan_of s t) (prices_of s t)))) → (outcome s t room).number ≡ n → tolerance_in s ≤ 10000
  unfolding outcome table room_causes case_causes proposal_causes clearing_causes row_of is_cause case_of
  narrow_at n h e = (nat-within 0 10000 (tolerance_in s) ((row-passed n (table none s t room (case_of s) (plan_of s t) (prices_of s t)) e 15 0 h).pass 0 (omega arith))).1

  narrow : T (reports (outcome s t room).number) → tolerance_in s ≤ 10000
  unfolding reports table room_causes case_causes proposal_causes clearing_causes before has_cause is_cause
  narrow r = by (eqb (outcome s t room).number 0) (eqb (outcome s t room).number 26) refl refl r
    where
      by : (a b : Bool) → eqb (outcome s t room).number 0 ≡ a → eqb (outcome s t room).number 26 ≡ b → T (a || b) → tolerance_in s ≤ 10000
      by true b p q r = narrow_at 0 tt (eqb→eq (outcome s t room).number 0 (subst T (sym p) tt))
      by false true p q r = narrow_at 26 tt (eqb→eq (outcome s t room).number 26 (subst T (sym q) tt))
      by false false p q r = absurd r

  -- 0 OR 26: read, and valued
  pub valued-facts : T (reports (outcome s t room).number) → ReadFacts s t room × ClearedFacts s t
  unfolding case_of
  valued-facts r =
      let w = sound s t room r in (
        record { enough-room = w.enough-room; case-is = case-facts s w.readable; proposal-is = proposal-facts s t w.proposed; tolerance-narrow = narrow r },
        record { is-clearing = w.cleared.clearing; price-in = λ z h. ((w.cleared.zonePrice-in z h).least-le, (w.cleared.zonePrice-in z h).le-greatest) },
      )

  -- 26 IF AND ONLY IF the hour is read and valued and its gap exceeds a million times the tolerance in cents
  pub refused-26 : (outcome s t room).number ≡ 26
      → (outcome s t room ≡ verdict 26 0) × (ReadFacts s t room × (ClearedFacts s t × ((pos 1000000 *ℤ pos (tolerance_in s)) <ℤ gap (case_of s) (plan_of s t) (prices_of s t))))
  unfolding reports outcome table room_causes case_causes proposal_causes clearing_causes lacks before cause_numbered case_of
  refused-26 e =
      let w = valued-facts (subst (λ (n : ℕ). T (reports n)) (sym e) tt) in
      let row = row-by-number 26 (table none s t room (case_of s) (plan_of s t) (prices_of s t)) (omega arith) tt tt e in
      (row.is, (w.0, (w.1, lt_z_yes row.first-place.holds)))

  pub is-26 : ReadFacts s t room → ClearedFacts s t → (pos 1000000 *ℤ pos (tolerance_in s)) <ℤ gap (case_of s) (plan_of s t) (prices_of s t) → outcome s t room ≡ verdict 26 0
  unfolding outcome table room_causes case_causes proposal_causes clearing_causes lacks before cause_numbered case_of
  is-26 r f h = row-answers 26 (table none s t room (case_of s) (plan_of s t) (prices_of s t)) tt (none_both (read_causes s t room) (cleared_causes (case_of s) (plan_of s t) (prices_of s t)) (read-passes s t room r) (cleared-passes f))
      0 (record { place_in = omega arith; holds = h.lt; none_before = λ i l. absurd (nothing i l) })
    where
      nothing : (i : ℕ) → i < 0 → ⊥
      nothing i l = omega arith

  -- 0 IF AND ONLY IF it is read and valued and the gap does not
  pub accepted-0 : (outcome s t room).number ≡ 0 → ReadFacts s t room × (ClearedFacts s t × (gap (case_of s) (plan_of s t) (prices_of s t) ≤ℤ (pos 1000000 *ℤ pos (tolerance_in s))))
  unfolding reports outcome table room_causes case_causes proposal_causes clearing_causes before has_cause row_of is_cause case_of
  accepted-0 e =
      let w = valued-facts (subst (λ (n : ℕ). T (reports n)) (sym e) tt) in
      (w.0, (w.1, lt_z_no ((row-passed 0 (table none s t room (case_of s) (plan_of s t) (prices_of s t)) e 26 0 tt).pass 0 (omega arith))))

  pub is-0 : ReadFacts s t room → ClearedFacts s t → gap (case_of s) (plan_of s t) (prices_of s t) ≤ℤ (pos 1000000 *ℤ pos (tolerance_in s)) → outcome s t room ≡ verdict 0 0
  unfolding outcome table room_causes case_causes proposal_causes clearing_causes before refusal case_of
  is-0 r f h = ap answer (none_both (read_causes s t room) (cleared_causes (case_of s) (plan_of s t) (prices_of s t) ++ (wide_gap (case_of s) (plan_of s t) (prices_of s t) ∷ [])) (read-passes s t room r)
      (none_both (cleared_causes (case_of s) (plan_of s t) (prices_of s t)) (wide_gap (case_of s) (plan_of s t) (prices_of s t) ∷ []) (cleared-passes f)
      (row-passes (wide_gap (case_of s) (plan_of s t) (prices_of s t)) [] (record { pass = λ k l. within-nltZ (pos 1000000 *ℤ pos (tolerance_in s)) (gap (case_of s) (plan_of s t) (prices_of s t)) h }))))
