-- AN HOUR'S ANSWER IN PLAIN NUMBERS (S-3, S-13), number and index, both ways. An hour that the judgement refuses,
-- with 176 bytes for a report, has the judgement's number and index. An accepted hour has 84 for its first bad
-- pair, with as many zones as byte 5 of the case says, then 85 for a scratch under 324 (96) numbers, else 0. Its
-- yes, no and total are those of its zone prices and its net positions with their sign turned. Assumes nothing.
use Rattle.std.specs.Prelude.{◌≡◌, ◌↔◌, ◌⊎◌, ◌≢◌, List, ℕ, ◌≤◌, ◌<◌, length, get_or, ℤ, neg_ℤ, ◌-ℤ◌, ◌<ℤ◌}
use Rattle.std.proofs.Math.Path.{refl, sym, ap, subst}
use Rattle.std.proofs.Common.{◌∙◌, inl, inr, arith}
use Rattle.std.proofs.Math.Option.{Option, none, some}
use Rattle.std.proofs.Math.Decide.{dec_lt, ℕ_discrete}
use Rattle.std.proofs.Math.IntN.{pos}
use Rattle.base_integers.specs.Steps.Difference.{at, ◌⊖◌, ⊝◌, eq-by}
use Rattle.base_integers.specs.Steps.Ranges.{is_false, nat-within}
use Rattle.base_causes.specs.declared.Outcome.{Outcome}
use Rattle.base_causes.specs.Meaning.Causes.{Cause, verdict, refusal, answer}
use Rattle.base_causes.proofs.Promised.CauseLaws.{lacks, later, not-below, zero-none, numbers_below, number-below}
use Rattle.rules.specs.Meaning.Layout.{zones_in, u8_at}
use Rattle.rules.specs.Meaning.Hour.{case_of, plan_of, prices_of, net, zone_price}
use Rattle.rules.specs.Meaning.Verdict.{room_causes, case_causes, proposal_causes, clearing_causes, table, outcome}
use Rattle.flow_positions.proofs.Promised.PlainPositions.{positions-inside, sum-zero}
use Rattle.flow_pairs.proofs.Promised.PlainPairs.{AllGood, FirstBadPair}
use Rattle.flow_intuitive.specs.declared.Carried.{Carried}
use Rattle.flow_intuitive.specs.Meaning.Intuitive.{scratch_room, intuitive_causes, intuitive_refusal, intuitive_outcome, scratch_by, intuitive_scratch, IntuitiveAnswer}
use Rattle.flow_intuitive.specs.Meaning.SmallScratch.{small_room}
use Rattle.flow_intuitive.proofs.Promised.PlainCauses as causes
use Rattle.flow_intuitive.proofs.Promised.PlainCauses.{Past83, prices-inside, ScratchCleared, zeros-then}
use Rattle.flow_intuitive.proofs.Promised.PlainAnswers as answers
use Rattle.flow_intuitive.proofs.Promised.PlainAnswers.{Routes, Enclosed, LargestCarried, every_export}
use Rattle.flow_intuitive.specs.Meaning.Answers.{ListsPass}
use Rattle.flow_hour.specs.Meaning.Hour.{hour_exports, hour_prices, asked_causes, hour_outcome, hour_scratch, HourAnswer}
use Rattle.flow_hour.proofs.Promised.Asked.{list_length, list_at, asked-then, none-refused, not-accepted, accepted-asks, lists-pass, never-81, never-82, never-83}

-- lists that 81 to 83 pass, in plain numbers
plain-lists : (exports prices : List ℤ) → ListsPass exports prices → Past83 exports prices
plain-lists exports prices l = (
  (
    record { zones-in = nat-within 1 16 (length exports) (is_false l.count-in); one-length = l.lengths },
    ((positions-inside exports 82).0 (record { pass = not-below _ _ l.positions-in }), (sum-zero exports).0 (is_false l.balanced)),
  ),
  (prices-inside exports prices).0 (record { pass = not-below _ _ l.prices-in }),
)

-- THE HOUR'S LISTS: for each zone the net position with its sign turned, since ours are import positive, and the
-- zone price
module _ (s t : List ℕ) where
  pub exports-length : length (hour_exports s t) ≡ get_or s 5 0
  unfolding hour_exports case_of zones_in u8_at
  exports-length = list_length _ _

  pub prices-length : length (hour_prices s t) ≡ get_or s 5 0
  unfolding hour_prices case_of zones_in u8_at
  prices-length = list_length _ _

  pub export_is : (z : ℕ) → z < get_or s 5 0 → get_or (hour_exports s t) z (pos 0) ≡ neg_ℤ (net (case_of s) (plan_of s t) z)
  unfolding hour_exports case_of zones_in u8_at
  export_is z h = list_at _ (λ z. pos 0 -ℤ net (case_of s) (plan_of s t) z) z h ∙ eq-by (at (pos 0) ⊖ at (net (case_of s) (plan_of s t) z)) (⊝◌ (at (net (case_of s) (plan_of s t) z))) (omega arith)

  pub price-is : (z : ℕ) → z < get_or s 5 0 → get_or (hour_prices s t) z (pos 0) ≡ zone_price (case_of s) (prices_of s t) z
  unfolding hour_prices case_of zones_in u8_at
  price-is z h = list_at _ (λ z. zone_price (case_of s) (prices_of s t) z) z h

-- ACCEPTED, with every pair good among its zones
abbrev pub AcceptedGood : List ℕ → List ℕ → List ℕ → Type 0
AcceptedGood s t pairs = (outcome s t 176 ≡ verdict 0 0) × AllGood (get_or s 5 0) pairs

module _ (s t pairs : List ℕ) (n room : ℕ) where
  abbrev said : Outcome
  said = hour_outcome s t pairs n room

  abbrev judged : List Cause
  judged = table none s t 176 (case_of s) (plan_of s t) (prices_of s t)

  abbrev asked : List Cause
  asked = intuitive_causes (hour_exports s t) (hour_prices s t) pairs n room

  -- ACCEPTED, or answered by a number that the judgement does not have
  accepted-if : refusal judged ≡ none → outcome s t 176 ≡ verdict 0 0
  unfolding outcome
  accepted-if e = ap answer e

  behind : (m k : ℕ) → said ≡ verdict m k → refusal judged ≡ none → intuitive_outcome (hour_exports s t) (hour_prices s t) pairs n room ≡ verdict m k
  unfolding hour_outcome intuitive_outcome intuitive_refusal
  behind m k e p = sym (ap answer (asked-then s t pairs n room p)) ∙ e

  asks : outcome s t 176 ≡ verdict 0 0 → said ≡ intuitive_outcome (hour_exports s t) (hour_prices s t) pairs n room
  asks e = accepted-asks s t pairs n room (ap (λ (o : Outcome). o.number) e)

  past-83 : outcome s t 176 ≡ verdict 0 0 → Past83 (hour_exports s t) (hour_prices s t)
  past-83 e = plain-lists (hour_exports s t) (hour_prices s t) (lists-pass s t pairs n room (ap (λ (o : Outcome). o.number) e))

  -- NOT ACCEPTED, if and only if the judgement refuses: its number, which is under 81, and its index
  pub says-judged : (m k : ℕ) → 0 < m → m < 81 → (said ≡ verdict m k) ↔ (outcome s t 176 ≡ verdict m k)
  says-judged m k h l = (
    λ e. by (dec_lt 0 (outcome s t 176).number) e,
    λ e. not-accepted s t pairs n room (omega (arith, h, ap (λ (o : Outcome). o.number) e)) ∙ e,
  )
    where
      by : Dec (0 < (outcome s t 176).number) → said ≡ verdict m k → outcome s t 176 ≡ verdict m k
      by (yes p) e = sym (not-accepted s t pairs n room p) ∙ e
      by (no p) e =
          let a : (intuitive_outcome (hour_exports s t) (hour_prices s t) pairs n room).number ≡ m
          = ap (λ (o : Outcome). o.number) (sym (accepted-asks s t pairs n room (omega arith)) ∙ e) in
          absurd (omega (arith, h, l, a, causes.says-no-other (hour_exports s t) (hour_prices s t) pairs n room (omega (arith, h, a))))

  -- 84 IF AND ONLY IF the hour is accepted and pair k is the first that is not good among its zones
  pub says-84 : (k : ℕ) → (said ≡ verdict 84 k) ↔ ((outcome s t 176 ≡ verdict 0 0) × FirstBadPair (get_or s 5 0) pairs k)
  unfolding hour_outcome asked_causes table room_causes case_causes proposal_causes clearing_causes lacks
  says-84 k = (
    λ e. let p = (later 84 judged asked tt (ap (λ (o : Outcome). o.number) e)).none_first in
        (accepted-if p, subst (λ (z : ℕ). FirstBadPair z pairs k) (exports-length s t) ((causes.says-84 (hour_exports s t) (hour_prices s t) pairs n room k).0 (behind 84 k e p)).1),
    λ w. asks w.0 ∙ (causes.says-84 (hour_exports s t) (hour_prices s t) pairs n room k).1 (past-83 w.0, subst (λ (z : ℕ). FirstBadPair z pairs k) (sym (exports-length s t)) w.1),
  )

  -- 85 IF AND ONLY IF it is accepted, every pair is good and the scratch has less than n numbers
  pub says-85 : (k : ℕ) → (said ≡ verdict 85 k) ↔ ((k ≡ 0) × (AcceptedGood s t pairs × (room < n)))
  unfolding hour_outcome asked_causes table room_causes case_causes proposal_causes clearing_causes lacks
  says-85 k = (
    λ e. let p = (later 85 judged asked tt (ap (λ (o : Outcome). o.number) e)).none_first in
        let w = (causes.says-85 (hour_exports s t) (hour_prices s t) pairs n room k).0 (behind 85 k e p) in
        (w.0, ((accepted-if p, subst (λ (z : ℕ). AllGood z pairs) (exports-length s t) w.1.0.1), w.1.1)),
    λ w. asks w.1.0.0 ∙ (causes.says-85 (hour_exports s t) (hour_prices s t) pairs n room k).1
        (w.0, ((past-83 w.1.0.0, subst (λ (z : ℕ). AllGood z pairs) (sym (exports-length s t)) w.1.0.1), w.1.1)),
  )

  -- 0 IF AND ONLY IF it is accepted, every pair is good and the scratch has n numbers
  pub says-0 : (k : ℕ) → (said ≡ verdict 0 k) ↔ ((k ≡ 0) × (AcceptedGood s t pairs × (n ≤ room)))
  unfolding hour_outcome asked_causes table room_causes case_causes proposal_causes clearing_causes lacks
  says-0 k = (
    λ e. let p = (later 0 judged asked tt (ap (λ (o : Outcome). o.number) e)).none_first in
        let w = (causes.says-0 (hour_exports s t) (hour_prices s t) pairs n room k).0 (behind 0 k e p) in
        (w.0, ((accepted-if p, subst (λ (z : ℕ). AllGood z pairs) (exports-length s t) w.1.0.1), w.1.1)),
    λ w. asks w.1.0.0 ∙ (causes.says-0 (hour_exports s t) (hour_prices s t) pairs n room k).1
        (w.0, ((past-83 w.1.0.0, subst (λ (z : ℕ). AllGood z pairs) (sym (exports-length s t)) w.1.0.1), w.1.1)),
  )

  -- NO OTHER NUMBER: above the judgement's, which are at most 30, there are these two
  judged-below : (outcome s t 176).number < 31
  unfolding outcome table room_causes case_causes proposal_causes clearing_causes numbers_below
  judged-below = number-below 31 judged (omega arith) tt

  pub says-no-other : 30 < said.number → (said.number ≡ 84) ⊎ (said.number ≡ 85)
  says-no-other h = by (dec_lt 0 (outcome s t 176).number)
    where
      two : (81 ≤ said.number) × (said.number ≤ 85) → Dec (said.number ≡ 84) → (said.number ≡ 84) ⊎ (said.number ≡ 85)
      two l (yes e) = inl e
      two l (no e) = inr (five l e (ℕ_discrete said.number 81) (ℕ_discrete said.number 82) (ℕ_discrete said.number 83))
        where
          five : (81 ≤ said.number) × (said.number ≤ 85) → said.number ≢ 84 → Dec (said.number ≡ 81) → Dec (said.number ≡ 82) → Dec (said.number ≡ 83) → said.number ≡ 85
          five l e (yes a) b c = absurd (never-81 s t pairs n room a)
          five l e (no a) (yes b) c = absurd (never-82 s t pairs n room b)
          five l e (no a) (no b) (yes c) = absurd (never-83 s t pairs n room c)
          five l e (no a) (no b) (no c) = apart said.number l a b c e
            where
              apart : (m : ℕ) → (81 ≤ m) × (m ≤ 85) → m ≢ 81 → m ≢ 82 → m ≢ 83 → m ≢ 84 → m ≡ 85
              apart m l a b c e = omega arith

      by : Dec (0 < (outcome s t 176).number) → (said.number ≡ 84) ⊎ (said.number ≡ 85)
      by (yes p) = absurd (omega (arith, h, judged-below, ap (λ (o : Outcome). o.number) (not-accepted s t pairs n room p)))
      by (no p) =
          let a : said.number ≡ (intuitive_outcome (hour_exports s t) (hour_prices s t) pairs n room).number = ap (λ (o : Outcome). o.number) (accepted-asks s t pairs n room (omega arith)) in
          let l = causes.says-no-other (hour_exports s t) (hour_prices s t) pairs n room (omega (arith, h, a)) in
          two (omega (arith, a, l.0), omega (arith, a, l.1)) (ℕ_discrete said.number 84)

-- THE TWO ENTRIES: 324 numbers of scratch, and 96 (S-13)
module _ (s t pairs : List ℕ) (room : ℕ) where
  pub wide-85 : (k : ℕ) → (hour_outcome s t pairs scratch_room room ≡ verdict 85 k) ↔ ((k ≡ 0) × (AcceptedGood s t pairs × (room < 324)))
  wide-85 = says-85 s t pairs 324 room

  pub wide-0 : (k : ℕ) → (hour_outcome s t pairs scratch_room room ≡ verdict 0 k) ↔ ((k ≡ 0) × (AcceptedGood s t pairs × (324 ≤ room)))
  wide-0 = says-0 s t pairs 324 room

  pub small-85 : (k : ℕ) → (hour_outcome s t pairs small_room room ≡ verdict 85 k) ↔ ((k ≡ 0) × (AcceptedGood s t pairs × (room < 96)))
  small-85 = says-85 s t pairs 96 room

  pub small-0 : (k : ℕ) → (hour_outcome s t pairs small_room room ≡ verdict 0 k) ↔ ((k ≡ 0) × (AcceptedGood s t pairs × (96 ≤ room)))
  small-0 = says-0 s t pairs 96 room

-- THE SCRATCH AFTERWARDS
module _ (s t pairs : List ℕ) (scratch : List ℤ) where
  cleared : (n : ℕ) → hour_outcome s t pairs n (length scratch) ≡ verdict 0 0 → ScratchCleared n scratch (hour_scratch s t pairs n scratch)
  unfolding hour_scratch hour_outcome asked_causes table room_causes case_causes proposal_causes clearing_causes lacks intuitive_causes
  cleared n e = zeros-then n scratch (hour_scratch s t pairs n scratch) ((says-0 s t pairs n (length scratch) 0).0 e).1.1
      (ap (λ (o : Option Outcome). scratch_by o n scratch) (zero-none (asked_causes s t pairs n (length scratch)) tt (ap (λ (o : Outcome). o.number) e)))

  pub wide-scratch : hour_outcome s t pairs scratch_room (length scratch) ≡ verdict 0 0 → ScratchCleared 324 scratch (hour_scratch s t pairs scratch_room scratch)
  wide-scratch = cleared 324

  pub small-scratch : hour_outcome s t pairs small_room (length scratch) ≡ verdict 0 0 → ScratchCleared 96 scratch (hour_scratch s t pairs small_room scratch)
  small-scratch = cleared 96

  pub kept-scratch : (n m k : ℕ) → 0 < m → hour_outcome s t pairs n (length scratch) ≡ verdict m k → hour_scratch s t pairs n scratch ≡ scratch
  unfolding hour_scratch hour_outcome
  kept-scratch n m k h e = by (refusal (asked_causes s t pairs n (length scratch))) (ap (λ (o : Outcome). o.number) e)
    where
      by : (o : Option Outcome) → (answer o).number ≡ m → scratch_by o n scratch ≡ scratch
      by (some x) q = refl
      by none q = absurd (omega (arith, h, q))

-- YES, NO AND THE TOTAL of a result that meets the contract with number 0 are those of the hour's lists
module _ (s t pairs : List ℕ) (n : ℕ) (scratch : List ℤ) (r : Carried) (after : List ℤ) (met : HourAnswer s t pairs n scratch r after) (taken : r.number ≡ 0) where
  answered-0 : hour_outcome s t pairs n (length scratch) ≡ verdict 0 r.index
  answered-0 = sym met.outcome ∙ ap (λ (m : ℕ). verdict m r.index) taken

  pub accepted : outcome s t 176 ≡ verdict 0 0
  accepted = ((says-0 s t pairs n (length scratch) r.index).0 answered-0).1.0.0

  as_lists : IntuitiveAnswer (hour_exports s t) (hour_prices s t) pairs n scratch r after
  unfolding hour_scratch intuitive_scratch intuitive_refusal
  as_lists =
      let same = asked-then s t pairs n (length scratch) (none-refused s t pairs n (length scratch) (ap (λ (o : Outcome). o.number) accepted)) in
      record {
        outcome = met.outcome ∙ asks s t pairs n (length scratch) accepted;
        a-yes = met.a-yes;
        a-no = met.a-no;
        yes_or_no = met.yes_or_no;
        largest = met.largest;
        scratch = met.scratch ∙ ap (λ (o : Option Outcome). scratch_by o n scratch) same;
        refused = met.refused;
      }

  pub says-yes : (r.intuitive ≡ 1) ↔ Routes (hour_exports s t) (hour_prices s t) pairs
  says-yes = answers.says-yes (hour_exports s t) (hour_prices s t) pairs n scratch r after as_lists taken

  pub says-no : (r.intuitive ≡ 0) ↔ Enclosed (hour_exports s t) (hour_prices s t) pairs
  says-no = answers.says-no (hour_exports s t) (hour_prices s t) pairs n scratch r after as_lists taken

  pub says-total : (total : ℕ) → (r.total.0 ≡ pos total) ↔ LargestCarried (hour_exports s t) (hour_prices s t) pairs total
  says-total = answers.says-total (hour_exports s t) (hour_prices s t) pairs n scratch r after as_lists taken

  pub yes-is-all : (r.intuitive ≡ 1) ↔ (r.total.0 ≡ pos (every_export (hour_exports s t)))
  yes-is-all = answers.yes-is-all (hour_exports s t) (hour_prices s t) pairs n scratch r after as_lists taken

  pub no-is-less : (r.intuitive ≡ 0) ↔ (r.total.0 <ℤ pos (every_export (hour_exports s t)))
  no-is-less = answers.no-is-less (hour_exports s t) (hour_prices s t) pairs n scratch r after as_lists taken
