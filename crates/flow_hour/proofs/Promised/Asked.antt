-- An hour that is not accepted gets the judgement's answer with room for a report. For an accepted hour 81, 82 and
-- 83 cannot occur, since its zones, its balance and its prices passed the judgement: only its pairs and the scratch
-- are asked. Assumes nothing.
use Rattle.std.specs.Prelude.{◌≡◌, Bool, false, ◌||◌, List, [], ◌∷◌, ◌++◌, ℕ, zero, suc, ◌+◌, ◌<◌, length, ℤ, ◌-ℤ◌}
use Rattle.std.proofs.Math.Path.{refl, sym, ap}
use Rattle.std.proofs.Common.{subst, ◌∙◌, arith, eq-eqb, length-append}
use Rattle.std.proofs.Math.Bool.{not}
use Rattle.std.proofs.Math.Option.{Option, none, some}
use Rattle.std.proofs.Math.Decide.{dec_lt}
use Rattle.std.proofs.Math.ListN.{get_or, get_or-append}
use Rattle.std.proofs.Math.Seq.{get_or-append_seam}
use Rattle.std.proofs.Math.Dec.{T, eqb}
use Rattle.std.proofs.Math.IntN.{pos}
use Rattle.base_integers.specs.Steps.Difference.{at, le-by}
use Rattle.base_integers.specs.Meaning.Ranges.{Within, outside, is_zero}
use Rattle.base_integers.specs.Steps.Ranges.{inside, nat-inside, not_is}
use Rattle.base_integers.specs.Steps.Size.{Near, near_sub, near-pos, near_le}
use Rattle.base_integers.specs.Meaning.Sums.{sum_to}
use Rattle.base_integers.specs.Steps.Sums.{sum-ext, sum-sub, sum-zero}
use Rattle.base_limits.specs.Meaning.Limits as limits
use Rattle.base_causes.specs.declared.Outcome.{Outcome}
use Rattle.base_causes.specs.Meaning.Causes.{Cause, refusal, answer, once, each, failing}
use Rattle.base_causes.proofs.Promised.CauseLaws.{lacks, not-refused, else-refusal, refusal-append, zero-none, later, row-clear, once-passes, first-none}
use Rattle.rules.specs.Meaning.Layout.{report_room, zone_counts}
use Rattle.rules.specs.Meaning.Hour.{case_of, plan_of, prices_of, net, net_sum, zone_price}
use Rattle.rules.specs.Meaning.Report.{reports}
use Rattle.rules.specs.Meaning.Verdict.{room_causes, case_causes, proposal_causes, clearing_causes, table, outcome, ◌under◌}
use Rattle.rules.proofs.Steps.Passed.{Sound, sound, case-sound}
use Rattle.rules.proofs.Promised.Fits.{net-near, volumes-in}
use Rattle.flow_positions.specs.Meaning.Positions.{position_outside, unbalanced}
use Rattle.flow_pairs.specs.Meaning.Pairs.{pair_count, bad_pair}
use Rattle.flow_intuitive.specs.Meaning.Intuitive.{unfit, price_outside, intuitive_causes, intuitive_refusal, intuitive_outcome}
use Rattle.flow_intuitive.specs.Meaning.Answers.{ListsPass}
use Rattle.flow_hour.specs.Meaning.Hour.{list_to, hour_exports, hour_prices, asked_causes, hour_outcome}

-- A LIST BY ITS PLACES
pub list_length : (n : ℕ) (f : ℕ → ℤ) → length (list_to n f) ≡ n
unfolding list_to
list_length zero f = refl
list_length (suc n) f = length-append (list_to n f) (f n ∷ []) ∙ ap (λ (k : ℕ). k + 1) (list_length n f) ∙ omega arith

pub list_at : (n : ℕ) (f : ℕ → ℤ) (z : ℕ) → z < n → get_or (list_to n f) z (pos 0) ≡ f z
unfolding list_to
list_at zero f z h = absurd (none_below z h)
  where
    none_below : (z : ℕ) → z < 0 → ⊥
    none_below z h = omega arith
list_at (suc n) f z h = elim (dec_lt z n) [
  | yes l ↦ get_or-append (list_to n f) (f n ∷ []) (pos 0) z (omega (arith, list_length n f)) ∙ list_at n f z l
  | no g ↦ last (omega arith)
]
  where
    last : z ≡ n → get_or (list_to n f ++ (f n ∷ [])) z (pos 0) ≡ f z
    last e = ap (λ (k : ℕ). get_or (list_to n f ++ (f n ∷ [])) k (pos 0)) (e ∙ sym (list_length n f)) ∙ get_or-append_seam (list_to n f) (f n) [] (pos 0) ∙ ap f (sym e)

module _ (s t pairs : List ℕ) (n room : ℕ) where
  abbrev judged : List Cause
  judged = table none s t report_room (case_of s) (plan_of s t) (prices_of s t)

  abbrev asked : List Cause
  asked = intuitive_causes (hour_exports s t) (hour_prices s t) pairs n room

  -- THE JUDGEMENT FIRST: if it refuses, that is the answer; if it accepts, the rest is asked
  pub refused-first : (o : Outcome) → refusal judged ≡ some o → refusal (asked_causes s t pairs n room) ≡ some o
  unfolding asked_causes
  refused-first o e = refusal-append judged asked ∙ ap (λ (x : Option Outcome). else-refusal x (refusal asked)) e

  pub asked-then : refusal judged ≡ none → refusal (asked_causes s t pairs n room) ≡ refusal asked
  unfolding asked_causes
  asked-then e = refusal-append judged asked ∙ ap (λ (x : Option Outcome). else-refusal x (refusal asked)) e

  pub none-refused : (outcome s t report_room).number ≡ 0 → refusal judged ≡ none
  unfolding outcome table room_causes case_causes proposal_causes clearing_causes lacks
  none-refused e = zero-none judged tt e

  pub not-accepted : 0 < (outcome s t report_room).number → hour_outcome s t pairs n room ≡ outcome s t report_room
  unfolding outcome hour_outcome
  not-accepted h = by (refusal judged) refl
    where
      by : (o : Option Outcome) → refusal judged ≡ o → answer (refusal (asked_causes s t pairs n room)) ≡ answer (refusal judged)
      by (some x) q = ap answer (refused-first x q ∙ sym q)
      by none q = absurd (never (ap (λ (x : Option Outcome). (answer x).number) q))
        where
          never : (answer (refusal judged)).number ≡ 0 → ⊥
          never e = omega (arith, h)

  pub accepted-asks : (outcome s t report_room).number ≡ 0 → hour_outcome s t pairs n room ≡ intuitive_outcome (hour_exports s t) (hour_prices s t) pairs n room
  unfolding hour_outcome intuitive_outcome intuitive_refusal
  accepted-asks e = ap answer (asked-then (none-refused e))

  -- FOR AN ACCEPTED HOUR 81, 82 and 83 have no cause
  module _ (e : (outcome s t report_room).number ≡ 0) where
    passed : Sound s t report_room
    unfolding reports
    passed = sound s t report_room (subst (λ (k : ℕ). T (eqb k 0 || eqb k 26)) (sym e) tt)

    zones-many : length (hour_exports s t) ≡ (case_of s).zones
    unfolding hour_exports
    zones-many = list_length _ _

    prices-many : length (hour_prices s t) ≡ (case_of s).zones
    unfolding hour_prices
    prices-many = list_length _ _

    position-is : (z : ℕ) → z < (case_of s).zones → get_or (hour_exports s t) z (pos 0) ≡ pos 0 -ℤ net (case_of s) (plan_of s t) z
    unfolding hour_exports
    position-is z h = list_at _ _ z h

    price-is : (z : ℕ) → z < (case_of s).zones → get_or (hour_prices s t) z (pos 0) ≡ zone_price (case_of s) (prices_of s t) z
    unfolding hour_prices
    price-is z h = list_at _ _ z h

    or_off : (a b : Bool) → a ≡ false → b ≡ false → (a || b) ≡ false
    or_off a b p q = λ j. p j || q j

    count-in : outside zone_counts (pos (length (hour_exports s t))) ≡ false
    count-in = ap (λ (k : ℕ). outside zone_counts (pos k)) zones-many ∙ not_is _ (nat-inside 1 16 (case_of s).zones (case-sound s passed.readable).zones-in.0 (case-sound s passed.readable).zones-in.1)

    fits-lists : unfit (hour_exports s t) (hour_prices s t) ≡ false
    fits-lists = or_off _ _ count-in
        (ap not (eq-eqb _ _ (prices-many ∙ sym zones-many)))

    pub position-near : (z : ℕ) → Near 51200000 (pos 0 -ℤ net (case_of s) (plan_of s t) z)
    unfolding plan_of
    position-near z = near_le (omega arith) (near_sub (near-pos 0) (net-near (case_of s) (case-sound s passed.readable) (plan_of s t) (volumes-in (case_of s) (plan_of s t) refl passed.cleared.clearing) z))

    pub price-in : (z : ℕ) → z < (case_of s).zones → Within limits.zone_price (zone_price (case_of s) (prices_of s t) z)
    price-in z h = passed.cleared.zonePrice-in z h

    near-inside : (x : ℤ) → Near 51200000 x → T (not (outside limits.net_position x))
    near-inside x h = inside limits.net_position x (record { least-le = le-by (at (limits.net_position).least) (at x) (omega arith); le-greatest = le-by (at x) (at (limits.net_position).greatest) (omega arith) })

    positions-pass : failing (each 82 (length (hour_exports s t)) (position_outside (hour_exports s t))) ≡ none
    positions-pass = first-none _ _ (λ z h. let l : z < (case_of s).zones = omega (arith, zones-many) in
        subst (λ (x : ℤ). T (not (outside limits.net_position x))) (sym (position-is z l)) (near-inside _ (position-near z)))

    sum_is : sum_to (length (hour_exports s t)) (λ z. get_or (hour_exports s t) z (pos 0)) ≡ pos 0
    unfolding net_sum
    sum_is =
        ap (λ (k : ℕ). sum_to k (λ z. get_or (hour_exports s t) z (pos 0))) zones-many
        ∙ sum-ext _ _ _ position-is
        ∙ sum-sub (case_of s).zones (λ z. pos 0) (λ z. net (case_of s) (plan_of s t) z)
        ∙ (λ j. sum-zero (case_of s).zones j -ℤ passed.cleared.clearing.balance j)

    balanced : unbalanced (hour_exports s t) ≡ false
    unfolding is_zero outside
    balanced = ap (λ (x : ℤ). not (is_zero x)) sum_is

    prices-pass : failing (each 83 (length (hour_prices s t)) (price_outside (hour_prices s t))) ≡ none
    prices-pass = first-none _ _ (λ z h. let l : z < (case_of s).zones = omega (arith, prices-many) in
        subst (λ (x : ℤ). T (not (outside limits.zone_price x))) (sym (price-is z l)) (inside limits.zone_price _ (price-in z l)))

    pub lists-pass : ListsPass (hour_exports s t) (hour_prices s t)
    lists-pass = record { count-in = count-in; lengths = prices-many ∙ sym zones-many; positions-in = positions-pass; balanced = balanced; prices-in = prices-pass }

    -- so only the pairs and the scratch are left
    abbrev left : List Cause
    left = each 84 (pair_count pairs) (bad_pair (length (hour_exports s t)) pairs) ∷ once 85 (room under n) ∷ []

    pub by-pairs-and-scratch : refusal asked ≡ refusal left
    unfolding intuitive_causes
    by-pairs-and-scratch =
        row-clear (once 81 (unfit (hour_exports s t) (hour_prices s t))) _ (once-passes fits-lists)
        ∙ row-clear (each 82 (length (hour_exports s t)) (position_outside (hour_exports s t))) _ positions-pass
        ∙ row-clear (once 82 (unbalanced (hour_exports s t))) _ (once-passes balanced)
        ∙ row-clear (each 83 (length (hour_prices s t)) (price_outside (hour_prices s t))) left prices-pass

    never-asked : (k : ℕ) → T (lacks k left) → 0 < k → (answer (refusal asked)).number ≡ k → ⊥
    never-asked k t h q = by (refusal left) refl (sym (ap (λ (x : Option Outcome). (answer x).number) by-pairs-and-scratch) ∙ q)
      where
        by : (o : Option Outcome) → refusal left ≡ o → (answer (refusal left)).number ≡ k → ⊥
        by (some x) r q = not-refused k left t x r (sym (ap (λ (y : Option Outcome). (answer y).number) r) ∙ q)
        by none r q = zero-not (sym (ap (λ (y : Option Outcome). (answer y).number) r) ∙ q)
          where
            zero-not : 0 ≡ k → ⊥
            zero-not e = omega (arith, h)

  -- a number that neither the judgement nor the rows of pairs and scratch have
  never : (k : ℕ) → T (lacks k judged) → T (lacks k (each 84 (pair_count pairs) (bad_pair (length (hour_exports s t)) pairs) ∷ once 85 (room under n) ∷ [])) → 0 < k → (hour_outcome s t pairs n room).number ≡ k → ⊥
  unfolding hour_outcome asked_causes outcome
  never k a b h q =
      let l = later k judged asked a q in
      never-asked (ap (λ (x : Option Outcome). (answer x).number) l.none_first) k b h l.then-second

  pub never-81 : (hour_outcome s t pairs n room).number ≡ 81 → ⊥
  unfolding table room_causes case_causes proposal_causes clearing_causes lacks
  never-81 = never 81 tt tt (omega arith)

  pub never-82 : (hour_outcome s t pairs n room).number ≡ 82 → ⊥
  unfolding table room_causes case_causes proposal_causes clearing_causes lacks
  never-82 = never 82 tt tt (omega arith)

  pub never-83 : (hour_outcome s t pairs n room).number ≡ 83 → ⊥
  unfolding table room_causes case_causes proposal_causes clearing_causes lacks
  never-83 = never 83 tt tt (omega arith)
