-- What a family list changes (S-11). Without one: nothing. With one: an hour that gets a report gets the same
-- report as without. Assumes nothing.
use Rattle.std.specs.Prelude.{◌≡◌, Bool, false, not, ◌&&◌, ◌||◌, List, [], ◌∷◌, ◌++◌, ℕ, zero, suc, ◌*◌, ◌≤◌, ◌<◌, length, eqb}
use Rattle.std.proofs.Math.Path.{refl, ap}
use Rattle.std.proofs.Common.{sym, subst, ◌∙◌, arith, eqb→eq}
use Rattle.std.proofs.Math.Bool.{true, cond}
use Rattle.std.proofs.Math.Option.{Option, none, some, none-ne-some}
use Rattle.std.proofs.Math.ListN.{drop}
use Rattle.std.proofs.Math.Dec.{T, not_T, nltb→le}
use Rattle.base_integers.specs.Steps.Ranges.{not_is, and_both}
use Rattle.rules.specs.Meaning.Hour.{Case, Plan, Prices, case_of, plan_of, prices_of}
use Rattle.rules.specs.Meaning.Families.{parent_of, onward, ancestor, LeadsBack, is_order, leads_back, accepted}
use Rattle.base_causes.specs.declared.Outcome.{Outcome}
use Rattle.base_causes.specs.Meaning.Causes.{Cause, Pass, refusal, answer}
use Rattle.base_causes.proofs.Promised.CauseLaws.{any_none, else-refusal, refusal-append, lacks, left_out, row-passed, row-passes, before, has_cause, row_of, is_cause}
use Rattle.rules.specs.Meaning.Verdict.{room_causes, case_causes, proposal_causes, wide_tolerance, excess_volume, exchange_causes, exceeds_parent, excess_fraction, fraction_causes, family_causes, clearing_causes, table, outcome, family_outcome}
use Rattle.rules.specs.Meaning.Report.{reports, report_bytes, report_size, written, buffer_after, family_buffer_after}
use Rattle.rules.specs.Meaning.Promise.{FractionAtMost, FamilyTotalsReported}
use Rattle.rules.proofs.Promised.Guarantee.{Accepted, accepted-sound}
use Rattle.rules.proofs.Promised.Reported.{reported}
use Rattle.rules.proofs.Promised.PlainFacts.{case-facts}

-- WITHOUT A LIST the table is the table before S-11, except for row 15 (S-12): it has no family rows
pub without-a-list : (s t : List ℕ) (room : ℕ) (c : Case) (p : Plan) (d : Prices)
    → table none s t room c p d ≡ room_causes room ++ (case_causes s c ++ (proposal_causes s t c p d ++ (wide_tolerance c ∷ (excess_volume c p ∷ exchange_causes c p d))))
unfolding table clearing_causes
without-a-list s t room c p d = refl

either : {X : Type 0} (a b : Bool) → T (a || b) → (T a → X) → (T b → X) → X
either true b t f g = f tt
either false b t f g = g t

other : (a n : ℕ) → (n ≡ a → ⊥) → T (not (eqb a n))
other a n f = not_T (eqb a n) (λ t. f (sym (eqb→eq a n t)))

after : (qs xs ys : List Cause) → refusal xs ≡ refusal ys → refusal (qs ++ xs) ≡ refusal (qs ++ ys)
after qs xs ys e = refusal-append qs xs ∙ ap (else-refusal (refusal qs)) e ∙ sym (refusal-append qs ys)

module _ (s t f : List ℕ) (room : ℕ) where
  abbrev c : Case
  c = case_of s

  abbrev p : Plan
  p = plan_of s t

  abbrev d : Prices
  d = prices_of s t

  -- for a number that no family row has, the family rows can be left out
  others : (n : ℕ) → T (lacks n (family_causes (some f) c)) → T (lacks n (fraction_causes (some f) c p)) → (family_outcome s t f room).number ≡ n → family_outcome s t f room ≡ outcome s t room
  unfolding family_outcome outcome table room_causes case_causes proposal_causes clearing_causes
  others n h k e =
      let front = room_causes room ++ (case_causes s c ++ (proposal_causes s t c p d ++ (wide_tolerance c ∷ []))) in
      let first = left_out n front (family_causes (some f) c) (excess_volume c p ∷ (fraction_causes (some f) c p ++ exchange_causes c p d)) h e in
      let second = left_out n (front ++ (excess_volume c p ∷ [])) (fraction_causes (some f) c p) (exchange_causes c p d) k (ap (λ (o : Option Outcome). (answer o).number) (sym first) ∙ e) in
      ap answer (first ∙ second)

  -- THE LIST REFUSES NOTHING: where none of its rows gives the answer, the answer is the one without it
  pub alike-unless : ((family_outcome s t f room).number ≡ 16 → ⊥) → ((family_outcome s t f room).number ≡ 17 → ⊥) → ((family_outcome s t f room).number ≡ 18 → ⊥) → ((family_outcome s t f room).number ≡ 28 → ⊥)
      → family_outcome s t f room ≡ outcome s t room
  unfolding lacks
  alike-unless a b e g =
      let n = (family_outcome s t f room).number in
      others n
      (and_both (not (eqb 16 n)) (not (eqb 17 n) && (not (eqb 18 n) && true)) (other 16 n a) (and_both (not (eqb 17 n)) (not (eqb 18 n) && true) (other 17 n b) (and_both (not (eqb 18 n)) true (other 18 n e) tt)))
      (and_both (not (eqb 28 n)) true (other 28 n g) tt) refl

  -- A LIST ONLY REFUSES: where the answer with it is 0 or 26, the answer without it is the same
  pub valued-alike : T (reports (family_outcome s t f room).number) → family_outcome s t f room ≡ outcome s t room
  unfolding reports lacks
  valued-alike r = either (eqb (family_outcome s t f room).number 0) (eqb (family_outcome s t f room).number 26) r
      (λ e. others 0 tt tt (eqb→eq (family_outcome s t f room).number 0 e))
      (λ e. others 26 tt tt (eqb→eq (family_outcome s t f room).number 26 e))

  -- so an hour that is accepted with a list is accepted without it
  pub accepted-without : (family_outcome s t f room).number ≡ 0 → Accepted s t room
  unfolding reports
  accepted-without e = record { answer = ap (λ (o : Outcome). o.number) (sym (valued-alike (subst (λ (n : ℕ). T (reports n)) (sym e) tt))) ∙ e }

  -- ACCEPTED: each child's fraction is at most its parent's, where the parent is an order
  pub child-within : (family_outcome s t f room).number ≡ 0 → (i j : ℕ) → i < c.orders → j < c.orders → parent_of f i ≡ some j → FractionAtMost (accepted c p i) (accepted c p j)
  unfolding family_outcome table room_causes case_causes proposal_causes clearing_causes before has_cause row_of is_cause case_of
  child-within e i j h k q = record {
    whole-positive = quantity-positive i h;
    other-positive = quantity-positive j k;
    at_most = nltb→le (p.volume j * c.quantity i) (p.volume i * c.quantity j)
        (subst (λ (o : Option ℕ). T (not (exceeds_parent c p i o))) q ((row-passed 0 (table (some f) s t room c p d) e 28 0 tt).pass i h));
  }
    where
      quantity-positive : (i : ℕ) → i < c.orders → 0 < c.quantity i
      quantity-positive i h = omega (arith, ((case-facts s (accepted-sound s t room (accepted-without e)).readable).quantity-in i h).0)

  -- IF 16 TO 18 AND 28 PASS, the answer is the one without a list
  pub passed-alike : refusal (family_causes (some f) c) ≡ none → Pass (excess_fraction f c p) → family_outcome s t f room ≡ outcome s t room
  unfolding family_outcome outcome table clearing_causes
  passed-alike passed no-child =
      let volumes = after (excess_volume c p ∷ []) _ _ (row-passes (excess_fraction f c p) (exchange_causes c p d) no-child) in
      let families = refusal-append (family_causes (some f) c) _ ∙ ap (λ (x : Option Outcome). else-refusal x (refusal (clearing_causes (some f) c p d))) passed in
      ap answer (after (room_causes room) _ _ (after (case_causes s c) _ _ (after (proposal_causes s t c p d) _ _ (after (wide_tolerance c ∷ []) _ _ (families ∙ volumes)))))

  -- so a list that names no parent and passes 16 changes nothing
  pub no-parents : refusal (family_causes (some f) c) ≡ none → ((i : ℕ) → i < c.orders → parent_of f i ≡ none) → family_outcome s t f room ≡ outcome s t room
  no-parents passed none_named = passed-alike passed (record { pass = λ k l. subst (λ (o : Option ℕ). T (not (exceeds_parent c p k o))) (sym (none_named k l)) tt })

-- EVERY BYTE OF THE BUFFER afterwards: where the answer is 0 or 26, as without the list; else unchanged
module _ (s t f buffer : List ℕ) where
  pub same-answer-same-buffer : family_outcome s t f (length buffer) ≡ outcome s t (length buffer) → family_buffer_after s t f buffer ≡ buffer_after s t buffer
  unfolding family_buffer_after buffer_after
  same-answer-same-buffer e = ap (λ (o : Outcome). written o (case_of s) (plan_of s t) (prices_of s t) buffer) e

  pub family-buffer : T (reports (family_outcome s t f (length buffer)).number) → family_buffer_after s t f buffer ≡ buffer_after s t buffer
  family-buffer r = same-answer-same-buffer (valued-alike s t f (length buffer) r)

  pub family-unchanged : T (not (reports (family_outcome s t f (length buffer)).number)) → family_buffer_after s t f buffer ≡ buffer
  unfolding family_buffer_after written
  family-unchanged r = ap (λ (b : Bool). cond b (report_bytes (family_outcome s t f (length buffer)).number (case_of s) (plan_of s t) (prices_of s t) ++ drop (report_size (case_of s)) buffer) buffer) (not_is (reports (family_outcome s t f (length buffer)).number) r)

  -- each total and each price in the report's bytes
  pub family-reported : FamilyTotalsReported s t f (length buffer) (family_buffer_after s t f buffer)
  family-reported r =
      let same = valued-alike s t f (length buffer) r in
      rw (family-buffer r, same) (reported s t buffer (subst (λ (o : Outcome). T (reports o.number)) same r))

-- AN ORDER WITHOUT A PARENT never leads back to itself, by the definition and by the row's test: one step at least
-- is taken
no-way-up : (parent : ℕ → Option ℕ) (i k : ℕ) → parent i ≡ none → ancestor parent (suc k) i ≡ none
unfolding ancestor
no-way-up parent i zero e = e
no-way-up parent i (suc k) e = ap (onward parent) (no-way-up parent i k e)

pub no-parent-never-back : (parent : ℕ → Option ℕ) (i : ℕ) → parent i ≡ none → LeadsBack parent i → ⊥
no-parent-never-back parent i e b = by b.steps b.one-or-more b.back
  where
    by : (n : ℕ) → 1 ≤ n → ancestor parent n i ≡ some i → ⊥
    by zero h q = omega arith
    by (suc k) h q = none-ne-some i (sym (no-way-up parent i k e) ∙ q)

pub no-parent-passes-18 : (orders : ℕ) (parent : ℕ → Option ℕ) (i : ℕ) → parent i ≡ none → leads_back orders parent i ≡ false
unfolding leads_back
no-parent-passes-18 orders parent i e = any_none orders _ (λ k h. subst (λ (o : Option ℕ). T (not (is_order i o))) (sym (no-way-up parent i k e)) tt)
