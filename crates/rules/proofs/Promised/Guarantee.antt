-- DEMAND 3: every accepted hour keeps what `Promise` promises, for every case s and proposal t as bytes.
-- Assumes nothing.
use Rattle.std.specs.Prelude.{◌≡◌, refl, List, ℕ, ◌*◌, length, T, ℤ, pos, ◌+ℤ◌, ◌-ℤ◌, ◌*ℤ◌, ◌≤ℤ◌}
use Rattle.std.proofs.Common.{sym, ap, subst, ◌∙◌, arith}
use Rattle.base_integers.specs.Meaning.Difference.{up, dn}
use Rattle.base_integers.specs.Steps.Difference.{at, ◌⊕◌, ◌⊖◌, ◌⊗◌, le-by, le-fact, eq-fact}
use Rattle.base_limits.specs.Meaning.Limits.{microcents_of}
use Rattle.rules.specs.Meaning.Hour.{Plan, Prices, case_of, plan_of, prices_of, welfare, link_total, owed, bound, gap, rent}
use Rattle.rules.specs.Meaning.Clearing.{Clearing}
use Rattle.rules.specs.Meaning.Verdict.{outcome, Readable}
use Rattle.rules.specs.Meaning.Report.{reports, buffer_after}
use Rattle.rules.specs.Meaning.Promise.{Allowed, Accurate, GapWithin, HasLink, Covered, Best, CoveredInFull}
use Rattle.rules.proofs.Steps.Duality
use Rattle.rules.proofs.Steps.Passed.{Sound, sound, case-sound, within-tolerance, narrow-tolerance}
use Rattle.rules.proofs.Promised.Reported.{reported}

-- the judgement answers 0
pub record Accepted (s t : List ℕ) (room : ℕ) : Type 0 where
  pub answer : (outcome s t room).number ≡ 0

pub accepted-sound : (s t : List ℕ) (room : ℕ) → Accepted s t room → Sound s t room
unfolding reports
accepted-sound s t room a = sound s t room (subst (λ (n : ℕ). T (reports n)) (sym a.answer) tt)

-- the proposal is a clearing of the case
pub allowed : (s t : List ℕ) (room : ℕ) → Accepted s t room → Clearing (case_of s) (plan_of s t)
allowed s t room a = (accepted-sound s t room a).cleared.clearing

-- no clearing, over any denominator, has a higher welfare than the proposal's and the gap together
pub accuracy : (s t : List ℕ) (room : ℕ) → Accepted s t room → (q : Plan) → Clearing (case_of s) q
    → welfare (case_of s) q ≤ℤ (pos q.den *ℤ (welfare (case_of s) (plan_of s t) +ℤ gap (case_of s) (plan_of s t) (prices_of s t)))
accuracy s t room a q cl = Duality.accuracy (case_of s) (case-sound s (accepted-sound s t room a).readable).placed (prices_of s t) (plan_of s t) q cl

nonneg : (w b : ℤ) (e : ℕ) → e ≡ 1 → w ≤ℤ (pos e *ℤ b) → pos 0 ≤ℤ (b -ℤ w)
nonneg w b e one h = le-by (at (pos 0)) (at b ⊖ at w) (omega (arith, le-fact (at w) (at (pos e) ⊗ at b) h, ap (λ (k : ℕ). k * up b) one, ap (λ (k : ℕ). k * dn b) one))

-- the gap is from zero to the tolerance, in microcents
pub gap-range : (s t : List ℕ) (room : ℕ) → Accepted s t room
    → (pos 0 ≤ℤ gap (case_of s) (plan_of s t) (prices_of s t)) × (gap (case_of s) (plan_of s t) (prices_of s t) ≤ℤ microcents_of (pos (case_of s).tolerance))
unfolding gap plan_of
gap-range s t room a = (
  nonneg (welfare (case_of s) (plan_of s t)) (bound (case_of s) (prices_of s t)) 1 refl
      (Duality.welfare-bound (case_of s) (case-sound s (accepted-sound s t room a).readable).placed (prices_of s t) (plan_of s t) (allowed s t room a)),
  within-tolerance s t room a.answer,
)

-- in an hour with a link (S-6) the rent covers the link total, which is over the capacities, up to the gap
pub links-covered : (s t : List ℕ) (room : ℕ) → Accepted s t room → HasLink s
    → (link_total (case_of s) (prices_of s t) -ℤ gap (case_of s) (plan_of s t) (prices_of s t)) ≤ℤ rent (case_of s) (plan_of s t) (prices_of s t)
unfolding plan_of
links-covered s t room a linked = Duality.links-covered (case_of s) linked (case-sound s (accepted-sound s t room a).readable).placed (prices_of s t) (plan_of s t) (allowed s t room a) refl

-- in a readable case owed, on the contracted volumes, is at most the link total (S-4)
pub owed-within : (s : List ℕ) → Readable s → (d : Prices) → owed (case_of s) d ≤ℤ link_total (case_of s) d
owed-within s r d = Duality.owed-le (case_of s) (case-sound s r).contracted-in d

-- so the rent covers owed, up to the gap
pub coverage : (s t : List ℕ) (room : ℕ) → Accepted s t room → HasLink s
    → (owed (case_of s) (prices_of s t) -ℤ gap (case_of s) (plan_of s t) (prices_of s t)) ≤ℤ rent (case_of s) (plan_of s t) (prices_of s t)
unfolding plan_of
coverage s t room a linked =
    let ok = case-sound s (accepted-sound s t room a).readable in
    Duality.coverage (case_of s) linked ok.placed ok.contracted-in (prices_of s t) (plan_of s t) (allowed s t room a) refl

-- at a gap of zero the proposal's welfare is the highest of all clearings
pub best-at-zero-gap : (s t : List ℕ) (room : ℕ) → Accepted s t room → gap (case_of s) (plan_of s t) (prices_of s t) ≡ pos 0
    → (q : Plan) → Clearing (case_of s) q → welfare (case_of s) q ≤ℤ (pos q.den *ℤ welfare (case_of s) (plan_of s t))
best-at-zero-gap s t room a z q cl = no_gap (welfare (case_of s) q) (welfare (case_of s) (plan_of s t)) (gap (case_of s) (plan_of s t) (prices_of s t)) q.den z (accuracy s t room a q cl)
  where
    no_gap : (x w g : ℤ) (e : ℕ) → g ≡ pos 0 → x ≤ℤ (pos e *ℤ (w +ℤ g)) → x ≤ℤ (pos e *ℤ w)
    no_gap x w g e z h = le-by (at x) (at (pos e) ⊗ at w)
        (omega (
          arith,
          le-fact (at x) (at (pos e) ⊗ (at w ⊕ at g)) h,
          ap (λ (k : ℕ). e * k) (eq-fact (at g) (at (pos 0)) z),
        ))

-- at a gap of zero the rent covers all of owed
pub covered-at-zero-gap : (s t : List ℕ) (room : ℕ) → Accepted s t room → HasLink s → gap (case_of s) (plan_of s t) (prices_of s t) ≡ pos 0
    → owed (case_of s) (prices_of s t) ≤ℤ rent (case_of s) (plan_of s t) (prices_of s t)
covered-at-zero-gap s t room a linked z = whole (owed (case_of s) (prices_of s t)) (gap (case_of s) (plan_of s t) (prices_of s t)) (rent (case_of s) (plan_of s t) (prices_of s t)) z (coverage s t room a linked)
  where
    whole : (o g r : ℤ) → g ≡ pos 0 → (o -ℤ g) ≤ℤ r → o ≤ℤ r
    whole o g r z h = le-by (at o) (at r) (omega (arith, le-fact (at o ⊖ at g) (at r) h, eq-fact (at g) (at (pos 0)) z))

-- DEMAND 3 in the numbers of the report, for the lent buffer `buffer`
pub record Demand3 (s t : List ℕ) (report : List ℕ) : Type 0 where
  pub is-allowed : Allowed s t
  pub is-accurate : Accurate s report
  pub gap-in : GapWithin s report
  pub is-covered : HasLink s → Covered report
  pub is-best : Best s report
  pub covered-in-full : HasLink s → CoveredInFull report

pub demand-3 : (s t buffer : List ℕ) → Accepted s t (length buffer) → Demand3 s t (buffer_after s t buffer)
unfolding reports
demand-3 s t buffer a =
    let r = reported s t buffer (subst (λ (n : ℕ). T (reports n)) (sym a.answer) tt) in
    record {
      is-allowed = allowed s t (length buffer) a;
      is-accurate = λ q cl. rw (r.welfare-at, r.gap-at) (accuracy s t (length buffer) a q cl);
      gap-in = (rw r.gap-at (gap-range s t (length buffer) a).0, (rw r.gap-at (gap-range s t (length buffer) a).1, narrow-tolerance s t (length buffer) a.answer));
      is-covered = λ linked. rw (r.owed-at, r.gap-at, r.rent-at) (coverage s t (length buffer) a linked);
      is-best = λ z q cl. rw r.welfare-at (best-at-zero-gap s t (length buffer) a (sym r.gap-at ∙ z) q cl);
      covered-in-full = λ linked z. rw (r.owed-at, r.rent-at) (covered-at-zero-gap s t (length buffer) a linked (sym r.gap-at ∙ z));
    }
