-- From the judgement to the entries' clauses: the packed outcome, the buffer, and the promises in the numbers of
-- the report's bytes, without a family list and with one. Assumes nothing.
use Rattle.std.specs.Prelude.{◌≡◌, List, ℕ, ◌/◌, ◌%◌, length}
use Rattle.std.proofs.Common.{sym, ap, subst, ◌∙◌}
use Rattle.std.proofs.Math.Dec.{T}
use Rattle.rules.specs.Meaning.Hour.{case_of, plan_of, prices_of}
use Rattle.rules.specs.Meaning.Verdict.{outcome, family_outcome}
use Rattle.rules.specs.Meaning.Report.{Reported, reports, buffer_after, family_buffer_after}
use Rattle.rules.proofs.Promised.Reported.{reported}
use Rattle.rules.specs.Meaning.Promise.{TotalsReported, Allowed, Accurate, GapWithin, HasLink, Covered, Best, CoveredInFull, FamilyTotalsReported, FamiliesKept}
use Rattle.rules.proofs.Promised.Guarantee.{Accepted, Demand3, demand-3}
use Rattle.rules.proofs.Promised.Families.{accepted-without, family-buffer, family-reported}
use Rattle.rules.proofs.Promised.Causes.{outcome-below, family-below}
use Rattle.rules.specs.Promised.PlainReport.{ReportOf}
use Rattle.rules.proofs.Promised.PlainReport.{report-of, family-report-of}
use Rattle.rules.specs.Meaning.AnnexPromise.{AnnexDemand3}
use Rattle.rules.proofs.Promised.Annex.AnnexHour.{annex-demand-3}
use Rattle.base_causes.specs.declared.Outcome.{Outcome}
use Rattle.family_list.proofs.Promised.FamilyList.{families-kept}
use Rattle.judge_hour.specs.Meaning.HourJudged.{HourJudged, FamilyHourJudged}
use Rattle.judge_hour.specs.Meaning.Packed.{packed}
use Rattle.judge_hour.specs.Steps.Packed.{packed-is, packed-number, packed-index, packed_zero}

-- WHAT IS PROMISED OF AN ACCEPTED HOUR, for the buffer b' afterwards, with a list and without; A says that it is
-- accepted
abbrev pub DemandsIf : Type 0 → List ℕ → List ℕ → List ℕ → Type 0
DemandsIf A s t b' = (A → Allowed s t)
    × ((A → Accurate s b')
    × ((A → GapWithin s b')
    × ((A → HasLink s → Covered b')
    × ((A → Best s b')
    × ((A → HasLink s → CoveredInFull b')
    × (A → AnnexDemand3 s t b'))))))

pub demands-from : {A B : Type 0} (s t b' : List ℕ) → (B → A) → DemandsIf A s t b' → DemandsIf B s t b'
demands-from s t b' f d = (
  λ e. d.0 (f e),
  (λ e. d.1.0 (f e), (λ e. d.1.1.0 (f e), (λ e. d.1.1.1.0 (f e), (λ e. d.1.1.1.1.0 (f e), (λ e. d.1.1.1.1.1.0 (f e), λ e. d.1.1.1.1.1.1 (f e)))))),
)

abbrev pub Demands : List ℕ → List ℕ → Outcome → List ℕ → Type 0
Demands s t r b' = DemandsIf (r.number ≡ 0) s t b'

-- where the hour is accepted without a list and the buffer is that one's
module _ (s t b : List ℕ) (r : Outcome) (b' : List ℕ) (accepted : r.number ≡ 0 → Accepted s t (length b)) (same : r.number ≡ 0 → b' ≡ buffer_after s t b) where
  kept : r.number ≡ 0 → Demand3 s t b'
  kept e = subst (λ (x : List ℕ). Demand3 s t x) (sym (same e)) (demand-3 s t b (accepted e))

  annexed : r.number ≡ 0 → AnnexDemand3 s t b'
  annexed e = subst (λ (x : List ℕ). AnnexDemand3 s t x) (sym (same e)) (annex-demand-3 s t b (accepted e))

  demands : Demands s t r b'
  demands = (
    λ e. (kept e).is-allowed,
    (
      λ e. (kept e).is-accurate,
      (λ e. (kept e).gap-in, (λ e. (kept e).is-covered, (λ e. (kept e).is-best, (λ e. (kept e).covered-in-full, annexed)))),
    ),
  )

-- WITHOUT A LIST: the verdict r, and its packed number n
module _ (s t b : List ℕ) (r : Outcome) (b' : List ℕ) (j : HourJudged s t b r b') where
  totals : TotalsReported s t (length b) b'
  totals w = subst (λ (x : List ℕ). Reported (outcome s t (length b)).number (case_of s) (plan_of s t) (prices_of s t) x) (sym j.buffer-is) (reported s t b w)

  accepts : r.number ≡ 0 → Accepted s t (length b)
  accepts e = record { answer = sym (ap (λ (v : Outcome). v.number) j.verdict-is) ∙ e }

  pub clauses : (n : ℕ) → n ≡ packed r
      → (n ≡ packed (outcome s t (length b)))
      × ((n % 256 ≡ (outcome s t (length b)).number)
      × ((n / 256 ≡ (outcome s t (length b)).index)
      × ((b' ≡ buffer_after s t b) × (ReportOf (n % 256) s t b b' × (TotalsReported s t (length b) b' × DemandsIf (n ≡ 0) s t b')))))
  clauses n e =
      let below = outcome-below s t (length b) in
      let number = packed-number n e j.verdict-is below in (
        packed-is n e j.verdict-is,
        (
          number,
          (
            packed-index n e j.verdict-is below,
            (
              j.buffer-is,
              (
                report-of s t b number j.buffer-is,
                (totals, demands-from s t b' (packed_zero n e j.verdict-is) (demands s t b r b' accepts (λ e. j.buffer-is))),
              ),
            ),
          ),
        ),
      )

-- WITH THE FAMILY LIST f (S-11)
module _ (s t f b : List ℕ) (r : Outcome) (b' : List ℕ) (j : FamilyHourJudged s t f b r b') where
  zero : r.number ≡ 0 → (family_outcome s t f (length b)).number ≡ 0
  zero e = sym (ap (λ (v : Outcome). v.number) j.verdict-is) ∙ e

  same-buffer : r.number ≡ 0 → b' ≡ buffer_after s t b
  unfolding reports
  same-buffer e = j.buffer-is ∙ family-buffer s t f b (subst (λ (n : ℕ). T (reports n)) (sym (zero e)) tt)

  pub family-clauses : (n : ℕ) → n ≡ packed r
      → (n ≡ packed (family_outcome s t f (length b)))
      × ((n % 256 ≡ (family_outcome s t f (length b)).number)
      × ((n / 256 ≡ (family_outcome s t f (length b)).index)
      × ((b' ≡ family_buffer_after s t f b)
      × (ReportOf (n % 256) s t b b' × (FamilyTotalsReported s t f (length b) b' × ((n ≡ 0 → FamiliesKept s t f) × DemandsIf (n ≡ 0) s t b'))))))
  family-clauses n e =
      let below = family-below s t f (length b) in
      let number = packed-number n e j.verdict-is below in
      let accepted = packed_zero n e j.verdict-is in (
        packed-is n e j.verdict-is,
        (
          number,
          (
            packed-index n e j.verdict-is below,
            (
              j.buffer-is,
              (
                family-report-of s t b f number j.buffer-is,
                (
                  subst (λ (x : List ℕ). FamilyTotalsReported s t f (length b) x) (sym j.buffer-is) (family-reported s t f b),
                  (
                    λ z. families-kept s t f (length b) (zero (accepted z)),
                    demands-from s t b' accepted (demands s t b r b' (λ e. accepted-without s t f (length b) (zero e)) same-buffer),
                  ),
                ),
              ),
            ),
          ),
        ),
      )
