-- A proposal that passes rows 9 to 14, for a readable case: what the stages after reading require; its fields are
-- within the file. Assumes nothing.
use Rattle.std.specs.Prelude.{◌≡◌, refl, Bool, List, [], ◌∷◌, ℕ, ◌+◌, ◌*◌, ◌≤◌, ◌<◌, length, pos, Ok, Err}
use Rattle.std.proofs.Math.Path.{ap}
use Rattle.std.proofs.Common.{◌∙◌, arith}
use Rattle.std.proofs.Math.Option.{Option, none, some}
use Rattle.base_integers.specs.Meaning.Ranges.{outside, Within}
use Rattle.base_integers.specs.Steps.Ranges.{within, nat-inside}
use Rattle.base_limits.specs.Meaning.Limits as limits
use Rattle.rules.specs.Meaning.Layout.{u32_at, proposal_header, proposal_version, proposal_length, branches_in, share_in, flow_in, shadow_at, shadow_in}
use Rattle.rules.specs.Meaning.Hour.{case_of, plan_of, prices_of}
use Rattle.base_causes.specs.declared.Outcome.{Outcome}
use Rattle.base_causes.specs.Meaning.Causes.{Cause, refusal, once, each_at}
use Rattle.rules.specs.Meaning.Verdict.{◌under◌, differ, not_mark, proposal_causes, proposal_refusal}
use Rattle.rules.proofs.Steps.Passed.{proposal-length, proposal-sound}
use Rattle.case_header.specs.declared.Counts.{Counts}
use Rattle.case_header.specs.Meaning.CaseReadable.{CaseReadable}
use Rattle.case_header.specs.Steps.CaseReadable.{headed, limited}
use Rattle.proposal_file.specs.declared.ProposalOpening.{ProposalOpening}
use Rattle.proposal_file.specs.Meaning.Answer.{opening_of, proposal_by, proposal_answer}
use Rattle.proposal_file.specs.Meaning.ProposalValid.{ProposalValid}

-- where number n after the header stands, and the length demanded, from the case's counts
abbrev pub number_start : ℕ → ℕ
number_start n = proposal_header + 4 * n

abbrev pub length_of : Counts → ℕ
length_of k = number_start (k.orders + k.links + k.branches)

-- row 14 at a branch
abbrev pub bad_shadow : List ℕ → List ℕ → ℕ → Bool
bad_shadow s t m = outside limits.shadow_price (pos (shadow_in s t m))

abbrev pub shadow_cause : List ℕ → List ℕ → Cause
shadow_cause s t = each_at 14 (branches_in s) (bad_shadow s t) (shadow_at s)

-- WHAT AN ANSWER IMPLIES
pub opening-is : (s t : List ℕ) {p : ProposalOpening} → proposal_answer s t ≡ Ok p → p ≡ opening_of t
opening-is s t {p} e = by (proposal_refusal s t) e
  where
    by : (o : Option Outcome) → proposal_by (opening_of t) o ≡ Ok p → p ≡ opening_of t
    by (some o) e = cc
    by none e = cc

pub proposed-of : {s : List ℕ} {k : Counts} (t : List ℕ) {p : ProposalOpening} → CaseReadable s k → proposal_answer s t ≡ Ok p → ProposalValid s k t
proposed-of {s} {k} t {p} w e = by (proposal_refusal s t) refl e
  where
    by : (o : Option Outcome) → proposal_refusal s t ≡ o → proposal_by (opening_of t) o ≡ Ok p → ProposalValid s k t
    by (some o) q e = record { opened = w; passed = cc }
    by none q e = record { opened = w; passed = q }

pub refused-of : (s t : List ℕ) {r : Outcome} → proposal_answer s t ≡ Err r → proposal_refusal s t ≡ some r
refused-of s t {r} e = by (proposal_refusal s t) refl e
  where
    by : (o : Option Outcome) → proposal_refusal s t ≡ o → proposal_by (opening_of t) o ≡ Err r → proposal_refusal s t ≡ some r
    by (some o) q e = q ∙ cc
    by none q e = cc

-- ROWS 9 TO 14
abbrev pub rows_of : List ℕ → List ℕ → List Cause
rows_of s t =
    once 9 (length t under proposal_header)
    ∷ once 10 (not_mark 76 84 80 t)
    ∷ once 11 (differ (proposal_version t) 1)
    ∷ once 12 (differ (length t) (proposal_length s))
    ∷ once 13 (outside limits.share (pos (share_in t)))
    ∷ shadow_cause s t
    ∷ []

pub rows_are : (s t : List ℕ) → proposal_refusal s t ≡ refusal (rows_of s t)
unfolding proposal_refusal proposal_causes case_of plan_of prices_of
rows_are s t = refl

-- WHERE SHADOW PRICES STAND: each begins where the one before ends, and the proposal ends where the last ends
pub shadow-next : (s : List ℕ) (m : ℕ) → shadow_at s m + 4 ≡ shadow_at s (m + 1)
unfolding shadow_at
shadow-next s m = omega arith

pub shadows-end : (s : List ℕ) → shadow_at s (branches_in s) ≡ proposal_length s
unfolding shadow_at proposal_length
shadows-end s = refl

pub shadow-inside : (s : List ℕ) (m : ℕ) → m < branches_in s → shadow_at s m + 4 ≤ proposal_length s
unfolding shadow_at proposal_length
shadow-inside s m h = omega arith

-- WITHIN THE FILE, by the counts
module _ {s : List ℕ} {k : Counts} (o : CaseReadable s k) (t : List ℕ) where
  pub length-is : length_of k ≡ proposal_length s
  unfolding proposal_length
  length-is = ap length_of o.counts

  pub branches-is : k.branches ≡ branches_in s
  branches-is = ap (λ (k : Counts). k.branches) o.counts

  pub small : proposal_length s < 4294967296
  small = omega (arith, length-is, limited (headed o))

  pub flow-is : (l : ℕ) → u32_at t (number_start (k.orders + l)) ≡ flow_in s t l
  unfolding flow_in
  flow-is l = ap (λ (k : Counts). u32_at t (number_start (k.orders + l))) o.counts

  pub shadow-at : (m : ℕ) → number_start (k.orders + k.links + m) ≡ shadow_at s m
  unfolding shadow_at
  shadow-at m = ap (λ (k : Counts). number_start (k.orders + k.links + m)) o.counts

  pub shadow-is : (m : ℕ) → u32_at t (number_start (k.orders + k.links + m)) ≡ shadow_in s t m
  unfolding shadow_in shadow_at
  shadow-is m = ap (λ (k : Counts). u32_at t (number_start (k.orders + k.links + m))) o.counts

pub number-inside : {s : List ℕ} {k : Counts} {t : List ℕ} → ProposalValid s k t → (n : ℕ) → n < k.orders + k.links + k.branches → number_start n + 4 ≤ length t
number-inside {s} {k} {t} p n h = omega (arith, proposal-length s t p.passed, length-is p.opened t)

-- row 14 passed
pub shadow-within : {s : List ℕ} {k : Counts} {t : List ℕ} → ProposalValid s k t → (m : ℕ) → m < k.branches → Within limits.shadow_price (pos (shadow_in s t m))
unfolding case_of prices_of
shadow-within {s} {k} {t} p m h =
    within limits.shadow_price (pos (shadow_in s t m))
    (nat-inside 0 1000000 (shadow_in s t m) (omega arith) ((proposal-sound s t p.passed).shadow-in m (omega (arith, h, ap (λ (k : Counts). k.branches) p.opened.counts))))
