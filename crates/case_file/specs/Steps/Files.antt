-- Row 5 for the bytes that are lent, and where case and proposal stand among them. Assumes nothing.
use Rattle.std.specs.Prelude.{◌≡◌, refl, Bool, true, false, not, List, [], ◌∷◌, ℕ, ◌+◌, ◌*◌, ◌≤◌, ◌<◌, length, drop, pos}
use Rattle.std.proofs.Common.{sym, ◌∙◌, length-take-le, get_or-take}
use Rattle.std.proofs.Math.Path.{ap}
use Rattle.std.proofs.Math.Option.{Option, some}
use native.Mathlib.Omega.{arith}
use borrow.Author.Tests.{ltb-true, ltb-false, eqb-true, not-false, eq-eqb, ne_eqb, le-ltb}
use Rattle.std.proofs.Math.ListN.{take}
use Rattle.std.proofs.Math.Seq.{take_all, take-length}
use Rattle.base_limits.specs.Meaning.Limits as limits
use Rattle.base_causes.specs.declared.Outcome.{Outcome}
use Rattle.base_causes.specs.Meaning.Causes.{Cause, verdict, refusal}
use Rattle.base_causes.proofs.Promised.CauseLaws.{else-refusal, field-fails}
use Rattle.rules.specs.Meaning.Layout.{u8_at, u16_at, u32_at, case_version, zones_in, branches_in, links_in, orders_in, tolerance_in, case_length}
use Rattle.rules.specs.Meaning.Verdict.{◌under◌, differ, case_refusal, header_refusal}
use Rattle.rules.specs.Meaning.Cut.{case_end, case_part, proposal_part}
use Rattle.rules.proofs.Steps.CaseEnd.{end_refused, end_short, end-good, end-within, SameHeader, same-refusal, same_length}
use Rattle.case_header.specs.declared.Counts.{Counts}
use Rattle.case_header.specs.Meaning.Answer.{counts_of}
use Rattle.case_header.specs.Meaning.CaseReadable.{CaseReadable, HeaderValid, LengthValid, length_of, branch_cause, link_cause, order_cause}
use Rattle.case_header.specs.Steps.CaseReadable.{body_causes, header-first, body, headed, whole, length-is}
use Rattle.case_file.specs.declared.Files.{Files}
use Rattle.case_file.specs.declared.Files.TheVariants.{Apart, Joined}
use Rattle.case_file.specs.Meaning.Files.{case_in, proposal_in}

-- files that are lent apart are not joined
pub not-joined : {A : Type 0} {x y : A} → Apart ≡ Joined → x ≡ y
not-joined e = cc

-- ROW 5, by its test
abbrev pub length_refused : Files → ℕ → ℕ → Bool
length_refused Apart n demanded = differ n demanded
length_refused Joined n demanded = n under demanded

module _ (n demanded : ℕ) where
  pub equal-passes : (files : Files) → n ≡ demanded → false ≡ length_refused files n demanded
  equal-passes Apart e = sym (ap not (eq-eqb n demanded e))
  equal-passes Joined e = sym (le-ltb n demanded (omega (arith, e)))

  pub apart-refused : {files : Files} → files ≡ Apart → (n ≡ demanded → ⊥) → true ≡ length_refused files n demanded
  apart-refused q f = sym (ap (λ (x : Files). length_refused x n demanded) q ∙ ap not (ne_eqb n demanded f))

  pub joined-refused : {files : Files} → files ≡ Joined → (n under demanded) ≡ length_refused files n demanded
  joined-refused q = sym (ap (λ (x : Files). length_refused x n demanded) q)

-- rows 6 to 8
abbrev pub parts : List ℕ → List Cause
parts s = branch_cause s ∷ link_cause s ∷ order_cause s ∷ []

-- the same header gives the same counts
same-counts : (r s : List ℕ) → SameHeader r s → counts_of r ≡ counts_of s
unfolding u8_at u16_at u32_at case_version zones_in branches_in links_in orders_in tolerance_in
same-counts r s h = λ i. record {
  version = h.same 3 (omega arith) i + 256 * h.same 4 (omega arith) i;
  zones = h.same 5 (omega arith) i;
  branches = h.same 6 (omega arith) i;
  links = h.same 7 (omega arith) i;
  orders = h.same 8 (omega arith) i + 256 * h.same 9 (omega arith) i;
  tolerance = record { 0 = limits.microcents_of (pos (h.same 10 (omega arith) i + 256 * (h.same 11 (omega arith) i + 256 * (h.same 12 (omega arith) i + 256 * h.same 13 (omega arith) i)))) };
}

-- all is the case
part-all : (s : List ℕ) → case_end s ≡ length s → case_part s ≡ s
unfolding case_part
part-all s e = ap (λ (n : ℕ). take n s) e ∙ take-length s

-- REFUSED BY ITS HEADER
refused-first : (s : List ℕ) {r : Outcome} → header_refusal s ≡ some r → case_refusal s ≡ some r
refused-first s e = header-first s ∙ ap (λ (x : Option Outcome). else-refusal x (refusal (body_causes s))) e

pub header-refuses : (files : Files) (s : List ℕ) {r : Outcome} → header_refusal s ≡ some r → case_refusal (case_in files s) ≡ some r
header-refuses Apart s e = refused-first s e
header-refuses Joined s {r} e = ap case_refusal (part-all s (end_refused s r e)) ∙ refused-first s e

module _ {s : List ℕ} {k : Counts} (h : HeaderValid s k) where
  -- REFUSED BY 5
  pub refused-5 : (files : Files) → length_refused files (length s) (case_length s) ≡ true → case_refusal (case_in files s) ≡ some (verdict 5 0)
  refused-5 Apart e = body h ∙ field-fails 5 0 (parts s) e
  refused-5 Joined e =
      let l = ltb-true (length s) (case_length s) e in
      ap case_refusal (part-all s (end_short s h.passed l)) ∙ (body h ∙ field-fails 5 0 (parts s) (longer l))
    where
      longer : length s < case_length s → differ (length s) (case_length s) ≡ true
      longer l = ap not (ne_eqb (length s) (case_length s) (λ e. omega (arith, e, l)))

  -- PAST 5: the case has the demanded length
  header-long : 14 ≤ case_length s
  unfolding case_length
  header-long = omega arith

  module _ (l : case_length s ≤ length s) where
    abbrev front : List ℕ
    front = take (case_length s) s

    same-front : SameHeader front s
    same-front = record {
      long = (omega (arith, header-long, length-take-le (case_length s) s l), omega (arith, header-long, l));
      same = λ j b. get_or-take (case_length s) s j 0 (omega (arith, header-long, b));
    }

    pub front-valid : LengthValid front k
    front-valid = record {
      headed = record { passed = same-refusal front s same-front ∙ h.passed; counts = h.counts ∙ sym (same-counts front s same-front) };
      whole = length-take-le (case_length s) s l ∙ sym (same_length front s same-front);
    }

  pub past-5 : (files : Files) → length_refused files (length s) (case_length s) ≡ false → (case_length s ≤ length s) × (take (case_length s) s ≡ case_in files s)
  unfolding case_part
  past-5 Apart e = let q = eqb-true (length s) (case_length s) (not-false _ e) in (omega (arith, q), take_all (case_length s) s (omega (arith, q)))
  past-5 Joined e = let l = ltb-false (length s) (case_length s) e in (l, ap (λ (n : ℕ). take n s) (sym (end-good s h.passed l)))

-- WHERE A READABLE CASE ENDS, and its proposal begins
abbrev pub proposal_start : Files → ℕ → ℕ
proposal_start Apart end = 0
proposal_start Joined end = end

part_length : (files : Files) (s : List ℕ) → length (case_in files s) ≤ length s
unfolding case_part
part_length Apart s = omega arith
part_length Joined s = omega (arith, length-take-le (case_end s) s (end-within s), end-within s)

part-front : (files : Files) (s : List ℕ) → take (length (case_in files s)) s ≡ case_in files s
unfolding case_part
part-front Apart s = take-length s
part-front Joined s = ap (λ (n : ℕ). take n s) (length-take-le (case_end s) s (end-within s))

module _ (files : Files) (s : List ℕ) {k : Counts} (o : CaseReadable (case_in files s) k) where
  demanded-is : length_of k ≡ length (case_in files s)
  demanded-is = length-is (headed o) ∙ sym (whole o).whole

  pub case-within : length_of k ≤ length s
  case-within = omega (arith, demanded-is, part_length files s)

  pub case-front : take (length_of k) s ≡ case_in files s
  case-front = ap (λ (n : ℕ). take n s) demanded-is ∙ part-front files s

end_of : (s : List ℕ) {k : Counts} → CaseReadable (case_part s) k → length_of k ≡ case_end s
unfolding case_part
end_of s o = demanded-is Joined s o ∙ length-take-le (case_end s) s (end-within s)

pub proposal-within : (files : Files) (s t : List ℕ) {k : Counts} → CaseReadable (case_in files s) k → (files ≡ Joined → t ≡ s) → proposal_start files (length_of k) ≤ length t
proposal-within Apart s t o e = omega arith
proposal-within Joined s t o e = omega (arith, end_of s o, end-within s, ap length (e refl))

pub proposal-rest : (files : Files) (s t : List ℕ) {k : Counts} → CaseReadable (case_in files s) k → (files ≡ Joined → t ≡ s) → drop (proposal_start files (length_of k)) t ≡ proposal_in files t
unfolding proposal_part
proposal-rest Apart s t o e = refl
proposal-rest Joined s t o e = ap (λ (n : ℕ). drop n t) (end_of s o ∙ ap case_end (sym (e refl)))
