-- From what was found in an hour, and from what was written, to the contract. Assumes nothing.
use Rattle.std.specs.Prelude.{◌≡◌, refl, false, ℕ, zero, suc, ◌≤◌, ◌<◌, ℤ}
use Rattle.std.proofs.Math.Path.{sym, ap, subst}
use Rattle.std.proofs.Common.{◌∙◌, zero-add, arith}
use mathlib.Core.List.{List, ◌++◌}
use Rattle.std.proofs.Math.Option.{Option, none, some}
use Rattle.std.proofs.Math.Dec.{T}
use Rattle.std.proofs.Math.ListN.{length, drop}
use Rattle.std.proofs.lemmas.List.Edits.{sets}
use Rattle.std.proofs.Math.Seq.{sets-eq}
use Rattle.base_causes.specs.declared.Outcome.{Outcome}
use Rattle.base_causes.specs.Meaning.Causes.{verdict, refusal, answer}
use Rattle.rules.specs.Meaning.Layout.{report_room}
use Rattle.rules.specs.Meaning.Hour.{case_of, plan_of, prices_of, fb_part}
use Rattle.rules.specs.Meaning.Report.{reports}
use Rattle.rules.specs.Meaning.Verdict.{outcome}
use Rattle.rules.proofs.Steps.Passed.{Sound, sound}
use Rattle.rules.proofs.Promised.Guarantee.{Accepted, allowed}
use Rattle.base_output.specs.declared.Written.{Written}
use Rattle.case_header.specs.declared.Counts.{Counts}
use Rattle.case_header.specs.Meaning.CaseReadable.{CountsInRange}
use Rattle.case_header.specs.Steps.CaseReadable.{headed, limited}
use Rattle.base_measures.specs.Meaning.TenthsHold.{TenthsHold}
use Rattle.report_file.specs.Meaning.Prices.{PricesHold}
use Rattle.judge_stages.specs.declared.ValuedHour.{ValuedHour}
use Rattle.judge_stages.specs.Meaning.Found.{Refused, Valued, hour_causes}
use Rattle.short_rules.specs.Meaning.Answer.{shortfall_numbers, shortfall_count, shortfall_causes, shortfall_outcome, written_by, shortfall_written, shortfall_output, Answers}
use Rattle.short_rules.proofs.Promised.Account.{hour-accounted}
use Rattle.short_rules.proofs.Promised.Answer.{gap-small, hour-answers}
use Rattle.short_rules.proofs.Promised.Causes.{room-passes, refused-first}
use Rattle.proposal_file.specs.declared.ProposalOpening.{ProposalOpening}
use Rattle.proposal_file.specs.Steps.Read.{case-opened}
use Rattle.short_single.specs.Meaning.HourAccepted.{HourAccepted}
use Rattle.short_hour.specs.Meaning.HourShortfalls.{HourShortfalls}
use Rattle.short_hour.specs.Steps.Pairs.{count_of}

module _ (s t : List ℕ) (out : List ℤ) where
  abbrev numbers : List ℤ
  numbers = shortfall_numbers (case_of s) (plan_of s t) (prices_of s t)

  -- REFUSED
  pub kept-refused : (n k : ℕ) → 0 < n → refusal (shortfall_causes s t (length out)) ≡ some (verdict n k) → {r : Written} → r ≡ record { number = n; index = k; length = 0 } → HourShortfalls s t out r out
  unfolding shortfall_outcome shortfall_written shortfall_output
  kept-refused n k h e q = subst (λ (r : Written). HourShortfalls s t out r out) (sym q) (record {
    outcome-is = sym (ap answer e);
    length-is = sym (ap (λ (o : Option Outcome). length (written_by o numbers)) e);
    output-is = sym (ap (λ (o : Option Outcome). written_by o numbers ++ drop (length (written_by o numbers)) out) e);
    answers = λ z. absurd (omega (arith, h));
  })

  -- ANSWERED
  pub kept-answer : Accepted s t report_room → {m : ℕ} {after : List ℤ} → refusal (shortfall_causes s t (length out)) ≡ none → length numbers ≤ length out → m ≡ length numbers → after ≡ sets out 0 numbers
      → HourShortfalls s t out (record { number = 0; index = 0; length = m }) after
  unfolding shortfall_outcome shortfall_written shortfall_output
  kept-answer a {m} {after} e h q w =
      let stands = w ∙ sets-eq numbers out 0 (omega arith) ∙ ap (λ (n : ℕ). numbers ++ drop n out) (zero-add (length numbers)) in
      record {
        outcome-is = sym (ap answer e);
        length-is = q ∙ sym (ap (λ (o : Option Outcome). length (written_by o numbers)) e);
        output-is = stands ∙ sym (ap (λ (o : Option Outcome). written_by o numbers ++ drop (length (written_by o numbers)) out) e);
        answers = λ z. subst (λ (l : List ℤ). Answers (case_of s) (plan_of s t) (prices_of s t) l) (sym stands) (hour-answers s t report_room a (drop (length numbers) out));
      }

  -- WHAT WAS FOUND: its verdict o
  module _ (o : Outcome) (e : o ≡ answer (refusal (hour_causes none s t))) where
    pub found-refused : 0 < o.number → refusal (shortfall_causes s t (length out)) ≡ some (verdict o.number o.index)
    found-refused l = by (refusal (hour_causes none s t)) refl
      where
        by : (x : Option Outcome) → refusal (hour_causes none s t) ≡ x → refusal (shortfall_causes s t (length out)) ≡ some (verdict o.number o.index)
        by (some x) q = refused-first s t (length out) x (room-passes s t (length out) ∙ q) ∙ ap (λ (y : Outcome). some y) (sym (e ∙ ap answer q))
        by none q = absurd (omega (arith, l, ap (λ (o : Outcome). o.number) (e ∙ ap answer q)))

    pub found-accepted : o.number ≡ 0 → Accepted s t report_room
    unfolding outcome
    found-accepted z = record { answer = ap (λ (x : Option Outcome). (answer x).number) (room-passes s t (length out)) ∙ ap (λ (x : Outcome). x.number) (sym e) ∙ z }

  -- refused before its value is known
  pub not-zero : {o : Outcome} → Refused (hour_causes none s t) o → 0 < o.number
  unfolding reports
  not-zero {o} h = by o.number h.not-valued
    where
      by : (n : ℕ) → reports n ≡ false → 0 < n
      by zero q = cc
      by (suc n) q = omega arith

  -- ACCEPTED, as the stages have it
  module _ (f : ValuedHour) (h : Valued (hour_causes none s t) s t f) (e : f.verdict.number ≡ 0) where
    pub accepted : Accepted s t report_room
    accepted = found-accepted f.verdict h.verdict-is e

    passed : Sound s t report_room
    unfolding reports
    passed = sound s t report_room (subst (λ (n : ℕ). T (reports n)) (sym accepted.answer) tt)

    pub judged : HourAccepted s t f.hour.«case».counts f.hour.opening
    judged = record {
      read = h.hour-is;
      clearing = allowed s t report_room accepted;
      prices-in = record { within = passed.cleared.zonePrice-in };
      accounted = hour-accounted s t report_room accepted;
      gap-small = gap-small s t report_room accepted;
    }

    pub count-is : count_of f.hour.«case».counts ≡ shortfall_count (case_of s)
    unfolding shortfall_count case_of
    count-is = ap count_of h.hour-is.proposed.opened.counts

    -- the same of the files that were read
    pub judged_of : HourAccepted f.hour.«case».bytes.now f.hour.proposal.now f.hour.«case».counts f.hour.opening
    judged_of = subst (λ (x : List ℕ). HourAccepted x f.hour.proposal.now f.hour.«case».counts f.hour.opening) (sym h.case-is) (subst (λ (y : List ℕ). HourAccepted s y f.hour.«case».counts f.hour.opening) (sym h.proposal-is) judged)

    pub prices_of_files : PricesHold (case_of f.hour.«case».bytes.now) (prices_of f.hour.«case».bytes.now f.hour.proposal.now) f.prices
    prices_of_files = subst (λ (x : List ℕ). PricesHold (case_of x) (prices_of x f.hour.proposal.now) f.prices) (sym h.case-is) (subst (λ (y : List ℕ). PricesHold (case_of s) (prices_of s y) f.prices) (sym h.proposal-is) h.prices-are)

    pub parts_of_files : TenthsHold (fb_part (case_of f.hour.«case».bytes.now) (plan_of f.hour.«case».bytes.now f.hour.proposal.now)) f.cleared.parts
    parts_of_files = subst (λ (x : List ℕ). TenthsHold (fb_part (case_of x) (plan_of x f.hour.proposal.now)) f.cleared.parts) (sym h.case-is) (subst (λ (y : List ℕ). TenthsHold (fb_part (case_of s) (plan_of s y)) f.cleared.parts) (sym h.proposal-is) h.cleared-is.parts_are)

    pub numbers_of_files : shortfall_numbers (case_of f.hour.«case».bytes.now) (plan_of f.hour.«case».bytes.now f.hour.proposal.now) (prices_of f.hour.«case».bytes.now f.hour.proposal.now) ≡ numbers
    numbers_of_files = λ j. shortfall_numbers (case_of (h.case-is j)) (plan_of (h.case-is j) (h.proposal-is j)) (prices_of (h.case-is j) (h.proposal-is j))

pub few : {s t : List ℕ} {k : Counts} {opening : ProposalOpening} → HourAccepted s t k opening → CountsInRange k
few j = limited (headed (case-opened j.read))
