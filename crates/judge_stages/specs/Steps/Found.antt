-- What the driver finds in an hour by a list of rows: a refusal or, for a valued hour, what the report holds and its
-- net positions. Assumes nothing.
use Rattle.std.specs.Prelude.{◌≡◌, refl, Bool, true, false, not, cond, ◌&&◌, ◌||◌, List, [], ◌∷◌, ◌++◌, ℕ, T, eqb, Result, Ok, Err}
use Rattle.std.proofs.Common.{sym, ap, subst, ◌∙◌, append_assoc, eqb→eq}
use Rattle.std.proofs.Math.Option.{Option, none, some}
use Rattle.base_integers.specs.Meaning.Ranges.{is_zero}
use Rattle.rules.specs.Meaning.Hour.{Case, Plan, Prices, case_of, plan_of, prices_of, net_sum, no_link}
use Rattle.rules.specs.Meaning.Report.{reports}
use Rattle.rules.specs.Meaning.Verdict.{◌over◌, case_causes, proposal_causes, wide_tolerance, family_causes, excess_volume, fraction_causes, unbalanced, share_without_link, overused_link, exchange_causes, clearing_causes}
use Rattle.base_causes.specs.declared.Outcome.{Outcome}
use Rattle.base_causes.specs.Meaning.Causes.{Cause, verdict, first_below, failing, cause_else, refusal, answer, once}
use Rattle.base_causes.proofs.Promised.CauseLaws.{else-refusal, refusal-append, lacks, not-refused, behind, row-found, row-clear}
use Rattle.judge_stages.specs.declared.ValuedHour.{ValuedHour}
use Rattle.judge_stages.specs.Meaning.Found.{hour_causes, Finds}

-- THE STAGES, in order: `read_case` and `read`, 1 to 18; `clear`, 21 and 28 of the orders and 22, 27 and 23 of the
-- links; `value`, all after 23
abbrev pub admitted_causes : Option (List ℕ) → Case → List Cause
admitted_causes fs c = wide_tolerance c ∷ family_causes fs c

abbrev pub read_causes : Option (List ℕ) → List ℕ → List ℕ → List Cause
read_causes fs s t = case_causes s (case_of s) ++ (proposal_causes s t (case_of s) (plan_of s t) (prices_of s t) ++ admitted_causes fs (case_of s))

abbrev pub order_causes : Option (List ℕ) → Case → Plan → List Cause
order_causes fs c p = excess_volume c p ∷ fraction_causes fs c p

abbrev pub link_causes : Case → Plan → List Cause
link_causes c p = unbalanced c p ∷ share_without_link c p ∷ overused_link c p ∷ []

abbrev pub clear_causes : Option (List ℕ) → Case → Plan → List Cause
clear_causes fs c p = order_causes fs c p ++ link_causes c p

abbrev pub value_causes : Case → Plan → Prices → List Cause
value_causes c p d = behind 23 (exchange_causes c p d)

pub stages : (fs : Option (List ℕ)) (s t : List ℕ) → hour_causes fs s t ≡ read_causes fs s t ++ (clear_causes fs (case_of s) (plan_of s t) ++ value_causes (case_of s) (plan_of s t) (prices_of s t))
unfolding clearing_causes
stages fs s t =
    let of-case = case_causes s (case_of s) in
    let of-proposal = proposal_causes s t (case_of s) (plan_of s t) (prices_of s t) in
    let of-lists = admitted_causes fs (case_of s) in
    let of-orders = order_causes fs (case_of s) (plan_of s t) in
    let of-links = link_causes (case_of s) (plan_of s t) in
    let of-network = value_causes (case_of s) (plan_of s t) (prices_of s t) in
    sym (append_assoc of-case (of-proposal ++ of-lists) ((of-orders ++ of-links) ++ of-network)
    ∙ ap (λ (rows : List Cause). of-case ++ rows) (append_assoc of-proposal of-lists ((of-orders ++ of-links) ++ of-network) ∙ ap (λ (rows : List Cause). of-proposal ++ (of-lists ++ rows)) (append_assoc of-orders of-links of-network)))

-- REFUSED, by rows of which none writes a report
pub finds-refused : (rows : List Cause) (s t : List ℕ) (o : Outcome) {r : Result ValuedHour Outcome} → r ≡ Err o → reports o.number ≡ false → refusal rows ≡ some o → Finds rows s t r
finds-refused rows s t o e w q = subst (λ (r : Result ValuedHour Outcome). Finds rows s t r) (sym e) (record { verdict-is = sym (ap answer q); not-valued = w })

-- other rows with the same refusal
pub same_rows : (qs rows : List Cause) (s t : List ℕ) (r : Result ValuedHour Outcome) → refusal qs ≡ refusal rows → Finds rows s t r → Finds qs s t r
same_rows qs rows s t (Err o) e f = record { verdict-is = f.verdict-is ∙ ap answer (sym e); not-valued = f.not-valued }
same_rows qs rows s t (Ok r) e f = record {
  verdict-is = f.verdict-is ∙ ap answer (sym e);
  valued-is = f.valued-is;
  few-zones = f.few-zones;
  zones-are = f.zones-are;
  case-is = f.case-is;
  proposal-is = f.proposal-is;
  hour-is = f.hour-is;
  cleared-is = f.cleared-is;
  prices-are = f.prices-are;
  totals-are = f.totals-are;
}

-- two lists of rows: the first refuses, or it passes and the second decides
pub first-refuses : (qs rs : List Cause) (o : Outcome) → refusal qs ≡ some o → refusal (qs ++ rs) ≡ some o
first-refuses qs rs o e = refusal-append qs rs ∙ ap (λ (x : Option Outcome). else-refusal x (refusal rs)) e

pub first_passes : (qs rs : List Cause) → refusal qs ≡ none → refusal (qs ++ rs) ≡ refusal rs
first_passes qs rs e = refusal-append qs rs ∙ ap (λ (x : Option Outcome). else-refusal x (refusal rs)) e

-- rows without 0 and 26 write no report
not-by : (b : Bool) → (T b → ⊥) → b ≡ false
not-by true f = absurd (f tt)
not-by false f = refl

pub writes-no-report : (rows : List Cause) (o : Outcome) → T (lacks 0 rows) → T (lacks 26 rows) → refusal rows ≡ some o → reports o.number ≡ false
unfolding reports
writes-no-report rows o a b e = λ j.
    not-by (eqb o.number 0) (λ t. not-refused 0 rows a o e (eqb→eq o.number 0 t)) j
    || not-by (eqb o.number 26) (λ t. not-refused 26 rows b o e (eqb→eq o.number 26 t)) j

-- A STAGE, whose rows lack 0 and 26: it refuses, or it passes and the rows after it are asked
pub record Silent (qs : List Cause) : Type 0 where
  pub not-0 : T (lacks 0 qs)
  pub not-26 : T (lacks 26 qs)

module _ {qs : List Cause} (rs : List Cause) (l : Silent qs) (s t : List ℕ) where
  pub stage-refuses : {o : Outcome} {r : Result ValuedHour Outcome} → r ≡ Err o → refusal qs ≡ some o → Finds (qs ++ rs) s t r
  stage-refuses {o} e q = finds-refused (qs ++ rs) s t o e (writes-no-report qs o l.not-0 l.not-26 q) (first-refuses qs rs o q)

  pub stage-passes : (r : Result ValuedHour Outcome) → refusal qs ≡ none → Finds rs s t r → Finds (qs ++ rs) s t r
  stage-passes r e f = same_rows (qs ++ rs) rs s t r (first_passes qs rs e) f

pub read-silent : (fs : Option (List ℕ)) (s t : List ℕ) → Silent (read_causes fs s t)
unfolding case_causes proposal_causes lacks
read-silent none s t = record { not-0 = tt; not-26 = tt }
read-silent (some f) s t = record { not-0 = tt; not-26 = tt }

pub clear-silent : (fs : Option (List ℕ)) (c : Case) (p : Plan) → Silent (clear_causes fs c p)
unfolding lacks
clear-silent none c p = record { not-0 = tt; not-26 = tt }
clear-silent (some f) c p = record { not-0 = tt; not-26 = tt }

-- ROWS 22 AND 27, by their tests
abbrev pub balance_causes : Case → Plan → List Cause
balance_causes c p = unbalanced c p ∷ share_without_link c p ∷ []

abbrev pub balance_answer : Bool → Bool → Result Unit Outcome
balance_answer true b = Err (verdict 22 0)
balance_answer false true = Err (verdict 27 0)
balance_answer false false = Ok tt

abbrev pub answered_by : Option Outcome → Result Unit Outcome
answered_by (some o) = Err o
answered_by none = Ok tt

pub balance-answers : (c : Case) (p : Plan) → balance_answer (not (is_zero (net_sum c p))) (no_link c && p.share over 0) ≡ answered_by (refusal (balance_causes c p))
unfolding refusal first_below
balance-answers c p = by (not (is_zero (net_sum c p))) (no_link c && p.share over 0)
  where
    by : (a b : Bool) → balance_answer a b ≡ answered_by (cause_else (once 22 a) (failing (once 22 a)) (cause_else (once 27 b) (failing (once 27 b)) none))
    by true b = refl
    by false true = refl
    by false false = refl

pub balance-refuses : (c : Case) (p : Plan) {o : Outcome} → balance_answer (not (is_zero (net_sum c p))) (no_link c && p.share over 0) ≡ Err o → refusal (balance_causes c p) ≡ some o
balance-refuses c p {o} e = by (refusal (balance_causes c p)) (sym (balance-answers c p) ∙ e)
  where
    by : (x : Option Outcome) → answered_by x ≡ Err o → x ≡ some o
    by (some y) e = cc
    by none e = cc

pub balance-passes : (c : Case) (p : Plan) → balance_answer (not (is_zero (net_sum c p))) (no_link c && p.share over 0) ≡ Ok tt → refusal (balance_causes c p) ≡ none
balance-passes c p e = by (refusal (balance_causes c p)) (sym (balance-answers c p) ∙ e)
  where
    by : (x : Option Outcome) → answered_by x ≡ Ok tt → x ≡ none
    by (some y) e = cc
    by none e = refl

-- THE ROWS OF `clear`, one after another
module _ (fs : Option (List ℕ)) (c : Case) (p : Plan) where
  orders-first : clear_causes fs c p ≡ excess_volume c p ∷ (fraction_causes fs c p ++ link_causes c p)
  orders-first = refl

  pub refused-21 : {i : ℕ} → failing (excess_volume c p) ≡ some i → refusal (clear_causes fs c p) ≡ some (verdict 21 i)
  refused-21 {i} e = row-found (excess_volume c p) (fraction_causes fs c p ++ link_causes c p) i e

  module _ (volumes : failing (excess_volume c p) ≡ none) where
    past-21 : refusal (clear_causes fs c p) ≡ refusal (fraction_causes fs c p ++ link_causes c p)
    past-21 = row-clear (excess_volume c p) (fraction_causes fs c p ++ link_causes c p) volumes

    pub refused-28 : {o : Outcome} → refusal (fraction_causes fs c p) ≡ some o → refusal (clear_causes fs c p) ≡ some o
    refused-28 {o} e = past-21 ∙ first-refuses (fraction_causes fs c p) (link_causes c p) o e

    module _ (fractions : refusal (fraction_causes fs c p) ≡ none) where
      past-28 : refusal (clear_causes fs c p) ≡ refusal (balance_causes c p ++ (overused_link c p ∷ []))
      past-28 = past-21 ∙ first_passes (fraction_causes fs c p) (link_causes c p) fractions

      pub refused-balance : {o : Outcome} → refusal (balance_causes c p) ≡ some o → refusal (clear_causes fs c p) ≡ some o
      refused-balance {o} e = past-28 ∙ first-refuses (balance_causes c p) (overused_link c p ∷ []) o e

      module _ (balance : refusal (balance_causes c p) ≡ none) where
        past-balance : refusal (clear_causes fs c p) ≡ refusal (overused_link c p ∷ [])
        past-balance = past-28 ∙ first_passes (balance_causes c p) (overused_link c p ∷ []) balance

        pub refused-23 : {l : ℕ} → failing (overused_link c p) ≡ some l → refusal (clear_causes fs c p) ≡ some (verdict 23 l)
        refused-23 {l} e = past-balance ∙ row-found (overused_link c p) [] l e

        pub all-cleared : failing (overused_link c p) ≡ none → refusal (clear_causes fs c p) ≡ none
        unfolding refusal
        all-cleared e = past-balance ∙ row-clear (overused_link c p) [] e

-- THE GAP, row 26: its number, which like 0 writes a report
pub gap-answers : (b : Bool) → verdict (cond b 26 0) 0 ≡ answer (refusal (once 26 b ∷ []))
unfolding refusal first_below
gap-answers true = refl
gap-answers false = refl

pub gap-reports : (b : Bool) → reports (cond b 26 0) ≡ true
unfolding reports
gap-reports true = refl
gap-reports false = refl
