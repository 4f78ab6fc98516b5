-- What rows 16 to 18 promise of a family list, and what an accepted hour keeps of it (S-11). Assumes nothing.
use Rattle.std.specs.Prelude.{◌≡◌, refl, not, List, [], ℕ, ◌<◌, T}
use Rattle.std.proofs.Common.{sym, ap, subst, ◌∙◌, arith, T_not}
use Rattle.std.proofs.Math.Option.{Option, none, some}
use Rattle.base_causes.specs.declared.Outcome.{Outcome}
use Rattle.base_causes.specs.Meaning.Causes.{verdict, refusal, answer}
use Rattle.base_causes.proofs.Promised.CauseLaws.{First, field-fails, row-passed, before, has_cause, row_of, is_cause, lacks, row-by-number, number-passes, cause_numbered}
use Rattle.rules.specs.Meaning.Layout.{u8_at}
use Rattle.rules.specs.Meaning.Hour.{Case, case_of, plan_of, prices_of}
use Rattle.rules.specs.Meaning.Families.{parent_of, leads_back, LeadsBack}
use Rattle.rules.specs.Meaning.Verdict.{not_mark, family_causes, table, family_outcome, room_causes, case_causes, proposal_causes, clearing_causes}
use Rattle.rules.specs.Meaning.Promise.{FamiliesKept}
use Rattle.rules.proofs.Promised.Families.{child-within}
use Rattle.family_list.specs.Meaning.Parents.{Exist}
use Rattle.family_list.specs.Meaning.Answer.{absent}
use Rattle.family_list.proofs.Steps.Answer.{exist-of}
use Rattle.family_list.proofs.Promised.Circle.{leads-back}

-- AN EMPTY LIST is 16, for any number of orders
pub empty-list : (c : Case) → refusal (family_causes (some []) c) ≡ some (verdict 16 0)
unfolding not_mark u8_at
empty-list c = field-fails 16 0 _ refl

-- 16 TO 18 PASSED: every named parent is an order, and no order leads back to itself
pub record Sound (f : List ℕ) (orders : ℕ) : Type 0 where
  pub exist : Exist orders (parent_of f)
  pub no-circle : (i : ℕ) → i < orders → LeadsBack (parent_of f) i → ⊥

module _ (f : List ℕ) (c : Case) where
  -- from the tests of the two rows
  by_rows : ((i : ℕ) → i < c.orders → T (not (absent f c.orders i))) → ((i : ℕ) → i < c.orders → T (not (leads_back c.orders (parent_of f) i))) → Sound f c.orders
  by_rows p q = let x = exist-of f c.orders p in record { exist = x; no-circle = λ i h b. T_not (leads_back c.orders (parent_of f) i) (q i h) ((leads-back (parent_of f) x h).1 b) }

  pub sound : refusal (family_causes (some f) c) ≡ none → Sound f c.orders
  unfolding cause_numbered
  sound e = let passed = number-passes (family_causes (some f) c) e in by_rows (passed 17).pass (passed 18).pass

-- REFUSED BY 18: the order named leads back to itself, and no earlier order does. An order that leads into a circle
-- without being on it is never named
pub record OnCircle (f : List ℕ) (orders k : ℕ) : Type 0 where
  pub order : k < orders
  pub back : LeadsBack (parent_of f) k
  pub none_before : (i : ℕ) → i < k → LeadsBack (parent_of f) i → ⊥

pub on-circle : (f : List ℕ) (c : Case) (k : ℕ) → refusal (family_causes (some f) c) ≡ some (verdict 18 k) → OnCircle f c.orders k
unfolding before lacks cause_numbered
on-circle f c k e =
    let w = row-by-number 18 (family_causes (some f) c) (omega arith) tt tt (ap (λ (o : Option Outcome). (answer o).number) e) in
    let x = exist-of f c.orders (number-passes (before 18 (family_causes (some f) c)) w.earlier 17).pass in
    let same : w.place ≡ k = ap (λ (o : Outcome). o.index) (sym w.is ∙ ap answer e) in
    let at-k = subst (λ (j : ℕ). First c.orders (leads_back c.orders (parent_of f)) j) same w.first-place in
    record {
      order = at-k.place_in;
      back = (leads-back (parent_of f) x at-k.place_in).0 at-k.holds;
      none_before = λ i l b. T_not (leads_back c.orders (parent_of f) i) (at-k.none_before i l) ((leads-back (parent_of f) x (omega (arith, at-k.place_in))).1 b);
    }

-- ACCEPTED with the list f: the list's demands are kept
module _ (s t f : List ℕ) (room : ℕ) (accepted : (family_outcome s t f room).number ≡ 0) where
  list-sound : Sound f (case_of s).orders
  unfolding family_outcome table room_causes case_causes proposal_causes clearing_causes before has_cause row_of is_cause
  list-sound =
      let passed = row-passed 0 (table (some f) s t room (case_of s) (plan_of s t) (prices_of s t)) accepted in
      by_rows f (case_of s) (passed 17 0 tt).pass (passed 18 0 tt).pass

  pub families-kept : FamiliesKept s t f
  families-kept = record {
    parent-exists = list-sound.exist.exists;
    none-leads-back = list-sound.no-circle;
    within-parent = λ i j h e. child-within s t f room accepted i j h (list-sound.exist.exists i j h e) e;
  }
