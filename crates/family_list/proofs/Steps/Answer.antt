-- What a family list's answer implies, and what rows 16 to 18 leave where they pass. Assumes nothing.
use Rattle.std.specs.Prelude.{◌≡◌, refl, Bool, true, false, cond, ◌||◌, ℕ, ◌≤◌, ◌<◌, length, T, eqb, Ok, Err}
use Rattle.std.proofs.Math.Path.{sym, ap}
use Rattle.std.proofs.Common.{◌∙◌, arith, eqb-true, eq-eqb, ne_eqb, le-leb}
use Rattle.std.proofs.Math.Bool.{not}
use mathlib.Core.List.{List, [], ◌∷◌}
use Rattle.std.proofs.Math.Option.{Option, none, some, none-ne-some}
use Rattle.std.proofs.lemmas.Bool.{lt-leb}
use Rattle.std.proofs.Math.Dec.{nleb→lt}
use Rattle.base_integers.specs.Steps.Ranges.{not_is}
use Rattle.base_causes.specs.declared.Outcome.{Outcome}
use Rattle.base_causes.specs.Meaning.Causes.{verdict, first_below, refusal}
use Rattle.base_causes.proofs.Promised.CauseLaws.{field-fails, field-passes, row-found, row-clear, else-refusal, refusal-append, none_each, number-passes, cause_numbered}
use Rattle.bytes_read.specs.declared.Cursor.{Cursor}
use Rattle.bytes_read.specs.Meaning.Field.{cursor}
use Rattle.bytes_read.specs.Meaning.Walk.{walked, rows_walked_by, rows_walked}
use Rattle.bytes_read.specs.Steps.Walked.{last-part}
use Rattle.rules.specs.Meaning.Hour.{Case}
use Rattle.rules.specs.Meaning.Families.{family_header, no_parent, family_version, family_length, named, parent_in, parent_of, missing, leads_back}
use Rattle.rules.specs.Meaning.Verdict.{differ, not_mark, family_causes}
use Rattle.family_list.specs.Meaning.Parents.{Exist}
use Rattle.family_list.specs.Meaning.Answer.{wrong_list, absent, parent_cause, circle_cause, list_causes, rows_beside, family_by, family_answer, header_by}
use Rattle.family_list.specs.Meaning.Answer.{ListLengthValid, FamiliesReadable}

pub rows_are : (f : List ℕ) (c : Case) {orders : ℕ} → c.orders ≡ orders → family_causes (some f) c ≡ rows_beside f orders
rows_are f c e = ap (rows_beside f) e

-- ROW 16, by its three tests
or-true : (a : Bool) → (a || true) ≡ true
or-true true = refl
or-true false = refl

module _ (f : List ℕ) (orders : ℕ) where
  pub too_short : length f < family_header → true ≡ wrong_list f orders
  unfolding family_length
  too_short h = sym (ap (λ (b : Bool). not_mark 76 84 70 f || differ (family_version f) 1 || b) (ap not (ne_eqb (length f) (family_length orders) (λ e. omega arith))) ∙ or-true (not_mark 76 84 70 f || differ (family_version f) 1))

  pub wrong-mark : not_mark 76 84 70 f ≡ true → true ≡ wrong_list f orders
  wrong-mark e = sym (ap (λ (b : Bool). b || differ (family_version f) 1 || differ (length f) (family_length orders)) e)

  pub wrong-version : differ (family_version f) 1 ≡ true → true ≡ wrong_list f orders
  wrong-version e = sym (ap (λ (b : Bool). b || differ (length f) (family_length orders)) (ap (λ (b : Bool). not_mark 76 84 70 f || b) e ∙ or-true (not_mark 76 84 70 f)))

  pub by-length : not_mark 76 84 70 f ≡ false → differ (family_version f) 1 ≡ false → differ (length f) (family_length orders) ≡ wrong_list f orders
  by-length p q = sym (λ j. p j || q j || differ (length f) (family_length orders))

pub whole_of : (f : List ℕ) (orders : ℕ) → orders ≤ 512 → wrong_list f orders ≡ false → ListLengthValid f orders
whole_of f orders h e = record { few = h; long = by (not_mark 76 84 70 f || differ (family_version f) 1) (eqb (length f) (family_length orders)) refl e }
  where
    by : (a b : Bool) → eqb (length f) (family_length orders) ≡ b → (a || not b) ≡ false → length f ≡ family_length orders
    by a true q e = eqb-true (length f) (family_length orders) q
    by true false q e = cc
    by false false q e = cc

-- ROW 17, by the number of an order
module _ (f : List ℕ) (orders i : ℕ) {v : ℕ} (is : v ≡ parent_in f i) where
  by_number : (b : Bool) → eqb v no_parent ≡ b → absent f orders i ≡ missing orders (cond b none (some v))
  unfolding parent_of
  by_number b e = ap (λ (x : ℕ). missing orders (named x)) (sym is) ∙ ap (λ (c : Bool). missing orders (cond c none (some v))) e

  pub is-absent : orders ≤ v → (v ≡ no_parent → ⊥) → absent f orders i ≡ true
  is-absent h d = by_number false (ne_eqb v no_parent d) ∙ le-leb orders v h

  pub no-parent : v ≡ no_parent → absent f orders i ≡ false
  no-parent e = by_number true (eq-eqb v no_parent e)

  pub is-order : orders ≤ 512 → v < orders → absent f orders i ≡ false
  is-order few h = by_number false (ne_eqb v no_parent (λ e. omega arith)) ∙ lt-leb orders v h

pub exist-of : (f : List ℕ) (orders : ℕ) → ((i : ℕ) → i < orders → T (not (absent f orders i))) → Exist orders (parent_of f)
exist-of f orders h = record { exists = λ i j l e. by (parent_of f i) j e (h i l) }
  where
    by : (o : Option ℕ) (j : ℕ) → o ≡ some j → T (not (missing orders o)) → j < orders
    by none j e t = absurd (none-ne-some j e)
    by (some i) j e t = let q : i ≡ j = cc in omega (arith, nleb→lt orders i t)

-- WHAT THE WALK'S ANSWER IMPLIES
module _ (f : List ℕ) (orders : ℕ) where
  pub header_refused : (past : Cursor) {o : Outcome} → header_by (wrong_list f orders) ≡ Err o → Err o ≡ rows_walked (list_causes f orders) past
  header_refused past {o} e = by (wrong_list f orders) refl e
    where
      by : (b : Bool) → wrong_list f orders ≡ b → header_by b ≡ Err o → Err o ≡ rows_walked (list_causes f orders) past
      by true q e = sym e ∙ sym (ap (rows_walked_by past) (field-fails 16 0 (parent_cause f orders ∷ []) q))
      by false q e = cc

  pub header-past : {c : Cursor} → header_by (wrong_list f orders) ≡ Ok c → (wrong_list f orders ≡ false) × (c ≡ cursor family_header)
  header-past {c} e = by (wrong_list f orders) e
    where
      by : (b : Bool) → header_by b ≡ Ok c → (b ≡ false) × (c ≡ cursor family_header)
      by true e = (cc, cc)
      by false e = (refl, cc)

  pub parents-walked : (past : Cursor) → wrong_list f orders ≡ false → walked (parent_cause f orders) past ≡ rows_walked (list_causes f orders) past
  parents-walked past e = last-part (parent_cause f orders) past ∙ sym (ap (rows_walked_by past) (field-passes 16 0 (parent_cause f orders ∷ []) e))

-- THE REFUSAL: the first two rows, and then the third
module _ (f : List ℕ) (orders : ℕ) where
  pub list-refused : {o : Outcome} → refusal (list_causes f orders) ≡ some o → refusal (rows_beside f orders) ≡ some o
  list-refused {o} e = refusal-append (list_causes f orders) (circle_cause f orders ∷ []) ∙ ap (λ (x : Option Outcome). else-refusal x (refusal (circle_cause f orders ∷ []))) e

  pub list-passed : refusal (list_causes f orders) ≡ none → refusal (rows_beside f orders) ≡ refusal (circle_cause f orders ∷ [])
  list-passed e = refusal-append (list_causes f orders) (circle_cause f orders ∷ []) ∙ ap (λ (x : Option Outcome). else-refusal x (refusal (circle_cause f orders ∷ []))) e

  pub list-known : orders ≤ 512 → refusal (list_causes f orders) ≡ none → FamiliesReadable f orders
  unfolding cause_numbered
  list-known h e =
      let passed = number-passes (list_causes f orders) e in
      record {
        whole = whole_of f orders h (not_is (wrong_list f orders) ((passed 16).pass 0 (omega arith)));
        exist = exist-of f orders (passed 17).pass;
      }

  -- row 18
  pub by-18 : {i : ℕ} → first_below orders (leads_back orders (parent_of f)) ≡ some i → refusal (circle_cause f orders ∷ []) ≡ some (verdict 18 i)
  by-18 {i} q = row-found (circle_cause f orders) [] i q

  pub by-none : first_below orders (leads_back orders (parent_of f)) ≡ none → refusal (circle_cause f orders ∷ []) ≡ none
  unfolding refusal
  by-none q = row-clear (circle_cause f orders) [] q

-- where no row refuses, what 16 and 17 leave
pub known-passed : (f : List ℕ) (orders : ℕ) → orders ≤ 512 → refusal (rows_beside f orders) ≡ none → FamiliesReadable f orders
known-passed f orders h e = list-known f orders h (none_each (list_causes f orders) (circle_cause f orders ∷ []) e).0

-- WHAT AN ANSWER IMPLIES, for a case with this many orders
module _ (f : List ℕ) (c : Case) {orders : ℕ} (count : c.orders ≡ orders) where
  pub refused-of : {o : Outcome} → family_answer f orders ≡ Err o → refusal (family_causes (some f) c) ≡ some o
  refused-of {o} e = ap refusal (rows_are f c count) ∙ by (refusal (rows_beside f orders)) e
    where
      by : (x : Option Outcome) → family_by x ≡ Err o → x ≡ some o
      by (some y) e = cc
      by none e = cc

  pub passed-of : family_answer f orders ≡ Ok tt → refusal (family_causes (some f) c) ≡ none
  passed-of e = ap refusal (rows_are f c count) ∙ by (refusal (rows_beside f orders)) e
    where
      by : (x : Option Outcome) → family_by x ≡ Ok tt → x ≡ none
      by (some y) e = cc
      by none e = refl

  pub known_of : orders ≤ 512 → family_answer f orders ≡ Ok tt → FamiliesReadable f orders
  known_of h e = known-passed f orders h (ap refusal (sym (rows_are f c count)) ∙ passed-of e)
