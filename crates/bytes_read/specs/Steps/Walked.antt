-- A walk over rows of fields, partly done, and what its answer implies. Assumes nothing.
use Rattle.std.specs.Prelude.{◌≡◌, refl, Bool, true, false, List, [], ◌∷◌, ℕ, ◌+◌, ◌≤◌, ◌<◌, Result, Ok, Err}
use Rattle.std.proofs.Common.{sym, subst, ◌∙◌, arith}
use Rattle.std.proofs.Math.Path.{ap}
use Rattle.std.proofs.Math.Option.{Option, none, some}
use Rattle.base_causes.specs.Meaning.Causes.{Cause, first_below, first_field, place_else, refusal, each_field}
use Rattle.base_causes.proofs.Promised.CauseLaws.{not-below, any_none, any_here, first-here, first-later, first-nowhere, row-found, row-clear}
use Rattle.base_causes.specs.declared.Outcome.{Outcome}
use Rattle.bytes_read.specs.declared.Cursor.{Cursor}
use Rattle.bytes_read.specs.Meaning.Field.{cursor}
use Rattle.bytes_read.specs.Meaning.Walk.{refused_at, past_at, walked_by, walked, rows_walked_by, rows_walked}

-- an answer past the end is no refusal
pub past_is : {at : ℕ} {c : Cursor} → past_at at ≡ Ok c → c ≡ record { at = at }
past_is e = cc

pub never-refused : {at : ℕ} {x : Outcome} (w : Result Cursor Outcome) → past_at at ≡ Err x → Err x ≡ w
never-refused w e = cc

-- a refusal is not past the end
abbrev is_past : Result Cursor Outcome → Type 0
is_past (Ok c) = Unit {0}
is_past (Err x) = ⊥

pub refused-past : {at : ℕ} {x : Outcome} → Err x ≡ past_at at → (A : Type 0) → A
refused-past e A = absurd (subst is_past (sym e) tt)

-- A WALK, PARTLY DONE: the places before k passed
module _ (r : Cause) (past : Cursor) (k : ℕ) (clear : first_below k r.fails ≡ none) where
  pub walk-stops : k < r.places → r.fails k ≡ true → refused_at r.number (r.index k) ≡ walked r past
  walk-stops h e = sym (ap (walked_by r past) (first-here r.fails k h clear e))

  pub walk_ends : k ≤ r.places → r.places ≤ k → Ok past ≡ walked r past
  walk_ends h l = sym (ap (walked_by r past) (first-nowhere r.fails k h l clear))

-- a finished walk over records: the cursor stood at each in its turn, and stands where the last ends
pub walk-done : (r : Cause) (place : ℕ → ℕ) {at i end : ℕ} → at ≡ place i → first_below i r.fails ≡ none → i ≡ r.places → place r.places ≡ end → past_at at ≡ walked r (cursor end)
walk-done r place {at} {i} {end} p e q f = ap past_at (p ∙ ap place q ∙ f) ∙ walk_ends r (cursor end) i e (omega (arith, q)) (omega (arith, q))

-- WHAT AN ANSWER IMPLIES
module _ (r : Cause) (past : Cursor) where
  pub walk_refused : {x : Outcome} → walked r past ≡ Err x → (rs : List Cause) → refusal (r ∷ rs) ≡ some x
  walk_refused {x} e rs = by (first_below r.places r.fails) refl e
    where
      by : (o : Option ℕ) → first_below r.places r.fails ≡ o → walked_by r past o ≡ Err x → refusal (r ∷ rs) ≡ some x
      by (some k) q e = row-found r rs k q ∙ cc
      by none q e = cc

  pub walk-past : {c : Cursor} → walked r past ≡ Ok c → ((rs : List Cause) → refusal (r ∷ rs) ≡ refusal rs) × (c ≡ past)
  walk-past {c} e = by (first_below r.places r.fails) refl e
    where
      by : (o : Option ℕ) → first_below r.places r.fails ≡ o → walked_by r past o ≡ Ok c → ((rs : List Cause) → refusal (r ∷ rs) ≡ refusal rs) × (c ≡ past)
      by (some k) q e = (λ rs. cc, cc)
      by none q e = (λ rs. row-clear r rs q, cc)

-- A WALK OVER RECORDS at field j of record i: no earlier record has a field at fault, and neither has this one
-- before field j
pub record AtField (number n w : ℕ) (fault : ℕ → ℕ → Bool) (offset : ℕ → ℕ → ℕ) (i j : ℕ) : Type 0 where
  pub one_of : i < n
  pub records-clear : first_below i (each_field number n w fault offset).fails ≡ none
  pub fields-clear : first_below j (fault i) ≡ none

-- its first field
pub at_first : {number n w : ℕ} {fault : ℕ → ℕ → Bool} {offset : ℕ → ℕ → ℕ} {i : ℕ} → i < n → first_below i (each_field number n w fault offset).fails ≡ none → AtField number n w fault offset i 0
unfolding first_below
at_first h e = record { one_of = h; records-clear = e; fields-clear = refl }

module _ {number n w : ℕ} {fault : ℕ → ℕ → Bool} {offset : ℕ → ℕ → ℕ} {i j : ℕ} (t : AtField number n w fault offset i j) where
  -- field j is at fault: the walk ends there
  pub field-stops : (past : Cursor) → j < w → fault i j ≡ true → {at : ℕ} → at ≡ offset i j → refused_at number at ≡ walked (each_field number n w fault offset) past
  unfolding first_field
  field-stops past l f p =
      ap (refused_at number) p
      ∙ ap (λ (o : Option ℕ). refused_at number (offset i (place_else o))) (sym (first-here (fault i) j l t.fields-clear f))
      ∙ walk-stops (each_field number n w fault offset) past i t.records-clear t.one_of (any_here (fault i) j l f)

  -- it passes, and the walk goes on to the next field
  pub field-passes : fault i j ≡ false → AtField number n w fault offset i (j + 1)
  field-passes f = record { one_of = t.one_of; records-clear = t.records-clear; fields-clear = first-later (fault i) j t.fields-clear f }

  -- it was the last: the record passes
  pub record-passes : w ≡ j → first_below (i + 1) (each_field number n w fault offset).fails ≡ none
  record-passes e = first-later (each_field number n w fault offset).fails i t.records-clear (any_none w (fault i) (not-below w (fault i) (ap (λ (k : ℕ). first_below k (fault i)) e ∙ t.fields-clear)))

module _ (r : Cause) (rs : List Cause) (next past : Cursor) where
  -- the first part refuses
  pub part-refused : {x : Outcome} → walked r next ≡ Err x → Err x ≡ rows_walked (r ∷ rs) past
  part-refused e = sym (ap (rows_walked_by past) (walk_refused r next e rs))

  -- it passes, and the others are asked
  pub part-passed : {c : Cursor} → walked r next ≡ Ok c → rows_walked rs past ≡ rows_walked (r ∷ rs) past
  part-passed e = sym (ap (rows_walked_by past) ((walk-past r next e).0 rs))

pub last-part : (r : Cause) (past : Cursor) → walked r past ≡ rows_walked (r ∷ []) past
unfolding refusal
last-part r past = by (walked r past) refl
  where
    by : (x : Result Cursor Outcome) → walked r past ≡ x → x ≡ rows_walked (r ∷ []) past
    by (Ok c) e = ap Ok (walk-past r past e).1 ∙ part-passed r [] past past e
    by (Err x) e = part-refused r [] past past e

-- what an answer implies
pub rows-refused : (rs : List Cause) (past : Cursor) {x : Outcome} → rows_walked rs past ≡ Err x → refusal rs ≡ some x
rows-refused rs past {x} e = by (refusal rs) refl e
  where
    by : (o : Option Outcome) → refusal rs ≡ o → rows_walked_by past o ≡ Err x → refusal rs ≡ some x
    by (some o) q e = q ∙ cc
    by none q e = cc

pub rows-passed : (rs : List Cause) (past : Cursor) {c : Cursor} → rows_walked rs past ≡ Ok c → refusal rs ≡ none
rows-passed rs past {c} e = by (refusal rs) refl e
  where
    by : (o : Option Outcome) → refusal rs ≡ o → rows_walked_by past o ≡ Ok c → refusal rs ≡ none
    by (some o) q e = cc
    by none q e = q
