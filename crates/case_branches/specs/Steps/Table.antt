-- The PTDF table of a case: sixty-four rows of sixteen, zero where the case has no branch or no zone. Assumes nothing.
use Rattle.std.specs.Prelude.{◌≡◌, length, set, ℤ, pos}
use Rattle.std.proofs.Common.{sym, ◌∙◌, add-one, arith, set-set}
use Rattle.std.proofs.Math.Path.{ap, subst}
use mathlib.Core.List.{List, []}
use Prim.Native.Nat.{ℕ, zero, suc, ◌+◌, ◌≤◌, ◌<◌}
use Rattle.std.proofs.Math.Decide.{dec_lt}
use Rattle.std.proofs.Math.ListN.{get_or, length-set, length-replicate, get_or-replicate}
use Rattle.std.proofs.Math.Seq.{get_or-set_same, get_or-set_other}
use Rattle.std.proofs.lemmas.List.{set-get_or}
use Rattle.base_integers.specs.Meaning.Ranges.{Within}
use Rattle.base_limits.specs.Meaning.Limits as limits
use Rattle.rules.specs.Meaning.Layout.{zones_in, branches_in, ptdf_in}
use Rattle.rules.specs.Meaning.Hour.{case_of}
use Rattle.rules.proofs.Steps.Passed.{case-sound}
use Rattle.case_header.specs.declared.Counts.{Counts}
use Rattle.case_header.specs.Meaning.CaseReadable.{CaseReadable, CountsInRange}
use Rattle.case_header.specs.Steps.CaseReadable.{headed, limited}
use Rattle.case_branches.specs.Meaning.Table.{filled, empty_row, row_of, table_of}

-- a turn of the loop that fills it
module _ {A : Type 0} (size : ℕ) (blank : A) (f : ℕ → A) where
  pub filled_more : (n : ℕ) → filled size blank f (n + 1) ≡ set (filled size blank f n) n (f n)
  unfolding filled
  filled_more n = ap (filled size blank f) (add-one n)

  pub filled-length : (n : ℕ) → length (filled size blank f n) ≡ size
  unfolding filled
  filled-length zero = length-replicate size blank
  filled-length (suc n) = length-set (filled size blank f n) n (f n) ∙ filled-length n

  -- what stands at place k
  pub filled_at : (n k : ℕ) (d : A) → k < n → n ≤ size → get_or (filled size blank f n) k d ≡ f k
  unfolding filled
  filled_at zero k d h l = absurd (omega arith)
  filled_at (suc n) k d h l = elim (dec_lt k n) [
    | yes b ↦ get_or-set_other (filled size blank f n) n k (f n) d (λ e. omega arith) ∙ filled_at n k d b (omega arith)
    | no g ↦ last (omega arith)
  ]
    where
      last : k ≡ n → get_or (set (filled size blank f n) n (f n)) k d ≡ f k
      last e = ap (λ (i : ℕ). get_or (set (filled size blank f n) n (f n)) i d) e ∙ get_or-set_same (filled size blank f n) n (f n) d (omega (arith, filled-length n)) ∙ ap f (sym e)

  pub filled-past : (n k : ℕ) (d : A) → n ≤ k → k < size → get_or (filled size blank f n) k d ≡ blank
  unfolding filled
  filled-past zero k d h l = get_or-replicate size k blank d l
  filled-past (suc n) k d h l = get_or-set_other (filled size blank f n) n k (f n) d (λ e. omega arith) ∙ filled-past n k d (omega arith) l

  -- the next place is still blank
  pub filled_next : (n : ℕ) (d : A) → n < size → set (filled size blank f n) n blank ≡ filled size blank f n
  filled_next n d l = ap (set (filled size blank f n) n) (sym (filled-past n n d (omega arith) l)) ∙ set-get_or (filled size blank f n) n d

-- an entry stored in row m of a table
pub entry_set : {A : Type 0} (t u : List (List A)) (m z : ℕ) (row : List A) (v w : A) → t ≡ set u m row → v ≡ w → m < length u → set t m (set (get_or t m []) z v) ≡ set u m (set row z w)
entry_set {A = A} t u m z row v w e d h =
    (λ j. set (e j) m (set (get_or (e j) m []) z (d j))) ∙ set-set u m row _
    ∙ ap (λ (r : List A). set u m (set r z w)) (get_or-set_same u m row [] h)

-- THE ENTRIES
abbrev pub entry_of : List ℕ → ℕ → ℕ → ℤ
entry_of s m z = get_or (get_or (table_of s) m []) z (pos 0)

module _ {s : List ℕ} {k : Counts} (o : CaseReadable s k) where
  few : CountsInRange k
  few = limited (headed o)

  branches-is : k.branches ≡ branches_in s
  branches-is = ap (λ (k : Counts). k.branches) o.counts

  zones-is : k.zones ≡ zones_in s
  zones-is = ap (λ (k : Counts). k.zones) o.counts

  row_is : (m : ℕ) → m < k.branches → get_or (table_of s) m [] ≡ row_of s m
  unfolding table_of
  row_is m h = filled_at 64 empty_row (row_of s) (branches_in s) m [] (omega (arith, branches-is)) (omega (arith, branches-is, few))

  pub table-entry : (m z : ℕ) → m < k.branches → z < k.zones → entry_of s m z ≡ ptdf_in s m z
  unfolding row_of
  table-entry m z h l =
      ap (λ (r : List ℤ). get_or r z (pos 0)) (row_is m h)
      ∙ filled_at 16 (pos 0) (ptdf_in s m) (zones_in s) z (pos 0) (omega (arith, zones-is)) (omega (arith, zones-is, few))

  -- each within the limits of a PTDF, which row 6 asks
  pub entry-within : (m z : ℕ) → m < k.branches → z < k.zones → Within limits.ptdf (entry_of s m z)
  unfolding case_of
  entry-within m z h l = subst (λ (x : ℤ). Within limits.ptdf x) (sym (table-entry m z h l)) ((case-sound s o.readable).ptdf-in m z (omega (arith, branches-is)) (omega (arith, zones-is)))
