-- The walk over the branches of a case, field by field as row 6 tests them. Assumes nothing.
use Rattle.std.specs.Prelude.{◌≡◌, Bool, true, false, not, List, ℕ, zero, suc, ◌+◌, ◌*◌, ◌≤◌, ◌<◌, T, Result, Ok, Err}
use Rattle.std.proofs.Math.Path.{refl, sym}
use Rattle.std.proofs.Common.{ap, ◌∙◌, add-mul, add-one, arith}
use Rattle.std.proofs.Math.Option.{Option, none, some}
use Rattle.base_integers.specs.Meaning.Ranges.{outside}
use Rattle.base_integers.specs.Steps.Ranges.{is_false}
use Rattle.base_limits.specs.Meaning.Limits as limits
use Rattle.rules.specs.Meaning.Layout.{i32_at, zones_in, branches_in, branch_size, branch_at, branch_field_at, link_at, ram_in, ptdf_in}
use Rattle.rules.specs.Meaning.Hour.{case_of}
use Rattle.base_causes.specs.Meaning.Causes.{first_below}
use Rattle.base_causes.proofs.Promised.CauseLaws.{first-none, first-is, first-here, first-nowhere, not-below}
use Rattle.rules.specs.Meaning.Verdict.{branch_fault}
use Rattle.base_causes.specs.declared.Outcome.{Outcome}
use Rattle.bytes_read.specs.declared.Cursor.{Cursor}
use Rattle.bytes_read.specs.Meaning.Field.{cursor}
use Rattle.bytes_read.specs.Meaning.Walk.{refused_at, walked}
use Rattle.bytes_read.specs.Steps.Record.{RecordWithin}
use Rattle.bytes_read.specs.Steps.Walked.{AtField, at_first, field-stops, record-passes}
use Rattle.case_header.specs.declared.Counts.{Counts}
use Rattle.case_header.specs.Meaning.CaseReadable.{LengthValid, branch_cause}
use Rattle.case_header.specs.Steps.CaseReadable.{small, branch-start-is, branch-inside}

-- WHERE BRANCHES STAND: each begins where the one before ends, and the links begin where the last ends
pub branch-next : (s : List ℕ) (m : ℕ) → branch_at s m + 4 + 4 * zones_in s ≡ branch_at s (m + 1)
unfolding branch_at branch_size
branch-next s m = omega (arith, add-mul m 1 (4 + 4 * zones_in s))

pub links-begin : (s : List ℕ) → branch_at s (branches_in s) ≡ link_at s 0
unfolding branch_at link_at
links-begin s = omega arith

-- a branch of the walk stands within the file
pub branch-within : {s : List ℕ} {k : Counts} → LengthValid s k → (m : ℕ) → m < k.branches → RecordWithin s (branch_at s m) (4 + 4 * k.zones)
branch-within w m h = record { inside = omega (arith, branch-start-is w.headed m, branch-inside w m h); small = small w }

-- THE PTDFS of a branch: where each stands, and where the walk over them ends
abbrev pub ptdf_fault : List ℕ → ℕ → ℕ → Bool
ptdf_fault s at z = outside limits.ptdf (i32_at s (at + 4 * z))

abbrev pub ptdf_by : ℕ → Bool → Result Cursor Outcome
ptdf_by at true = refused_at 6 at
ptdf_by at false = Ok (cursor (at + 4))

abbrev pub ptdf_walked : List ℕ → ℕ → Result Cursor Outcome
ptdf_walked s at = ptdf_by at (outside limits.ptdf (i32_at s at))

abbrev pub ptdfs_by : ℕ → ℕ → Option ℕ → Result Cursor Outcome
ptdfs_by at zones (some z) = refused_at 6 (at + 4 * z)
ptdfs_by at zones none = Ok (cursor (at + 4 * zones))

abbrev pub ptdfs_walked : List ℕ → ℕ → ℕ → Result Cursor Outcome
ptdfs_walked s at zones = ptdfs_by at zones (first_below zones (ptdf_fault s at))

module _ (s : List ℕ) (at zones n : ℕ) (clear : first_below n (ptdf_fault s at) ≡ none) where
  pub ptdfs-stop : n < zones → ptdf_fault s at n ≡ true → refused_at 6 (at + 4 * n) ≡ ptdfs_walked s at zones
  ptdfs-stop h e = sym (ap (ptdfs_by at zones) (first-here (ptdf_fault s at) n h clear e))

  pub ptdfs-end : n ≤ zones → zones ≤ n → Ok (cursor (at + 4 * zones)) ≡ ptdfs_walked s at zones
  ptdfs-end h l = sym (ap (ptdfs_by at zones) (first-nowhere (ptdf_fault s at) n h l clear))

-- ONE PTDF, READ BACK
pub one-refused : (s : List ℕ) (at : ℕ) {x : Outcome} → ptdf_walked s at ≡ Err x → (outside limits.ptdf (i32_at s at) ≡ true) × (Err x ≡ refused_at 6 at)
one-refused s at {x} e = by (outside limits.ptdf (i32_at s at)) refl e
  where
    by : (b : Bool) → outside limits.ptdf (i32_at s at) ≡ b → ptdf_by at b ≡ Err x → (outside limits.ptdf (i32_at s at) ≡ true) × (Err x ≡ refused_at 6 at)
    by true q e = (q, sym e)
    by false q e = (cc, cc)

pub one-past : (s : List ℕ) (at : ℕ) {d : Cursor} → ptdf_walked s at ≡ Ok d → (outside limits.ptdf (i32_at s at) ≡ false) × (d ≡ cursor (at + 4))
one-past s at {d} e = by (outside limits.ptdf (i32_at s at)) refl e
  where
    by : (b : Bool) → outside limits.ptdf (i32_at s at) ≡ b → ptdf_by at b ≡ Ok d → (outside limits.ptdf (i32_at s at) ≡ false) × (d ≡ cursor (at + 4))
    by true q e = (cc, cc)
    by false q e = (q, cc)

held : (b : Bool) → T b → b ≡ true
held true t = refl
held false t = absurd t

-- neither a first test nor those after it hold
none-behind : (f : ℕ → Bool) (n : ℕ) → f 0 ≡ false → first_below n (λ z. f (suc z)) ≡ none → first_below (n + 1) f ≡ none
none-behind f n e q = first-none (n + 1) f holds
  where
    holds : (i : ℕ) → i < n + 1 → T (not (f i))
    holds zero h = is_false e
    holds (suc z) h = not-below n (λ z. f (suc z)) q z (omega arith)

-- THE WALK that stands at branch m: no branch before it has a field at fault
module _ (s : List ℕ) (m : ℕ) (h : m < branches_in s) (clear : first_below m (branch_cause s).fails ≡ none) where
  abbrev at : ℕ
  at = branch_at s m

  abbrev fault : ℕ → Bool
  fault = branch_fault (case_of s) m

  abbrev walk : Result Cursor Outcome
  walk = walked (branch_cause s) (cursor (link_at s 0))

  abbrev Stands : ℕ → Type 0
  Stands j = AtField 6 (branches_in s) (1 + zones_in s) (branch_fault (case_of s)) (branch_field_at s) m j

  stops : (j : ℕ) → j < 1 + zones_in s → first_below j fault ≡ none → fault j ≡ true → refused_at 6 (branch_field_at s m j) ≡ walk
  stops j l e f = let t : Stands j = record { one_of = h; records-clear = clear; fields-clear = e } in field-stops t (cursor (link_at s 0)) l f refl

  pub margin-stops : outside limits.margin (i32_at s at) ≡ true → refused_at 6 at ≡ walk
  unfolding branch_fault case_of ram_in
  margin-stops e = let t : Stands 0 = at_first h clear in field-stops t (cursor (link_at s 0)) (omega arith) e refl

  branch-passes : first_below (zones_in s + 1) fault ≡ none → first_below (m + 1) (branch_cause s).fails ≡ none
  branch-passes q = let t : Stands (zones_in s + 1) = record { one_of = h; records-clear = clear; fields-clear = q } in record-passes t (omega arith)

  -- the margin passed: the walk over the PTDFs stops at one, or passes them all
  module _ (margin : outside limits.margin (i32_at s at) ≡ false) where
    abbrev found : Option ℕ
    found = first_below (zones_in s) (ptdf_fault s (at + 4))

    pub ptdf-stops : {x : Outcome} → ptdfs_walked s (at + 4) (zones_in s) ≡ Err x → Err x ≡ walk
    unfolding branch_fault case_of ram_in ptdf_in
    ptdf-stops {x} e = by found refl e
      where
        by : (o : Option ℕ) → found ≡ o → ptdfs_by (at + 4) (zones_in s) o ≡ Err x → Err x ≡ walk
        by (some z) q e =
            let f = first-is (zones_in s) (ptdf_fault s (at + 4)) z q in
            sym e ∙ stops (suc z) (omega (arith, f.place_in)) (ap (λ (n : ℕ). first_below n fault) (sym (add-one z)) ∙ none-behind fault z margin (first-none z (ptdf_fault s (at + 4)) f.none_before)) (held (ptdf_fault s (at + 4) z) f.holds)
        by none q e = cc

    pub ptdfs-pass : {d : Cursor} → ptdfs_walked s (at + 4) (zones_in s) ≡ Ok d → (d.at ≡ branch_at s (m + 1)) × (first_below (m + 1) (branch_cause s).fails ≡ none)
    unfolding branch_fault case_of ram_in ptdf_in
    ptdfs-pass {d} e = by found refl e
      where
        by : (o : Option ℕ) → found ≡ o → ptdfs_by (at + 4) (zones_in s) o ≡ Ok d → (d.at ≡ branch_at s (m + 1)) × (first_below (m + 1) (branch_cause s).fails ≡ none)
        by (some z) q e = (cc, cc)
        by none q e =
            let p : d ≡ cursor (at + 4 + 4 * zones_in s) = cc in
            (ap (λ (d : Cursor). d.at) p ∙ branch-next s m, branch-passes (none-behind fault (zones_in s) margin q))
