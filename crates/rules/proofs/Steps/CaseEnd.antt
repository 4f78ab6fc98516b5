-- Where the case ends in the desk's input, from its header and its length; and two files with the same header.
-- Assumes nothing.
use Rattle.std.specs.Prelude.{◌≡◌, Bool, not, ◌&&◌, List, [], ◌∷◌, ℕ, ◌+◌, ◌*◌, ◌≤◌, ◌<◌, get_or, pos}
use Rattle.std.proofs.Math.Path.{refl, sym, ap}
use Rattle.std.proofs.Common.{◌∙◌}
use Rattle.std.proofs.Math.Bool.{true, false, cond}
use Rattle.std.proofs.Math.Option.{Option, none, some}
use native.Mathlib.Omega.{arith}
use borrow.Author.Tests.{leb-true, le-leb, lt-leb, le-ltb}
use Rattle.std.proofs.Math.ListN.{length}
use Rattle.std.proofs.Math.Dec.{eqb, leb}
use Rattle.base_integers.specs.Meaning.Ranges.{outside}
use Rattle.base_limits.specs.Meaning.Limits as limits
use Rattle.base_causes.specs.declared.Outcome.{Outcome}
use Rattle.base_causes.specs.Meaning.Causes.{Cause, refusal, once, field}
use Rattle.rules.specs.Meaning.Layout.{u8_at, u16_at, u32_at, case_version, zones_in, branches_in, links_in, orders_in, tolerance_in, branch_size, link_size, case_length, zone_counts, branch_counts, link_counts, order_counts}
use Rattle.rules.specs.Meaning.Hour.{case_of}
use Rattle.rules.specs.Meaning.Verdict.{header_refusal, differ, not_mark, case_causes}
use Rattle.rules.specs.Meaning.Cut.{good, case_end}

module _ (s : List ℕ) where
  pub end_refused : (o : Outcome) → header_refusal s ≡ some o → case_end s ≡ length s
  unfolding case_end
  end_refused o e = ap (λ (x : Option Outcome). cond (good x && leb (case_length s) (length s)) (case_length s) (length s)) e

  pub end_short : header_refusal s ≡ none → length s < case_length s → case_end s ≡ length s
  unfolding case_end
  end_short e h = λ i. cond (good (e i) && lt-leb (case_length s) (length s) h i) (case_length s) (length s)

  pub end-good : header_refusal s ≡ none → case_length s ≤ length s → case_end s ≡ case_length s
  unfolding case_end
  end-good e h = λ i. cond (good (e i) && le-leb (case_length s) (length s) h i) (case_length s) (length s)

  -- within the input, for any bytes
  pub end-within : case_end s ≤ length s
  unfolding case_end
  end-within = by (good (header_refusal s)) (leb (case_length s) (length s)) refl
    where
      by : (a b : Bool) → leb (case_length s) (length s) ≡ b → cond (a && b) (case_length s) (length s) ≤ length s
      by true true e = leb-true (case_length s) (length s) e
      by true false e = omega arith
      by false b e = omega arith

-- TWO FILES WITH THE SAME HEADER
pub record SameHeader (s r : List ℕ) : Type 0 where
  pub long : (14 ≤ length s) × (14 ≤ length r)
  pub same : (k : ℕ) → k < 14 → get_or s k 0 ≡ get_or r k 0

-- the header's rows, from its fields
rows_by : Bool → Bool → ℕ → ℕ → ℕ → ℕ → ℕ → ℕ → List Cause
rows_by short mark version zones branches links orders tolerance =
    once 1 short
    ∷ once 2 mark
    ∷ once 3 (differ version 1 && differ version 2)
    ∷ field 4 5 (outside zone_counts (pos zones))
    ∷ field 4 6 (outside branch_counts (pos branches))
    ∷ field 4 7 (outside link_counts (pos links))
    ∷ field 4 8 (outside order_counts (pos orders))
    ∷ field 4 10 (outside limits.tolerance (pos tolerance))
    ∷ []

module _ (s r : List ℕ) (h : SameHeader s r) where
  same-u8 : (k : ℕ) → k < 14 → u8_at s k ≡ u8_at r k
  unfolding u8_at
  same-u8 k l = h.same k l

  same-u16 : (k : ℕ) → k + 1 < 14 → u16_at s k ≡ u16_at r k
  unfolding u16_at
  same-u16 k l = λ i. h.same k (omega arith) i + 256 * h.same (k + 1) l i

  same-u32 : (k : ℕ) → k + 3 < 14 → u32_at s k ≡ u32_at r k
  unfolding u32_at
  same-u32 k l = λ i. h.same k (omega arith) i + 256 * (h.same (k + 1) (omega arith) i + 256 * (h.same (k + 2) (omega arith) i + 256 * h.same (k + 3) l i))

  pub same-refusal : header_refusal s ≡ header_refusal r
  unfolding header_refusal case_causes case_of rows_by not_mark case_version zones_in branches_in links_in orders_in tolerance_in
  same-refusal = λ i. refusal (rows_by
      ((le-ltb (length s) 14 h.long.0 ∙ sym (le-ltb (length r) 14 h.long.1)) i)
      (not (eqb (same-u8 0 (omega arith) i) 76 && eqb (same-u8 1 (omega arith) i) 84 && eqb (same-u8 2 (omega arith) i) 67))
      (same-u16 3 (omega arith) i)
      (same-u8 5 (omega arith) i)
      (same-u8 6 (omega arith) i)
      (same-u8 7 (omega arith) i)
      (same-u16 8 (omega arith) i)
      (same-u32 10 (omega arith) i))

  pub same_length : case_length s ≡ case_length r
  unfolding case_length branch_size case_version zones_in branches_in links_in orders_in
  same_length = λ i. 14 + same-u8 6 (omega arith) i * (4 + 4 * same-u8 5 (omega arith) i) + same-u8 7 (omega arith) i * link_size (same-u16 3 (omega arith) i) + same-u16 8 (omega arith) i * 10
