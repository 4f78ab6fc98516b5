-- What a proposal's header implies; any 32 signed bits are a system price. Assumes nothing.
use Rattle.std.specs.Prelude.{◌≡◌, refl, Bool, true, false, ◌||◌, List, ℕ, suc, ◌-◌, ◌^◌, ◌≤◌, ltb, length, pos, negsuc, Ok, Err}
use Rattle.std.proofs.Common.{ap, arith, ltb-true, ltb-false, le-ltb}
use Rattle.std.specs.Int.{w32}
use mir.Val.{sel, to_z}
use Rattle.base_integers.specs.Meaning.Ranges.{outside}
use Rattle.base_limits.specs.Meaning.Limits as limits
use Rattle.rules.specs.Meaning.Layout.{proposal_header}
use Rattle.base_causes.specs.declared.Outcome.{Outcome}
use Rattle.base_causes.specs.Meaning.Causes.{verdict}
use Rattle.rules.specs.Meaning.Verdict.{◌under◌}
use Rattle.proposal_file.specs.declared.Header.{Header}
use Rattle.proposal_file.specs.Meaning.Answer.{header_in, taken_by, header_taken}

-- A HEADER IS TAKEN where row 9 passes
pub header-taken : (t : List ℕ) {h : Header} → header_taken t ≡ Ok h → (proposal_header ≤ length t) × (h ≡ header_in t)
header-taken t {h} e = by (length t under proposal_header) refl e
  where
    by : (b : Bool) → length t under proposal_header ≡ b → taken_by (header_in t) b ≡ Ok h → (proposal_header ≤ length t) × (h ≡ header_in t)
    by true q e = (ltb-false (length t) proposal_header cc, cc)
    by false q e = (ltb-false (length t) proposal_header q, cc)

pub header_refused : (t : List ℕ) {r : Outcome} → header_taken t ≡ Err r → (length t under proposal_header ≡ true) × (r ≡ verdict 9 0)
header_refused t {r} e = by (length t under proposal_header) refl e
  where
    by : (b : Bool) → length t under proposal_header ≡ b → taken_by (header_in t) b ≡ Err r → (length t under proposal_header ≡ true) × (r ≡ verdict 9 0)
    by true q e = (q, cc)
    by false q e = (cc, cc)

-- ANY 32 SIGNED BITS are a system price
pub none-outside : (n : ℕ) → outside limits.system_price (to_z w32 n) ≡ false
unfolding outside
none-outside n = by (ltb n (2 ^ 31)) refl
  where
    by : (b : Bool) → ltb n (2 ^ 31) ≡ b → outside limits.system_price (sel b (pos n) (negsuc (2 ^ 32 - suc n))) ≡ false
    by true e = le-ltb 2147483647 n (omega (arith, ltb-true n (2 ^ 31) e))
    by false e = ap (λ (t : Bool). t || false) (le-ltb 2147483647 (2 ^ 32 - suc n) (omega (arith, ltb-false n (2 ^ 31) e)))
