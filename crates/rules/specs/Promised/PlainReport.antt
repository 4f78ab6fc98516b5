-- THE REPORT IN PLAIN BYTES: what each byte of the buffer is after the answers 0 and 26, and that every other
-- answer leaves the buffer unchanged. `get_or b k 0` is the byte at place k of the buffer, counted from 0. Offsets
-- are the paper's own numbers. Assumes nothing.
use Rattle.std.specs.Prelude.{◌≡◌, refl, ◌⊎◌, ◌≢◌, Bool, true, false, not, ◌||◌, ℕ, ◌+◌, ◌*◌, ◌-◌, ◌/◌, ◌%◌, ◌^◌, ◌≤◌, ◌<◌, T, eqb, length, ℤ, pos, negsuc}
use Rattle.std.proofs.Math.Path.{sym, ap}
use Rattle.std.proofs.Common.{subst, ◌∙◌, inl, inr, arith, eqb→eq, get_or-take, SFits, of_z}
use mathlib.Core.List.{List, ◌++◌}
use Rattle.std.proofs.Math.Dec.{not_T}
use Rattle.std.proofs.Math.ListN.{get_or, take, drop}
use Rattle.std.proofs.Math.Seq.{get_or-drop}
use Rattle.std.specs.Int.{w64}
use Rattle.base_integers.specs.Meaning.Bytes.{bytes_of, signed64}
use Rattle.base_integers.specs.Steps.Bytes.{byte_at}
use Rattle.base_causes.specs.declared.Outcome.{Outcome}
use Rattle.rules.specs.Meaning.Layout.{zones_in, u8_at}
use Rattle.rules.specs.Meaning.Hour.{case_of, plan_of, prices_of, zone_price, welfare, owed, bound, gap, rent}
use Rattle.rules.specs.Meaning.Verdict.{outcome, family_outcome}
use Rattle.rules.specs.Meaning.Report.{header_bytes, total_bytes, report_text, totals_of, report_bytes, report_size, reports, buffer_after, family_buffer_after}

-- a value modulo 2 ^ 64 (two's complement): -1 is 2 ^ 64 - 1
abbrev pub modulo64 : ℤ → ℕ
modulo64 (pos n) = n % 18446744073709551616
modulo64 (negsuc n) = 18446744073709551615 - n % 18446744073709551616

-- the eight bytes from place k on are the value's, the lowest first
abbrev pub Stands : List ℕ → ℕ → ℤ → Type 0
Stands b k value = (i : ℕ) → i < 8 → get_or b (k + i) 0 ≡ modulo64 value / 256 ^ i % 256

-- THE BYTES `after` the judgement of the case s and the proposal t, in a buffer that held `before`
pub record ReportBytes (number : ℕ) (s t before after : List ℕ) : Type 0 where
  -- LTR, version 1, number, zones, a zero byte
  pub mark-at : (get_or after 0 0 ≡ 76) × ((get_or after 1 0 ≡ 84) × (get_or after 2 0 ≡ 82))
  pub version-at : (get_or after 3 0 ≡ 1) × (get_or after 4 0 ≡ 0)
  pub number_at : get_or after 5 0 ≡ number
  pub zones-at : get_or after 6 0 ≡ get_or s 5 0
  pub zero-at : get_or after 7 0 ≡ 0
  -- the five totals, and the price of each zone
  pub welfare-at : Stands after 8 (welfare (case_of s) (plan_of s t))
  pub bound-at : Stands after 16 (bound (case_of s) (prices_of s t))
  pub gap-at : Stands after 24 (gap (case_of s) (plan_of s t) (prices_of s t))
  pub rent-at : Stands after 32 (rent (case_of s) (plan_of s t) (prices_of s t))
  pub owed-at : Stands after 40 (owed (case_of s) (prices_of s t))
  pub price-at : (z : ℕ) → z < get_or s 5 0 → Stands after (48 + 8 * z) (zone_price (case_of s) (prices_of s t) z)
  -- all past the report is unchanged
  pub past-it : (k : ℕ) → 48 + 8 * get_or s 5 0 ≤ k → get_or after k 0 ≡ get_or before k 0
  pub same_length : length after ≡ length before

-- THE BUFFER of an answer with this number, before and after: written for 0 and 26, unchanged for any other
pub record ReportOf (number : ℕ) (s t before after : List ℕ) : Type 0 where
  pub written : (number ≡ 0) ⊎ (number ≡ 26) → ReportBytes number s t before after
  pub left : number ≢ 0 → number ≢ 26 → after ≡ before
