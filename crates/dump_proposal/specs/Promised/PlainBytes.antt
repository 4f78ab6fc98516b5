-- THE OUTPUT OF AN ANSWER IN PLAIN BYTES: mark, version, and the number of value n in the four bytes from 5 + 4 n
-- on, with each number computed from the bits of its own value. Each product is rounded once. The LTA share is the
-- product with 100,000, cut; a volume the share's product with the quantity, cut; a flow ten times the MW, cut. A
-- price is a hundred times the euros, taken to the nearest cent, halves away from zero. A value at another's place,
-- or of another kind, would make it false. `get_or b k 0` is the byte at place k of the buffer, counted from 0.
-- Assumes nothing.
use Rattle.std.specs.Prelude.{◌≡◌, ℕ, ◌+◌, ◌-◌, ◌*◌, ◌/◌, ◌%◌, ◌^◌, ◌≤◌, ◌<◌, ℤ, pos, negsuc}
use mathlib.Core.List.{List}
use Rattle.std.proofs.Math.ListN.{length, get_or}
use Rattle.rules.specs.Meaning.Layout.{quantity_in}
use Rattle.dump_values.proofs.Promised.Taken.{ShareTaken, FlowTaken, ShadowTaken, SystemTaken}
use Rattle.dump_values.proofs.Promised.PlainPlaces.{branches, links, orders}
use Rattle.dump_proposal.specs.Promised.PlainCauses.{bits}

-- a number modulo 2 ^ 32 (two's complement): -1 is 2 ^ 32 - 1
abbrev pub modulo32 : ℤ → ℕ
modulo32 (pos n) = n % 4294967296
modulo32 (negsuc n) = 4294967295 - n % 4294967296

-- the four bytes from place k on are the number's, the lowest first
abbrev pub FieldStands : List ℕ → ℕ → ℤ → Type 0
FieldStands b k z = (i : ℕ) → i < 4 → get_or b (k + i) 0 ≡ modulo32 z / 256 ^ i % 256

-- THE BYTES `after` an answer for the case s and the dump d, in an output that held `before`
pub record WrittenProposal (s d before after : List ℕ) : Type 0 where
  -- LTP, version 1
  pub mark-at : (get_or after 0 0 ≡ 76) × ((get_or after 1 0 ≡ 84) × (get_or after 2 0 ≡ 80))
  pub version-at : (get_or after 3 0 ≡ 1) × (get_or after 4 0 ≡ 0)
  -- what value n became, and where it stands
  pub number : ℕ → ℤ
  pub number_at : (n : ℕ) → n < 2 + (orders s + links s + branches s) → FieldStands after (5 + 4 * n) (number n)
  pub share-is : ShareTaken (bits d 0) 100000 (number 0)
  pub system-is : SystemTaken (bits d 1) (number 1)
  pub volume-is : (i : ℕ) → i < orders s → ShareTaken (bits d (2 + i)) (quantity_in s i) (number (2 + i))
  pub flow-is : (l : ℕ) → l < links s → FlowTaken (bits d (2 + (orders s + l))) (number (2 + (orders s + l)))
  pub shadow-is : (m : ℕ) → m < branches s → ShadowTaken (bits d (2 + (orders s + links s + m))) (number (2 + (orders s + links s + m)))
  -- all past the proposal is unchanged
  pub past-it : (k : ℕ) → 13 + 4 * (orders s + links s + branches s) ≤ k → get_or after k 0 ≡ get_or before k 0
  pub same_length : length after ≡ length before
