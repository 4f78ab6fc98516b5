-- REQUEST S-3: ordered pairs of zones lent as bytes, two to a pair; which of them row 84 refuses; and the network
-- that they make of an hour. Assumes nothing.
use Rattle.std.specs.Prelude.{Bool, ◌&&◌, ◌||◌, List, ℕ, ◌+◌, ◌*◌, ◌/◌, ◌%◌, eqb, leb, length, get_or, ℤ, pos, neg_ℤ, ◌*ℤ◌}
use Rattle.std.specs.Int.Signed.{le_z}
use Rattle.base_integers.specs.Meaning.Difference.{up, dn}
use Rattle.base_integers.specs.Meaning.Sums.{sum_to}
use Rattle.base_causes.specs.Meaning.Causes.{any_below}
use Rattle.flow_positions.specs.Meaning.Positions.{position_at}
use Rattle.flow_network.specs.Meaning.Network.{Network}

-- a last byte alone is a pair too
abbrev pub pair_count : List ℕ → ℕ
pair_count bytes = length bytes / 2 + length bytes % 2

-- its second zone is unknown: 16 is no zone's number
abbrev pub first_zone : List ℕ → ℕ → ℕ
first_zone bytes k = get_or bytes (2 * k) 16

abbrev pub second_zone : List ℕ → ℕ → ℕ
second_zone bytes k = get_or bytes (2 * k + 1) 16

-- an earlier pair has the same zones
unfoldable pub repeated : List ℕ → ℕ → Bool
repeated bytes k = any_below k (λ j. eqb (first_zone bytes j) (first_zone bytes k) && eqb (second_zone bytes j) (second_zone bytes k))

-- ROW 84: a pair past the 64th, an unknown zone, equal zones, or a repeated pair
unfoldable pub bad_pair : ℕ → List ℕ → ℕ → Bool
bad_pair zones bytes k =
    leb 64 k || (leb zones (first_zone bytes k) || (leb zones (second_zone bytes k) || (eqb (first_zone bytes k) (second_zone bytes k) || repeated bytes k)))

-- THE NETWORK OF AN HOUR, from net positions with export positive and zone prices: a pair counts if its first price
-- is at most its second
abbrev pub price_at : List ℤ → ℕ → ℤ
price_at prices z = get_or prices z (pos 0)

-- what the zones import, each at its price; an import is a position with its sign turned
abbrev pub imports_worth : List ℤ → List ℤ → ℤ
imports_worth net_exports prices = sum_to (length net_exports) (λ z. neg_ℤ (position_at net_exports z) *ℤ price_at prices z)

abbrev pub network_of : List ℤ → List ℤ → List ℕ → Network
network_of net_exports prices bytes = record {
  zones = length net_exports;
  pairs = pair_count bytes;
  from = first_zone bytes;
  to = second_zone bytes;
  counted = λ k. le_z (price_at prices (first_zone bytes k)) (price_at prices (second_zone bytes k));
  exports = λ z. up (position_at net_exports z);
  imports = λ z. dn (position_at net_exports z);
}
