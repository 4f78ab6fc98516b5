-- Numbers as little-endian bytes, and signed numbers in two's complement.
use Rattle.std.specs.Prelude.{List, [], ◌∷◌, ℕ, zero, suc, ◌+◌, ◌*◌, ◌/◌, ◌%◌, take, drop, ℤ}
use Rattle.std.specs.Int.{w32, w64}
use Rattle.std.proofs.Common.{to_z, of_z}

-- the k low bytes of a number
unfoldable pub bytes_of : ℕ → ℕ → List ℕ
bytes_of zero n = []
bytes_of (suc k) n = n % 256 ∷ bytes_of k (n / 256)

unfoldable pub number_of : List ℕ → ℕ
number_of [] = 0
number_of (b ∷ bs) = b + 256 * number_of bs

-- signed, in two's complement
unfoldable pub signed32 : ℤ → List ℕ
signed32 z = bytes_of 4 (of_z w32 z)

unfoldable pub signed64 : ℤ → List ℕ
signed64 z = bytes_of 8 (of_z w64 z)

unfoldable pub i64_at : List ℕ → ℕ → ℤ
i64_at s k = to_z w64 (number_of (take 8 (drop k s)))
