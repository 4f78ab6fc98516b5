-- REQUEST S-13, the smaller scratch: S-3's answer with 96 numbers of scratch, one per pair, one per zone for export
-- used, one per zone for import used. All else is as in S-3: its table asks for n numbers and its scratch
-- afterwards has n zeros, where n is 324 for the wide scratch and 96 for this one. Assumes nothing.
use Rattle.std.specs.Prelude.{ℕ, ◌+◌}

-- one per pair, up to 64
abbrev pub pair_numbers : ℕ
pair_numbers = 64

-- one per zone, up to 16
abbrev pub zone_numbers : ℕ
zone_numbers = 16

-- WHERE THEY STAND: the flow along pair k, the export used of zone z, and its import used
abbrev pub flow_place : ℕ → ℕ
flow_place k = k

abbrev pub export_place : ℕ → ℕ
export_place z = pair_numbers + z

abbrev pub import_place : ℕ → ℕ
import_place z = pair_numbers + zone_numbers + z

-- the numbers of scratch that are lent
abbrev pub small_room : ℕ
small_room = pair_numbers + zone_numbers + zone_numbers
