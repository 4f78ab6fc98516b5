-- What a walk over a file takes: the field at a cursor with the cursor past it, or that the file is too short for
-- it. Assumes nothing.
use Rattle.std.specs.Prelude.{Bool, true, false, List, ℕ, ◌+◌, ◌*◌, length, leb, ℤ, Option, None, Some}
use Rattle.base_measures.specs.declared.Raw.{Raw}
use Rattle.rules.specs.Meaning.Layout.{u8_at, u16_at, u32_at, i32_at}
use Rattle.bytes_read.specs.declared.Mark.{Mark}
use Rattle.bytes_read.specs.declared.Cursor.{Cursor}

-- unsigned 64 bits at an offset, little-endian
abbrev pub u64_at : List ℕ → ℕ → ℕ
u64_at s k = u32_at s k + 4294967296 * u32_at s (k + 4)

abbrev pub cursor : ℕ → Cursor
cursor n = record { at = n }

abbrev pub raw : ℤ → Raw
raw x = record { 0 = x }

-- signed 32 bits, as a number of no measure yet
abbrev pub raw_at : List ℕ → ℕ → Raw
raw_at s k = raw (i32_at s k)

-- n bytes are there from an offset on
abbrev pub field_fits : List ℕ → ℕ → ℕ → Bool
field_fits s at n = leb (at + n) (length s)

-- a field by the test that its bytes are there
abbrev pub field_by : {A : Type 0} → A → Cursor → Bool → Option (A × Cursor)
field_by v c true = Some (v, c)
field_by v c false = None

-- a field of n bytes at an offset, whose value is v
abbrev pub field_of : {A : Type 0} → List ℕ → ℕ → ℕ → A → Option (A × Cursor)
field_of s at n v = field_by v (cursor (at + n)) (field_fits s at n)

-- the three letters at an offset
abbrev pub mark_at : List ℕ → ℕ → Mark
mark_at s at = record { 0 = u8_at s at; 1 = u8_at s (at + 1); 2 = u8_at s (at + 2) }

abbrev pub mark_field : List ℕ → ℕ → Option (Mark × Cursor)
mark_field s at = field_of s at 3 (mark_at s at)

abbrev pub byte_field : List ℕ → ℕ → Option (ℕ × Cursor)
byte_field s at = field_of s at 1 (u8_at s at)

abbrev pub half_field : List ℕ → ℕ → Option (ℕ × Cursor)
half_field s at = field_of s at 2 (u16_at s at)

abbrev pub word_field : List ℕ → ℕ → Option (ℕ × Cursor)
word_field s at = field_of s at 4 (u32_at s at)

abbrev pub signed_field : List ℕ → ℕ → Option (Raw × Cursor)
signed_field s at = field_of s at 4 (raw_at s at)

abbrev pub long_field : List ℕ → ℕ → Option (ℕ × Cursor)
long_field s at = field_of s at 8 (u64_at s at)
