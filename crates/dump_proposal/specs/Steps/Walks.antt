-- The walks over a dump's values: by the case's counts, and what each turn leaves. Assumes nothing.
use Rattle.std.specs.Prelude.{◌≡◌, Bool, true, List, [], ◌++◌, ℕ, zero, suc, ◌+◌, ◌*◌, ◌<◌, length, get_or}
use Rattle.std.proofs.Math.Option.{Option, none, some}
use Rattle.std.specs.declared.option.Option.TheVariants.{Some}
use Rattle.std.specs.declared.result.Result.{Result}
use Rattle.std.specs.declared.result.Result.TheVariants.{Ok, Err}
use Rattle.base_integers.specs.Meaning.Bytes.{bytes_of}
use Rattle.base_integers.specs.declared.Bits.{Bits}
use Rattle.base_causes.specs.declared.Outcome.{Outcome}
use Rattle.base_causes.specs.Meaning.Causes.{first_below}
use Rattle.bytes_read.specs.declared.Cursor.{Cursor}
use Rattle.case_header.specs.declared.Counts.{Counts}
use Rattle.case_header.specs.Meaning.CaseReadable.{CaseReadable}
use Rattle.dump_binary64.specs.Meaning.Value.{bits_at, finite}
use Rattle.dump_values.specs.Meaning.Field.{kind_of, after_opening, converted, fault}
use Rattle.dump_values.specs.Meaning.Answer.{field_of}
use Rattle.dump_values.specs.declared.OpeningFields.{OpeningFields}
use Rattle.dump_proposal.specs.Meaning.Dump.{field_bytes, dump_refusal}

abbrev pub rest_of : Counts → ℕ
rest_of k = k.orders + k.links + k.branches

abbrev pub count_of : Counts → ℕ
count_of k = 2 + rest_of k

-- ROW 58 PASSED: the case is readable, the dump has its length, and every value is finite
pub record FiniteDump (s : List ℕ) (k : Counts) (d : List ℕ) : Type 0 where
  pub opened : CaseReadable s k
  pub long : length d ≡ 8 * count_of k
  pub is_finite : (n : ℕ) → n < count_of k → finite (bits_at d n) ≡ true

-- row 59 at value i after the opening
abbrev pub fault_after : List ℕ → List ℕ → ℕ → Bool
fault_after s d i = fault (after_opening s i) (bits_at d (2 + i))

-- THE OPENING'S NUMBERS: both values have their fields
pub record OpeningHeld (s d : List ℕ) (o : OpeningFields Bits) : Type 0 where
  pub share-held : field_of (kind_of s 0) (bits_at d 0) ≡ Some o.share
  pub system-held : field_of (kind_of s 1) (bits_at d 1) ≡ Some o.system

-- what reading the opening answers: its numbers and the cursor past it; or the dump's refusal, whatever the room
abbrev pub OpeningRead : List ℕ → List ℕ → Result (OpeningFields Bits × Cursor) Outcome → Type 0
OpeningRead s d (Ok t) = OpeningHeld s d t.0 × (t.1.at ≡ 16)
OpeningRead s d (Err e) = (room : ℕ) → dump_refusal s d room ≡ some e

-- THE TABLE of the fields after the opening's: entry i has the four bytes of value 2 + i
pub record TableHolds (s d : List ℕ) (n : ℕ) (table : List ℕ) : Type 0 where
  pub entry-is : (i : ℕ) → i < n → bytes_of 4 (get_or table i 0) ≡ field_bytes (converted (kind_of s (2 + i)) (bits_at d (2 + i)))

-- the values after the opening: the first without a field, or the table with all fields
pub record RestConverted (s d : List ℕ) (rest : ℕ) (place : Option ℕ) (table : List ℕ) : Type 0 where
  pub first : place ≡ first_below rest (fault_after s d)
  pub held : place ≡ none → TableHolds s d rest table

-- THE TABLE'S BYTES: four for each of its first n entries
unfoldable pub table_bytes : ℕ → List ℕ → List ℕ
table_bytes zero t = []
table_bytes (suc n) t = table_bytes n t ++ bytes_of 4 (get_or t n 0)
