-- A RECORD: n bytes of a file from an offset on, which a walk lends as a part, `&s[at..at + n]`. A field taken from
-- it is the file's, and no field in it is missing. Assumes nothing.
use Rattle.std.specs.Prelude.{◌≡◌, List, ℕ, ◌+◌, ◌-◌, ◌≤◌, ◌<◌, length, Option, None, Some}
use Rattle.std.proofs.Common.{sym, ap, ◌∙◌, arith}
use Rattle.base_measures.specs.declared.Raw.{Raw}
use Rattle.rules.specs.Meaning.Layout.{u8_at, u16_at, u32_at, i32_at}
use Rattle.bytes_read.specs.declared.Cursor.{Cursor}
use Rattle.bytes_read.specs.Meaning.Field.{raw, byte_field, half_field, word_field, signed_field}
use Rattle.bytes_read.specs.Steps.Part.{part_of, part_length, part-u8, part-u16, part-u32, part-i32}
use Rattle.bytes_read.specs.Steps.Walk.{Took, byte-took, byte-short, half-took, half-short, word-took, word-short, signed-took, signed-short}

-- it is within the file, and no offset is larger than the file
pub record RecordWithin (s : List ℕ) (at n : ℕ) : Type 0 where
  pub inside : at + n ≤ length s
  pub small : length s < 4294967296

-- A FIELD TAKEN from it: v is the number x of the file, and the cursor stands at the record's byte i
pub record FieldRead {A : Type 0} (v x : A) (c : Cursor) (i : ℕ) : Type 0 where
  pub is : v ≡ x
  pub past : c.at ≡ i

abbrev pub record_of : List ℕ → ℕ → ℕ → List ℕ
record_of s at n = part_of s at (at + n - at)

module _ {s : List ℕ} {at n : ℕ} (w : RecordWithin s at n) where
  size_is : at + n - at ≡ n
  size_is = omega arith

  record-length : length (record_of s at n) ≡ n
  record-length = part_length s at (at + n - at) (omega (arith, size_is, w.inside)) ∙ size_is

  read : {A : Type 0} {i b : ℕ} {y x v : A} {c : Cursor} → Took (record_of s at n) i b y v c → y ≡ x → FieldRead v x c (i + b)
  read t e = record { is = t.is ∙ e; past = ap (λ (d : Cursor). d.at) t.past }

  lacking : (k : ℕ) → length (record_of s at n) < k → k ≤ n → ⊥
  lacking k l h = omega (arith, record-length)

  -- at a cursor that stands at the record's byte i
  module _ (i : ℕ) {o : ℕ} (at_i : o ≡ i) where
    at-cursor : {F : Type 0} (field : List ℕ → ℕ → F) {r y : F} → r ≡ field (record_of s at n) o → r ≡ y → field (record_of s at n) i ≡ y
    at-cursor field e f = ap (field (record_of s at n)) (sym at_i) ∙ sym e ∙ f

    pub byte-read : i + 1 ≤ n → {r : Option (ℕ × Cursor)} {v : ℕ} {c : Cursor} → r ≡ byte_field (record_of s at n) o → r ≡ Some (v, c) → FieldRead v (u8_at s (at + i)) c (i + 1)
    byte-read h e f = read (byte-took (record_of s at n) i (at-cursor byte_field e f)) (part-u8 s at (at + n - at) i (omega (arith, size_is)))

    pub byte-there : i + 1 ≤ n → {r : Option (ℕ × Cursor)} → r ≡ byte_field (record_of s at n) o → r ≡ None → ⊥
    byte-there h e f = lacking (i + 1) (byte-short (record_of s at n) i (at-cursor byte_field e f)) h

    pub half-read : i + 2 ≤ n → {r : Option (ℕ × Cursor)} {v : ℕ} {c : Cursor} → r ≡ half_field (record_of s at n) o → r ≡ Some (v, c) → FieldRead v (u16_at s (at + i)) c (i + 2)
    half-read h e f = read (half-took (record_of s at n) i (at-cursor half_field e f)) (part-u16 s at (at + n - at) i (omega (arith, size_is)))

    pub half-there : i + 2 ≤ n → {r : Option (ℕ × Cursor)} → r ≡ half_field (record_of s at n) o → r ≡ None → ⊥
    half-there h e f = lacking (i + 2) (half-short (record_of s at n) i (at-cursor half_field e f)) h

    pub word_read : i + 4 ≤ n → {r : Option (ℕ × Cursor)} {v : ℕ} {c : Cursor} → r ≡ word_field (record_of s at n) o → r ≡ Some (v, c) → FieldRead v (u32_at s (at + i)) c (i + 4)
    word_read h e f = read (word-took (record_of s at n) i (at-cursor word_field e f)) (part-u32 s at (at + n - at) i (omega (arith, size_is)))

    pub word-there : i + 4 ≤ n → {r : Option (ℕ × Cursor)} → r ≡ word_field (record_of s at n) o → r ≡ None → ⊥
    word-there h e f = lacking (i + 4) (word-short (record_of s at n) i (at-cursor word_field e f)) h

    pub signed-read : i + 4 ≤ n → {r : Option (Raw × Cursor)} {v : Raw} {c : Cursor} → r ≡ signed_field (record_of s at n) o → r ≡ Some (v, c) → FieldRead v (raw (i32_at s (at + i))) c (i + 4)
    signed-read h e f = read (signed-took (record_of s at n) i (at-cursor signed_field e f)) (ap raw (part-i32 s at (at + n - at) i (omega (arith, size_is))))

    pub signed-there : i + 4 ≤ n → {r : Option (Raw × Cursor)} → r ≡ signed_field (record_of s at n) o → r ≡ None → ⊥
    signed-there h e f = lacking (i + 4) (signed-short (record_of s at n) i (at-cursor signed_field e f)) h
