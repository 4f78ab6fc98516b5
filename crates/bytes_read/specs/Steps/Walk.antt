-- What a field that a walk took implies: its bytes are there, and the cursor is past them. Assumes nothing.
use Rattle.std.specs.Prelude.{◌≡◌, refl, Bool, true, false, List, ℕ, ◌+◌, ◌<◌, ◌≤◌, length, None, Some}
use Rattle.std.proofs.Common.{sym, ap, leb-true, leb-false}
use Rattle.std.proofs.lemmas.Option.{none-some, same_Some}
use Rattle.base_measures.specs.declared.Raw.{Raw}
use Rattle.rules.specs.Meaning.Layout.{u8_at, u16_at, u32_at, i32_at}
use Rattle.bytes_read.specs.declared.Mark.{Mark}
use Rattle.bytes_read.specs.declared.Cursor.{Cursor}
use Rattle.bytes_read.specs.Meaning.Field.{u64_at, cursor, raw, field_fits, field_by, field_of, mark_at, mark_field, byte_field, half_field, word_field, signed_field, long_field}

-- A FIELD THAT WAS TAKEN: its n bytes are there, v is its number x, and the cursor is past it
pub record Took {A : Type 0} (s : List ℕ) (at n : ℕ) (x v : A) (c : Cursor) : Type 0 where
  pub inside : at + n ≤ length s
  pub is : v ≡ x
  pub past : c ≡ cursor (at + n)

-- THE LAW OF A FIELD, over its width and its value: it is taken or not, and not both, and a field taken determines
-- its value and cursor
module _ {A : Type 0} (s : List ℕ) (at n : ℕ) (x : A) where
  pub took : {v : A} {c : Cursor} → field_of s at n x ≡ Some (v, c) → Took s at n x v c
  took {v} {c} e = by (field_fits s at n) refl e
    where
      by : (b : Bool) → field_fits s at n ≡ b → field_by x (cursor (at + n)) b ≡ Some (v, c) → Took s at n x v c
      by true q e = let p = same_Some (x, cursor (at + n)) (v, c) e in record { inside = leb-true (at + n) (length s) q; is = sym (ap (λ (t : A × Cursor). t.0) p); past = sym (ap (λ (t : A × Cursor). t.1) p) }
      by false q e = absurd (none-some (v, c) e)

  pub missing : field_of s at n x ≡ None → length s < at + n
  missing e = by (field_fits s at n) refl e
    where
      by : (b : Bool) → field_fits s at n ≡ b → field_by x (cursor (at + n)) b ≡ None → length s < at + n
      by true q e = absurd (none-some (x, cursor (at + n)) (sym e))
      by false q e = leb-false (at + n) (length s) q

module _ (s : List ℕ) (at : ℕ) where
  pub mark-took : {v : Mark} {c : Cursor} → mark_field s at ≡ Some (v, c) → Took s at 3 (mark_at s at) v c
  mark-took e = took s at 3 (mark_at s at) e

  pub mark-short : mark_field s at ≡ None → length s < at + 3
  mark-short e = missing s at 3 (mark_at s at) e

  pub byte-took : {v : ℕ} {c : Cursor} → byte_field s at ≡ Some (v, c) → Took s at 1 (u8_at s at) v c
  byte-took e = took s at 1 (u8_at s at) e

  pub byte-short : byte_field s at ≡ None → length s < at + 1
  byte-short e = missing s at 1 (u8_at s at) e

  pub half-took : {v : ℕ} {c : Cursor} → half_field s at ≡ Some (v, c) → Took s at 2 (u16_at s at) v c
  half-took e = took s at 2 (u16_at s at) e

  pub half-short : half_field s at ≡ None → length s < at + 2
  half-short e = missing s at 2 (u16_at s at) e

  pub word-took : {v : ℕ} {c : Cursor} → word_field s at ≡ Some (v, c) → Took s at 4 (u32_at s at) v c
  word-took e = took s at 4 (u32_at s at) e

  pub word-short : word_field s at ≡ None → length s < at + 4
  word-short e = missing s at 4 (u32_at s at) e

  pub signed-took : {v : Raw} {c : Cursor} → signed_field s at ≡ Some (v, c) → Took s at 4 (raw (i32_at s at)) v c
  signed-took e = took s at 4 (raw (i32_at s at)) e

  pub signed-short : signed_field s at ≡ None → length s < at + 4
  signed-short e = missing s at 4 (raw (i32_at s at)) e

  pub long-took : {v : ℕ} {c : Cursor} → long_field s at ≡ Some (v, c) → Took s at 8 (u64_at s at) v c
  long-took e = took s at 8 (u64_at s at) e

  pub long-short : long_field s at ≡ None → length s < at + 8
  long-short e = missing s at 8 (u64_at s at) e
