-- TAKING THE FIELDS OF A FILE from its start: n bytes of fields are taken if and only if the file has them, and
-- then the cursor is past them. Assumes nothing.
use Rattle.std.specs.Prelude.{◌≡◌, List, ℕ, ◌+◌, ◌≤◌, ◌<◌, length, Option, None, Some}
use Rattle.std.proofs.Common.{sym, ap, ◌∙◌, arith}
use Rattle.base_measures.specs.declared.Raw.{Raw}
use Rattle.rules.specs.Meaning.Layout.{u8_at, u16_at, u32_at, i32_at}
use Rattle.bytes_read.specs.declared.Mark.{Mark}
use Rattle.bytes_read.specs.declared.Cursor.{Cursor}
use Rattle.bytes_read.specs.Meaning.Field.{cursor, raw, mark_at, mark_field, byte_field, half_field, word_field, signed_field}
use Rattle.bytes_read.specs.Steps.Walk.{Took}
use Rattle.bytes_read.specs.Steps.Walk as walk

-- the fields before byte n are taken
pub record FieldsTaken (s : List ℕ) (n : ℕ) (c : Cursor) : Type 0 where
  pub inside : n ≤ length s
  pub past : c ≡ cursor n

-- none yet
pub none-taken : (s : List ℕ) {c : Cursor} → c ≡ cursor 0 → FieldsTaken s 0 c
none-taken s e = record { inside = omega arith; past = e }

-- the next one is taken too: v is its number x
pub record NextTaken {A : Type 0} (s : List ℕ) (n : ℕ) (v x : A) (c : Cursor) : Type 0 where
  pub is : v ≡ x
  pub taken : FieldsTaken s n c

-- THE NEXT FIELD is taken, or the file ends before it does
module _ {s : List ℕ} {n : ℕ} {d : Cursor} (t : FieldsTaken s n d) where
  next : {A : Type 0} {w : ℕ} {x v : A} {c : Cursor} → Took s n w x v c → NextTaken s (n + w) v x c
  next w = record { is = w.is; taken = record { inside = w.inside; past = w.past } }

  at-cursor : {F : Type 0} (field : List ℕ → ℕ → F) {r y : F} → r ≡ field s d.at → r ≡ y → field s n ≡ y
  at-cursor field e f = ap (λ (k : Cursor). field s k.at) (sym t.past) ∙ sym e ∙ f

  pub mark-next : {r : Option (Mark × Cursor)} {v : Mark} {c : Cursor} → r ≡ mark_field s d.at → r ≡ Some (v, c) → NextTaken s (n + 3) v (mark_at s n) c
  mark-next e f = next (walk.mark-took s n (at-cursor mark_field e f))

  pub mark-lacks : {r : Option (Mark × Cursor)} → r ≡ mark_field s d.at → r ≡ None → length s < n + 3
  mark-lacks e f = walk.mark-short s n (at-cursor mark_field e f)

  pub byte_next : {r : Option (ℕ × Cursor)} {v : ℕ} {c : Cursor} → r ≡ byte_field s d.at → r ≡ Some (v, c) → NextTaken s (n + 1) v (u8_at s n) c
  byte_next e f = next (walk.byte-took s n (at-cursor byte_field e f))

  pub byte-lacks : {r : Option (ℕ × Cursor)} → r ≡ byte_field s d.at → r ≡ None → length s < n + 1
  byte-lacks e f = walk.byte-short s n (at-cursor byte_field e f)

  pub half-next : {r : Option (ℕ × Cursor)} {v : ℕ} {c : Cursor} → r ≡ half_field s d.at → r ≡ Some (v, c) → NextTaken s (n + 2) v (u16_at s n) c
  half-next e f = next (walk.half-took s n (at-cursor half_field e f))

  pub half-lacks : {r : Option (ℕ × Cursor)} → r ≡ half_field s d.at → r ≡ None → length s < n + 2
  half-lacks e f = walk.half-short s n (at-cursor half_field e f)

  pub word_next : {r : Option (ℕ × Cursor)} {v : ℕ} {c : Cursor} → r ≡ word_field s d.at → r ≡ Some (v, c) → NextTaken s (n + 4) v (u32_at s n) c
  word_next e f = next (walk.word-took s n (at-cursor word_field e f))

  pub word-lacks : {r : Option (ℕ × Cursor)} → r ≡ word_field s d.at → r ≡ None → length s < n + 4
  word-lacks e f = walk.word-short s n (at-cursor word_field e f)

  pub signed-next : {r : Option (Raw × Cursor)} {v : Raw} {c : Cursor} → r ≡ signed_field s d.at → r ≡ Some (v, c) → NextTaken s (n + 4) v (raw (i32_at s n)) c
  signed-next e f = next (walk.signed-took s n (at-cursor signed_field e f))

  pub signed-lacks : {r : Option (Raw × Cursor)} → r ≡ signed_field s d.at → r ≡ None → length s < n + 4
  signed-lacks e f = walk.signed-short s n (at-cursor signed_field e f)
