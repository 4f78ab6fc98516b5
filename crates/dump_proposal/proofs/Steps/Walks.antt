-- The walks over a dump's values: by the case's counts, and what each turn leaves. Assumes nothing.
use Rattle.std.specs.Prelude.{◌≡◌, refl, Bool, true, false, not, List, ◌++◌, ℕ, zero, suc, ◌+◌, ◌*◌, ◌≤◌, ◌<◌, T, length, get_or, set, Float}
use Rattle.std.proofs.Math.Path.{sym, ap}
use Rattle.std.proofs.Common.{◌∙◌, subst, append_assoc, append-nil, add-zero, zero-add, add-suc, add-one, arith, length-append, of_z, get_or-set_same, get_or-set_other}
use Rattle.std.proofs.Math.Option.{none}
use Rattle.std.specs.declared.option.Option.{Option}
use Rattle.std.specs.declared.option.Option.TheVariants.{None, Some}
use Rattle.std.proofs.Math.Decide.{ℕ_discrete}
use Rattle.std.specs.Int.{w64}
use Rattle.std.proofs.Math.Seq.{sets}
use Rattle.std.specs.Float.{binary64}
use Rattle.std.specs.Float.Ieee.{of_bits}
use Rattle.std.specs.Float.Ieee.Scale as float
use Rattle.base_integers.specs.Meaning.Bytes.{bytes_of}
use Rattle.base_integers.specs.Steps.Bytes.{bytes-length, sets-append}
use Rattle.base_causes.specs.Meaning.Causes.{first_below}
use Rattle.base_integers.specs.declared.Bits.{Bits}
use Rattle.bytes_read.specs.declared.Cursor.{Cursor}
use Rattle.bytes_read.specs.Meaning.Field.{u64_at, long_field}
use Rattle.bytes_read.specs.Steps.Part.{part_of, part_length, part-u32}
use Rattle.bytes_read.specs.Steps.Walk.{long-took, long-short}
use Rattle.rules.specs.Meaning.Layout.{u32_at}
use Rattle.case_header.specs.declared.Counts.{Counts}
use Rattle.dump_binary64.specs.Meaning.Value.{bits_at}
use Rattle.dump_binary64.proofs.Steps.Patterns.{finite-value}
use Rattle.dump_values.specs.declared.DumpOpening.{DumpOpening}
use Rattle.dump_values.specs.declared.OpeningFields.{OpeningFields}
use Rattle.dump_values.specs.Meaning.Field.{Kind, kind_of, converted, fault}
use Rattle.dump_values.specs.Meaning.Answer.{field_by, field_of}
use Rattle.dump_values.proofs.Steps.Agree.{share-agrees, system-agrees}
use Rattle.dump_values.specs.Meaning.Fields.{share_field, system_field, opening_fields}
use Rattle.dump_proposal.specs.Meaning.Dump.{proposal_mark, field_bytes, fields_from}
use Rattle.dump_proposal.specs.Steps.Walks.{FiniteDump, TableHolds, table_bytes}

-- THE FIELDS, one after another: four bytes each
pub fields-length : (s d : List ℕ) (a n : ℕ) → length (fields_from s d a n) ≡ 4 * n
unfolding fields_from
fields-length s d a zero = refl
fields-length s d a (suc n) =
    let z = converted (kind_of s (a + n)) (bits_at d (a + n)) in
    omega (arith, length-append (fields_from s d a n) (field_bytes z), fields-length s d a n, bytes-length 4 (of_z w64 z))

-- A VALUE TAKEN BY THE CURSOR, which stands at value n: its bits, and the cursor past it
pub value-took : (d : List ℕ) (at n : ℕ) → at ≡ 8 * n → {v : ℕ} {c : Cursor} → long_field d at ≡ Some (v, c) → (v ≡ bits_at d n) × (c.at ≡ 8 * (n + 1))
unfolding bits_at
value-took d at n e {v} {c} q =
    let w = long-took d at q in
    (w.is ∙ ap (u64_at d) e, ap (λ (x : Cursor). x.at) w.past ∙ omega (arith, e))

pub value_there : (d : List ℕ) (at n : ℕ) → at ≡ 8 * n → 8 * n + 8 ≤ length d → long_field d at ≡ None → ⊥
value_there d at n e h q = omega (arith, long-short d at q, e, h)

-- the same over a slice of eight bytes, from a place in the dump on
pub part-took : (d : List ℕ) (at size n : ℕ) → at ≡ 8 * n → size ≡ 8 → {v : ℕ} {c : Cursor} → long_field (part_of d at size) 0 ≡ Some (v, c) → (v ≡ bits_at d n) × (c.at ≡ 8)
unfolding bits_at
part-took d at size n e q {v} {c} t =
    let w = long-took (part_of d at size) 0 t in
    let first : at + 0 ≡ 8 * n = omega arith in
    let second : at + 4 ≡ 8 * n + 4 = omega arith in
    let low : u32_at (part_of d at size) 0 ≡ u32_at d (8 * n) = part-u32 d at size 0 (omega arith) ∙ ap (u32_at d) first in
    let high : u32_at (part_of d at size) 4 ≡ u32_at d (8 * n + 4) = part-u32 d at size 4 (omega arith) ∙ ap (u32_at d) second in
    (w.is ∙ (λ i. low i + 4294967296 * high i), ap (λ (x : Cursor). x.at) w.past)

pub part-there : (d : List ℕ) (at size : ℕ) → size ≡ 8 → at + 8 ≤ length d → long_field (part_of d at size) 0 ≡ None → ⊥
part-there d at size q h t = omega (arith, long-short (part_of d at size) 0 t, part_length d at size (omega arith))

-- THE OPENING of such a dump: finite values, and what each becomes
module _ {s d : List ℕ} {k : Counts} (f : FiniteDump s k d) {o : DumpOpening} (share : o.share ≡ of_bits binary64 (bits_at d 0)) (system : o.system ≡ of_bits binary64 (bits_at d 1)) where
  pub share-finite : T (float.finite o.share)
  share-finite = subst (λ (x : Float). T (float.finite x)) (sym share) (finite-value (bits_at d 0) (f.is_finite 0 (omega arith)))

  pub system-finite : T (float.finite o.system)
  system-finite = subst (λ (x : Float). T (float.finite x)) (sym system) (finite-value (bits_at d 1) (f.is_finite 1 (omega arith)))

  module _ {r : OpeningFields (Option Bits)} (q : r ≡ opening_fields o) where
    pub share-read : field_of (kind_of s 0) (bits_at d 0) ≡ r.share
    unfolding kind_of
    share-read = sym (ap (λ (x : OpeningFields (Option Bits)). x.share) q ∙ ap (λ (x : Float). share_field x 100000) share ∙ share-agrees (bits_at d 0) (f.is_finite 0 (omega arith)) 100000 (omega arith))

    pub system-read : field_of (kind_of s 1) (bits_at d 1) ≡ r.system
    unfolding kind_of
    system-read = sym (ap (λ (x : OpeningFields (Option Bits)). x.system) q ∙ ap system_field system ∙ system-agrees (bits_at d 1) (f.is_finite 1 (omega arith)))

-- what a field's answer implies
pub field-held : (k : Kind) (b : ℕ) {x : Bits} → field_of k b ≡ Some x → fault k b ≡ false
field-held k b {x} e = by (fault k b) refl e
  where
    by : (t : Bool) → fault k b ≡ t → field_by (not t) (converted k b) ≡ Some x → fault k b ≡ false
    by true q e = cc
    by false q e = q

pub field-outside : (k : Kind) (b : ℕ) → field_of k b ≡ None → fault k b ≡ true
field-outside k b e = by (fault k b) refl e
  where
    by : (t : Bool) → fault k b ≡ t → field_by (not t) (converted k b) ≡ None → fault k b ≡ true
    by true q e = q
    by false q e = cc

pub field-number : (k : Kind) (b : ℕ) {x : Bits} → field_of k b ≡ Some x → x.0 ≡ of_z w64 (converted k b)
field-number k b {x} e = by (not (fault k b)) e
  where
    by : (t : Bool) → field_by t (converted k b) ≡ Some x → x.0 ≡ of_z w64 (converted k b)
    by true e = cc
    by false e = cc

-- a search at its start
pub none_yet : (f : ℕ → Bool) → first_below 0 f ≡ none
unfolding first_below
none_yet f = refl

-- those of the opening and then the others
pub fields_split : (s d : List ℕ) (m n : ℕ) → fields_from s d 0 m ++ fields_from s d m n ≡ fields_from s d 0 (m + n)
unfolding fields_from
fields_split s d m zero = append-nil (fields_from s d 0 m) ∙ ap (fields_from s d 0) (sym (add-zero m))
fields_split s d m (suc n) =
    let last = field_bytes (converted (kind_of s (m + n)) (bits_at d (m + n))) in
    sym (append_assoc (fields_from s d 0 m) (fields_from s d m n) last)
    ∙ ap (λ (l : List ℕ). l ++ last) (fields_split s d m n)
    ∙ ap (λ (k : ℕ). fields_from s d 0 (m + n) ++ field_bytes (converted (kind_of s k) (bits_at d k))) (sym (zero-add (m + n)))
    ∙ ap (fields_from s d 0) (sym (add-suc m n))

-- STORES, one run after another: mark and version, and the opening's two fields
pub opening-run : (l : List ℕ) (x y : ℕ) → sets (sets (sets l 0 proposal_mark) 5 (bytes_of 4 x)) 9 (bytes_of 4 y) ≡ sets l 0 (proposal_mark ++ (bytes_of 4 x ++ bytes_of 4 y))
opening-run l x y =
    let two : sets (sets (sets l 0 proposal_mark) 5 (bytes_of 4 x)) (5 + length (bytes_of 4 x)) (bytes_of 4 y) ≡ sets (sets l 0 proposal_mark) 5 (bytes_of 4 x ++ bytes_of 4 y) = sets-append (sets l 0 proposal_mark) 5 (bytes_of 4 x) (bytes_of 4 y) in
    ap (λ (k : ℕ). sets (sets (sets l 0 proposal_mark) 5 (bytes_of 4 x)) (5 + k) (bytes_of 4 y)) (sym (bytes-length 4 x)) ∙ two ∙ sets-append l 0 proposal_mark (bytes_of 4 x ++ bytes_of 4 y)

table-length : (n : ℕ) (t : List ℕ) → length (table_bytes n t) ≡ 4 * n
unfolding table_bytes
table-length zero t = refl
table-length (suc n) t = omega (arith, length-append (table_bytes n t) (bytes_of 4 (get_or t n 0)), table-length n t, bytes-length 4 (get_or t n 0))

-- an entry more is written
pub table-run : (l t : List ℕ) (i : ℕ) → sets (sets l 13 (table_bytes i t)) (13 + 4 * i) (bytes_of 4 (get_or t i 0)) ≡ sets l 13 (table_bytes (i + 1) t)
table-run l t i =
    let last = bytes_of 4 (get_or t i 0) in
    let more : table_bytes i t ++ last ≡ table_bytes (suc i) t = (unfold table_bytes in refl) in
    ap (λ (k : ℕ). sets (sets l 13 (table_bytes i t)) (13 + k) last) (sym (table-length i t)) ∙ sets-append l 13 (table_bytes i t) last ∙ ap (sets l 13) (more ∙ ap (λ (n : ℕ). table_bytes n t) (sym (add-one i)))

-- an entry more is converted
pub table_none : (s d t : List ℕ) → TableHolds s d 0 t
table_none s d t = record { entry-is = λ i h. absurd (omega arith) }

pub table_more : (s d t : List ℕ) (i v : ℕ) → i < length t → TableHolds s d i t → bytes_of 4 v ≡ field_bytes (converted (kind_of s (2 + i)) (bits_at d (2 + i))) → TableHolds s d (i + 1) (set t i v)
table_more s d t i v h holds e = record { entry-is = entry }
  where
    entry : (j : ℕ) → j < i + 1 → bytes_of 4 (get_or (set t i v) j 0) ≡ field_bytes (converted (kind_of s (2 + j)) (bits_at d (2 + j)))
    entry j l = elim (ℕ_discrete j i) [
      | yes q ↦ subst (λ (n : ℕ). bytes_of 4 (get_or (set t i v) n 0) ≡ field_bytes (converted (kind_of s (2 + n)) (bits_at d (2 + n)))) (sym q) (ap (bytes_of 4) (get_or-set_same t i v 0 h) ∙ e)
      | no q ↦ ap (bytes_of 4) (get_or-set_other t i j v 0 q) ∙ holds.entry-is j (omega arith)
    ]

-- A TABLE OF EVERY FIELD has the proposal's bytes
pub table-fields : (s d t : List ℕ) {rest : ℕ} → TableHolds s d rest t → table_bytes rest t ≡ fields_from s d 2 rest
unfolding table_bytes fields_from
table-fields s d t {rest} holds = upto rest (omega arith)
  where
    upto : (n : ℕ) → n ≤ rest → table_bytes n t ≡ fields_from s d 2 n
    upto zero h = refl
    upto (suc n) h = (λ i. upto n (omega arith) i ++ holds.entry-is n (omega arith) i)
