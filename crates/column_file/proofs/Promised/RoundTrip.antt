-- What holds of columned and restored files. The length and all before the orders stay; each byte of an order
-- stands in its column. There and back gives the same file, and each entry takes what the other writes. The
-- judgement refuses a columned file. Assumes nothing.
use Rattle.std.specs.Prelude.{◌≡◌, refl, Bool, true, false, ◌&&◌, ◌||◌, List, [], ◌∷◌, T, length, take, drop}
use Rattle.std.proofs.Math.Path.{sym, ap}
use Rattle.std.proofs.Common.{subst, ◌∙◌, div-add-mod', div-lt_iff_lt-mul, mod-lt, le-ltb, ext_get_or}
use Rattle.std.proofs.Math.Bool.{not}
use Prim.Native.Nat.{ℕ, suc, ◌+◌, ◌*◌, ◌-◌, ◌/◌, ◌%◌, ◌≤◌, ◌<◌}
use Rattle.std.proofs.Math.Nat.{mul_comm, mul-le-mul_right}
use Rattle.std.proofs.Math.Decide.{dec_lt}
use native.Mathlib.Omega.{arith}
use Rattle.std.proofs.Math.Dec.{eqb}
use Rattle.std.proofs.Math.ListN.{get_or}
use Rattle.std.proofs.Math.Seq.{take-append_seam}
use Rattle.base_integers.specs.Steps.Ranges.{is_false, not_is}
use Rattle.base_causes.specs.Meaning.Causes.{verdict, answer}
use Rattle.base_causes.proofs.Promised.CauseLaws.{all_pass, field-fails, field-passes}
use Rattle.rules.specs.Meaning.Layout.{u8_at, orders_in, order_at, case_length}
use Rattle.rules.specs.Meaning.Verdict.{not_mark, room_causes, case_causes, table, outcome, Readable}
use Rattle.rules.proofs.Steps.Passed.{case-length}
use Rattle.column_file.specs.Meaning.Columns.{transposed, arranged, columned_of, restored_of, unreadable, not_restored, columned_causes, restored_causes, columned_outcome, columned_written, columned_output, restored_outcome, restored_written, restored_output, Columned, ComesBack, NotJudged, Restored}
use Rattle.column_file.proofs.Promised.Causes.{columned-none, columned-writes, restored-none, restored-writes}
use Rattle.column_file.proofs.Steps.Transposed.{transposed-at, transposed-in, transposed-back, arranged-length, arranged-mark, arranged-kept, arranged-order, there_and_back}
use Rattle.column_file.proofs.Steps.Counts.{readable_of, unreadable-of, mark-is, readable-mark, start-past, full-length, start-stays, orders-stay, length-stays}

-- THE PERMUTATION OF OFFSETS stays within the table, and the one with rows and columns exchanged undoes it
pub offsets-permuted : (rows columns q : ℕ) → q < rows * columns → (transposed rows columns q < columns * rows) × (transposed columns rows (transposed rows columns q) ≡ q)
offsets-permuted rows columns q h = (transposed-in rows columns q h, transposed-back rows columns q h)

-- COLUMNED: length, the bytes before the orders, the mark, and each byte of an order in its column
module _ (s : List ℕ) where
  pub columned-length : length (columned_of s) ≡ length s
  unfolding columned_of
  columned-length = arranged-length _ _ _ _ s

  pub columned-kept : (k : ℕ) → 3 ≤ k → k < order_at s 0 → get_or (columned_of s) k 0 ≡ get_or s k 0
  unfolding columned_of
  columned-kept = arranged-kept _ _ _ _ s

  pub columned-mark : (k : ℕ) → k < 3 → k < length s → get_or (columned_of s) k 0 ≡ get_or (76 ∷ 84 ∷ 75 ∷ []) k 0
  unfolding columned_of
  columned-mark = arranged-mark _ _ _ _ s

  pub column : Readable s → (i k : ℕ) → i < orders_in s → k < 10 → get_or (columned_of s) (order_at s 0 + (k * orders_in s + i)) 0 ≡ get_or s (order_at s i + k) 0
  unfolding columned_of order_at
  column r i k h l =
      let n : suc k ≤ 10 = l in
      let place : order_at s 0 + (i * 10 + k) ≡ order_at s i + k = omega arith in
      arranged-order 75 (order_at s 0) 10 (orders_in s) s (k * orders_in s + i) (omega arith)
      (omega (arith, case-length s r, full-length s, mul-le-mul_right (orders_in s) n, mul_comm 10 (orders_in s)))
      ∙ ap (λ (x : ℕ). get_or s (order_at s 0 + x) 0) (transposed-at 10 (orders_in s) k i h)
      ∙ ap (λ (x : ℕ). get_or s x 0) place

-- RESTORED: length, the bytes before the orders; the length of a file that is restored is the one that its header
-- demands
module _ (t : List ℕ) where
  pub restored-length : length (restored_of t) ≡ length t
  unfolding restored_of
  restored-length = arranged-length 67 (order_at t 0) (orders_in t) 10 t

  pub restored-kept : (k : ℕ) → 3 ≤ k → k < order_at t 0 → get_or (restored_of t) k 0 ≡ get_or t k 0
  unfolding restored_of
  restored-kept = arranged-kept 67 (order_at t 0) (orders_in t) 10 t

  pub restored-demands : Readable (restored_of t) → length t ≡ case_length t
  unfolding restored_of
  restored-demands r = sym restored-length ∙ case-length (restored_of t) r ∙ length-stays 67 (order_at t 0) (orders_in t) 10 t (start-past t)

-- THERE AND BACK
pub restored-columned : (s : List ℕ) → Readable s → restored_of (columned_of s) ≡ s
unfolding restored_of columned_of
restored-columned s r =
    let p = order_at s 0 in
    let n = orders_in s in
    let u = arranged 75 p 10 n s in
    let h = start-past s in
    let m = readable-mark s r in
    let full : length s ≡ p + 10 * n = omega (arith, case-length s r, full-length s) in
    (λ j. arranged 67 (start-stays 75 p 10 n s h j) (orders-stay 75 p 10 n s h j) 10 u)
    ∙ there_and_back 67 75 p 10 n s (omega arith) full m.0 m.1 m.2

-- what the way back takes
neither : (a b : Bool) → a || b ≡ false → (a ≡ false) × (b ≡ false)
neither false false e = (refl, refl)
neither false true e = (refl, e)
neither true b e = absurd (subst T e tt)

pub restored-takes : (t : List ℕ) → not_restored t ≡ false → (not_mark 76 84 75 t ≡ false) × Readable (restored_of t)
unfolding not_restored
restored-takes t e = let w = neither (not_mark 76 84 75 t) (unreadable (restored_of t)) e in (w.0, readable_of (restored_of t) w.1)

pub columned-restored : (t : List ℕ) → not_restored t ≡ false → columned_of (restored_of t) ≡ t
unfolding restored_of columned_of
columned-restored t e =
    let p = order_at t 0 in
    let n = orders_in t in
    let u = arranged 67 p n 10 t in
    let h = start-past t in
    let w = restored-takes t e in
    let m = mark-is 76 84 75 t (is_false w.0) in
    let full : length t ≡ p + n * 10 = omega (arith, restored-demands t w.1, full-length t) in
    (λ j. arranged 75 (start-stays 67 p n 10 t h j) 10 (orders-stay 67 p n 10 t h j) u)
    ∙ there_and_back 75 67 p n 10 t (omega arith) full m.0 m.1 m.2

-- the way back takes every columned file
module _ (s : List ℕ) (r : Readable s) where
  long : 14 ≤ length s
  long = omega (arith, case-length s r, full-length s, start-past s)

  not-mark : (a b e : ℕ) → not_mark a b e (columned_of s) ≡ not (eqb 76 a && eqb 84 b && eqb 75 e)
  unfolding not_mark u8_at
  not-mark a b e = λ j. not (eqb (columned-mark s 0 (omega arith) (omega (arith, long)) j) a
      && eqb (columned-mark s 1 (omega arith) (omega (arith, long)) j) b
      && eqb (columned-mark s 2 (omega arith) (omega (arith, long)) j) e)

  pub columned-taken : not_restored (columned_of s) ≡ false
  unfolding not_restored
  columned-taken = λ j. not-mark 76 84 75 j || (ap unreadable (restored-columned s r) ∙ unreadable-of s r) j

  -- THE JUDGEMENT refuses a columned file by 2, whatever the proposal, when there is room for a report
  pub columned-refused : (t : List ℕ) (room : ℕ) → 176 ≤ room → outcome (columned_of s) t room ≡ verdict 2 0
  unfolding outcome table room_causes case_causes
  columned-refused t room h =
      ap answer
      (field-passes 30 0 _ (le-ltb room 176 h)
      ∙ field-passes 1 0 _ (le-ltb (length (columned_of s)) 14 (omega (arith, long, columned-length s)))
      ∙ field-fails 2 0 _ (not-mark 76 84 67))

-- NO OTHER FILE than the columned one has those bytes, so the definition's arithmetic hides nothing
pub is-columned : (s : List ℕ) → Readable s → Columned s (columned_of s)
is-columned s r = record {
  long = columned-length s;
  mark = λ k h. columned-mark s k h (omega (arith, case-length s r, full-length s, start-past s));
  kept = columned-kept s;
  column = column s r;
}

pub only-columned : (s a b : List ℕ) → Readable s → Columned s a → Columned s b → a ≡ b
only-columned s a b r x y = ext_get_or 0 a b (x.long ∙ sym y.long) at
  where
    n : ℕ
    n = orders_in s

    p : ℕ
    p = order_at s 0

    order : (k : ℕ) → p ≤ k → k < length s → get_or a k 0 ≡ get_or b k 0
    order k h l =
        let some-order : 0 < n = omega (arith, case-length s r, full-length s) in
        let j : ℕ = (k - p) / n in
        let i : ℕ = (k - p) % n in
        let e : k ≡ p + (j * n + i) = omega (arith, div-add-mod' (k - p) n) in
        let in_row : j < 10 = (div-lt_iff_lt-mul some-order).1 (omega (arith, case-length s r, full-length s)) in
        let in-column : i < n = mod-lt (k - p) some-order in
        ap (λ (m : ℕ). get_or a m 0) e ∙ x.column i j in-column in_row ∙ sym (y.column i j in-column in_row) ∙ ap (λ (m : ℕ). get_or b m 0) (sym e)

    at : (k : ℕ) → k < length a → get_or a k 0 ≡ get_or b k 0
    at k l = elim (dec_lt k 3) [
      | yes h ↦ x.mark k h ∙ sym (y.mark k h)
      | no g ↦ elim (dec_lt k p) [ yes h ↦ x.kept k (omega arith) h ∙ sym (y.kept k (omega arith) h) | no m ↦ order k (omega arith) (omega (arith, x.long)) ]
    ]

-- WHAT THE ENTRIES WRITE, as it stands in the output: columning
module _ (s : List ℕ) (room : ℕ) (answered : (columned_outcome s room).number ≡ 0) where
  was-readable : Readable s
  unfolding columned_causes
  was-readable = readable_of s (not_is _ ((all_pass (columned_causes s room) (columned-none s room answered) 0).pass 0 (omega arith)))

  pub columned-file : Columned s (columned_of s) × ComesBack s (columned_of s) × NotJudged (columned_of s)
  columned-file = (
    is-columned s was-readable,
    record { taken = columned-taken s was-readable; same = restored-columned s was-readable },
    record { by_2 = columned-refused s was-readable },
  )

pub columned-stands : (s out : List ℕ) → (columned_outcome s (length out)).number ≡ 0
    → let u = take (length (columned_written s (length out))) (columned_output s out) in Columned s u × ComesBack s u × NotJudged u
unfolding columned_output
columned-stands s out e =
    let n = length (columned_written s (length out)) in
    let stands = take-append_seam (columned_written s (length out)) (drop n out) ∙ columned-writes s (length out) e in
    subst (λ (u : List ℕ). Columned s u × ComesBack s u × NotJudged u) (sym stands) (columned-file s (length out) e)

-- and the way back
pub restored-file : (t : List ℕ) → not_restored t ≡ false → Restored t (restored_of t)
restored-file t e =
    let r = (restored-takes t e).1 in
    let same = columned-restored t e in
    record { readable = r; bytes = subst (λ (u : List ℕ). Columned (restored_of t) u) same (is-columned (restored_of t) r); same = same }

was-restored : (t : List ℕ) (room : ℕ) → (restored_outcome t room).number ≡ 0 → not_restored t ≡ false
unfolding restored_causes
was-restored t room e = not_is _ ((all_pass (restored_causes t room) (restored-none t room e) 0).pass 0 (omega arith))

pub restored-stands : (t out : List ℕ) → (restored_outcome t (length out)).number ≡ 0 → Restored t (take (length (restored_written t (length out))) (restored_output t out))
unfolding restored_output
restored-stands t out e =
    let n = length (restored_written t (length out)) in
    let stands = take-append_seam (restored_written t (length out)) (drop n out) ∙ restored-writes t (length out) e in
    subst (λ (u : List ℕ). Restored t u) (sym stands) (restored-file t (was-restored t (length out) e))
