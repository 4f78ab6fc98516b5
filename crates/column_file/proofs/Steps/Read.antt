-- What reading implies: where the orders of a readable case start, and when a columned file restores to a readable
-- case. Assumes nothing.
use Rattle.std.specs.Prelude.{◌≡◌, Bool, ◌||◌, List, ◌++◌, ℕ, ◌+◌, ◌*◌, ◌-◌, ◌≤◌, ◌<◌, T, drop, Err}
use Rattle.std.proofs.Math.Path.{refl, ap}
use Rattle.std.proofs.Common.{sym, subst, ◌∙◌, append-nil, mul-le-mul, arith, drop_of_length-le}
use Rattle.std.proofs.Math.Bool.{true, false}
use Rattle.std.proofs.Math.ListN.{length}
use Rattle.rules.specs.Meaning.Layout.{zones_in, case_version, link_size, branch_size, orders_in, order_at, case_length}
use Rattle.rules.specs.Meaning.Hour.{case_of}
use Rattle.rules.specs.Meaning.Verdict.{not_mark, Readable}
use Rattle.rules.proofs.Steps.Passed.{case-sound, case-length}
use Rattle.base_causes.specs.declared.Outcome.{Outcome}
use Rattle.case_header.specs.declared.Counts.{Counts}
use Rattle.case_file.specs.Meaning.Answer.{case_answer}
use Rattle.case_file.specs.Steps.Answer.{refused-of}
use Rattle.case_header.specs.Meaning.CaseReadable.{CaseReadable}
use Rattle.case_header.specs.Steps.CaseReadable.{contracted-bound}
use Rattle.column_file.specs.Meaning.Columns.{arranged, columned_of, restored_of, refuses, unreadable, not_restored}
use Rattle.column_file.proofs.Steps.Transposed.{arranged-length}
use Rattle.column_file.proofs.Steps.Counts.{readable_of, unreadable-of, start-past, full-length, length-stays}
use Rattle.column_file.proofs.Promised.RoundTrip.{restored-length, restored-demands}

-- A REFUSED CASE
pub refused-case : (s : List ℕ) {r : Outcome} → case_answer s ≡ Err r → unreadable s ≡ true
unfolding unreadable
refused-case s e = ap refuses (refused-of s e)

pub unless : (s : List ℕ) → (Readable s → ⊥) → unreadable s ≡ true
unless s f = by (unreadable s) refl
  where
    by : (b : Bool) → unreadable s ≡ b → unreadable s ≡ true
    by true e = e
    by false e = absurd (f (readable_of s e))

-- A READABLE CASE: its length is at most this, and the orders end it
pub longest : (s : List ℕ) → Readable s → length s ≤ 10126
unfolding case_length branch_size case_of
longest s r =
    let c = case-sound s r in
    let z : 4 + 4 * zones_in s ≤ 68 = omega (arith, c.zones-in.1) in
    let l : link_size (case_version s) ≤ 10 = omega (arith, contracted-bound (case_version s)) in
    omega (arith, case-length s r, mul-le-mul c.branches-in z, mul-le-mul c.links-in l, c.orders-in)

module _ {s : List ℕ} {k : Counts} (o : CaseReadable s k) where
  orders-is : k.orders ≡ orders_in s
  orders-is = ap (λ (k : Counts). k.orders) o.counts

  pub orders-end : length s ≡ order_at s 0 + 10 * k.orders
  orders-end = omega (arith, case-length s o.readable, full-length s, orders-is)

  pub columned-is : arranged 75 (length s - 10 * k.orders) 10 k.orders s ≡ columned_of s
  unfolding columned_of
  columned-is =
      let e : length s - 10 * k.orders ≡ order_at s 0 = omega (arith, orders-end) in
      λ j. arranged 75 (e j) 10 (orders-is j) s

-- THE WAY BACK. The orders end the file: the case that results if its length tells where they start
abbrev pub by_length : List ℕ → List ℕ
by_length t = arranged 67 (length t - 10 * orders_in t) (orders_in t) 10 t

-- a file of another length than its header demands restores to no readable case
pub wrong-length : (t : List ℕ) → (length t ≡ case_length t → ⊥) → unreadable (restored_of t) ≡ true
wrong-length t f = unless (restored_of t) (λ r. f (restored-demands t r))

module _ (t : List ℕ) where
  pub by-length : length t ≡ case_length t → by_length t ≡ restored_of t
  unfolding restored_of
  by-length e =
      let p : length t - 10 * orders_in t ≡ order_at t 0 = omega (arith, e, full-length t) in
      λ j. arranged 67 (p j) (orders_in t) 10 t

  pub readable-by-length : 14 + 10 * orders_in t ≤ length t → Readable (by_length t) → by_length t ≡ restored_of t
  readable-by-length h r =
      let p = length t - 10 * orders_in t in
      by-length (sym (arranged-length 67 p (orders_in t) 10 t) ∙ case-length (by_length t) r ∙ length-stays 67 p (orders_in t) 10 t (omega arith))

  pub unreadable-by-length : unreadable (by_length t) ≡ true → unreadable (restored_of t) ≡ true
  unreadable-by-length u = unless (restored_of t) (λ r. subst T (sym u ∙ ap unreadable (by-length (restored-demands t r)) ∙ unreadable-of (restored_of t) r) tt)

  pub too_short : length t < 14 → unreadable (restored_of t) ≡ true
  too_short h = wrong-length t (λ e. omega (arith, full-length t, start-past t))

  pub no-room-for-orders : length t < 14 + 10 * orders_in t → unreadable (restored_of t) ≡ true
  no-room-for-orders h = wrong-length t (λ e. omega (arith, full-length t, start-past t))

  pub too_long : 10126 < length t → unreadable (restored_of t) ≡ true
  too_long h = unless (restored_of t) (λ r. omega (arith, longest (restored_of t) r, restored-length t))

  -- what the file is then asked
  pub marked-otherwise : not_mark 76 84 75 t ≡ true → not_restored t ≡ true
  unfolding not_restored
  marked-otherwise e = ap (λ (b : Bool). b || unreadable (restored_of t)) e

  pub not-readable : unreadable (restored_of t) ≡ true → not_restored t ≡ true
  unfolding not_restored
  not-readable e = by (not_mark 76 84 75 t) e
    where
      by : (a : Bool) {b : Bool} → b ≡ true → a || b ≡ true
      by true e = refl
      by false e = e

  pub is-restored : not_mark 76 84 75 t ≡ false → Readable (restored_of t) → not_restored t ≡ false
  unfolding not_restored
  is-restored e r = λ j. e j || unreadable-of (restored_of t) r j

-- a text that fills its room
pub fills : (text t room : List ℕ) → length room ≡ length t → text ++ drop (length t) room ≡ text
fills text t room e = let h : length room ≤ length t = omega (arith, e) in ap (λ (l : List ℕ). text ++ l) (drop_of_length-le room h) ∙ append-nil text
