-- S-10 IN PLAIN NUMBERS, both ways: when columning and the way back answer 0, 71 and 72, and where each byte of a
-- case stands in its columned file. `get_or s k 0` is the byte at place k of the file, counted from 0.
-- Assumes nothing.
use Rattle.std.specs.Prelude.{◌≡◌, refl, ◌↔◌, Bool, true, false, ◌||◌, List, [], ◌∷◌, ℕ, zero, suc, ◌+◌, ◌*◌, ◌≤◌, ◌<◌, T, length}
use Rattle.std.proofs.Common.{sym, subst, ◌∙◌, inl, inr, arith}
use Rattle.std.proofs.Math.Path.{ap}
use Rattle.std.proofs.Math.Decide.{dec_lt}
use Rattle.std.proofs.Math.ListN.{get_or}
use Rattle.base_integers.specs.Steps.Ranges.{is_false, not_is, nor-both}
use Rattle.base_causes.specs.declared.Outcome.{Outcome}
use Rattle.base_causes.specs.Meaning.Causes.{verdict, refusal, answer}
use Rattle.rules.specs.Meaning.Layout.{u8_at, u16_at, case_version, orders_in, order_at}
use Rattle.rules.specs.Meaning.Verdict.{not_mark}
use Rattle.rules.proofs.Promised.PlainLayout.{LinkBytes, case-length-is}
use Rattle.rules.proofs.Promised.PlainFacts.{CaseFacts, case-facts, facts-readable, mark-passes}
use Rattle.column_file.specs.Meaning.Columns.{columned_of, restored_of, unreadable, not_restored, columned_causes, restored_causes, columned_outcome, restored_outcome, Columned, Restored}
use Rattle.column_file.proofs.Steps.Answers.{rows_of, refused-71, refused-72, taken}
use Rattle.column_file.proofs.Steps.Counts.{readable_of, unreadable-of, mark-is, full-length}
use Rattle.column_file.proofs.Promised.RoundTrip.{is-columned, only-columned, restored-columned, columned-taken, restored-takes, restored-file}

-- WHERE THE ORDERS START, with links of `width` bytes, and how many there are
abbrev pub start : List ℕ → ℕ → ℕ
start s width = 14 + get_or s 6 0 * (4 + 4 * get_or s 5 0) + get_or s 7 0 * width

abbrev pub orders : List ℕ → ℕ
orders s = get_or s 8 0 + 256 * get_or s 9 0

-- THE COLUMNED FILE u of a case s, byte by byte: byte k of order i stands at place i of column k. Byte 0 of an order is
-- its zone, 1 its side, 2 to 5 its quantity, 6 to 9 its price. A link has 6 bytes in version 1, 10 in version 2
pub record InColumns (s u : List ℕ) : Type 0 where
  pub width : ℕ
  pub width_is : LinkBytes s width
  pub long : length u ≡ length s
  pub mark : (get_or u 0 0 ≡ 76) × ((get_or u 1 0 ≡ 84) × (get_or u 2 0 ≡ 75))
  pub kept : (k : ℕ) → 3 ≤ k → k < start s width → get_or u k 0 ≡ get_or s k 0
  pub column : (i k : ℕ) → i < orders s → k < 10 → get_or u (start s width + (k * orders s + i)) 0 ≡ get_or s (start s width + (i * 10 + k)) 0

-- which files the way back takes: the mark is LTK, and a readable case results
pub record Restorable (t : List ℕ) : Type 0 where
  pub mark : (get_or t 0 0 ≡ 76) × ((get_or t 1 0 ≡ 84) × (get_or t 2 0 ≡ 75))
  pub results : CaseFacts (restored_of t)

-- THE ANSWER on a file of `size` bytes that is taken where P holds, with `room` bytes for the output
pub record Answers (P : Type 0) (size room : ℕ) (o : Outcome) : Type 0 where
  pub is-71 : (o.number ≡ 71) ↔ (P → ⊥)
  pub is-72 : (o.number ≡ 72) ↔ (P × (room < size))
  pub is-0 : (o.number ≡ 0) ↔ (P × (size ≤ room))
  pub index-0 : o.index ≡ 0

-- for columning, which takes a readable case; and for the way back
abbrev pub ColumnedNumbers : List ℕ → ℕ → Outcome → Type 0
ColumnedNumbers s room o = Answers (CaseFacts s) (length s) room o

abbrev pub RestoredNumbers : List ℕ → ℕ → Outcome → Type 0
RestoredNumbers t room o = Answers (Restorable t) (length t) room o

-- THE NUMBERS, of both tables
module _ {P : Type 0} (size room : ℕ) where
  at-71 : (P → ⊥) → Answers P size room (verdict 71 0)
  at-71 n = record {
    is-71 = (λ e. n, λ f. refl);
    is-72 = (λ e. absurd (omega (arith, e)), λ h. absurd (n h.0));
    is-0 = (λ e. absurd (omega (arith, e)), λ h. absurd (n h.0));
    index-0 = refl;
  }

  at-72 : P → room < size → Answers P size room (verdict 72 0)
  at-72 p l = record {
    is-71 = (λ e. absurd (omega (arith, e)), λ n. absurd (n p));
    is-72 = (λ e. (p, l), λ h. refl);
    is-0 = (λ e. absurd (omega (arith, e)), λ h. absurd (omega (arith, l, h.1)));
    index-0 = refl;
  }

  at-0 : P → size ≤ room → Answers P size room (verdict 0 0)
  at-0 p l = record {
    is-71 = (λ e. absurd (omega (arith, e)), λ n. absurd (n p));
    is-72 = (λ e. absurd (omega (arith, e)), λ h. absurd (omega (arith, l, h.1)));
    is-0 = (λ e. (p, l), λ h. refl);
    index-0 = refl;
  }

  of-table : (bad : Bool) → (P → bad ≡ false) → (bad ≡ false → P) → Answers P size room (answer (refusal (rows_of bad size room)))
  of-table bad f g = by bad refl (dec_lt room size)
    where
      given : {o : Outcome} → Answers P size room o → answer (refusal (rows_of bad size room)) ≡ o → Answers P size room (answer (refusal (rows_of bad size room)))
      given w e = subst (λ (x : Outcome). Answers P size room x) (sym e) w

      never : bad ≡ true → P → ⊥
      never e p = subst T (sym e ∙ f p) tt

      by : (b : Bool) → bad ≡ b → Dec (room < size) → Answers P size room (answer (refusal (rows_of bad size room)))
      by true e d = given (at-71 (never e)) (ap answer (refused-71 size room e))
      by false e (yes l) = given (at-72 (g e) l) (ap answer (refused-72 size room e l))
      by false e (no n) = given (at-0 (g e) (omega (arith, n))) (ap answer (taken size room e (omega (arith, n))))

-- COLUMNING: 71 if and only if the case is not readable, else 72 if and only if the output is shorter than the file
pub columned-numbers : (s : List ℕ) (room : ℕ) → ColumnedNumbers s room (columned_outcome s room)
unfolding columned_outcome columned_causes
columned-numbers s room = of-table (length s) room (unreadable s) (λ f. unreadable-of s (facts-readable s f)) (λ e. case-facts s (readable_of s e))

-- THE WAY BACK: 71 if and only if the mark is not LTK or no readable case results, else 72 in the same way
module _ (t : List ℕ) where
  taken-restorable : not_restored t ≡ false → Restorable t
  taken-restorable e = let w = restored-takes t e in let m = mark-is 76 84 75 t (is_false w.0) in record { mark = (m.0, (m.1, m.2)); results = case-facts (restored_of t) w.1 }

  restorable-taken : Restorable t → not_restored t ≡ false
  unfolding not_restored u8_at
  restorable-taken r = not_is (not_mark 76 84 75 t || unreadable (restored_of t))
      (nor-both (not_mark 76 84 75 t) (unreadable (restored_of t)) (mark-passes 76 84 75 t r.mark) (is_false (unreadable-of (restored_of t) (facts-readable (restored_of t) r.results))))

  pub restored-numbers : (room : ℕ) → RestoredNumbers t room (restored_outcome t room)
  unfolding restored_outcome restored_causes
  restored-numbers room = of-table (length t) room (not_restored t) restorable-taken taken-restorable

-- THE BYTES. These are the places of the definition
start_is : (s : List ℕ) (width : ℕ) → LinkBytes s width → order_at s 0 ≡ start s width
unfolding orders_in u16_at
start_is s width v = omega (arith, full-length s, case-length-is s width v)

order_is : (s : List ℕ) (i : ℕ) → order_at s i ≡ order_at s 0 + i * 10
unfolding order_at
order_is s i = omega arith

version-width : (s : List ℕ) → CaseFacts s → (width : ℕ) × LinkBytes s width
unfolding case_version u16_at
version-width s f = by (get_or s 3 0 + 256 * get_or s 4 0) refl f.version-in
  where
    by : (v : ℕ) → get_or s 3 0 + 256 * get_or s 4 0 ≡ v → (1 ≤ v) × (v ≤ 2) → (width : ℕ) × LinkBytes s width
    by zero e h = absurd (omega (arith, h.0))
    by (suc zero) e h = (6, inl (e, refl))
    by (suc (suc zero)) e h = (10, inr (e, refl))
    by (suc (suc (suc v))) e h = absurd (omega (arith, h.1))

module _ (s u : List ℕ) (width : ℕ) (v : LinkBytes s width) where
  at-order : (i k : ℕ) → start s width + (i * 10 + k) ≡ order_at s i + k
  at-order i k = omega (arith, order_is s i, start_is s width v)

  to-plain : Columned s u → InColumns s u
  unfolding orders_in u16_at
  to-plain c = record {
    width = width;
    width_is = v;
    long = c.long;
    mark = (c.mark 0 (omega arith), (c.mark 1 (omega arith), c.mark 2 (omega arith)));
    kept = λ k h l. c.kept k h (omega (arith, l, start_is s width v));
    column = λ i k h l. ap (λ (p : ℕ). get_or u (p + (k * orders s + i)) 0) (sym (start_is s width v)) ∙ c.column i k h l ∙ ap (λ (p : ℕ). get_or s p 0) (sym (at-order i k));
  }

of_plain : (s u : List ℕ) → InColumns s u → Columned s u
unfolding orders_in u16_at
of_plain s u c = record {
  long = c.long;
  mark = three;
  kept = λ k h l. c.kept k h (omega (arith, l, e));
  column = λ i k h l. ap (λ (p : ℕ). get_or u (p + (k * orders s + i)) 0) e ∙ c.column i k h l ∙ ap (λ (p : ℕ). get_or s p 0) (at-order s u c.width c.width_is i k);
}
  where
    e : order_at s 0 ≡ start s c.width
    e = start_is s c.width c.width_is

    three : (k : ℕ) → k < 3 → get_or u k 0 ≡ get_or (76 ∷ 84 ∷ 75 ∷ []) k 0
    three zero h = c.mark.0
    three (suc zero) h = c.mark.1.0
    three (suc (suc zero)) h = c.mark.1.1
    three (suc (suc (suc k))) h = absurd (omega (arith, h))

pub plain-columned : (s u : List ℕ) → CaseFacts s → Columned s u → InColumns s u
plain-columned s u f c = let v = version-width s f in to-plain s u v.0 v.1 c

-- what columning writes for a readable case has these bytes, and no other file has them
pub in-columns : (s : List ℕ) → CaseFacts s → InColumns s (columned_of s)
in-columns s f = plain-columned s (columned_of s) f (is-columned s (facts-readable s f))

pub only-in-columns : (s u : List ℕ) → CaseFacts s → InColumns s u → u ≡ columned_of s
only-in-columns s u f c = let r = facts-readable s f in only-columned s u (columned_of s) r (of_plain s u c) (is-columned s r)

-- the way back takes a file if and only if it has these bytes for a readable case, and that case results
pub restored-in-columns : (t : List ℕ) → Restorable t → InColumns (restored_of t) t
restored-in-columns t r = plain-columned (restored_of t) t r.results (restored-file t (restorable-taken t r)).bytes

pub in-columns-restored : (s t : List ℕ) → CaseFacts s → InColumns s t → Restorable t × (restored_of t ≡ s)
in-columns-restored s t f c =
    let r = facts-readable s f in
    let e = only-in-columns s t f c in
    (taken-restorable t (ap not_restored e ∙ columned-taken s r), ap restored_of e ∙ restored-columned s r)

-- WHAT A HOST CONCLUDES from the outcome and the bytes u that an entry answers with
pub columned-told : (s u : List ℕ) (room number index : ℕ) → verdict number index ≡ columned_outcome s room → (number ≡ 0 → Columned s u)
    → ColumnedNumbers s room (verdict number index) × (number ≡ 0 → InColumns s u)
columned-told s u room number index e c =
    let w = columned-numbers s room in
    (subst (λ (o : Outcome). ColumnedNumbers s room o) (sym e) w, λ z. plain-columned s u (w.is-0.0 (sym (ap (λ (o : Outcome). o.number) e) ∙ z)).0 (c z))

pub restored-told : (t u : List ℕ) (room number index : ℕ) → verdict number index ≡ restored_outcome t room → (number ≡ 0 → Restored t u)
    → RestoredNumbers t room (verdict number index) × (number ≡ 0 → InColumns u t)
restored-told t u room number index e c = (
  subst (λ (o : Outcome). RestoredNumbers t room o) (sym e) (restored-numbers t room),
  λ z. plain-columned u t (case-facts u (c z).readable) (c z).bytes,
)
