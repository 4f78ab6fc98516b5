-- A number whose parts the walk found: the sign at `at`, the digits before the point from `start` on, and those
-- after it. Assumes nothing.
use Rattle.std.specs.Prelude.{◌≡◌, Bool, true, false, ℕ, ◌+◌, ◌-◌, ◌≤◌, ◌<◌, take, None, Some}
use Rattle.std.proofs.Math.Path.{sym, ap}
use Rattle.std.proofs.Common.{◌∙◌, arith, length-drop, length-append}
use mathlib.Core.List.{List, []}
use Rattle.std.proofs.Math.Decide.{dec_lt}
use Rattle.std.proofs.Math.ListN.{length, drop}
use Rattle.std.proofs.Math.Seq.{drop-nil, drop-drop}
use Rattle.text_rules.specs.Meaning.Text.{value_from, value_of}
use Rattle.sheet_numbers.specs.declared.Whole.{Whole}
use Rattle.sheet_numbers.specs.declared.Decimals.{Decimals}
use Rattle.sheet_numbers.specs.declared.Piece.{Piece}
use Rattle.sheet_numbers.specs.Meaning.Numeral.{starts, before, negative, unsigned, is_number, first_of, units, non_zero, finer}
use Rattle.sheet_numbers.specs.Meaning.Scan.{Separator}
use Rattle.sheet_numbers.specs.Steps.Scan.{stops, sign_length, leading}
use Rattle.sheet_numbers.proofs.Steps.Scan.{clash, starts-end, sign-length, rest, lead-split, sign-before, no-digits, no-mark, alone-whole, alone-decimals, alone-number, alone-length, point-whole, point-no-digits, point-no-mark, point-is-number, point-all, point-length}
use Rattle.sheet_numbers.specs.Steps.Capped.{cap, capped}
use Rattle.sheet_numbers.proofs.Steps.Capped.{capped_le, held_whole, held-units}
use Rattle.sheet_numbers.specs.Meaning.Pieces.{piece_to, piece_at, held_number, number_by, number_at}
use Rattle.sheet_numbers.specs.Steps.Pieces.{whole_at, decimals_at}

pub start-in : (s : List ℕ) (at : ℕ) {start : ℕ} → at ≤ length s → start ≡ at + sign_length (drop at s) → start ≤ length s
start-in s at h p = omega (arith, p, sign-length (drop at s), length-drop at s)

-- past the sign, at `start`, stand the digits w
pub record WholeRead (mark k : ℕ) (s : List ℕ) (at start : ℕ) (w : Whole) : Type 0 where
  pub separates : Separator mark
  pub inside : at ≤ length s
  pub start_is : start ≡ at + sign_length (drop at s)
  pub digits_are : w ≡ whole_at s start

module _ {mark k : ℕ} {s : List ℕ} {at start : ℕ} {w : Whole} (r : WholeRead mark k s at start w) where
  abbrev t : List ℕ
  t = drop at s

  abbrev sep : Separator mark
  sep = r.separates

  answered : {b : Bool} → is_number (before mark t) ≡ b → number_at k mark s at ≡ number_by b (held_number k (before mark t)) (piece_at mark s at)
  answered e = ap (λ (b : Bool). number_by b (held_number k (before mark t)) (piece_at mark s at)) e

  -- what was found is the number
  found : {b f : Bool} {n end : ℕ} {x : Piece} → is_number (before mark t) ≡ true → b ≡ negative t → n ≡ capped (units k (before mark t)) → f ≡ finer k (before mark t) → end ≡ at + length (before mark t) → x ≡ piece_to (length s) end
      → Some (record { negative = b; units = n; finer = f }, x) ≡ number_at k mark s at
  found e p q f l g = (λ i. Some (record { negative = (p ∙ sym (sign-before mark sep t)) i; units = q i; finer = f i }, (g ∙ ap (piece_to (length s)) l) i)) ∙ sym (answered e)

  abbrev u : List ℕ
  u = unsigned t

  u-is : u ≡ drop start s
  unfolding unsigned
  u-is = drop-drop (sign_length t) at s ∙ ap (λ (n : ℕ). drop n s) (sym r.start_is)

  same_digits : leading (drop start s) ≡ leading u
  same_digits = ap leading (sym u-is)

  end_is : w.end ≡ start + length (leading u)
  end_is = ap (λ (x : Whole). x.end) r.digits_are ∙ ap (λ (l : List ℕ). start + length l) same_digits

  value-is : w.value ≡ capped (value_of (leading u))
  value-is = ap (λ (x : Whole). x.value) r.digits_are ∙ ap (λ (l : List ℕ). capped (value_of l)) same_digits

  pub value-le : w.value ≤ cap
  value-le = omega (arith, value-is, capped_le (value_of (leading u)))

  rest-is : rest u ≡ drop w.end s
  rest-is = ap (λ (l : List ℕ). drop (length (leading u)) l) u-is ∙ drop-drop (length (leading u)) start s ∙ ap (λ (n : ℕ). drop n s) (sym end_is)

  pub end-in : w.end ≤ length s
  end-in = omega (arith, end_is, start-in s at r.inside r.start_is, ap length u-is, length-drop start s, ap length (lead-split u), length-append (leading u) (rest u))

  -- no digit before a point; or digits, and then neither a point nor the mark
  pub none_read : w.end ≤ start → None ≡ number_at k mark s at
  none_read h = sym (answered (no-digits mark sep t (omega (arith, end_is))))

  some-digit : start < w.end → 0 < length (leading u)
  some-digit h = omega (arith, end_is)

  pub other-read : start < w.end → starts 46 (drop w.end s) ≡ false → stops mark (drop w.end s) ≡ false → None ≡ number_at k mark s at
  other-read h a b = sym (answered (no-mark mark sep t (some-digit h) (ap (stops mark) rest-is ∙ b) (ap (starts 46) rest-is ∙ a)))

  -- a point stands inside the text
  pub point-in : starts 46 (drop w.end s) ≡ true → w.end < length s
  unfolding starts
  point-in e = elim (dec_lt w.end (length s)) [ yes h ↦ h | no g ↦ absurd (clash (sym e ∙ starts-end 46 s w.end (omega arith))) ]

  -- digits alone
  pub whole-read : {b : Bool} {n : ℕ} {x : Piece} → start < w.end → stops mark (drop w.end s) ≡ true → b ≡ negative t → n ≡ capped (value_from w.value (first_of k [])) → x ≡ piece_to (length s) w.end
      → Some (record { negative = b; units = n; finer = false }, x) ≡ number_at k mark s at
  unfolding finer non_zero
  whole-read h e c d g =
      let a = ap (stops mark) rest-is ∙ e in
      let none = alone-decimals mark sep t (some-digit h) a in
      found (alone-number mark sep t (some-digit h) a) c
      (d ∙ ap (λ (x : ℕ). capped (value_from x (first_of k []))) value-is ∙ held_whole k (before mark t) (leading u) (alone-whole mark sep t (some-digit h) a) none)
      (sym (ap (λ (l : List ℕ). non_zero (drop k l)) none ∙ ap non_zero (drop-nil k)))
      (omega (arith, end_is, r.start_is, alone-length mark sep t (some-digit h) a)) g

-- then a point, and past it, at `next`, the digits d
pub record PointRead (mark k : ℕ) (s : List ℕ) (at start : ℕ) (w : Whole) (next : ℕ) (d : Decimals) : Type 0 where
  pub whole : WholeRead mark k s at start w
  pub some : start < w.end
  pub point : starts 46 (drop w.end s) ≡ true
  pub next-is : next ≡ w.end + 1
  pub digits_are : d ≡ decimals_at s next w.value k

module _ {mark k : ℕ} {s : List ℕ} {at start : ℕ} {w : Whole} {next : ℕ} {d : Decimals} (z : PointRead mark k s at start w next d) where
  abbrev v : List ℕ
  v = drop 1 (rest (unsigned (drop at s)))

  v-is : v ≡ drop next s
  v-is = ap (drop 1) (rest-is z.whole) ∙ drop-drop 1 w.end s ∙ ap (λ (x : ℕ). drop x s) (sym z.next-is)

  point : starts 46 (rest (unsigned (drop at s))) ≡ true
  point = ap (starts 46) (rest-is z.whole) ∙ z.point

  after-digits : leading (drop next s) ≡ leading v
  after-digits = ap leading (sym v-is)

  last-is : d.end ≡ next + length (leading v)
  last-is = ap (λ (x : Decimals). x.end) z.digits_are ∙ ap (λ (l : List ℕ). next + length l) after-digits

  last_rest : rest v ≡ drop d.end s
  last_rest = ap (λ (l : List ℕ). drop (length (leading v)) l) v-is ∙ drop-drop (length (leading v)) next s ∙ ap (λ (x : ℕ). drop x s) (sym last-is)

  pub last-in : next ≤ length s → d.end ≤ length s
  last-in h = omega (arith, last-is, ap length v-is, length-drop next s, ap length (lead-split v), length-append (leading v) (rest v))

  pub held-le : d.value ≤ cap
  held-le = omega (arith, ap (λ (x : Decimals). x.value) z.digits_are, capped_le (value_from w.value (take k (leading (drop next s)))))

  pub point-none : d.end ≤ next → None ≡ number_at k mark s at
  point-none g = sym (answered z.whole (point-no-digits mark z.whole.separates (drop at s) (some-digit z.whole z.some) point (omega (arith, last-is))))

  pub point-other : next < d.end → stops mark (drop d.end s) ≡ false → None ≡ number_at k mark s at
  point-other g e = sym (answered z.whole (point-no-mark mark z.whole.separates (drop at s) (some-digit z.whole z.some) point (omega (arith, last-is)) (ap (stops mark) last_rest ∙ e)))

  pub point-read : {b : Bool} {m : ℕ} {x : Piece} → next < d.end → stops mark (drop d.end s) ≡ true → b ≡ negative (drop at s) → m ≡ capped (value_from d.value (first_of d.missing [])) → x ≡ piece_to (length s) d.end
      → Some (record { negative = b; units = m; finer = d.finer }, x) ≡ number_at k mark s at
  unfolding finer
  point-read g e c f y =
      let l : 0 < length (leading v) = omega (arith, last-is) in
      let stop = ap (stops mark) last_rest ∙ e in
      let all = point-all mark z.whole.separates (drop at s) (some-digit z.whole z.some) point l stop in
      found z.whole (point-is-number mark z.whole.separates (drop at s) (some-digit z.whole z.some) point l stop) c
      (f ∙ (λ i. capped (value_from (value-of i) (first_of (missing-of i) []))) ∙ held-units k (before mark (drop at s)) (leading (unsigned (drop at s))) (leading v) (point-whole mark z.whole.separates (drop at s) (some-digit z.whole z.some) point) all)
      (ap (λ (x : Decimals). x.finer) z.digits_are ∙ ap (λ (x : List ℕ). non_zero (drop k x)) (after-digits ∙ sym all))
      (omega (arith, last-is, z.next-is, end_is z.whole, z.whole.start_is, point-length mark z.whole.separates (drop at s) (some-digit z.whole z.some) point l stop)) y
    where
      value-of : d.value ≡ capped (value_from (capped (value_of (leading (unsigned (drop at s))))) (take k (leading v)))
      value-of = ap (λ (x : Decimals). x.value) z.digits_are ∙ (λ i. capped (value_from (value-is z.whole i) (take k (after-digits i))))

      missing-of : d.missing ≡ k - length (leading v)
      missing-of = ap (λ (x : Decimals). x.missing) z.digits_are ∙ ap (λ (x : List ℕ). k - length x) after-digits
