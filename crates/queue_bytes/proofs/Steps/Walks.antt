-- What a walk over an area's cells has read, and what a walk over the areas in turn has found. Assumes nothing.
use Rattle.std.specs.Prelude.{◌≡◌, Bool, true, length, take, drop, replicate, slice_range}
use Rattle.std.proofs.Math.Path.{refl, sym, ap}
use Rattle.std.proofs.Common.{◌∙◌, subst, add-one, lt-ltb, take-suc, take_all}
use Rattle.std.proofs.Math.Bool.{cond}
use mathlib.Core.List.{List, [], ◌∷◌}
use Rattle.std.proofs.Math.Option.{Option}
use Rattle.std.specs.declared.option.Option.TheVariants.{None, Some}
use Prim.Native.Nat.{ℕ, suc, ◌+◌, ◌*◌, ◌-◌, ◌%◌, ◌≤◌, ◌<◌}
use native.Mathlib.Omega.{arith}
use Rattle.std.proofs.Math.ListN.{get_or}
use Rattle.queue_bytes.specs.declared.Waiting.{Waiting}
use Rattle.queue_turns.specs.Meaning.Queue.{Pair, in_turn, first_waiting, earliest_else, next}
use Rattle.queue_turns.specs.Steps.Invariant.{Hours}
use Rattle.queue_bytes.specs.Meaning.Bytes.{keep, keep_all, hours_in, cells_of, cells_at, hours_at, queue_of}
use Rattle.queue_bytes.proofs.Steps.ReadBack.{hours-in, length-cells-at}
use Rattle.queue_bytes.proofs.Steps.ReadBack.{keep-more}
use Rattle.queue_bytes.specs.Steps.Cells.{waiting_of, counts_behind}
use Rattle.queue_bytes.proofs.Steps.Cells.{addable-room, kept-addable}
use Rattle.queue_bytes.specs.Steps.Walks.{area_of}

module _ (bytes : List ℕ) (area : ℕ) where
  -- the hours in an area's first i cells
  unfoldable pub hours_to : ℕ → List ℕ
  hours_to i = hours_in (take i (cells_at bytes area))

  pub read_none : ◌≡◌ {A = Waiting} (record { cells = replicate 25 0; count = 0 }) (waiting_of (hours_to 0))
  unfolding hours_to hours_in keep_all cells_of
  read_none = refl

  pub read-good : (i : ℕ) → Hours (hours_to i)
  unfolding hours_to
  read-good i = hours-in (take i (cells_at bytes area))

  -- a cell that counts finds room
  pub read-room : (w : Waiting) (c i : ℕ) → w ≡ waiting_of (hours_to i) → counts_behind w.cells c ≡ true → w.count < 25
  read-room w c i e f = (addable-room (kept-addable w c (hours_to i) (read-good i) e f)).0

  -- the cells that the code goes over
  pub cells-of : slice_range bytes (25 * area) (25 * area + 25) ≡ cells_at bytes area
  cells-of = ap (λ (n : ℕ). take n (drop (25 * area) bytes)) width
    where
      width : 25 * area + 25 - 25 * area ≡ 25
      width = omega arith

  pub read_more : (i : ℕ) → length bytes ≡ 101 → area < 4 → i < 25 → keep (hours_to i) (get_or (slice_range bytes (25 * area) (25 * area + 25)) i 0) ≡ hours_to (i + 1)
  unfolding hours_to hours_in
  read_more i len l m =
      ap (λ (cells : List ℕ). keep (hours_to i) (get_or cells i 0)) cells-of
      ∙ sym (keep-more (take i (cells_at bytes area)) [] (get_or (cells_at bytes area) i 0))
      ∙ ap (λ (cells : List ℕ). keep_all [] cells) (sym (take-suc (cells_at bytes area) i 0 (subst (λ (n : ℕ). i < n) (sym (length-cells-at bytes area len l)) m)))
      ∙ ap (λ (k : ℕ). keep_all [] (take k (cells_at bytes area))) (sym (add-one i))

  pub read_all : (i : ℕ) → i ≡ 25 → length bytes ≡ 101 → area < 4 → hours_to i ≡ hours_at bytes area
  unfolding hours_to hours_at
  read_all i e len l =
      ap (λ (k : ℕ). hours_in (take k (cells_at bytes area))) e
      ∙ ap hours_in (take_all 25 (cells_at bytes area) (omega (arith, length-cells-at bytes area len l)))
      ∙ sym (ap (λ (x : Bool). cond x (hours_in (cells_at bytes area)) []) (lt-ltb area 4 l))

-- ---- the areas in turn: the next serve takes what is found from area k in turn on

module _ (bytes : List ℕ) where
  unfoldable pub NextFrom : ℕ → Type 0
  NextFrom k = next (queue_of bytes) ≡ first_waiting (hours_at bytes) (in_turn (4 - k) (get_or bytes 100 0 % 4 + k))

  pub next_start : NextFrom 0
  unfolding NextFrom next queue_of
  next_start = ap (λ (t : ℕ). first_waiting (hours_at bytes) (in_turn 4 t)) from_zero
    where
      from_zero : get_or bytes 100 0 % 4 ≡ get_or bytes 100 0 % 4 + 0
      from_zero = omega arith

  -- one area on
  turn_by : (k : ℕ) → k < 4 → NextFrom k
      → next (queue_of bytes) ≡ earliest_else ((get_or bytes 100 0 % 4 + k) % 4) (hours_at bytes ((get_or bytes 100 0 % 4 + k) % 4)) (first_waiting (hours_at bytes) (in_turn (4 - (k + 1)) (get_or bytes 100 0 % 4 + (k + 1))))
  unfolding NextFrom first_waiting in_turn
  turn_by k l e =
      e
      ∙ ap (λ (n : ℕ). first_waiting (hours_at bytes) (in_turn n (get_or bytes 100 0 % 4 + k))) fewer
      ∙ ap (λ (t : ℕ). earliest_else ((get_or bytes 100 0 % 4 + k) % 4) (hours_at bytes ((get_or bytes 100 0 % 4 + k) % 4)) (first_waiting (hours_at bytes) (in_turn (4 - (k + 1)) t))) (further (get_or bytes 100 0 % 4))
    where
      fewer : 4 - k ≡ suc (4 - (k + 1))
      fewer = omega arith

      further : (t : ℕ) → t + k + 1 ≡ t + (k + 1)
      further t = omega arith

  pub next_here : (k : ℕ) → k < 4 → 0 < length (hours_at bytes ((get_or bytes 100 0 % 4 + k) % 4)) → NextFrom k → Some ((get_or bytes 100 0 % 4 + k) % 4) ≡ area_of (next (queue_of bytes))
  next_here k l some-wait e = sym (ap area_of (turn_by k l e) ∙ by (hours_at bytes ((get_or bytes 100 0 % 4 + k) % 4)) some-wait)
    where
      by : (hours : List ℕ) → 0 < length hours
          → area_of (earliest_else ((get_or bytes 100 0 % 4 + k) % 4) hours (first_waiting (hours_at bytes) (in_turn (4 - (k + 1)) (get_or bytes 100 0 % 4 + (k + 1))))) ≡ Some ((get_or bytes 100 0 % 4 + k) % 4)
      by [] p = absurd (no_less p)
        where
          no_less : 0 < 0 → ⊥
          no_less x = omega arith
      by (h ∷ hours) p = refl

  pub next-later : (k : ℕ) → k < 4 → length (hours_at bytes ((get_or bytes 100 0 % 4 + k) % 4)) ≤ 0 → NextFrom k → NextFrom (k + 1)
  unfolding NextFrom
  next-later k l none-wait e = turn_by k l e ∙ by (hours_at bytes ((get_or bytes 100 0 % 4 + k) % 4)) none-wait
    where
      others : Option Pair
      others = first_waiting (hours_at bytes) (in_turn (4 - (k + 1)) (get_or bytes 100 0 % 4 + (k + 1)))

      by : (hours : List ℕ) → length hours ≤ 0 → earliest_else ((get_or bytes 100 0 % 4 + k) % 4) hours others ≡ others
      by [] p = refl
      by (h ∷ hours) p = absurd (some-there (length hours) p)
        where
          some-there : (n : ℕ) → suc n ≤ 0 → ⊥
          some-there n x = omega arith

  pub next-none : (k : ℕ) → k ≡ 4 → NextFrom k → None ≡ area_of (next (queue_of bytes))
  unfolding NextFrom first_waiting in_turn
  next-none k f e = sym (ap area_of (e ∙ ap (λ (n : ℕ). first_waiting (hours_at bytes) (in_turn (4 - n) (get_or bytes 100 0 % 4 + n))) f))
