-- A text up to its first mark and what follows the mark, as a piece; and the digits and the number at a place.
-- Assumes nothing.
use Rattle.std.specs.Prelude.{◌≡◌, refl, Bool, true, false, List, ℕ, ◌≤◌, length, drop, Option, None, Some}
use Rattle.std.proofs.Common.{sym, ap, subst, ◌∙◌}
use Rattle.sheet_numbers.specs.declared.Piece.{Piece}
use Rattle.sheet_numbers.specs.declared.Number.{Number}
use Rattle.sheet_numbers.specs.Meaning.Numeral.{before, is_number, units}
use Rattle.sheet_numbers.specs.Steps.Capped.{cap}
use Rattle.sheet_numbers.proofs.Steps.Capped.{capped_le}
use Rattle.sheet_numbers.specs.Meaning.Pieces.{piece_at, held_number, number_by, number_at}
use Rattle.sheet_numbers.specs.Steps.Pieces.{Cut, cut}

-- an answer that gives a number, and one that gives none
pub record NumberRead (k mark : ℕ) (s : List ℕ) (at : ℕ) (x : Number) (p : Piece) : Type 0 where
  pub is-number : is_number (before mark (drop at s)) ≡ true
  pub number_is : x ≡ held_number k (before mark (drop at s))
  pub held : x.units ≤ cap
  pub place : Cut mark s at p

by_read : (b : Bool) (y : Number) (z : Piece) {x : Number} {p : Piece} → number_by b y z ≡ Some (x, p) → (b ≡ true) × ((x ≡ y) × (p ≡ z))
by_read true y z {x} {p} q = let e : ◌≡◌ {A = Number × Piece} (x, p) (y, z) = cc in (refl, (ap (λ (w : Number × Piece). w.0) e, ap (λ (w : Number × Piece). w.1) e))
by_read false y z q = (cc, (cc, cc))

by-none : (b : Bool) (y : Number) (z : Piece) → number_by b y z ≡ None → b ≡ false
by-none true y z q = cc
by-none false y z q = refl

module _ (k mark : ℕ) (s : List ℕ) (at : ℕ) {r : Option (Number × Piece)} (e : r ≡ number_at k mark s at) where
  pub number_read : {x : Number} {p : Piece} → at ≤ length s → r ≡ Some (x, p) → NumberRead k mark s at x p
  number_read h q =
      let w = by_read (is_number (before mark (drop at s))) (held_number k (before mark (drop at s))) (piece_at mark s at) (sym e ∙ q) in
      record {
        is-number = w.0;
        number_is = w.1.0;
        held = subst (λ (n : Number). n.units ≤ cap) (sym w.1.0) (capped_le (units k (before mark (drop at s))));
        place = cut mark s at h w.1.1;
      }

  pub number-none : r ≡ None → is_number (before mark (drop at s)) ≡ false
  number-none q = by-none (is_number (before mark (drop at s))) (held_number k (before mark (drop at s))) (piece_at mark s at) (sym e ∙ q)
