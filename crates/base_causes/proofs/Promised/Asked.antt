-- A table as a list of numbers with the kinds of their indices, and the order of such a list: the terms of
-- `table-order`. Assumes nothing.
use Rattle.std.specs.Prelude.{◌≡◌, refl, Bool, true, false, ◌&&◌, ◌||◌, List, [], ◌∷◌, ℕ, ◌+◌, ◌<◌, ◌≤◌, T, eqb, ltb}
use Rattle.std.proofs.Common.{sym, ap, subst, arith}
use Rattle.std.proofs.Math.Option.{Option, none, some, none-ne-some, some-injective}
use Rattle.base_integers.specs.Steps.Ranges.{and_left, and_right}
use Rattle.base_causes.specs.declared.Outcome.{Outcome}
use Rattle.base_causes.specs.Meaning.Causes.{Cause, verdict, first_below, cause_else, refusal}
use Rattle.base_causes.proofs.Promised.CauseLaws.{first-is}

-- THE ORDER OF A TABLE, as a list: each row's number and the kind of its index. The index is none (0), a given
-- offset, the place, or the offset of the first field at fault; `RefusedField` says which field that is (S-2)
pub data Index : Type 0 where
  unnamed : Index
  at_offset : ℕ → Index
  the-place : Index
  a-field : Index

pub record Asked : Type 0 where
  pub number : ℕ
  pub index : Index

abbrev pub ask : ℕ → Index → Asked
ask n i = record { number = n; index = i }

abbrev pub Indexed : Index → (ℕ → ℕ) → Type 0
Indexed unnamed f = (k : ℕ) → f k ≡ 0
Indexed (at_offset n) f = (k : ℕ) → f k ≡ n
Indexed the-place f = (k : ℕ) → f k ≡ k
Indexed a-field f = Unit {0}

-- the rows of a table are these, in this order
abbrev pub Asks : List Cause → List Asked → Type 0
Asks [] [] = Unit {0}
Asks [] (a ∷ rest) = ⊥
Asks (r ∷ rs) [] = ⊥
Asks (r ∷ rs) (a ∷ rest) = (r.number ≡ a.number) × (Indexed a.index r.index × Asks rs rest)

-- To prove it: give each row the number and the index that the list has for it. If that changes no row, which `refl`
-- shows by computing, the rows are these. So a new row adds nothing to the proof.
abbrev index_by : Index → (ℕ → ℕ) → ℕ → ℕ
index_by unnamed f k = 0
index_by (at_offset n) f k = n
index_by the-place f k = k
index_by a-field f k = f k

abbrev relabelled : List Asked → List Cause → List Cause
relabelled [] rs = []
relabelled (a ∷ rest) [] = record { number = a.number; places = 0; fails = λ k. false; index = λ k. 0 } ∷ []
relabelled (a ∷ rest) (r ∷ rs) = record { number = a.number; places = r.places; fails = r.fails; index = index_by a.index r.index } ∷ relabelled rest rs

abbrev is_empty : List Cause → Bool
is_empty [] = true
is_empty (r ∷ rs) = false

abbrev first : Cause → List Cause → Cause
first r [] = r
first r (q ∷ qs) = q

abbrev rest : List Cause → List Cause
rest [] = []
rest (r ∷ rs) = rs

indexed : (i : Index) (f : ℕ → ℕ) → ((k : ℕ) → index_by i f k ≡ f k) → Indexed i f
indexed unnamed f h = λ k. sym (h k)
indexed (at_offset n) f h = λ k. sym (h k)
indexed the-place f h = λ k. sym (h k)
indexed a-field f h = tt

pub asks : (rs : List Cause) (order : List Asked) → relabelled order rs ≡ rs → Asks rs order
asks [] [] e = tt
asks [] (a ∷ order) e = absurd (subst (λ (b : Bool). T b) (ap is_empty (sym e)) tt)
asks (r ∷ rs) [] e = absurd (subst (λ (b : Bool). T b) (ap is_empty e) tt)
asks (r ∷ rs) (a ∷ order) e = (sym (ap (λ (l : List Cause). (first r l).number) e), (indexed a.index r.index (λ k. ap (λ (l : List Cause). (first r l).index k) e), asks rs order (ap rest e)))

-- the numbers ascend, and within one number the offsets
abbrev pub offsets_ascend : Index → Index → Bool
offsets_ascend (at_offset n) (at_offset m) = ltb n m
offsets_ascend (at_offset n) unnamed = false
offsets_ascend (at_offset n) the-place = false
offsets_ascend (at_offset n) a-field = false
offsets_ascend unnamed i = false
offsets_ascend the-place i = false
offsets_ascend a-field i = false

abbrev pub precedes : Asked → Asked → Bool
precedes a b = ltb a.number b.number || (eqb a.number b.number && offsets_ascend a.index b.index)

unfoldable pub ascending : List Asked → Bool
ascending [] = true
ascending (a ∷ []) = true
ascending (a ∷ (b ∷ bs)) = precedes a b && ascending (b ∷ bs)

-- Where every index is 0 or the place, the index of a refusal is below the total number of places.
abbrev pub names_place : Index → Bool
names_place unnamed = true
names_place the-place = true
names_place (at_offset n) = false
names_place a-field = false

unfoldable pub name_places : List Asked → Bool
name_places [] = true
name_places (a ∷ rest) = names_place a.index && name_places rest

abbrev pub places_of : List Cause → ℕ
places_of [] = 0
places_of (r ∷ rs) = r.places + places_of rs

at-most-place : (i : Index) (f : ℕ → ℕ) → T (names_place i) → Indexed i f → (k : ℕ) → f k ≤ k
at-most-place unnamed f t h k = omega (arith, h k)
at-most-place the-place f t h k = omega (arith, h k)
at-most-place (at_offset n) f t h k = absurd t
at-most-place a-field f t h k = absurd t

pub index_below : (rs : List Cause) (order : List Asked) → Asks rs order → T (name_places order) → (o : Outcome) → refusal rs ≡ some o → o.index < places_of rs
unfolding refusal name_places
index_below [] order w t o e = absurd (none-ne-some o e)
index_below (r ∷ rs) [] w t o e = absurd w
index_below (r ∷ rs) (a ∷ order) w t o e = by (first_below r.places r.fails) refl (index_below rs order w.1.1 (and_right (names_place a.index) (name_places order) t) o) e
  where
    by : (x : Option ℕ) → first_below r.places r.fails ≡ x → (refusal rs ≡ some o → o.index < places_of rs) → cause_else r x (refusal rs) ≡ some o → o.index < r.places + places_of rs
    by (some k) q ih e = omega (
      arith,
      ap (λ (y : Outcome). y.index) (some-injective (verdict r.number (r.index k)) o e),
      at-most-place a.index r.index (and_left (names_place a.index) (name_places order) t) w.1.0 k,
      (first-is r.places r.fails k q).place_in,
    )
    by none q ih e = omega (arith, ih e)
