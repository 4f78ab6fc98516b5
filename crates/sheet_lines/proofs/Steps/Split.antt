-- Lines and fields, one after another: the first is what stands before the first mark, and the others are those of
-- the rest. Assumes nothing.
use Rattle.std.specs.Prelude.{◌≡◌, refl, Bool, true, false, cond, ◌||◌, List, [], ◌∷◌, ◌++◌, ℕ, ◌<◌, eqb, length}
use Rattle.std.proofs.Common.{ap, ◌∙◌, arith}
use Rattle.sheet_numbers.specs.Meaning.Numeral.{has, before, after}
use Rattle.sheet_numbers.proofs.Steps.Scan.{clash}
use Rattle.sheet_lines.specs.Meaning.Sheet.{onto, lines, fields}

-- LINES
pub lines_cut : (s : List ℕ) → 0 < length s → lines s ≡ before 10 s ∷ lines (after 10 s)
unfolding lines before after
lines_cut [] h = absurd (omega arith)
lines_cut (b ∷ []) h = by (eqb b 10)
  where
    by : (t : Bool) → cond t ([] ∷ []) ((b ∷ []) ∷ []) ≡ cond t [] (b ∷ []) ∷ lines (cond t [] [])
    by true = refl
    by false = refl
lines_cut (b ∷ d ∷ bs) h = by (eqb b 10) (lines_cut (d ∷ bs) (omega arith))
  where
    by : (t : Bool) → lines (d ∷ bs) ≡ before 10 (d ∷ bs) ∷ lines (after 10 (d ∷ bs))
        → cond t ([] ∷ lines (d ∷ bs)) (onto b (lines (d ∷ bs))) ≡ cond t [] (b ∷ before 10 (d ∷ bs)) ∷ lines (cond t (d ∷ bs) (after 10 (d ∷ bs)))
    by true e = refl
    by false e = ap (onto b) e

-- FIELDS: the one before a comma, the last, and that there always is one
pub fields-cut : (t rest : List ℕ) → fields (before 44 t ++ 44 ∷ rest) ≡ before 44 t ∷ fields rest
unfolding fields before
fields-cut [] rest = refl
fields-cut (b ∷ t) rest = by (eqb b 44) refl (fields-cut t rest)
  where
    by : (c : Bool) → eqb b 44 ≡ c → fields (before 44 t ++ 44 ∷ rest) ≡ before 44 t ∷ fields rest → fields (cond c [] (b ∷ before 44 t) ++ 44 ∷ rest) ≡ cond c [] (b ∷ before 44 t) ∷ fields rest
    by true q e = refl
    by false q e = ap (λ (c : Bool). cond c ([] ∷ fields (before 44 t ++ 44 ∷ rest)) (onto b (fields (before 44 t ++ 44 ∷ rest)))) q ∙ ap (onto b) e

pub fields-last : (s : List ℕ) → has 44 s ≡ false → fields s ≡ s ∷ []
unfolding fields has
fields-last [] h = refl
fields-last (b ∷ bs) h = by (eqb b 44) h (fields-last bs)
  where
    by : (c : Bool) → c || has 44 bs ≡ false → (has 44 bs ≡ false → fields bs ≡ bs ∷ []) → cond c ([] ∷ fields bs) (onto b (fields bs)) ≡ (b ∷ bs) ∷ []
    by true h ih = absurd (clash h)
    by false h ih = ap (onto b) (ih h)

pub fields-some : (s : List ℕ) → 0 < length (fields s)
unfolding fields
fields-some [] = omega arith
fields-some (b ∷ bs) = by (eqb b 44) (fields bs)
  where
    by : (t : Bool) (f : List (List ℕ)) → 0 < length (cond t ([] ∷ f) (onto b f))
    by true f = omega arith
    by false [] = omega arith
    by false (p ∷ ps) = omega arith
