-- What the answers of a measure's constructors imply, and a range of money asked in cents. Assumes nothing.
use Rattle.std.specs.Prelude.{◌≡◌, refl, Bool, true, false, ◌||◌, ℕ, ◌*◌, ltb, ℤ, pos, None, Some}
use Rattle.std.proofs.lemmas.Option.{none-some, same_Some}
use Rattle.std.proofs.Common.{sym, ◌∙◌, arith, lt-ltb, le-ltb}
use Rattle.std.proofs.Math.Decide.{dec_lt}
use Rattle.base_integers.specs.Meaning.Ranges.{range, outside}
use Rattle.base_limits.specs.Meaning.Limits.{microcents_of}
use Rattle.base_measures.specs.Meaning.Held.{held_by, tenths_by, cents_by, grains_by, microcents_by, ptdf_by, share_by}
use Rattle.base_measures.specs.declared.Tenths.{Tenths}
use Rattle.base_measures.specs.declared.Cents.{Cents}
use Rattle.base_measures.specs.declared.Grains.{Grains}
use Rattle.base_measures.specs.declared.Microcents.{Microcents}
use Rattle.base_measures.specs.declared.Ptdf.{Ptdf}
use Rattle.base_measures.specs.declared.Share.{Share}

-- the same number, tested by the same range
pub tested-alike : {a b c d x y : ℤ} → a ≡ b → c ≡ d → x ≡ y → outside (range a c) x ≡ outside (range b d) y
tested-alike p q r = λ j. outside (range (p j) (q j)) (r j)

-- what an answer implies: a refusal, and a measure
pub by-refused : {A : Type 0} (held : A) (b : Bool) → held_by held b ≡ None → b ≡ true
by-refused held true e = refl
by-refused held false e = absurd (none-some held (sym e))

pub by-held : {A : Type 0} (held got : A) (b : Bool) → held_by held b ≡ Some got → (b ≡ false) × (held ≡ got)
by-held held got true e = absurd (none-some got e)
by-held held got false e = (refl, same_Some held got e)

-- the same for each measure
pub tenths-outside : (x : ℤ) (b : Bool) → tenths_by x b ≡ None → b ≡ true
tenths-outside x = by-refused (record { 0 = x })

pub tenths-held : (x : ℤ) (b : Bool) (t : Tenths) → tenths_by x b ≡ Some t → (b ≡ false) × (t.0 ≡ x)
tenths-held x b t e = let h = by-held (record { 0 = x }) t b e in (h.0, cc)

pub cents-outside : (x : ℤ) (b : Bool) → cents_by x b ≡ None → b ≡ true
cents-outside x = by-refused (record { 0 = x })

pub cents-held : (x : ℤ) (b : Bool) (t : Cents) → cents_by x b ≡ Some t → (b ≡ false) × (t.0 ≡ x)
cents-held x b t e = let h = by-held (record { 0 = x }) t b e in (h.0, cc)

pub grains-outside : (x : ℤ) (b : Bool) → grains_by x b ≡ None → b ≡ true
grains-outside x = by-refused (record { 0 = x })

pub grains-held : (x : ℤ) (b : Bool) (t : Grains) → grains_by x b ≡ Some t → (b ≡ false) × (t.0 ≡ x)
grains-held x b t e = let h = by-held (record { 0 = x }) t b e in (h.0, cc)

pub microcents-outside : (x : ℤ) (b : Bool) → microcents_by x b ≡ None → b ≡ true
microcents-outside x = by-refused (record { 0 = x })

pub microcents-held : (x : ℤ) (b : Bool) (t : Microcents) → microcents_by x b ≡ Some t → (b ≡ false) × (t.0 ≡ x)
microcents-held x b t e = let h = by-held (record { 0 = x }) t b e in (h.0, cc)

pub ptdf-outside : (x : ℤ) (b : Bool) → ptdf_by x b ≡ None → b ≡ true
ptdf-outside x = by-refused (record { 0 = x })

pub ptdf-held : (x : ℤ) (b : Bool) (t : Ptdf) → ptdf_by x b ≡ Some t → (b ≡ false) × (t.0 ≡ x)
ptdf-held x b t e = let h = by-held (record { 0 = x }) t b e in (h.0, cc)

pub share-outside : (x : ℤ) (b : Bool) → share_by x b ≡ None → b ≡ true
share-outside x = by-refused (record { 0 = x })

pub share-held : (x : ℤ) (b : Bool) (t : Share) → share_by x b ≡ Some t → (b ≡ false) × (t.0 ≡ x)
share-held x b t e = let h = by-held (record { 0 = x }) t b e in (h.0, cc)

-- a range of money asked in microcents is the same range asked in cents
pub money-tests : (greatest cents : ℕ) → outside (range (microcents_of (pos 0)) (microcents_of (pos greatest))) (microcents_of (pos cents)) ≡ outside (range (pos 0) (pos greatest)) (pos cents)
unfolding outside
money-tests greatest cents = λ j. (le-ltb (1000000 * cents) 0 (omega arith) ∙ sym (le-ltb cents 0 (omega arith))) j || above j
  where
    above : ltb (1000000 * greatest) (1000000 * cents) ≡ ltb greatest cents
    above = elim (dec_lt greatest cents) [
      | yes h ↦ lt-ltb (1000000 * greatest) (1000000 * cents) (omega arith) ∙ sym (lt-ltb greatest cents h)
      | no g ↦ le-ltb (1000000 * greatest) (1000000 * cents) (omega arith) ∙ sym (le-ltb greatest cents (omega arith))
    ]
