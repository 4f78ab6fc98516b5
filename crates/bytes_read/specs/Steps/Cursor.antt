-- THE NEXT FIELD, by the test that its bytes are there: over its width and its value.
-- Assumes nothing.
use Rattle.std.specs.Prelude.{◌≡◌, Bool, true, false, not, List, ℕ, ◌+◌, ◌≤◌, length, None, Some}
use Rattle.std.proofs.Common.{sym, ap, ◌∙◌, leb-true}
use Rattle.std.proofs.lemmas.Bool.{not-true, not-false}
use Rattle.bytes_read.specs.Meaning.Field.{cursor, field_fits, field_by, field_of}

module _ (s : List ℕ) (at n : ℕ) {fits : Bool} (test : fits ≡ field_fits s at n) where
  -- its bytes are there
  pub field-inside : not fits ≡ false → at + n ≤ length s
  field-inside l = leb-true (at + n) (length s) (sym test ∙ not-false fits l)

  module _ {A : Type 0} (x : A) where
    -- they are not
    pub field-lacks : not fits ≡ true → None ≡ field_of s at n x
    field-lacks t = ap (field_by x (cursor (at + n))) (sym (not-true fits t) ∙ test)

    -- they are, and its value is read
    pub field-takes : not fits ≡ false → {v : A} → v ≡ x → Some (v, cursor (at + n)) ≡ field_of s at n x
    field-takes l e = ap (λ (y : A). Some (y, cursor (at + n))) e ∙ ap (field_by x (cursor (at + n))) (sym (not-false fits l) ∙ test)
