-- The order that a measure derives is that of its number. Assumes nothing.
use Rattle.std.specs.Prelude.{◌≡◌, refl, Bool, true, false, cond, ℤ}
use Rattle.std.specs.Int.Signed.{lt_z}
use Rattle.std.specs.Ordering.{int_cmp, is_lt}
use Rattle.std.specs.declared.cmp.Ordering.TheVariants.{Less, Equal, Greater}

-- what `<` answers, by the two tests of a comparison
by-tests : (a b : Bool) → is_lt (cond a Less (cond b Greater Equal)) ≡ a
by-tests true b = refl
by-tests false true = refl
by-tests false false = refl

pub less-is : (x y : ℤ) → is_lt (int_cmp x y) ≡ lt_z x y
less-is x y = by-tests (lt_z x y) (lt_z y x)
