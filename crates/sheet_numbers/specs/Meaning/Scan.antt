-- A mark that is no part of a number.
use Rattle.std.specs.Prelude.{◌≡◌, false, ℕ, eqb}
use Rattle.sheet_numbers.specs.Meaning.Numeral.{is_digit}

-- A SEPARATOR is no byte of a number
pub record Separator (mark : ℕ) : Type 0 where
  pub no_digit : is_digit mark ≡ false
  pub no_sign : eqb mark 45 ≡ false
  pub no-point : eqb mark 46 ≡ false
