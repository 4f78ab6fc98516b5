-- THE PROCESSOR'S PRODUCT: for a finite value it is the meaning's, which is a fraction of the bits.
-- Assumes nothing.
use Rattle.std.specs.Prelude.{◌≡◌, ℕ, ◌^◌, ◌≤◌, true, pos, from_bits}
use Rattle.std.specs.Float.{binary64}
use Rattle.std.specs.Float.Ieee.{mul, of_int}
use Rattle.dump_binary64.specs.Meaning.Value.{finite, product}
use Rattle.dump_binary64.proofs.Steps.Products.{product_is}

-- a value times a whole number that binary64 holds
pub machine-product : (b q : ℕ) → finite b ≡ true → q ≤ 2 ^ 53 → mul binary64 (from_bits binary64 b) (of_int binary64 (pos q)) ≡ product b q
machine-product b q f h = product_is b q f h
