-- The zones that a set holds: those whose bit is one. Assumes nothing.
use Rattle.std.specs.Prelude.{◌≡◌, refl, Bool, true, false, ◌&&◌, ◌||◌, ℕ, zero, suc, ◌+◌, ◌*◌, ◌-◌, ◌/◌, ◌%◌, ◌^◌, ◌≤◌, ◌<◌, max, eqb, ltb}
use Rattle.std.proofs.Common.{sym, ap, ◌∙◌, mod-lt, one-mul, div-one, div-add-mod', pow-suc, arith, pow-add, shr-shr, eqb-true, eq-eqb, ne_eqb, lt-ltb, le-ltb}
use Rattle.std.proofs.Math.Bool.{or-false, or-true}
use Rattle.std.proofs.Math.Nat.{div-eq_of_lt, mul-mod_left, zero-div, max-zero, max-eq_right, max-le}
use Rattle.std.proofs.Math.Decide.{dec_lt}
use Rattle.std.proofs.Math.Arith.{digits_mod}
use Rattle.std.specs.Int.Bits.{bit_or, or_step, or_zero_r}
use Rattle.std.proofs.lemmas.Nat.{or_shr, shl-shr}
use Rattle.std.proofs.Math.Pow.{pow-lt}
use Rattle.base_zone_set.specs.Meaning.Zones.{member, added}

-- BITS
abbrev bit : ℕ → ℕ → ℕ
bit x k = x / 2 ^ k % 2

two : 0 < 2
two = omega arith

bit-small : (x k : ℕ) → bit x k < 2
bit-small x k = mod-lt (x / 2 ^ k) two

one-most : {n : ℕ} → n < 2 → n ≤ 1
one-most h = omega arith

max-small : {m n : ℕ} → m < 2 → n < 2 → max m n < 2
max-small {m} {n} h k = let e : max m n ≤ 1 = max-le (one-most h) (one-most k) in omega arith

or-bit : (x y k : ℕ) → bit (bit_or x y) k ≡ max (bit x k) (bit y k)
or-bit x y k =
    ap (λ (n : ℕ). n % 2) (or_shr x y k ∙ or_step (x / 2 ^ k) (y / 2 ^ k))
    ∙ digits_mod (bit_or (x / 2 ^ k / 2) (y / 2 ^ k / 2)) (max-small (bit-small x k) (bit-small y k))

-- those of a power of two
power-here : (k : ℕ) → bit (2 ^ k) k ≡ 1
power-here k = ap (λ (n : ℕ). n / 2 ^ k % 2) (sym (one-mul (2 ^ k))) ∙ ap (λ (n : ℕ). n % 2) (shl-shr 1 k)

power_below : (t k : ℕ) → k < t → bit (2 ^ t) k ≡ 0
power_below t k h =
    ap (λ (n : ℕ). 2 ^ n / 2 ^ k % 2) (split t k h)
    ∙ ap (λ (n : ℕ). n / 2 ^ k % 2) (pow-add 2 (suc (t - suc k)) k)
    ∙ ap (λ (n : ℕ). n % 2) (shl-shr (2 ^ suc (t - suc k)) k ∙ pow-suc 2 (t - suc k))
    ∙ mul-mod_left (2 ^ (t - suc k)) 2
  where
    split : (t k : ℕ) → k < t → t ≡ suc (t - suc k) + k
    split t k h = omega arith

power-above : (t k : ℕ) → t < k → bit (2 ^ t) k ≡ 0
power-above t k h = ap (λ (n : ℕ). n % 2) (div-eq_of_lt (pow-lt h))

-- A ZONE MORE
other-bit : (x t b : ℕ) → bit (2 ^ t) b ≡ 0 → eqb t b ≡ false → eqb (bit (bit_or x (2 ^ t)) b) 1 ≡ (eqb (bit x b) 1 || eqb t b)
other-bit x t b e n =
    ap (λ (m : ℕ). eqb m 1) (or-bit x (2 ^ t) b ∙ ap (max (bit x b)) e ∙ max-zero (bit x b))
    ∙ sym (ap (λ (y : Bool). eqb (bit x b) 1 || y) n ∙ or-false (eqb (bit x b) 1))

same_bit : (x t b : ℕ) → t ≡ b → eqb (bit (bit_or x (2 ^ t)) b) 1 ≡ (eqb (bit x b) 1 || eqb t b)
same_bit x t b e =
    ap (λ (m : ℕ). eqb m 1) (or-bit x (2 ^ t) b ∙ ap (max (bit x b)) (ap (λ (n : ℕ). bit (2 ^ n) b) e ∙ power-here b) ∙ max-eq_right (one-most (bit-small x b)))
    ∙ sym (ap (λ (y : Bool). eqb (bit x b) 1 || y) (eq-eqb t b e) ∙ or-true (eqb (bit x b) 1))

bit_added : (x t b : ℕ) → eqb (bit (bit_or x (2 ^ t)) b) 1 ≡ (eqb (bit x b) 1 || eqb t b)
bit_added x t b = elim (dec_lt b t) [
  | yes l ↦ other-bit x t b (power_below t b l) (ne_eqb t b (λ e. omega arith))
  | no g ↦ elim (dec_lt t b) [ yes l ↦ other-bit x t b (power-above t b l) (ne_eqb t b (λ e. omega arith)) | no f ↦ same_bit x t b (omega arith) ]
]

pub member-added : (x t b : ℕ) → t < 16 → member (added x t) b ≡ (member x b || eqb t b)
member-added x t b h = elim (dec_lt b 16) [
  | yes l ↦ within (ltb b 16) (lt-ltb b 16 l)
  | no g ↦ past (ltb b 16) (le-ltb b 16 (omega arith)) (ne_eqb t b (λ e. omega arith))
]
  where
    within : (w : Bool) → w ≡ true → (w && eqb (bit (bit_or x (2 ^ t)) b) 1) ≡ ((w && eqb (bit x b) 1) || eqb t b)
    within true e = bit_added x t b
    within false e = cc

    past : (w : Bool) → w ≡ false → eqb t b ≡ false → (w && eqb (bit (bit_or x (2 ^ t)) b) 1) ≡ ((w && eqb (bit x b) 1) || eqb t b)
    past true e n = cc
    past false e n = sym n

-- THE EMPTY SET
and-false : (a : Bool) → a && false ≡ false
and-false true = refl
and-false false = refl

pub member-none : (b : ℕ) → member 0 b ≡ false
member-none b = ap (λ (n : ℕ). ltb b 16 && eqb (n % 2) 1) (zero-div (2 ^ b)) ∙ and-false (ltb b 16)

-- A ZONE THAT IS ALREADY THERE changes nothing, another does
absorbed : (t x : ℕ) → bit x t ≡ 1 → bit_or x (2 ^ t) ≡ x
absorbed zero x e = or_step x 1 ∙ (λ i. or_zero_r (x / 2) i * 2 + max (odd i) 1) ∙ ap (λ (n : ℕ). x / 2 * 2 + n) (sym odd) ∙ div-add-mod' x 2
  where
    odd : x % 2 ≡ 1
    odd = ap (λ (n : ℕ). n % 2) (sym (div-one x)) ∙ e
absorbed (suc t) x e =
    or_step x (2 ^ suc t)
    ∙ (λ i. bit_or (x / 2) (half i) * 2 + max (x % 2) (even i))
    ∙ (λ i. absorbed t (x / 2) higher i * 2 + max-zero (x % 2) i)
    ∙ div-add-mod' x 2
  where
    half : 2 ^ suc t / 2 ≡ 2 ^ t
    half = ap (λ (n : ℕ). n / 2) (pow-suc 2 t) ∙ shl-shr (2 ^ t) 1

    even : 2 ^ suc t % 2 ≡ 0
    even = ap (λ (n : ℕ). n % 2) (pow-suc 2 t) ∙ mul-mod_left (2 ^ t) 2

    higher : bit (x / 2) t ≡ 1
    higher = let all : 1 + t ≡ suc t = omega arith in ap (λ (n : ℕ). n % 2) (shr-shr x 1 t ∙ ap (λ (n : ℕ). x / 2 ^ n) all) ∙ e

pub held-again : (x t : ℕ) → t < 16 → added x t ≡ x → member x t ≡ true
held-again x t h e = ap (λ (y : ℕ). member y t) (sym e) ∙ member-added x t t h ∙ ap (λ (b : Bool). member x t || b) (eq-eqb t t refl) ∙ or-true (member x t)

pub held-anew : (x t : ℕ) → t < 16 → (added x t ≡ x → ⊥) → member x t ≡ false
held-anew x t h d = by (eqb (bit x t) 1) refl
  where
    by : (b : Bool) → eqb (bit x t) 1 ≡ b → member x t ≡ false
    by true q = absurd (d (absorbed t x (eqb-true (bit x t) 1 q)))
    by false q = ap (λ (b : Bool). ltb t 16 && b) q ∙ and-false (ltb t 16)
