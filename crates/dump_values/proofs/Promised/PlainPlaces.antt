-- WHICH VALUE OF A DUMP IS WHICH, by its place, counted from 0, and the case's bytes. Value 0 is the LTA share, 1
-- the system price; then come a share per order, a flow per link and a shadow price per branch. The case's byte 6
-- counts its branches, byte 7 its links, bytes 8 and 9 its orders. Assumes nothing.
use Rattle.std.specs.Prelude.{◌≡◌, Bool, List, ltb, get_or}
use Rattle.std.proofs.Math.Path.{refl, sym, ap}
use Rattle.std.proofs.Common.{◌∙◌, subst, lt-ltb, le-ltb}
use Rattle.std.proofs.Math.Bool.{cond}
use Prim.Native.Nat.{ℕ, suc, ◌+◌, ◌-◌, ◌*◌, ◌≤◌, ◌<◌}
use Rattle.std.proofs.Math.Decide.{dec_lt}
use native.Mathlib.Omega.{arith}
use Rattle.rules.specs.Meaning.Layout.{u8_at, u16_at, orders_in, links_in, quantity_in}
use Rattle.dump_values.specs.Meaning.Field.{Kind, share-of, flow, system-price, shadow-price, after_opening, kind_of}

-- AFTER THE OPENING, by the case's counts
module _ (s : List ℕ) (i : ℕ) where
  pub after-kind : after_opening s i ≡ kind_of s (2 + i)
  unfolding kind_of
  after-kind = ap (kind_of s) two-more
    where
      two-more : suc (suc i) ≡ 2 + i
      two-more = omega arith

  abbrev past : Kind
  past = cond (ltb i (orders_in s + links_in s)) flow shadow-price

  pub order-kind : i < orders_in s → after_opening s i ≡ share-of (quantity_in s i)
  unfolding after_opening
  order-kind h = ap (λ (b : Bool). cond b (share-of (quantity_in s i)) past) (lt-ltb i (orders_in s) h)

  past-orders : orders_in s ≤ i → after_opening s i ≡ past
  unfolding after_opening
  past-orders h = ap (λ (b : Bool). cond b (share-of (quantity_in s i)) past) (le-ltb i (orders_in s) h)

  pub flow-kind : orders_in s ≤ i → i < orders_in s + links_in s → after_opening s i ≡ flow
  flow-kind h l = past-orders h ∙ ap (λ (b : Bool). cond b flow shadow-price) (lt-ltb i (orders_in s + links_in s) l)

  pub shadow-kind : orders_in s ≤ i → orders_in s + links_in s ≤ i → after_opening s i ≡ shadow-price
  shadow-kind h l = past-orders h ∙ ap (λ (b : Bool). cond b flow shadow-price) (le-ltb i (orders_in s + links_in s) l)

-- BY THE CASE'S BYTES
abbrev pub branches : List ℕ → ℕ
branches s = get_or s 6 0

abbrev pub links : List ℕ → ℕ
links s = get_or s 7 0

abbrev pub orders : List ℕ → ℕ
orders s = get_or s 8 0 + 256 * get_or s 9 0

module _ (s : List ℕ) where
  pub first-value : kind_of s 0 ≡ share-of 100000
  unfolding kind_of
  first-value = refl

  pub second-value : kind_of s 1 ≡ system-price
  unfolding kind_of
  second-value = refl

  -- a share of the order's own quantity
  pub order_value : (i : ℕ) → i < orders s → kind_of s (2 + i) ≡ share-of (quantity_in s i)
  unfolding orders_in u16_at
  order_value i h = sym (after-kind s i) ∙ order-kind s i h

  pub link-value : (l : ℕ) → l < links s → kind_of s (2 + (orders s + l)) ≡ flow
  unfolding orders_in links_in u8_at u16_at
  link-value l h = sym (after-kind s (orders s + l)) ∙ flow-kind s (orders s + l) (omega arith) (omega arith)

  pub branch-value : (m : ℕ) → kind_of s (2 + (orders s + links s + m)) ≡ shadow-price
  unfolding orders_in links_in u8_at u16_at
  branch-value m = sym (after-kind s (orders s + links s + m)) ∙ shadow-kind s (orders s + links s + m) (omega arith) (omega arith)

  -- the same by the range of a place n
  from-two : (n i : ℕ) → n ≡ 2 + i → kind_of s n ≡ after_opening s i
  from-two n i e = ap (kind_of s) e ∙ sym (after-kind s i)

  pub order-at : (n : ℕ) → 2 ≤ n → n < 2 + orders s → kind_of s n ≡ share-of (quantity_in s (n - 2))
  unfolding orders_in u16_at
  order-at n h l = from-two n (n - 2) (omega arith) ∙ order-kind s (n - 2) (omega arith)

  pub link-at : (n : ℕ) → 2 + orders s ≤ n → n < 2 + (orders s + links s) → kind_of s n ≡ flow
  unfolding orders_in links_in u8_at u16_at
  link-at n h l = from-two n (n - 2) (omega arith) ∙ flow-kind s (n - 2) (omega arith) (omega arith)

  pub branch-at : (n : ℕ) → 2 + (orders s + links s) ≤ n → kind_of s n ≡ shadow-price
  unfolding orders_in links_in u8_at u16_at
  branch-at n h = from-two n (n - 2) (omega arith) ∙ shadow-kind s (n - 2) (omega arith) (omega arith)

  -- every value is one of these
  pub by_kind : (P : Kind → Type 0) → P (share-of 100000) → P system-price → ((i : ℕ) → i < orders s → P (share-of (quantity_in s i))) → P flow → P shadow-price → (n : ℕ) → P (kind_of s n)
  by_kind P a b c e f n = elim (dec_lt n 1) [
    | yes x ↦ let q : n ≡ 0 = omega arith in subst P (sym (ap (kind_of s) q ∙ first-value)) a
    | no x ↦ elim (dec_lt n 2) [
      | yes y ↦ let q : n ≡ 1 = omega arith in subst P (sym (ap (kind_of s) q ∙ second-value)) b
      | no y ↦ elim (dec_lt n (2 + orders s)) [
        | yes l ↦ subst P (sym (order-at n (omega arith) l)) (c (n - 2) (omega arith))
        | no g ↦ elim (dec_lt n (2 + (orders s + links s))) [ yes l ↦ subst P (sym (link-at n (omega arith) l)) e | no k ↦ subst P (sym (branch-at n (omega arith))) f ]
      ]
    ]
  ]
