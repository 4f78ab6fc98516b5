-- REQUEST S-5: WHAT A VALUE OF A DUMP BECOMES, by its place: the number of the proposal's field, and when there is
-- none (row 59). Assumes nothing.
use Rattle.std.specs.Prelude.{Bool, false, not, cond, ◌||◌, List, ℕ, zero, suc, ◌+◌, ltb, ℤ, pos, neg_ℤ, Float}
use Rattle.std.specs.Float.Ieee.Scale as float
use Rattle.base_integers.specs.Meaning.Ranges.{Range, range, outside}
use Rattle.base_limits.specs.Meaning.Limits as limits
use Rattle.rules.specs.Meaning.Layout.{orders_in, links_in, quantity_in}
use Rattle.dump_binary64.specs.Meaning.Value.{minus, negative, above_one, product, cut, nearest}

-- a share of a whole, a flow in MW, and the two prices in euros
pub data Kind : Type 0 where
  share-of : ℕ → Kind
  flow : Kind
  system-price : Kind
  shadow-price : Kind

-- THE PLACES: the LTA share and the system price open the dump; then come a share per order, a flow per link, a
-- shadow price per branch of the case s
unfoldable pub after_opening : List ℕ → ℕ → Kind
after_opening s i = cond (ltb i (orders_in s)) (share-of (quantity_in s i)) (cond (ltb i (orders_in s + links_in s)) flow shadow-price)

unfoldable pub kind_of : List ℕ → ℕ → Kind
kind_of s zero = share-of limits.parts_in_one
kind_of s (suc zero) = system-price
kind_of s (suc (suc i)) = after_opening s i

-- ONE PRODUCT, rounded once: shares times quantity, flow times 10, LTA share times 100,000, prices times 100
abbrev pub factor : Kind → ℕ
factor (share-of q) = q
factor flow = 10
factor system-price = 100
factor shadow-price = 100

unfoldable pub product_of : Kind → ℕ → Float
product_of k b = product b (factor k)

-- shares and flows are cut, prices taken to the nearest; only system prices may be below zero
unfoldable pub converted : Kind → ℕ → ℤ
converted (share-of q) b = pos (cut (product_of (share-of q) b))
converted flow b = pos (cut (product_of flow b))
converted system-price b = cond (minus b) (neg_ℤ (pos (nearest (product_of system-price b)))) (pos (nearest (product_of system-price b)))
converted shadow-price b = pos (nearest (product_of shadow-price b))

-- 59: a share outside 0 to 1, a flow or shadow price that is negative, or a result that is infinite or leaves its
-- field's range
abbrev pub forbidden : Kind → ℕ → Bool
forbidden (share-of q) b = negative b || above_one b
forbidden flow b = negative b
forbidden system-price b = false
forbidden shadow-price b = negative b

abbrev pub field_range : Kind → Range
field_range (share-of q) = range (pos 0) (pos q)
field_range flow = range (pos 0) (pos 4294967295)
field_range system-price = limits.system_price
field_range shadow-price = limits.shadow_price

unfoldable pub fault : Kind → ℕ → Bool
fault k b = forbidden k b || (not (float.finite (product_of k b)) || outside (field_range k) (converted k b))
