-- EVERY FIELD OF CASE AND PROPOSAL IN PLAIN BYTES, for any bytes. `get_or s k 0` is the byte at place k of the file,
-- counted from 0. A field of 16 or 32 bits is the sum of its bytes with their powers of 256; a signed one is that
-- sum or, from 2 ^ 31 on, 2 ^ 32 less. Offsets are the paper's own numbers. Assumes nothing.
use Rattle.std.specs.Prelude.{◌≡◌, ◌⊎◌, Bool, true, false, List, ℕ, ◌+◌, ◌*◌, ◌-◌, ◌≤◌, ◌<◌, suc, eqb, ltb, ℤ, pos, negsuc, neg_ℤ, ◌-ℤ◌, ◌≤ℤ◌}
use Rattle.std.proofs.Math.Path.{refl, ap}
use Rattle.std.proofs.Common.{sym, subst, ◌∙◌, inl, inr, arith, lt-ltb, le-ltb, ltb→lt, nltb→le}
use Rattle.std.proofs.Math.Bool.{cond}
use Rattle.std.proofs.Math.ListN.{get_or}
use Rattle.std.specs.Int.{w32}
use mir.Val.{to_z, sel}
use Rattle.base_integers.specs.Steps.Difference.{at, ◌⊖◌, eq-by, le-by}
use Rattle.base_integers.specs.Steps.Ranges.{is_true, is_false}
use Rattle.rules.specs.Meaning.Layout.{u8_at, u16_at, u32_at, i32_at, case_version, zones_in, branches_in, links_in, orders_in, tolerance_in, branch_size, branch_at, ram_in, ptdf_in, contracts, contracted_size, link_size, link_at, from_in, to_in, capacity_in, contracted_in, order_at, zone_in, side_in, quantity_in, price_in, case_length, proposal_version, share_in, system_in, volume_in, flow_in, shadow_at, shadow_in, proposal_length}

-- two and four bytes from place k on
abbrev pub two : List ℕ → ℕ → ℕ
two s k = get_or s k 0 + 256 * get_or s (k + 1) 0

abbrev pub four : List ℕ → ℕ → ℕ
four s k = get_or s k 0 + 256 * get_or s (k + 1) 0 + 65536 * get_or s (k + 2) 0 + 16777216 * get_or s (k + 3) 0

-- a signed number by the sum of its four bytes
abbrev pub SignedBy : ℤ → ℕ → Type 0
SignedBy z sum = (sum < 2147483648 → z ≡ pos sum) × (2147483648 ≤ sum → sum < 4294967296 → z ≡ pos sum -ℤ pos 4294967296)

four_is : (s : List ℕ) (k : ℕ) → u32_at s k ≡ four s k
unfolding u32_at
four_is s k = omega arith

four-at : (s : List ℕ) (j k : ℕ) → j ≡ k → u32_at s j ≡ four s k
four-at s j k e = ap (u32_at s) e ∙ four_is s k

one_at : (s : List ℕ) (j k : ℕ) → j ≡ k → u8_at s j ≡ get_or s k 0
unfolding u8_at
one_at s j k e = ap (λ (i : ℕ). get_or s i 0) e

signed_by : (n : ℕ) → SignedBy (to_z w32 n) n
signed_by n = (
  λ h. ap (λ (b : Bool). sel b (pos n) (negsuc (4294967296 - suc n))) (lt-ltb n 2147483648 h),
  λ h l. ap (λ (b : Bool). sel b (pos n) (negsuc (4294967296 - suc n))) (le-ltb n 2147483648 h) ∙ eq-by (at (negsuc (4294967296 - suc n))) (at (pos n) ⊖ at (pos 4294967296)) (omega arith),
)

signed-any : (n : ℕ) → (neg_ℤ (pos 2147483648) ≤ℤ to_z w32 n) × (to_z w32 n ≤ℤ pos 2147483647)
signed-any n = by (ltb n 2147483648) refl
  where
    by : (b : Bool) → ltb n 2147483648 ≡ b → (neg_ℤ (pos 2147483648) ≤ℤ sel b (pos n) (negsuc (4294967296 - suc n))) × (sel b (pos n) (negsuc (4294967296 - suc n)) ≤ℤ pos 2147483647)
    by true e = (le-by (at (neg_ℤ (pos 2147483648))) (at (pos n)) (omega arith), le-by (at (pos n)) (at (pos 2147483647)) (omega (arith, ltb→lt n 2147483648 (is_true e))))
    by false e = (le-by (at (neg_ℤ (pos 2147483648))) (at (negsuc (4294967296 - suc n))) (omega (arith, nltb→le n 2147483648 (is_false e))), le-by (at (negsuc (4294967296 - suc n))) (at (pos 2147483647)) (omega arith))

signed-at : (s : List ℕ) (j k : ℕ) → j ≡ k → SignedBy (i32_at s j) (four s k)
unfolding i32_at
signed-at s j k e = subst (λ (n : ℕ). SignedBy (to_z w32 n) (four s k)) (sym (four-at s j k e)) (signed_by (four s k))

-- THE CASE'S HEADER
module _ (s : List ℕ) where
  pub version-bytes : case_version s ≡ get_or s 3 0 + 256 * get_or s 4 0
  unfolding case_version u16_at
  version-bytes = refl

  pub zones-byte : zones_in s ≡ get_or s 5 0
  unfolding zones_in u8_at
  zones-byte = refl

  pub branches-byte : branches_in s ≡ get_or s 6 0
  unfolding branches_in u8_at
  branches-byte = refl

  pub links-byte : links_in s ≡ get_or s 7 0
  unfolding links_in u8_at
  links-byte = refl

  pub orders_bytes : orders_in s ≡ get_or s 8 0 + 256 * get_or s 9 0
  unfolding orders_in u16_at
  orders_bytes = refl

  pub tolerance-bytes : tolerance_in s ≡ get_or s 10 0 + 256 * get_or s 11 0 + 65536 * get_or s 12 0 + 16777216 * get_or s 13 0
  unfolding tolerance_in
  tolerance-bytes = four_is s 10

  -- ITS BRANCHES: four bytes of margin, and four for each zone
  pub margin-bytes : (m : ℕ) → SignedBy (ram_in s m) (four s (14 + m * (4 + 4 * get_or s 5 0)))
  unfolding ram_in branch_at branch_size zones_in u8_at
  margin-bytes m = signed-at s _ _ refl

  pub ptdf-bytes : (m z : ℕ) → SignedBy (ptdf_in s m z) (four s (14 + m * (4 + 4 * get_or s 5 0) + 4 + 4 * z))
  unfolding ptdf_in branch_at branch_size zones_in u8_at
  ptdf-bytes m z = signed-at s _ _ refl

-- a link's bytes: six in version 1, ten in version 2
abbrev pub LinkBytes : List ℕ → ℕ → Type 0
LinkBytes s width = ((two s 3 ≡ 1) × (width ≡ 6)) ⊎ ((two s 3 ≡ 2) × (width ≡ 10))

-- where link l and order i begin
abbrev pub link_start : List ℕ → ℕ → ℕ → ℕ
link_start s width l = 14 + get_or s 6 0 * (4 + 4 * get_or s 5 0) + l * width

abbrev pub order_start : List ℕ → ℕ → ℕ → ℕ
order_start s width i = 14 + get_or s 6 0 * (4 + 4 * get_or s 5 0) + get_or s 7 0 * width + i * 10

size_of : (s : List ℕ) (width : ℕ) → LinkBytes s width → link_size (case_version s) ≡ width
unfolding case_version u16_at contracted_size contracts
size_of s width (inl h) = ap link_size h.0 ∙ sym h.1
size_of s width (inr h) = ap link_size h.0 ∙ sym h.1

module _ (s : List ℕ) (width : ℕ) (is : LinkBytes s width) where
  link-start : (l : ℕ) → link_at s l ≡ link_start s width l
  unfolding link_at branch_size branches_in zones_in u8_at
  link-start l = ap (λ (k : ℕ). 14 + get_or s 6 0 * (4 + 4 * get_or s 5 0) + l * k) (size_of s width is)

  order-start : (i : ℕ) → order_at s i ≡ order_start s width i
  unfolding order_at branch_size branches_in zones_in links_in u8_at
  order-start i = ap (λ (k : ℕ). 14 + get_or s 6 0 * (4 + 4 * get_or s 5 0) + get_or s 7 0 * k + i * 10) (size_of s width is)

  -- ITS LINKS
  pub from_byte : (l : ℕ) → from_in s l ≡ get_or s (link_start s width l) 0
  unfolding from_in
  from_byte l = one_at s _ _ (link-start l)

  pub to-byte : (l : ℕ) → to_in s l ≡ get_or s (link_start s width l + 1) 0
  unfolding to_in
  to-byte l = one_at s _ _ (ap (λ (k : ℕ). k + 1) (link-start l))

  pub capacity-bytes : (l : ℕ) → capacity_in s l ≡ four s (link_start s width l + 2)
  unfolding capacity_in
  capacity-bytes l = four-at s _ _ (ap (λ (k : ℕ). k + 2) (link-start l))

  -- S-4: in version 2 the four bytes after the capacity, in version 1 the capacity's own
  pub contracted-bytes : (l : ℕ) → (two s 3 ≡ 2 → contracted_in s l ≡ four s (link_start s width l + 6)) × (two s 3 ≡ 1 → contracted_in s l ≡ four s (link_start s width l + 2))
  unfolding contracted_in contracts case_version u16_at
  contracted-bytes l = (
    λ e. ap (λ (v : ℕ). cond (eqb v 2) (u32_at s (link_at s l + 6)) (capacity_in s l)) e ∙ four-at s _ _ (ap (λ (k : ℕ). k + 6) (link-start l)),
    λ e. ap (λ (v : ℕ). cond (eqb v 2) (u32_at s (link_at s l + 6)) (capacity_in s l)) e ∙ capacity-bytes l,
  )

  -- ITS ORDERS
  pub zone-byte : (i : ℕ) → zone_in s i ≡ get_or s (order_start s width i) 0
  unfolding zone_in
  zone-byte i = one_at s _ _ (order-start i)

  pub side-byte : (i : ℕ) → side_in s i ≡ get_or s (order_start s width i + 1) 0
  unfolding side_in
  side-byte i = one_at s _ _ (ap (λ (k : ℕ). k + 1) (order-start i))

  pub quantity-bytes : (i : ℕ) → quantity_in s i ≡ four s (order_start s width i + 2)
  unfolding quantity_in
  quantity-bytes i = four-at s _ _ (ap (λ (k : ℕ). k + 2) (order-start i))

  pub price-bytes : (i : ℕ) → SignedBy (price_in s i) (four s (order_start s width i + 6))
  unfolding price_in
  price-bytes i = signed-at s _ _ (ap (λ (k : ℕ). k + 6) (order-start i))

  -- where it ends
  pub case-length-is : case_length s ≡ order_start s width (two s 8)
  unfolding case_length branch_size branches_in zones_in links_in orders_in u16_at u8_at
  case-length-is = ap (λ (k : ℕ). 14 + get_or s 6 0 * (4 + 4 * get_or s 5 0) + get_or s 7 0 * k + two s 8 * 10) (size_of s width is)

-- THE PROPOSAL, t, for the case s
module _ (s t : List ℕ) where
  pub proposal-version-bytes : proposal_version t ≡ get_or t 3 0 + 256 * get_or t 4 0
  unfolding proposal_version u16_at
  proposal-version-bytes = refl

  pub share-bytes : share_in t ≡ get_or t 5 0 + 256 * get_or t 6 0 + 65536 * get_or t 7 0 + 16777216 * get_or t 8 0
  unfolding share_in
  share-bytes = four_is t 5

  pub system-bytes : SignedBy (system_in t) (get_or t 9 0 + 256 * get_or t 10 0 + 65536 * get_or t 11 0 + 16777216 * get_or t 12 0)
  unfolding system_in
  system-bytes = signed-at t 9 9 refl

  -- EVERY SYSTEM PRICE IS ALLOWED: any four bytes are a signed number of 32 bits
  pub system-any : (neg_ℤ (pos 2147483648) ≤ℤ system_in t) × (system_in t ≤ℤ pos 2147483647)
  unfolding system_in i32_at
  system-any = signed-any (u32_at t 9)

  -- one volume per order, one flow per link, one shadow price per branch
  pub volume-bytes : (i : ℕ) → volume_in s t i ≡ four t (13 + 4 * i)
  unfolding volume_in
  volume-bytes i = four_is t _

  pub flow-bytes : (l : ℕ) → flow_in s t l ≡ four t (13 + 4 * (two s 8 + l))
  unfolding flow_in orders_in u16_at
  flow-bytes l = four_is t _

  pub shadow-bytes : (m : ℕ) → shadow_in s t m ≡ four t (13 + 4 * (two s 8 + get_or s 7 0 + m))
  unfolding shadow_in shadow_at orders_in links_in u16_at u8_at
  shadow-bytes m = four_is t _

  pub proposal-length-is : proposal_length s ≡ 13 + 4 * (two s 8 + get_or s 7 0 + get_or s 6 0)
  unfolding proposal_length orders_in links_in branches_in u16_at u8_at
  proposal-length-is = refl
