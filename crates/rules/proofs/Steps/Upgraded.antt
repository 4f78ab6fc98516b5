-- The case of version 2 that `upgraded` makes of a case of version 1: its length, and its fields with their
-- offsets; each value is the same. Assumes nothing.
use Rattle.std.specs.Prelude.{◌≡◌, ◌&&◌, take}
use Rattle.std.proofs.Math.Path.{refl, sym, ap}
use Rattle.std.proofs.Common.{◌∙◌, subst, length-take-le, take_all, get_or-append-add, to_z}
use Rattle.std.proofs.Math.Bool.{not, cond}
use mathlib.Core.List.{List, ◌++◌, append_assoc}
use Prim.Native.Nat.{ℕ, zero, suc, ◌+◌, ◌*◌, ◌-◌, ◌/◌, ◌≤◌, ◌<◌}
use Rattle.std.proofs.Math.Nat.{mul-le-mul_right}
use Rattle.std.proofs.Math.Decide.{dec_lt}
use native.Mathlib.Omega.{arith}
use Rattle.std.proofs.Math.Arith.{digits_div}
use Rattle.std.proofs.Math.Dec.{eqb}
use Rattle.std.proofs.Math.ListN.{length, get_or, drop, length-append, length-drop, get_or-append}
use Rattle.std.proofs.Math.Seq.{get_or-take, get_or-drop}
use Rattle.std.specs.Int.{w32}
use Rattle.base_integers.specs.Meaning.Bytes.{bytes_of}
use Rattle.rules.specs.Meaning.Layout.{u8_at, u16_at, u32_at, i32_at, case_version, zones_in, branches_in, links_in, orders_in, tolerance_in, branch_size, branch_at, branch_field_at, ram_in, ptdf_in, contracts, contracted_size, link_at, link_field_at, from_in, to_in, capacity_in, contracted_in, order_at, order_field_at, zone_in, side_in, quantity_in, price_in, case_length}
use Rattle.rules.specs.Meaning.Hour.{case_of}
use Rattle.rules.specs.Meaning.Verdict.{not_mark, differ}
use Rattle.rules.proofs.Steps.SameTables.{SameTables}
use Rattle.rules.specs.Meaning.Versions.{contracted_link, contracted_links, upgraded, moved_index}

-- HOW MANY BYTES ARE TAKEN
take-most : (n : ℕ) (l : List ℕ) → (length (take n l) ≤ n) × (length (take n l) ≤ length l)
take-most n l = elim (dec_lt (length l) n) [
  | yes h ↦ let e = ap length (take_all n l (omega arith)) in (omega (arith, e), omega (arith, e))
  | no g ↦ let e = length-take-le n l (omega arith) in (omega (arith, e), omega (arith, e))
]

below-take : (n : ℕ) (l : List ℕ) (k : ℕ) → k < n → k < length l → k < length (take n l)
below-take n l k h i = elim (dec_lt (length l) n) [ yes m ↦ omega (arith, ap length (take_all n l (omega arith))) | no g ↦ omega (arith, length-take-le n l (omega arith)) ]

-- THE BYTES
after : (x y : List ℕ) (k m : ℕ) → length x ≡ k → get_or (x ++ y) (k + m) 0 ≡ get_or y m 0
after x y k m e = ap (λ (j : ℕ). get_or (x ++ y) (j + m) 0) (sym e) ∙ get_or-append-add x y m 0

module _ (s : List ℕ) (version-1 : case_version s ≡ 1) (long : 14 ≤ length s) where
  no_bytes : contracted_size (case_version s) ≡ 0
  unfolding contracted_size contracts
  no_bytes = ap contracted_size version-1

  link-at : (l : ℕ) → link_at s l ≡ link_at s 0 + 6 * l
  unfolding link_at
  link-at l = omega (arith, ap (λ (k : ℕ). l * k) no_bytes)

  order-at : (i : ℕ) → order_at s i ≡ link_at s 0 + 6 * links_in s + 10 * i
  unfolding order_at link_at
  order-at i = omega (arith, ap (λ (k : ℕ). links_in s * k) no_bytes)

  header-in : 14 ≤ link_at s 0
  unfolding link_at
  header-in = omega arith

  -- the parts
  abbrev v : List ℕ
  v = upgraded s

  abbrev mark : List ℕ
  mark = take 3 s

  abbrev front : List ℕ
  front = take (link_at s 0 - 5) (drop 5 s)

  abbrev links : List ℕ
  links = contracted_links s (links_in s)

  abbrev orders : List ℕ
  orders = drop (order_at s 0) s

  mark-length : length mark ≡ 3
  mark-length = length-take-le 3 s (omega (arith, long))

  -- the mark and the version
  mark-byte : (k : ℕ) → k < 3 → get_or v k 0 ≡ get_or s k 0
  unfolding upgraded
  mark-byte k h = get_or-append mark (bytes_of 2 2 ++ (front ++ (links ++ orders))) 0 k (omega (arith, mark-length)) ∙ get_or-take 3 s k 0 h

  past-mark : (k : ℕ) → get_or v (3 + k) 0 ≡ get_or (bytes_of 2 2 ++ (front ++ (links ++ orders))) k 0
  unfolding upgraded
  past-mark k = after mark (bytes_of 2 2 ++ (front ++ (links ++ orders))) 3 k mark-length

  pub version-2 : case_version v ≡ 2
  unfolding case_version u16_at bytes_of
  version-2 = λ j. past-mark 0 j + 256 * past-mark 1 j

  -- from byte 5 on
  past-version : (k : ℕ) → get_or v (5 + k) 0 ≡ get_or (front ++ (links ++ orders)) k 0
  unfolding bytes_of
  past-version k = ap (λ (i : ℕ). get_or v i 0) (regroup k) ∙ past-mark (2 + k) ∙ after (bytes_of 2 2) (front ++ (links ++ orders)) 2 k refl
    where
      regroup : (k : ℕ) → 5 + k ≡ 3 + (2 + k)
      regroup k = omega arith

  early : (k : ℕ) → 5 ≤ k → k < link_at s 0 → k < length s → get_or v k 0 ≡ get_or s k 0
  early k h g b =
      let e : k ≡ 5 + (k - 5) = omega arith in
      ap (λ (i : ℕ). get_or v i 0) e
      ∙ past-version (k - 5)
      ∙ get_or-append front (links ++ orders) 0 (k - 5) (below-take (link_at s 0 - 5) (drop 5 s) (k - 5) (omega arith) (omega (arith, length-drop 5 s)))
      ∙ get_or-take (link_at s 0 - 5) (drop 5 s) (k - 5) 0 (omega arith)
      ∙ get_or-drop 5 s (k - 5) 0
      ∙ ap (λ (i : ℕ). get_or s i 0) (sym e)

  -- THE FIELDS, of bytes that are the same
  byte-same : (x y : ℕ) → get_or v (x + 0) 0 ≡ get_or s (y + 0) 0 → get_or v x 0 ≡ get_or s y 0
  byte-same x y e = ap (λ (i : ℕ). get_or v i 0) (plus_none x) ∙ e ∙ ap (λ (i : ℕ). get_or s i 0) (sym (plus_none y))
    where
      plus_none : (n : ℕ) → n ≡ n + 0
      plus_none n = omega arith

  word_same : (x y : ℕ) → ((i : ℕ) → i < 4 → get_or v (x + i) 0 ≡ get_or s (y + i) 0) → u32_at v x ≡ u32_at s y
  unfolding u32_at
  word_same x y h = λ j. byte-same x y (h 0 (omega arith)) j + 256 * (h 1 (omega arith) j + 256 * (h 2 (omega arith) j + 256 * h 3 (omega arith) j))

  pub zones-are : zones_in v ≡ zones_in s
  unfolding zones_in u8_at
  zones-are = early 5 (omega arith) (omega (arith, header-in)) (omega (arith, long))

  pub branches-are : branches_in v ≡ branches_in s
  unfolding branches_in u8_at
  branches-are = early 6 (omega arith) (omega (arith, header-in)) (omega (arith, long))

  pub links-are : links_in v ≡ links_in s
  unfolding links_in u8_at
  links-are = early 7 (omega arith) (omega (arith, header-in)) (omega (arith, long))

  pub orders-are : orders_in v ≡ orders_in s
  unfolding orders_in u16_at
  orders-are = λ j. early 8 (omega arith) (omega (arith, header-in)) (omega (arith, long)) j + 256 * early 9 (omega arith) (omega (arith, header-in)) (omega (arith, long)) j

  pub tolerance-is : tolerance_in v ≡ tolerance_in s
  unfolding tolerance_in
  tolerance-is = word_same 10 10 (λ i h. early (10 + i) (omega arith) (omega (arith, header-in)) (omega (arith, long)))

  -- where rows stand
  branch-at : (m : ℕ) → branch_at v m ≡ branch_at s m
  unfolding branch_at branch_size
  branch-at m = ap (λ (z : ℕ). 14 + m * (4 + 4 * z)) zones-are

  pub branch-field-at : (m n : ℕ) → branch_field_at v m n ≡ branch_field_at s m n
  branch-field-at m zero = branch-at m
  branch-field-at m (suc z) = ap (λ (k : ℕ). k + 4 + 4 * z) (branch-at m)

  link-at-2 : (l : ℕ) → link_at v l ≡ link_at s 0 + 10 * l
  unfolding link_at branch_size contracted_size contracts
  link-at-2 l = (λ j. 14 + branches-are j * (4 + 4 * zones-are j) + l * (6 + contracted_size (version-2 j))) ∙ omega arith

  order-at-2 : (i : ℕ) → order_at v i ≡ link_at s 0 + 10 * links_in s + 10 * i
  unfolding order_at link_at branch_size contracted_size contracts
  order-at-2 i = (λ j. 14 + branches-are j * (4 + 4 * zones-are j) + links-are j * (6 + contracted_size (version-2 j)) + i * 10) ∙ omega arith

  length-2 : case_length v ≡ link_at s 0 + 10 * links_in s + 10 * orders_in s
  unfolding case_length link_at branch_size contracted_size contracts
  length-2 = (λ j. 14 + branches-are j * (4 + 4 * zones-are j) + links-are j * (6 + contracted_size (version-2 j)) + orders-are j * 10) ∙ omega arith

  size-1 : case_length s ≡ link_at s 0 + 6 * links_in s + 10 * orders_in s
  unfolding case_length link_at
  size-1 = omega (arith, ap (λ (k : ℕ). links_in s * k) no_bytes)

  -- the parts' lengths together
  parts-length : length v ≡ 5 + length front + length links + length orders
  unfolding upgraded bytes_of
  parts-length = omega (
    arith,
    length-append mark (bytes_of 2 2 ++ (front ++ (links ++ orders))),
    length-append front (links ++ orders),
    length-append links orders,
    mark-length,
  )

  pub mark-same : not_mark 76 84 67 s ≡ not_mark 76 84 67 v
  unfolding not_mark u8_at
  mark-same = sym (λ j. not (eqb (mark-byte 0 (omega arith) j) 76 && eqb (mark-byte 1 (omega arith) j) 84 && eqb (mark-byte 2 (omega arith) j) 67))

  pub version-same : (differ (case_version s) 1 && differ (case_version s) 2) ≡ (differ (case_version v) 1 && differ (case_version v) 2)
  version-same = ap (λ (n : ℕ). differ n 1 && differ n 2) version-1 ∙ sym (ap (λ (n : ℕ). differ n 1 && differ n 2) version-2)

  -- WHERE THE LAST LINK STANDS WITHIN THE FILE
  module _ (room : order_at s 0 ≤ length s) where
    front_length : length front ≡ link_at s 0 - 5
    front_length = length-take-le (link_at s 0 - 5) (drop 5 s) (omega (arith, length-drop 5 s, room, order-at 0))

    six-length : (l : ℕ) → l < links_in s → length (take 6 (drop (link_at s l) s)) ≡ 6
    six-length l h = length-take-le 6 (drop (link_at s l) s) (omega (arith, length-drop (link_at s l) s, room, order-at 0, link-at l))

    four-length : (l : ℕ) → l < links_in s → length (take 4 (drop (link_at s l + 2) s)) ≡ 4
    four-length l h = length-take-le 4 (drop (link_at s l + 2) s) (omega (arith, length-drop (link_at s l + 2) s, room, order-at 0, link-at l))

    links-length : (m : ℕ) → m ≤ links_in s → length (contracted_links s m) ≡ 10 * m
    unfolding contracted_links contracted_link
    links-length zero h = refl
    links-length (suc l) h =
        length-append (contracted_links s l) (contracted_link s l)
        ∙ omega (arith, links-length l (omega arith), length-append (take 6 (drop (link_at s l) s)) (take 4 (drop (link_at s l + 2) s)), six-length l h, four-length l h)

  pub still-long : 14 ≤ length v
  still-long = omega (arith, parts-length, below-take (link_at s 0 - 5) (drop 5 s) 8 (omega (arith, header-in)) (omega (arith, length-drop 5 s, long)))

  -- a link's field before its contracted volume: where it stands in both
  pub link-moves : (l n : ℕ) → n < 3 → link_field_at v l n ≡ moved_index s 7 (link_field_at s l n)
  unfolding moved_index
  link-moves l n h = place l n h ∙ sym (ap (λ (k : ℕ). link_field_at s l n + 4 * k) (ap (λ (k : ℕ). k / 6) (from_first l n h) ∙ digits_div l (small h)) ∙ back l n h)
    where
      small : {n : ℕ} → n < 3 → n < 6
      small h = omega arith

      from_first : (l n : ℕ) → n < 3 → link_field_at s l n - link_at s 0 ≡ l * 6 + n
      from_first l zero h = omega (arith, link-at l)
      from_first l (suc zero) h = omega (arith, link-at l)
      from_first l (suc (suc zero)) h = omega (arith, link-at l)
      from_first l (suc (suc (suc n))) h = absurd (omega arith)

      place : (l n : ℕ) → n < 3 → link_field_at v l n ≡ link_at s 0 + 10 * l + n
      place l zero h = omega (arith, link-at-2 l)
      place l (suc zero) h = omega (arith, link-at-2 l)
      place l (suc (suc zero)) h = omega (arith, link-at-2 l)
      place l (suc (suc (suc n))) h = absurd (omega arith)

      back : (l n : ℕ) → n < 3 → link_field_at s l n + 4 * l ≡ link_at s 0 + 10 * l + n
      back l zero h = omega (arith, link-at l)
      back l (suc zero) h = omega (arith, link-at l)
      back l (suc (suc zero)) h = omega (arith, link-at l)
      back l (suc (suc (suc n))) h = absurd (omega arith)

  pub order-moves : (i n : ℕ) → order_field_at v i n ≡ moved_index s 8 (order_field_at s i n)
  unfolding moved_index
  order-moves i zero = omega (arith, order-at i, order-at-2 i)
  order-moves i (suc zero) = omega (arith, order-at i, order-at-2 i)
  order-moves i (suc (suc zero)) = omega (arith, order-at i, order-at-2 i)
  order-moves i (suc (suc (suc n))) = omega (arith, order-at i, order-at-2 i)

  -- A CASE OF THE LENGTH THAT ITS HEADER DEMANDS
  module _ (whole : length s ≡ case_length s) where
    size : length s ≡ link_at s 0 + 6 * links_in s + 10 * orders_in s
    size = whole ∙ size-1

    room : order_at s 0 ≤ length s
    room = omega (arith, size, order-at 0)

    upgraded-length : length v ≡ link_at s 0 + 10 * links_in s + 10 * orders_in s
    upgraded-length = omega (arith, parts-length, front_length room, links-length room (links_in s) (omega arith), length-drop (order_at s 0) s, order-at 0, size, header-in)

    pub upgraded-whole : length v ≡ case_length v
    upgraded-whole = upgraded-length ∙ sym length-2

    -- from the first link on
    past-front : (k : ℕ) → get_or v (link_at s 0 + k) 0 ≡ get_or (links ++ orders) k 0
    past-front k =
        let e : link_at s 0 + k ≡ 5 + (link_at s 0 - 5 + k) = omega (arith, header-in) in
        ap (λ (i : ℕ). get_or v i 0) e ∙ past-version (link_at s 0 - 5 + k) ∙ after front (links ++ orders) (link_at s 0 - 5) k (front_length room)

    link-there : (m : ℕ) (rest : List ℕ) (l i : ℕ) → l < m → m ≤ links_in s → i < 10
        → get_or (contracted_links s m ++ rest) (10 * l + i) 0 ≡ get_or (contracted_link s l) i 0
    unfolding contracted_links contracted_link
    link-there zero rest l i h g k = absurd (omega arith)
    link-there (suc m) rest l i h g k =
        ap (λ (x : List ℕ). get_or x (10 * l + i) 0) (append_assoc (contracted_links s m) (contracted_link s m) rest)
        ∙ elim (dec_lt l m) [
          | yes b ↦ link-there m ((contracted_link s m) ++ rest) l i b (omega arith) k
          | no b ↦ last (omega arith)
        ]
      where
        ten : length (contracted_link s m) ≡ 10
        ten = length-append (take 6 (drop (link_at s m) s)) (take 4 (drop (link_at s m + 2) s)) ∙ omega (arith, six-length room m g, four-length room m g)

        last : l ≡ m → get_or (contracted_links s m ++ ((contracted_link s m) ++ rest)) (10 * l + i) 0 ≡ get_or (contracted_link s l) i 0
        last e =
            ap (λ (j : ℕ). get_or (contracted_links s m ++ ((contracted_link s m) ++ rest)) (10 * j + i) 0) e
            ∙ after (contracted_links s m) ((contracted_link s m) ++ rest) (10 * m) i (links-length room m (omega arith))
            ∙ get_or-append (contracted_link s m) rest 0 i (omega (arith, ten))
            ∙ ap (λ (j : ℕ). get_or (contracted_link s j) i 0) (sym e)

    -- byte i of link l, and byte i of its contracted volume
    link-byte : (l i : ℕ) → l < links_in s → i < 6 → get_or v (link_at s 0 + 10 * l + i) 0 ≡ get_or s (link_at s l + i) 0
    unfolding contracted_link
    link-byte l i h k =
        ap (λ (j : ℕ). get_or v j 0) (regroup (link_at s 0) l i)
        ∙ past-front (10 * l + i)
        ∙ link-there (links_in s) orders l i h (omega arith) (omega arith)
        ∙ get_or-append (take 6 (drop (link_at s l) s)) (take 4 (drop (link_at s l + 2) s)) 0 i (omega (arith, six-length room l h))
        ∙ get_or-take 6 (drop (link_at s l) s) i 0 k
        ∙ get_or-drop (link_at s l) s i 0
      where
        regroup : (a l i : ℕ) → a + 10 * l + i ≡ a + (10 * l + i)
        regroup a l i = omega arith

    contracted-byte : (l i : ℕ) → l < links_in s → i < 4 → get_or v (link_at s 0 + 10 * l + 6 + i) 0 ≡ get_or s (link_at s l + 2 + i) 0
    unfolding contracted_link
    contracted-byte l i h k =
        ap (λ (j : ℕ). get_or v j 0) (regroup (link_at s 0) l i)
        ∙ past-front (10 * l + (6 + i))
        ∙ link-there (links_in s) orders l (6 + i) h (omega arith) (omega arith)
        ∙ after (take 6 (drop (link_at s l) s)) (take 4 (drop (link_at s l + 2) s)) 6 i (six-length room l h)
        ∙ get_or-take 4 (drop (link_at s l + 2) s) i 0 k
        ∙ get_or-drop (link_at s l + 2) s i 0
      where
        regroup : (a l i : ℕ) → a + 10 * l + 6 + i ≡ a + (10 * l + (6 + i))
        regroup a l i = omega arith

    order-byte : (k : ℕ) → get_or v (link_at s 0 + 10 * links_in s + k) 0 ≡ get_or s (order_at s 0 + k) 0
    order-byte k =
        ap (λ (j : ℕ). get_or v j 0) (regroup (link_at s 0) (links_in s) k)
        ∙ past-front (10 * links_in s + k)
        ∙ after links orders (10 * links_in s) k (links-length room (links_in s) (omega arith))
        ∙ get_or-drop (order_at s 0) s k 0
      where
        regroup : (a l i : ℕ) → a + 10 * l + i ≡ a + (10 * l + i)
        regroup a l i = omega arith

    -- their fields
    branch-place : (m n : ℕ) → branch_field_at s m n ≡ 14 + m * branch_size s + 4 * n
    unfolding branch_at
    branch-place m zero = omega arith
    branch-place m (suc z) = omega arith

    branch-inside : (m n : ℕ) → m < branches_in s → n < 1 + zones_in s → branch_field_at s m n + 4 ≤ link_at s 0
    unfolding link_at branch_size
    branch-inside m n h k = let b : suc m ≤ branches_in s = h in omega (arith, branch-place m n, mul-le-mul_right (branch_size s) b)

    branch-word : (m n : ℕ) → m < branches_in s → n < 1 + zones_in s → u32_at v (branch_field_at v m n) ≡ u32_at s (branch_field_at s m n)
    branch-word m n h k =
        ap (u32_at v) (branch-field-at m n)
        ∙ word_same (branch_field_at s m n) (branch_field_at s m n) (λ i g. early (branch_field_at s m n + i) (omega (arith, branch-place m n)) (omega (arith, branch-inside m n h k)) (omega (arith, branch-inside m n h k, size)))

    link-field : (l n : ℕ) → l < links_in s → n < 6 → get_or v (link_at v l + n) 0 ≡ get_or s (link_at s l + n) 0
    link-field l n h k = ap (λ (i : ℕ). get_or v (i + n) 0) (link-at-2 l) ∙ link-byte l n h k

    capacity-is : (l : ℕ) → l < links_in s → capacity_in v l ≡ capacity_in s l
    unfolding capacity_in
    capacity-is l h = word_same (link_at v l + 2) (link_at s l + 2) (λ i k.
        ap (λ (j : ℕ). get_or v j 0) (regroup (link_at v l) i) ∙ link-field l (2 + i) h (omega arith) ∙ ap (λ (j : ℕ). get_or s j 0) (sym (regroup (link_at s l) i)))
      where
        regroup : (a i : ℕ) → a + 2 + i ≡ a + (2 + i)
        regroup a i = omega arith

    contracted-is : (l : ℕ) → l < links_in s → contracted_in v l ≡ contracted_in s l
    unfolding contracted_in contracts capacity_in
    contracted-is l h =
        ap (λ (n : ℕ). cond (eqb n 2) (u32_at v (link_at v l + 6)) (capacity_in v l)) version-2
        ∙ word_same (link_at v l + 6) (link_at s l + 2) (λ i k. ap (λ (j : ℕ). get_or v (j + 6 + i) 0) (link-at-2 l) ∙ contracted-byte l i h k)
        ∙ sym (ap (λ (n : ℕ). cond (eqb n 2) (u32_at s (link_at s l + 6)) (capacity_in s l)) version-1)

    order-field : (i n : ℕ) → get_or v (order_at v i + n) 0 ≡ get_or s (order_at s i + n) 0
    order-field i n =
        ap (λ (k : ℕ). get_or v k 0) (omega (arith, order-at-2 i)) ∙ order-byte (10 * i + n) ∙ ap (λ (k : ℕ). get_or s k 0) (omega (arith, order-at i, order-at 0))

    order-word : (i n : ℕ) → u32_at v (order_at v i + n) ≡ u32_at s (order_at s i + n)
    order-word i n = word_same (order_at v i + n) (order_at s i + n) (λ k h.
        ap (λ (j : ℕ). get_or v j 0) (regroup (order_at v i) n k) ∙ order-field i (n + k) ∙ ap (λ (j : ℕ). get_or s j 0) (sym (regroup (order_at s i) n k)))
      where
        regroup : (a b c : ℕ) → a + b + c ≡ a + (b + c)
        regroup a b c = omega arith

    pub same : SameTables (case_of s) (case_of v)
    unfolding case_of ram_in ptdf_in i32_at from_in to_in u8_at zone_in side_in quantity_in price_in
    same = record {
      zones-same = sym zones-are;
      branches-same = sym branches-are;
      links-same = sym links-are;
      orders-same = sym orders-are;
      tolerance-same = sym tolerance-is;
      ram-same = λ m h. sym (ap (to_z w32) (branch-word m 0 h (omega arith)));
      ptdf-same = λ m z h k. sym (ap (to_z w32) (branch-word m (suc z) h (omega arith)));
      from-same = λ l h. sym (byte-same (link_at v l) (link_at s l) (link-field l 0 h (omega arith)));
      to_same = λ l h. sym (link-field l 1 h (omega arith));
      capacity-same = λ l h. sym (capacity-is l h);
      contracted-same = λ l h. sym (contracted-is l h);
      zone-same = λ i h. sym (byte-same (order_at v i) (order_at s i) (order-field i 0));
      side_same = λ i h. sym (order-field i 1);
      quantity-same = λ i h. sym (order-word i 2);
      price-same = λ i h. sym (ap (to_z w32) (order-word i 6));
    }

  -- A CASE OF ANOTHER LENGTH is refused by its header or by 5. So is the case of version 2: one of its parts is also
  -- too short or too long
  module _ (other : length s ≡ case_length s → ⊥) where
    links-most : (m : ℕ) → length (contracted_links s m) ≤ 10 * m
    unfolding contracted_links contracted_link
    links-most zero = omega arith
    links-most (suc l) = omega (
      arith,
      length-append (contracted_links s l) (contracted_link s l),
      links-most l,
      length-append (take 6 (drop (link_at s l) s)) (take 4 (drop (link_at s l + 2) s)),
      take-most 6 (drop (link_at s l) s),
      take-most 4 (drop (link_at s l + 2) s),
    )

    -- where the file ends before the link after l ends
    links-less : (l : ℕ) → length s < link_at s l + 6 → length (contracted_links s (suc l)) < 10 * suc l
    unfolding contracted_links contracted_link
    links-less l h = omega (
      arith,
      length-append (contracted_links s l) (contracted_link s l),
      links-most l,
      length-append (take 6 (drop (link_at s l) s)) (take 4 (drop (link_at s l + 2) s)),
      take-most 6 (drop (link_at s l) s),
      length-drop (link_at s l) s,
      take-most 4 (drop (link_at s l + 2) s),
    )

    last_less : (n : ℕ) → links_in s ≡ n → link_at s 0 ≤ length s → length s < link_at s 0 + 6 * n → length links < 10 * n
    last_less zero e h k = absurd (omega (arith, h, k))
    last_less (suc l) e h k = subst (λ (n : ℕ). length (contracted_links s n) < 10 * suc l) (sym e) (links-less l (omega (arith, link-at l)))

    pub other-too : length v ≡ case_length v → ⊥
    other-too e = elim (dec_lt (length s) (order_at s 0)) [
      | yes b ↦ elim (dec_lt (length s) (link_at s 0)) [
        | yes a ↦ omega (arith, e, length-2, parts-length, take-most (link_at s 0 - 5) (drop 5 s), length-drop 5 s, links-most (links_in s), length-drop (order_at s 0) s, long)
        | no a ↦ omega (arith, e, length-2, parts-length, take-most (link_at s 0 - 5) (drop 5 s), last_less (links_in s) refl (omega arith) (omega (arith, order-at 0)), length-drop (order_at s 0) s, header-in)
      ]
      | no b ↦
          let room : order_at s 0 ≤ length s = omega arith in
          let size : length s ≡ link_at s 0 + 6 * links_in s + 10 * orders_in s = omega (arith, e, length-2, parts-length, front_length room, links-length room (links_in s) (omega arith), length-drop (order_at s 0) s, order-at 0, header-in) in
          other (size ∙ sym size-1)
    ]

-- A FILE OF UNDER 14 BYTES is refused by 1, in both versions
module _ (s : List ℕ) (short : length s < 14) where
  no-links : (m : ℕ) → length (contracted_links s m) ≡ 0
  unfolding contracted_links contracted_link link_at
  no-links zero = refl
  no-links (suc l) = omega (
    arith,
    length-append (contracted_links s l) (contracted_link s l),
    no-links l,
    length-append (take 6 (drop (link_at s l) s)) (take 4 (drop (link_at s l + 2) s)),
    take-most 6 (drop (link_at s l) s),
    length-drop (link_at s l) s,
    take-most 4 (drop (link_at s l + 2) s),
    length-drop (link_at s l + 2) s,
  )

  pub short-too : length (upgraded s) < 14
  unfolding upgraded bytes_of order_at
  short-too = omega (
    arith,
    length-append (take 3 s) (bytes_of 2 2 ++ (take (link_at s 0 - 5) (drop 5 s) ++ (contracted_links s (links_in s) ++ drop (order_at s 0) s))),
    length-append (take (link_at s 0 - 5) (drop 5 s)) (contracted_links s (links_in s) ++ drop (order_at s 0) s),
    length-append (contracted_links s (links_in s)) (drop (order_at s 0) s),
    take-most 3 s,
    take-most (link_at s 0 - 5) (drop 5 s),
    length-drop 5 s,
    no-links (links_in s),
    length-drop (order_at s 0) s,
  )
