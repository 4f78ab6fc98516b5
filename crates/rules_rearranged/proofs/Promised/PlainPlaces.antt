-- S-9 IN PLAIN BYTES: where each byte of a rearranged case and of a rearranged proposal comes from, with offsets
-- and sizes as numbers. `get_or s k 0` is the byte at place k of the file, counted from 0. Assumes nothing.
use Rattle.std.specs.Prelude.{◌≡◌, List, ℕ, ◌+◌, ◌*◌, ◌≤◌, ◌<◌}
use Rattle.std.proofs.Math.Path.{sym, subst}
use Rattle.std.proofs.Common.{◌∙◌, arith}
use Rattle.std.proofs.Math.ListN.{length, get_or, get_or-eq_default}
use Rattle.rules.specs.Meaning.Layout.{u8_at, u16_at, links_in, branches_in, orders_in, order_at, case_length, proposal_length}
use Rattle.rules.proofs.Promised.PlainLayout.{LinkBytes, case-length-is}
use Rattle.rules.proofs.Promised.PlainFacts.{CaseFacts, facts-readable}
use Rattle.rules_rearranged.specs.Meaning.Permutation.{Permutation}
use Rattle.rules_rearranged.specs.Meaning.Rearranged.{Reordered, rearranged_case, rearranged_proposal}
use Rattle.rules_rearranged.proofs.Promised.Places.{orders-moved, no-other-case, proposal-volumes-moved, no-other-proposal}

-- WHERE THE ORDERS START, with links of `width` bytes, and how many there are
abbrev pub start : List ℕ → ℕ → ℕ
start s width = 14 + get_or s 6 0 * (4 + 4 * get_or s 5 0) + get_or s 7 0 * width

abbrev pub orders : List ℕ → ℕ
orders s = get_or s 8 0 + 256 * get_or s 9 0

-- THE CASE s': ten bytes to an order, order i from where order `source i` stood; every other byte is unchanged. A
-- link has 6 bytes in version 1, 10 in version 2
pub record OrdersMoved (s s'' : List ℕ) (width : ℕ) (source : ℕ → ℕ) : Type 0 where
  pub long : length s'' ≡ length s
  pub before : (k : ℕ) → k < start s width → get_or s'' k 0 ≡ get_or s k 0
  pub order : (i k : ℕ) → i < orders s → k < 10 → get_or s'' (start s width + i * 10 + k) 0 ≡ get_or s (start s width + source i * 10 + k) 0

-- THE PROPOSAL t': four bytes to a volume, from byte 13 on; flows and shadow prices after them stay
pub record VolumesMoved (s t t'' : List ℕ) (source : ℕ → ℕ) : Type 0 where
  pub long : length t'' ≡ length t
  pub before : (k : ℕ) → k < 13 → get_or t'' k 0 ≡ get_or t k 0
  pub volume : (i k : ℕ) → i < orders s → k < 4 → get_or t'' (13 + i * 4 + k) 0 ≡ get_or t (13 + source i * 4 + k) 0
  pub after : (k : ℕ) → 13 + orders s * 4 ≤ k → get_or t'' k 0 ≡ get_or t k 0

start_is : (s : List ℕ) (width : ℕ) → LinkBytes s width → order_at s 0 ≡ start s width
unfolding orders_in u16_at order_at case_length
start_is s width v = omega (arith, case-length-is s width v)

module _ (s : List ℕ) (f : CaseFacts s) (π : Permutation (orders_in s)) where
  module _ (width : ℕ) (v : LinkBytes s width) where
    pub orders-stand : OrdersMoved s (rearranged_case s π) width π.source
    unfolding orders_in u16_at
    orders-stand = let m = subst (λ (p : ℕ). Reordered p 10 (orders s) π.source s (rearranged_case s π)) (start_is s width v) (orders-moved s (facts-readable s f) π) in record { long = m.long; before = m.before; order = m.row }

    -- no other file has this
    pub no_other : (other : List ℕ) → OrdersMoved s other width π.source → other ≡ rearranged_case s π
    unfolding orders_in u16_at
    no_other other m =
        let e = start_is s width v in
        let ends : length s ≡ start s width + orders s * 10 = f.length-is ∙ case-length-is s width v in
        let past : (k : ℕ) → start s width + orders s * 10 ≤ k → get_or other k 0 ≡ get_or s k 0 =
        λ k h. get_or-eq_default other 0 (omega (arith, h, ends, m.long)) ∙ sym (get_or-eq_default s 0 (omega (arith, h, ends))) in
        no-other-case s (facts-readable s f) π other (subst (λ (p : ℕ). Reordered p 10 (orders s) π.source s other) (sym e) (record { long = m.long; before = m.before; row = m.order; after = past }))

  module _ (t : List ℕ) (right : length t ≡ 13 + 4 * (orders s + get_or s 7 0 + get_or s 6 0)) where
    demanded : length t ≡ proposal_length s
    unfolding proposal_length orders_in links_in branches_in u16_at u8_at
    demanded = right

    pub volumes-stand : VolumesMoved s t (rearranged_proposal s π t) π.source
    unfolding orders_in u16_at
    volumes-stand = let m = proposal-volumes-moved s (facts-readable s f) π t demanded in record { long = m.long; before = m.before; volume = m.row; after = m.after }

    pub no-other-volumes : (other : List ℕ) → VolumesMoved s t other π.source → other ≡ rearranged_proposal s π t
    unfolding orders_in u16_at
    no-other-volumes other m = no-other-proposal s (facts-readable s f) π t demanded other (record { long = m.long; before = m.before; row = m.volume; after = m.after })
