-- What the table of pairs says of two zones, and the place of the search in its queue. Assumes nothing.
use Rattle.std.specs.Prelude.{◌≡◌, List, ℕ, ◌≤◌, ◌<◌, ℤ}
use Rattle.std.proofs.Common.{sym, ◌∙◌, arith}
use Rattle.flow_pairs.specs.Meaning.Pairs.{pair_count, first_zone, second_zone}
use Rattle.flow_pairs.specs.Meaning.Table.{pair_in, PairsTabled}
use Rattle.flow_augment.specs.declared.Labels.{Labels}
use Rattle.flow_augment.specs.Meaning.Path.{InputsInRange}
use Rattle.flow_search.specs.Steps.SearchAnswer.{Progress, count-le}

module _ (bytes table : List ℕ) (t : PairsTabled bytes (pair_count bytes) table) (few64 : pair_count bytes ≤ 64) (u w : ℕ) (u16 : u < 16) (w16 : w < 16) where
  -- a pair in the table is the pair of its zones
  pub in_table : pair_in table u w < pair_count bytes → (first_zone bytes (pair_in table u w) ≡ u) × (second_zone bytes (pair_in table u w) ≡ w)
  in_table h = (t.sound u w u16 w16 (omega (arith, h, few64))).1

  pub not-in-table : pair_count bytes ≤ pair_in table u w → (j : ℕ) → j < pair_count bytes → first_zone bytes j ≡ u → second_zone bytes j ≡ w → ⊥
  not-in-table h j l f g = omega (arith, h, l, (λ i. pair_in table (sym f i) (sym g i)) ∙ t.complete j l)

-- the place in the queue of the zone from which the search goes on
pub place-low : (net_exports prices : List ℤ) (bytes : List ℕ) (s : List ℤ) (z : InputsInRange net_exports prices bytes) (m : Labels) (h : ℕ) → Progress net_exports prices bytes s m h → h < m.count → h < 16
place-low net_exports prices bytes s z m h p here = omega (arith, here, count-le net_exports prices bytes s z m h p)
