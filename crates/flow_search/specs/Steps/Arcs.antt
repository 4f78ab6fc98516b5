-- ARCS of the residual network over the lent lists: along a pair that counts, or back along one that carries
-- something. Assumes nothing.
use Rattle.std.specs.Prelude.{◌≡◌, true, false, List, ℕ, ◌≤◌, ◌<◌, get_or, ℤ, Option, None, Some, SomeIff, MatchOption}
use Rattle.std.proofs.Common.{sym, ap, subst, ◌∙◌, arith}
use Rattle.std.specs.Int.Signed.{le_z}
use Rattle.flow_pairs.specs.Meaning.Pairs.{pair_count, first_zone, second_zone, price_at}
use Rattle.flow_pairs.specs.Meaning.Table.{pair_in, PairsTabled}
use Rattle.flow_scratch.specs.Meaning.Places.{amount_at}
use Rattle.flow_augment.specs.declared.Label.{Label}
use Rattle.flow_augment.specs.Meaning.Path.{unreached}
use Rattle.flow_search.specs.declared.Arc.{Arc}

clash : {A : Type 0} → true ≡ false → A
clash e = let z : ◌≡◌ {A = ℕ} 0 1 = cc in absurd (omega arith)

-- pair r leads from u to w, and no other does
pub record OnlyPair (bytes : List ℕ) (u w r : ℕ) : Type 0 where
  pub pair : r < pair_count bytes
  pub from : first_zone bytes r ≡ u
  pub to : second_zone bytes r ≡ w
  pub only : (j : ℕ) → j < pair_count bytes → first_zone bytes j ≡ u → second_zone bytes j ≡ w → r ≡ j

-- no pair leads from u to w
pub record NoPair (bytes : List ℕ) (u w : ℕ) : Type 0 where
  pub none : (j : ℕ) → j < pair_count bytes → first_zone bytes j ≡ u → second_zone bytes j ≡ w → ⊥

-- the pair from u to w
abbrev pub PairFrom : List ℕ → ℕ → ℕ → Option ℕ → Type 0
PairFrom bytes u w r = MatchOption r (NoPair bytes u w) (OnlyPair bytes u w)

pub pair_from-table : (bytes table : List ℕ) → PairsTabled bytes (pair_count bytes) table → pair_count bytes ≤ 64 → (u w : ℕ) → u < 16 → w < 16
    → (r : Option ℕ) → SomeIff r (pair_in table u w < 64) (pair_in table u w) → PairFrom bytes u w r
pair_from-table bytes table t few u w u16 w16 None h =
    record { none = λ j l f g. h (omega (arith, l, few, (λ i. pair_in table (sym f i) (sym g i)) ∙ t.complete j l)) }
pair_from-table bytes table t few u w u16 w16 (Some k) h =
    let z = t.sound u w u16 w16 h.0 in
    let p : OnlyPair bytes u w (pair_in table u w) = record { pair = z.0; from = z.1.0; to = z.1.1; only = λ j l f g. (λ i. pair_in table (sym f i) (sym g i)) ∙ t.complete j l } in
    subst (OnlyPair bytes u w) (sym h.1) p

-- a pair counts
abbrev pub Counts : List ℤ → List ℕ → ℕ → Type 0
Counts prices bytes k = le_z (price_at prices (first_zone bytes k)) (price_at prices (second_zone bytes k)) ≡ true

-- no pair that counts leads from u to w
pub record NoneCounts (prices : List ℤ) (bytes : List ℕ) (u w : ℕ) : Type 0 where
  pub none : (j : ℕ) → j < pair_count bytes → first_zone bytes j ≡ u → second_zone bytes j ≡ w → Counts prices bytes j → ⊥

-- pair r leads from u to w and counts
pub record OnlyCounts (prices : List ℤ) (bytes : List ℕ) (u w r : ℕ) : Type 0 where
  pub pair : r < pair_count bytes
  pub from : first_zone bytes r ≡ u
  pub to : second_zone bytes r ≡ w
  pub counts : Counts prices bytes r

-- the pair from u to w, if it counts
abbrev pub PairOn : List ℤ → List ℕ → ℕ → ℕ → Option ℕ → Type 0
PairOn prices bytes u w r = MatchOption r (NoneCounts prices bytes u w) (OnlyCounts prices bytes u w)

module _ (prices : List ℤ) (bytes : List ℕ) (u w : ℕ) where
  pub on-not-counted : le_z (price_at prices u) (price_at prices w) ≡ false → NoneCounts prices bytes u w
  on-not-counted e = record { none = λ j p f g t. clash (sym t ∙ (λ i. le_z (price_at prices (f i)) (price_at prices (g i))) ∙ e) }

  pub on-counted : le_z (price_at prices u) (price_at prices w) ≡ true → (r : Option ℕ) → PairFrom bytes u w r → PairOn prices bytes u w r
  on-counted e None h = record { none = λ j p f g t. h.none j p f g }
  on-counted e (Some k) h = record { pair = h.pair; from = h.from; to = h.to; counts = (λ i. le_z (price_at prices (h.from i)) (price_at prices (h.to i))) ∙ e }

-- NO ARC leads from zone u to zone w
pub record NoArc (prices : List ℤ) (bytes : List ℕ) (s : List ℤ) (u w : ℕ) : Type 0 where
  pub on : NoneCounts prices bytes u w
  pub back : (j : ℕ) → j < pair_count bytes → second_zone bytes j ≡ u → first_zone bytes j ≡ w → 0 < amount_at s j → ⊥

-- AN ARC: pair k brings x of v from zone u to zone w
pub data Residual (prices : List ℤ) (bytes : List ℕ) (s : List ℤ) (u w v k x : ℕ) : Type 0 where
  along : first_zone bytes k ≡ u → second_zone bytes k ≡ w → Counts prices bytes k → x ≡ v → Residual prices bytes s u w v k x
  against : second_zone bytes k ≡ u → first_zone bytes k ≡ w → x ≤ v → x ≤ amount_at s k → Residual prices bytes s u w v k x

-- how much more can be brought to a zone
abbrev pub brought : List Label → ℕ → ℕ
brought zones z = (get_or zones z unreached).amount

-- an arc from zone u to zone w, which is not reached
pub record Onto (prices : List ℤ) (bytes : List ℕ) (s : List ℤ) (zones : List Label) (u w : ℕ) (a : Arc) : Type 0 where
  pub new : brought zones w ≡ 0
  pub some : 0 < a.amount
  pub pair : a.pair < pair_count bytes
  pub way : Residual prices bytes s u w (brought zones u) a.pair a.amount

-- zone w is reached, or no arc leads there
pub record Passed (prices : List ℤ) (bytes : List ℕ) (s : List ℤ) (zones : List Label) (u w : ℕ) : Type 0 where
  pub none : brought zones w ≡ 0 → NoArc prices bytes s u w

-- the arc from zone u to zone w
abbrev pub Tried : List ℤ → List ℕ → List ℤ → List Label → ℕ → ℕ → Option Arc → Type 0
Tried prices bytes s zones u w r = MatchOption r (Passed prices bytes s zones u w) (Onto prices bytes s zones u w)

module _ (prices : List ℤ) (bytes : List ℕ) (s : List ℤ) (u w : ℕ) (on : NoneCounts prices bytes u w) where
  -- no pair leads back
  pub no-pair : NoPair bytes w u → NoArc prices bytes s u w
  no-pair h = record { on = on; back = λ j l f g x. h.none j l g f }

  -- the pair that leads back carries nothing
  pub carries-nothing : (k : ℕ) → OnlyPair bytes w u k → amount_at s k ≡ 0 → NoArc prices bytes s u w
  carries-nothing k h e = record { on = on; back = λ j l f g x. omega (arith, e, x, ap (amount_at s) (h.only j l g f)) }
