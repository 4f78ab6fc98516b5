-- The labels of a search: what reaching a zone changes, and the zones with export left. Assumes nothing.
use Rattle.std.specs.Prelude.{◌≡◌, refl, List, ℕ, ◌+◌, ◌-◌, ◌≤◌, ◌<◌, length, get_or, set, replicate, ℤ, None}
use Rattle.std.proofs.Common.{ap, ◌∙◌, arith, length-set, get_or-set_same, get_or-set_other}
use Rattle.std.proofs.Math.Decide.{ℕ_discrete, dec_lt}
use Rattle.std.proofs.lemmas.List.{get_or-replicate, length-replicate}
use Rattle.std.proofs.Math.ListN.{get_or-eq_default}
use Rattle.base_integers.specs.Meaning.Difference.{up}
use Rattle.flow_positions.specs.Meaning.Positions.{position_at}
use Rattle.flow_scratch.specs.Meaning.Places.{amount_at}
use Rattle.flow_augment.specs.declared.Label.{Label}
use Rattle.flow_augment.specs.declared.Labels.{Labels}
use Rattle.flow_augment.specs.Meaning.Path.{unreached, trail_of, labelled}
use Rattle.flow_search.specs.Steps.Listing.{Listing, Marked, listing_none, listing-extend, listing-mark, few}

abbrev pub queue_of : Labels → ℕ → ℕ
queue_of m i = get_or m.queue i 0

-- each list has sixteen places
pub record Wide (m : Labels) : Type 0 where
  pub zones : length m.zones ≡ 16
  pub queue : length m.queue ≡ 16

-- A ZONE IS REACHED
module _ (m : Labels) (z : ℕ) (l : Label) (wide : Wide m) (zin : z < 16) (room : m.count < 16) where
  pub labelled-wide : Wide (labelled m z l)
  labelled-wide = record { zones = simp length-set wide.zones; queue = simp length-set wide.queue }

  same : get_or (set m.zones z l) z unreached ≡ l
  same = get_or-set_same m.zones z l unreached (omega (arith, wide.zones))

  other : (y : ℕ) → (y ≡ z → ⊥) → get_or (set m.zones z l) y unreached ≡ get_or m.zones y unreached
  other y n = get_or-set_other m.zones z y l unreached n

  pub labelled-trail : Marked (trail_of m) (trail_of (labelled m z l)) z l.amount l.depth l.via
  labelled-trail = record {
    lab = ap (λ (x : Label). x.amount) same;
    dep = ap (λ (x : Label). x.depth) same;
    by = ap (λ (x : Label). x.via) same;
    lab-rest = λ y n. ap (λ (x : Label). x.amount) (other y n);
    dep-rest = λ y n. ap (λ (x : Label). x.depth) (other y n);
    by-rest = λ y n. ap (λ (x : Label). x.via) (other y n);
  }

  pub labelled-last : queue_of (labelled m z l) m.count ≡ z
  labelled-last = get_or-set_same m.queue m.count z 0 (omega (arith, wide.queue))

  pub labelled-queue : (i : ℕ) → i < m.count → queue_of (labelled m z l) i ≡ queue_of m i
  labelled-queue i h = get_or-set_other m.queue m.count i z 0 (λ e. omega arith)

-- THE ZONES WITH EXPORT LEFT among the first z
pub record Seeded (net_exports s : List ℤ) (m : Labels) (z : ℕ) : Type 0 where
  pub wide : Wide m
  pub no-sink : m.sink ≡ None
  pub listing : Listing z (trail_of m) (queue_of m) m.count
  pub left : (y : ℕ) → y < z → (trail_of m).lab y ≡ up (position_at net_exports y) - amount_at s (64 + y)
  pub blank : (y : ℕ) → z ≤ y → (trail_of m).lab y ≡ 0
  pub flat : (y : ℕ) → (trail_of m).dep y ≡ 0

-- labels of no zone
abbrev pub no_labels : Labels
no_labels = record { zones = replicate 16 unreached; queue = replicate 16 0; count = 0; sink = None }

blank : (n y : ℕ) → get_or (replicate n unreached) y unreached ≡ unreached
blank n y = elim (dec_lt y n) [ yes l ↦ get_or-replicate n y unreached unreached l | no l ↦ get_or-eq_default (replicate n unreached) unreached (omega (arith, length-replicate {A = Label} n unreached)) ]

pub seeded-none : (net_exports s : List ℤ) → Seeded net_exports s no_labels 0
seeded-none net_exports s = record {
  wide = record { zones = refl; queue = refl };
  no-sink = refl;
  listing = listing_none (trail_of no_labels) (queue_of no_labels);
  left = λ y h. absurd (omega arith);
  blank = λ y h. ap (λ (x : Label). x.amount) (blank 16 y);
  flat = λ y. ap (λ (x : Label). x.depth) (blank 16 y);
}

-- one zone more
module _ (net_exports s : List ℤ) (m : Labels) (z v : ℕ) (r : Seeded net_exports s m z) (zin : z < 16) (is : v ≡ up (position_at net_exports z) - amount_at s (64 + z)) where
  longer : Listing (z + 1) (trail_of m) (queue_of m) m.count
  longer =
      listing-extend z (trail_of m) (trail_of m) (queue_of m) (queue_of m) m.count r.listing
      (record { lab = r.blank z (omega arith); lab-rest = λ y h. refl; dep-rest = λ y h. refl }) (λ i h. refl)

  pub count_low : m.count < 16
  count_low = omega (arith, few r.listing)

  pub seeded-not : v ≤ 0 → Seeded net_exports s m (z + 1)
  seeded-not h = record {
    wide = r.wide;
    no-sink = r.no-sink;
    listing = longer;
    left = λ y p. by y p (ℕ_discrete y z);
    blank = λ y p. r.blank y (omega arith);
    flat = r.flat;
  }
    where
      by : (y : ℕ) → y < z + 1 → Dec (y ≡ z) → (trail_of m).lab y ≡ up (position_at net_exports y) - amount_at s (64 + y)
      by y p (yes e) = rw e (r.blank z (omega arith) ∙ omega (arith, is))
      by y p (no e) = r.left y (omega arith)

  abbrev root : Label
  root = record { amount = v; depth = 0; via = 0 }

  abbrev m' : Labels
  m' = labelled m z root

  pub seeded-zone : 0 < v → Seeded net_exports s m' (z + 1)
  seeded-zone h =
      let mk = labelled-trail m z root r.wide zin count_low in
      record {
        wide = labelled-wide m z root r.wide zin count_low;
        no-sink = r.no-sink;
        listing =
            listing-mark (z + 1) (trail_of m) (trail_of m') (queue_of m) (queue_of m') m.count z v 0 0 longer mk (r.blank z (omega arith)) h (omega arith) (omega arith)
            (labelled-last m z root r.wide zin count_low) (labelled-queue m z root r.wide zin count_low);
        left = λ y p. by mk y p (ℕ_discrete y z);
        blank = λ y p. mk.lab-rest y (λ e. omega arith) ∙ r.blank y (omega arith);
        flat = λ y. flat mk y (ℕ_discrete y z);
      }
    where
      by : Marked (trail_of m) (trail_of m') z v 0 0 → (y : ℕ) → y < z + 1 → Dec (y ≡ z) → (trail_of m').lab y ≡ up (position_at net_exports y) - amount_at s (64 + y)
      by mk y p (yes e) = rw e (mk.lab ∙ is)
      by mk y p (no e) = mk.lab-rest y e ∙ r.left y (omega arith)

      flat : Marked (trail_of m) (trail_of m') z v 0 0 → (y : ℕ) → Dec (y ≡ z) → (trail_of m').dep y ≡ 0
      flat mk y (yes e) = rw e mk.dep
      flat mk y (no e) = mk.dep-rest y e ∙ r.flat y
