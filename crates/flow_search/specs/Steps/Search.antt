-- THE SEARCH, breadth first from the zones with export left. A zone is done when each counted pair that leaves it,
-- and each pair that enters it and carries something, has its other zone reached. Once all reached zones are done
-- and none has import left, there is no augmenting path. Assumes nothing.
use Rattle.std.specs.Prelude.{◌≡◌, refl, true, ℕ, ◌+◌, ◌-◌, ◌≤◌, ◌<◌, ltb}
use Rattle.std.proofs.Common.{sym, ap, ◌∙◌, arith, lt-ltb, ltb-true, ltb-false}
use Rattle.std.proofs.Math.Decide.{ℕ_discrete, dec_lt}
use Rattle.flow_network.specs.Meaning.Network.{Network, Placed, Flow, Feasible}
use Rattle.flow_network.specs.Steps.Saturated.{Saturated}
use Rattle.flow_augment.specs.Steps.Links.{Trail, Link, Links}
use Rattle.flow_search.specs.Steps.Listing.{Listing, Marked, listing-mark}

-- no flow is above a number
abbrev pub Low : Network → Flow → ℕ → Type 0
Low c b total = (k : ℕ) → k < c.pairs → b.flow k ≤ total

-- pair j leads on from zone y
pub record DoneAt (c : Network) (b : Flow) (m : Trail) (y j : ℕ) : Type 0 where
  pub on : c.from j ≡ y → c.counted j ≡ true → 0 < m.lab (c.to j)
  pub back : c.to j ≡ y → 0 < b.flow j → 0 < m.lab (c.from j)

-- the pairs that lead on from zone u to zone v
pub record DoneTo (c : Network) (b : Flow) (m : Trail) (u v : ℕ) : Type 0 where
  pub on : (j : ℕ) → j < c.pairs → c.from j ≡ u → c.to j ≡ v → c.counted j ≡ true → 0 < m.lab v
  pub back : (j : ℕ) → j < c.pairs → c.to j ≡ u → c.from j ≡ v → 0 < b.flow j → 0 < m.lab v

-- the first h of the reached zones are done, and no reached zone has import left
pub record Searching (c : Network) (b : Flow) (m : Trail) (q : ℕ → ℕ) (e h : ℕ) : Type 0 where
  pub listing : Listing c.zones m q e
  pub links : (total : ℕ) → Low c b total → (n : ℕ) → Links c b total m n
  pub roots : (y : ℕ) → y < c.zones → b.export-used y < c.exports y → 0 < m.lab y
  pub idle : (y : ℕ) → y < c.zones → 0 < m.lab y → c.imports y ≤ b.import-used y
  pub done : (i : ℕ) → i < h → (j : ℕ) → j < c.pairs → DoneAt c b m (q i) j

-- and from zone u, at h in the order, the pairs to the first w zones are done
pub record Scanning (c : Network) (b : Flow) (m : Trail) (q : ℕ → ℕ) (e h u w : ℕ) : Type 0 where
  pub search : Searching c b m q e h
  pub here : h < e
  pub is : q h ≡ u
  pub part : (v : ℕ) → v < w → DoneTo c b m u v

-- a reached zone with import left
pub record Found (c : Network) (b : Flow) (m : Trail) (t : ℕ) : Type 0 where
  pub inside : t < c.zones
  pub reached : 0 < m.lab t
  pub left : b.import-used t < c.imports t
  pub links : (total : ℕ) → Low c b total → (n : ℕ) → Links c b total m n

-- THE NEXT PAIR AND THE NEXT ZONE
module _ (c : Network) (b : Flow) (m : Trail) (q : ℕ → ℕ) (e h : ℕ) where
  pub scan-start : (u : ℕ) → Searching c b m q e h → h < e → q h ≡ u → Scanning c b m q e h u 0
  scan-start u s l w = record { search = s; here = l; is = w; part = λ j p. absurd (omega arith) }

  pub scan-end : Placed c → (u w : ℕ) → Scanning c b m q e h u w → w ≡ c.zones → Searching c b m q e (h + 1)
  scan-end ok u w s all = record {
    listing = s.search.listing;
    links = s.search.links;
    roots = s.search.roots;
    idle = s.search.idle;
    done = λ i p j l. by i p j l (ℕ_discrete h i);
  }
    where
      here : (j : ℕ) → j < c.pairs → DoneAt c b m u j
      here j l = record {
        on = λ f t. (s.part (c.to j) (omega (arith, ok.to-in j l, all))).on j l f refl t;
        back = λ f t. (s.part (c.from j) (omega (arith, ok.from-in j l, all))).back j l f refl t;
      }

      by : (i : ℕ) → i < h + 1 → (j : ℕ) → j < c.pairs → Dec (h ≡ i) → DoneAt c b m (q i) j
      by i p j l (yes x) = let g : u ≡ q i = sym s.is ∙ ap q x in rw g at here j l
      by i p j l (no x) = s.search.done i (omega arith) j l

module _ (c : Network) (b : Flow) (m : Trail) (q : ℕ → ℕ) (e h u w : ℕ) (s : Scanning c b m q e h u w) where
  -- zone u is reached, and its depth is below the count
  pub of-scan : (u < c.zones) × ((0 < m.lab u) × (m.dep u < e))
  of-scan =
      let l = s.search.listing in (
        omega (arith, s.is, l.inside h s.here),
        (omega (arith, ap m.lab s.is, l.reached h s.here), omega (arith, ap m.dep s.is, l.shallow h s.here, s.here)),
      )

  -- zone w is reached already, or nothing leads there
  pub zone-skipped : DoneTo c b m u w → Scanning c b m q e h u (w + 1)
  zone-skipped d = record { search = s.search; here = s.here; is = s.is; part = λ v p. by v p (ℕ_discrete w v) }
    where
      by : (v : ℕ) → v < w + 1 → Dec (w ≡ v) → DoneTo c b m u v
      by v p (yes x) = rw x at d
      by v p (no x) = s.part v (omega arith)

  -- pair k reaches zone z, which is zone w
  module _ (m' : Trail) (q' : ℕ → ℕ) (z v k : ℕ) (at-w : z ≡ w) (mk : Marked m m' z v e k) (new : m.lab z ≡ 0) (some : 0 < v) (zin : z < c.zones) (kin : k < c.pairs) (last : q' e ≡ z) (same : (i : ℕ) → i < e → q' i ≡ q i) where
    -- a reached zone is not z, and stays reached
    stays : (y : ℕ) → 0 < m.lab y → y ≡ z → ⊥
    stays y p w = omega (arith, ap m.lab w)

    more : (y : ℕ) → 0 < m.lab y → 0 < m'.lab y
    more y p = omega (arith, mk.lab-rest y (stays y p))

    to-stays : (y x : ℕ) → DoneTo c b m y x → DoneTo c b m' y x
    to-stays y x d = record { on = λ j l f g t. more x (d.on j l f g t); back = λ j l f g t. more x (d.back j l f g t) }

    done-stays : (y j : ℕ) → DoneAt c b m y j → DoneAt c b m' y j
    done-stays y j d = record { on = λ w t. more (c.to j) (d.on w t); back = λ w t. more (c.from j) (d.back w t) }

    link_stays : (total y : ℕ) → 0 < m.lab y → Link c b total m y → Link c b total m' y
    link_stays total y p l =
        let n = stays y p in
        record {
          root = λ w. omega (arith, l.root (sym (mk.dep-rest y n) ∙ w), mk.lab-rest y n);
          pair = λ w. omega (arith, l.pair (omega (arith, mk.dep-rest y n)), mk.by-rest y n);
          on = λ w f.
              let o = l.on (omega (arith, mk.dep-rest y n)) (ap c.to (sym (mk.by-rest y n)) ∙ f) in
              let x = stays (c.from (m.by y)) (omega (arith, o.lab-le)) in
              rw (mk.by-rest y n) (record {
                counts = o.counts;
                lab-le = omega (arith, o.lab-le, mk.lab-rest y n, mk.lab-rest (c.from (m.by y)) x);
                dep-lt = omega (arith, o.dep-lt, mk.dep-rest y n, mk.dep-rest (c.from (m.by y)) x);
                room = o.room;
              });
          back = λ w f.
              let o = l.back (omega (arith, mk.dep-rest y n)) (λ g. f (ap c.to (mk.by-rest y n) ∙ g)) in
              let x = stays (c.to (m.by y)) (omega (arith, o.lab-le)) in
              rw (mk.by-rest y n) (record {
                leaves = o.leaves;
                lab-le = omega (arith, o.lab-le, mk.lab-rest y n, mk.lab-rest (c.to (m.by y)) x);
                dep-lt = omega (arith, o.dep-lt, mk.dep-rest y n, mk.dep-rest (c.to (m.by y)) x);
                enough = omega (arith, o.enough, mk.lab-rest y n);
              });
        }

    -- with its own link
    module _ (own : (total : ℕ) → Low c b total → Link c b total m' z) where
      all-links : (total : ℕ) → Low c b total → (n : ℕ) → Links c b total m' n
      all-links total low n y p r d = by (ℕ_discrete y z)
        where
          by : Dec (y ≡ z) → Link c b total m' y
          by (yes w) = rw w (own total low)
          by (no w) =
              let g : 0 < m.lab y = omega (arith, mk.lab-rest y w) in link_stays total y g (s.search.links total low (m.dep y) y p g (omega arith))

      pub pair_found : b.import-used z < c.imports z → Found c b m' z
      pair_found left = record { inside = zin; reached = omega (arith, mk.lab); left = left; links = all-links }

      pub pair-reaches : c.imports z ≤ b.import-used z → Scanning c b m' q' (e + 1) h u (w + 1)
      pair-reaches none = record {
        search = record {
          listing = listing-mark c.zones m m' q q' e z v e k s.search.listing mk new some zin (omega arith) last same;
          links = all-links;
          roots = λ y p l. more y (s.search.roots y p l);
          idle = λ y p r. by-idle y p r (ℕ_discrete y z);
          done = λ i p j l. let x = same i (omega (arith, s.here)) in rw x (done-stays (q i) j (s.search.done i p j l));
        };
        here = omega (arith, s.here);
        is = same h s.here ∙ s.is;
        part = λ x p. by_part x p (ℕ_discrete z x);
      }
        where
          by-idle : (y : ℕ) → y < c.zones → 0 < m'.lab y → Dec (y ≡ z) → c.imports y ≤ b.import-used y
          by-idle y p r (yes w) = rw w none
          by-idle y p r (no w) = s.search.idle y p (omega (arith, mk.lab-rest y w))

          now : 0 < m'.lab z
          now = omega (arith, mk.lab)

          by_part : (x : ℕ) → x < w + 1 → Dec (z ≡ x) → DoneTo c b m' u x
          by_part x p (yes g) = let d : DoneTo c b m' u z = record { on = λ j l f y t. now; back = λ j l f y t. now } in rw g at d
          by_part x p (no g) = to-stays u x (s.part x (omega (arith, p, at-w)))

    -- along the pair
    pub link_on : c.from k ≡ u → c.to k ≡ z → v ≡ m.lab u → c.counted k ≡ true → (total : ℕ) → Low c b total → Link c b total m' z
    link_on f w l t total low =
        let o = of-scan in
        let n = stays u o.1.0 in
        record {
          root = λ x. absurd (omega (arith, mk.dep, s.here));
          pair = λ x. omega (arith, mk.by);
          on = λ x g. rw mk.by (record {
            counts = t;
            lab-le = omega (arith, mk.lab, ap m'.lab f, mk.lab-rest u n);
            dep-lt = omega (arith, mk.dep, ap m'.dep f, mk.dep-rest u n, o.1.1);
            room = low k kin;
          });
          back = λ x g. absurd (g (ap c.to mk.by ∙ w));
        }

    -- back along the pair
    pub link-back : c.to k ≡ u → c.from k ≡ z → v ≤ m.lab u → v ≤ b.flow k → (total : ℕ) → Low c b total → Link c b total m' z
    link-back f w l t total low =
        let o = of-scan in
        let n = stays u o.1.0 in
        record {
          root = λ x. absurd (omega (arith, mk.dep, s.here));
          pair = λ x. omega (arith, mk.by);
          on = λ x g. absurd (n (sym f ∙ ap c.to (sym mk.by) ∙ g));
          back = λ x g. rw mk.by (record {
            leaves = w;
            lab-le = omega (arith, mk.lab, ap m'.lab f, mk.lab-rest u n);
            dep-lt = omega (arith, mk.dep, ap m'.dep f, mk.dep-rest u n, o.1.1);
            enough = omega (arith, mk.lab);
          });
        }

-- AS THE SEARCH BEGINS: the zones with export left are reached, and none of them imports
pub search-start : (c : Network) (b : Flow) (m : Trail) (q : ℕ → ℕ) (e : ℕ) → Listing c.zones m q e → ((y : ℕ) → y < c.zones → m.lab y ≡ c.exports y - b.export-used y) → ((y : ℕ) → y < c.zones → 0 < m.lab y → m.dep y ≡ 0)
    → ((y : ℕ) → y < c.zones → 0 < c.exports y → c.imports y ≡ 0) → Searching c b m q e 0
search-start c b m q e l left flat one_way = record {
  listing = l;
  links = λ total low n y p r d. record {
    root = λ w. omega (arith, left y p);
    pair = λ w. absurd (omega (arith, flat y p r));
    on = λ w. absurd (omega (arith, flat y p r));
    back = λ w. absurd (omega (arith, flat y p r));
  };
  roots = λ y p h. omega (arith, left y p);
  idle = λ y p r. omega (arith, one_way y p (omega (arith, left y p)));
  done = λ i p. absurd (omega arith);
}

-- AS IT ENDS: all reached zones are done
pub saturated : (c : Network) → Placed c → (b : Flow) → Feasible c b → (m : Trail) (q : ℕ → ℕ) (e h : ℕ) → Searching c b m q e h → e ≤ h → Saturated c b (λ z. ltb 0 (m.lab z))
saturated c ok b ca m q e h s all = record {
  closed = λ k p t r. lt-ltb 0 (m.lab (c.to k)) ((done (c.from k) k p (ok.from-in k p) (ltb-true 0 (m.lab (c.from k)) r)).on refl t);
  back = λ k p r f. none k p (ltb-true 0 (m.lab (c.to k)) r) (ltb-false 0 (m.lab (c.from k)) f) (dec_lt 0 (b.flow k));
  inside = λ z p r. omega (arith, s.idle z p (ltb-true 0 (m.lab z) r), ca.import-used-le z p);
  outside = λ z p r. used z p (ltb-false 0 (m.lab z) r) (dec_lt (b.export-used z) (c.exports z));
}
  where
    done : (y k : ℕ) → k < c.pairs → y < c.zones → 0 < m.lab y → DoneAt c b m y k
    done y k p l r = let w = s.listing.listed y l r in rw w.is at (s.done w.place (omega (arith, w.place_in)) k p)

    none : (k : ℕ) → k < c.pairs → 0 < m.lab (c.to k) → m.lab (c.from k) ≤ 0 → Dec (0 < b.flow k) → b.flow k ≡ 0
    none k p r f (yes x) = absurd (omega (arith, (done (c.to k) k p (ok.to-in k p) r).back refl x))
    none k p r f (no x) = omega arith

    used : (z : ℕ) → z < c.zones → m.lab z ≤ 0 → Dec (b.export-used z < c.exports z) → b.export-used z ≡ c.exports z
    used z p r (yes x) = absurd (omega (arith, s.roots z p x))
    used z p r (no x) = omega (arith, ca.export-used-le z p)
