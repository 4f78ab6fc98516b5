-- The search over the lent lists: zones are reached, and gone on from in the order of the queue, until one has
-- import left. Assumes nothing.
use Rattle.std.specs.Prelude.{◌≡◌, refl, List, ℕ, ◌+◌, ◌-◌, ◌≤◌, ◌<◌, length, ℤ, pos, negsuc, None, Some}
use Rattle.std.proofs.Common.{sym, subst, ◌∙◌, arith}
use Rattle.std.proofs.lemmas.Option.{same_Some, none-some}
use Rattle.std.proofs.Math.Decide.{dec_lt}
use Rattle.base_integers.specs.Meaning.Difference.{up, dn}
use Rattle.flow_network.specs.Meaning.Network.{Network, Flow}
use Rattle.flow_positions.specs.Meaning.Positions.{position_at}
use Rattle.flow_pairs.specs.Meaning.Pairs.{network_of}
use Rattle.flow_scratch.specs.Meaning.Places.{amount_at, flow_of}
use Rattle.flow_augment.specs.declared.Label.{Label}
use Rattle.flow_augment.specs.declared.Labels.{Labels}
use Rattle.flow_augment.specs.Steps.Links.{Link}
use Rattle.flow_augment.specs.Meaning.Path.{trail_of, labelled, InputsInRange}
use Rattle.flow_search.specs.declared.Arc.{Arc}
use Rattle.flow_search.specs.Steps.Listing.{Marked, few, fewer}
use Rattle.flow_search.specs.Steps.Search.{Low, DoneTo, Searching, Scanning, Found, search-start, saturated, scan-end, zone-skipped, pair-reaches, pair_found, link_on, link-back}
use Rattle.flow_search.specs.Steps.Labelling.{queue_of, Wide, labelled-wide, labelled-trail, labelled-last, labelled-queue, Seeded}
use Rattle.flow_search.specs.Steps.Arcs.{Residual, along, against, Onto, Passed}
use Rattle.flow_search.specs.Meaning.SearchAnswer.{SearchAnswer}

-- HOW FAR IT IS: the zones before h in the queue are done, and no reached zone has import left
pub record Progress (net_exports prices : List ℤ) (bytes : List ℕ) (s : List ℤ) (m : Labels) (h : ℕ) : Type 0 where
  pub wide : Wide m
  pub no-sink : m.sink ≡ None
  pub search : Searching (network_of net_exports prices bytes) (flow_of s) (trail_of m) (queue_of m) m.count h

-- AND FROM ZONE u, at h in the queue, the arcs to the first w zones are done
pub record Partway (net_exports prices : List ℤ) (bytes : List ℕ) (s : List ℤ) (m : Labels) (h u w : ℕ) : Type 0 where
  pub wide : Wide m
  pub no-sink : m.sink ≡ None
  pub scan : Scanning (network_of net_exports prices bytes) (flow_of s) (trail_of m) (queue_of m) m.count h u w

-- AS THE SEARCH BEGINS
one_way : (x : ℤ) → 0 < up x → dn x ≡ 0
one_way (pos n) h = refl
one_way (negsuc n) h = absurd (omega arith)

pub progress_start : (net_exports prices : List ℤ) (bytes : List ℕ) (s : List ℤ) (m : Labels) → Seeded net_exports s m (length net_exports) → Progress net_exports prices bytes s m 0
progress_start net_exports prices bytes s m r = record {
  wide = r.wide;
  no-sink = r.no-sink;
  search = search-start (network_of net_exports prices bytes) (flow_of s) (trail_of m) (queue_of m) m.count r.listing r.left (λ y p l. r.flat y) (λ y p l. one_way (position_at net_exports y) l);
}

-- ONE ZONE ON, from the zone at h in the queue
module _ (net_exports prices : List ℤ) (bytes : List ℕ) (s : List ℤ) (z : InputsInRange net_exports prices bytes) (m : Labels) (h : ℕ) where
  abbrev c : Network
  c = network_of net_exports prices bytes

  abbrev b : Flow
  b = flow_of s

  -- the zone that it starts from
  pub from-in : Progress net_exports prices bytes s m h → h < m.count → queue_of m h < length net_exports
  from-in p here = p.search.listing.inside h here

  pub count-le : Progress net_exports prices bytes s m h → m.count ≤ 16
  count-le p = omega (arith, few p.search.listing, z.zones)

  -- `w ≡ 0`, and no 0 in its place: another start of the loop is refused for what it leaves out, not for its form
  pub partway-start : (u w : ℕ) → Progress net_exports prices bytes s m h → h < m.count → u ≡ queue_of m h → w ≡ 0 → Partway net_exports prices bytes s m h u w
  partway-start u w p here e start = record { wide = p.wide; no-sink = p.no-sink; scan = record { search = p.search; here = here; is = sym e; part = λ v l. absurd (omega arith) } }

  module _ (u w : ℕ) (p : Partway net_exports prices bytes s m h u w) where
    -- what is known of the zone that it starts from
    pub from-reached : 0 < (trail_of m).lab u
    from-reached = subst (λ (x : ℕ). 0 < (trail_of m).lab x) p.scan.is (p.scan.search.listing.reached h p.scan.here)

    -- the last zone was tried: the zone is done
    pub progress-next : w ≡ length net_exports → Progress net_exports prices bytes s m (h + 1)
    progress-next e = record { wide = p.wide; no-sink = p.no-sink; search = scan-end c b (trail_of m) (queue_of m) m.count h z.placed u w p.scan e }

    -- zone w is reached already, or no arc leads there
    pub partway-passed : Passed prices bytes s m.zones u w → Partway net_exports prices bytes s m h u (w + 1)
    partway-passed n = record { wide = p.wide; no-sink = p.no-sink; scan = zone-skipped c b (trail_of m) (queue_of m) m.count h u w p.scan (by (dec_lt 0 ((trail_of m).lab w))) }
      where
        by : Dec (0 < (trail_of m).lab w) → DoneTo c b (trail_of m) u w
        by (yes l) = record { on = λ j p f g t. l; back = λ j p f g t. l }
        by (no l) = let x = n.none (omega arith) in record { on = λ j p f g t. absurd (x.on.none j p f g t); back = λ j p f g t. absurd (x.back j p f g t) }

    -- an arc leads there
    module _ (l : w < length net_exports) (a : Arc) (n : Onto prices bytes s m.zones u w a) where
      pub pair-low : a.pair < 64
      pair-low = omega (arith, n.pair, z.pairs)

      pub count_low : m.count < 16
      count_low = omega (arith, fewer p.scan.search.listing w l n.new, z.zones)

      zone-low : w < 16
      zone-low = omega (arith, z.zones)

      abbrev label : Label
      label = record { amount = a.amount; depth = m.count; via = a.pair }

      abbrev m' : Labels
      m' = labelled m w label

      mk : Marked (trail_of m) (trail_of m') w a.amount m.count a.pair
      mk = labelled-trail m w label p.wide zone-low count_low

      last : queue_of m' m.count ≡ w
      last = labelled-last m w label p.wide zone-low count_low

      same : (i : ℕ) → i < m.count → queue_of m' i ≡ queue_of m i
      same = labelled-queue m w label p.wide zone-low count_low

      own : (total : ℕ) → Low c b total → Link c b total (trail_of m') w
      own = by n.way
        where
          by : Residual prices bytes s u w ((trail_of m).lab u) a.pair a.amount → (total : ℕ) → Low c b total → Link c b total (trail_of m') w
          by (along f g t e) = link_on c b (trail_of m) (queue_of m) m.count h u w p.scan (trail_of m') (queue_of m') w a.amount a.pair refl mk n.new n.some l n.pair last same f g e t
          by (against f g e t) = link-back c b (trail_of m) (queue_of m) m.count h u w p.scan (trail_of m') (queue_of m') w a.amount a.pair refl mk n.new n.some l n.pair last same f g e t

      -- with no import left the search goes on
      pub partway-reached : dn (position_at net_exports w) - amount_at s (80 + w) ≤ 0 → Partway net_exports prices bytes s m' h u (w + 1)
      partway-reached e = record {
        wide = labelled-wide m w label p.wide zone-low count_low;
        no-sink = p.no-sink;
        scan = pair-reaches c b (trail_of m) (queue_of m) m.count h u w p.scan (trail_of m') (queue_of m') w a.amount a.pair refl mk n.new n.some l n.pair last same own (omega arith);
      }

      -- with import left it is the sink
      pub searched-sink : 0 < dn (position_at net_exports w) - amount_at s (80 + w) → SearchAnswer net_exports prices bytes s (record { zones = m'.zones; queue = m'.queue; count = m'.count; sink = Some w })
      searched-sink e = record {
        found = λ t q. subst (λ (x : ℕ). Found c b (trail_of m') x) (same_Some w t q) (pair_found c b (trail_of m) (queue_of m) m.count h u w p.scan (trail_of m') (queue_of m') w a.amount a.pair refl mk n.new n.some l n.pair last same own (omega arith));
        none = λ q. absurd (none-some w (sym q));
      }

-- AS IT ENDS: all reached zones are done
pub searched-none : (net_exports prices : List ℤ) (bytes : List ℕ) (s : List ℤ) (m : Labels) (h : ℕ) → InputsInRange net_exports prices bytes → Progress net_exports prices bytes s m h → m.count ≤ h → SearchAnswer net_exports prices bytes s m
searched-none net_exports prices bytes s m h z p all = record {
  found = λ t q. absurd (none-some t (sym p.no-sink ∙ q));
  none = λ q ca. saturated (network_of net_exports prices bytes) z.placed (flow_of s) ca (trail_of m) (queue_of m) m.count h p.search all;
}
