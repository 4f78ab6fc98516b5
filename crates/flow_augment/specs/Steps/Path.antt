-- An augmenting path over the lent lists: the pairs' bytes, the scratch and the labels. Assumes nothing.
use Rattle.std.specs.Prelude.{◌≡◌, List, ℕ, ◌+◌, ◌-◌, ◌≤◌, ◌<◌, length, get_or, set, ℤ, pos}
use Rattle.std.proofs.Common.{sym, ap, ◌∙◌, arith, length-set}
use Rattle.std.proofs.Math.Decide.{ℕ_discrete}
use Rattle.base_integers.specs.Meaning.Difference.{up}
use Rattle.flow_network.specs.Meaning.Network.{Network}
use Rattle.flow_pairs.specs.Meaning.Pairs.{pair_count, first_zone, second_zone, network_of}
use Rattle.flow_scratch.specs.Meaning.Places.{amount_at, flow_of}
use Rattle.flow_scratch.specs.Steps.Scratch.{Rest, rest-set, set-flow, set-export-used, set-import-used}
use Rattle.flow_augment.specs.Steps.Lacking.{Lacking, State, more-along, less-along, use-import, use-export}
use Rattle.flow_augment.specs.Steps.Links.{Trail, Link, Links, links-on, links-back, links-import-used}
use Rattle.flow_augment.specs.Meaning.Path.{InputsInRange, Augment}

-- A PATH WALKED BACK, at zone z, which lacks d
pub record PathBack (net_exports prices : List ℤ) (total : ℕ) (bytes : List ℕ) (s : List ℤ) (m : Trail) (d z : ℕ) : Type 0 where
  pub sized : InputsInRange net_exports prices bytes
  pub room : 96 ≤ length s
  pub lacking : Lacking (network_of net_exports prices bytes) (flow_of s) total d z
  pub links : Links (network_of net_exports prices bytes) (flow_of s) total m (m.dep z)
  pub inside : z < length net_exports
  pub some : 0 < d
  pub lab : d ≤ m.lab z
  pub few : total + d < 4611686018427387904

pub record SomePath (bytes : List ℕ) (s : List ℤ) (m : Trail) (d z : ℕ) : Type 0 where
  pub net_exports : List ℤ
  pub prices : List ℤ
  pub total : ℕ
  pub path : PathBack net_exports prices total bytes s m d z

-- one step back: the flow of the pair, and the zone that then lacks d
pub record Shifted (bytes : List ℕ) (s s' : List ℤ) (k z d r : ℕ) : Type 0 where
  pub on : second_zone bytes k ≡ z → (r ≡ first_zone bytes k) × (s' ≡ set s k (pos (amount_at s k + d)))
  pub back : (second_zone bytes k ≡ z → ⊥) → (r ≡ second_zone bytes k) × (s' ≡ set s k (pos (amount_at s k - d)))

module _ (net_exports prices : List ℤ) (total : ℕ) (bytes : List ℕ) (s : List ℤ) (m : Trail) (d z : ℕ) (ch : PathBack net_exports prices total bytes s m d z) where
  abbrev network : Network
  network = network_of net_exports prices bytes

  pub here : Link network (flow_of s) total m z
  here = ch.links z ch.inside (omega (arith, ch.some, ch.lab)) (omega arith)

  pub path-on : 0 < m.dep z → second_zone bytes (m.by z) ≡ z → PathBack net_exports prices total bytes (set s (m.by z) (pos (amount_at s (m.by z) + d))) m d (first_zone bytes (m.by z))
  path-on h e =
      let k = m.by z in
      let o = here.on h e in
      let p = here.pair h in
      let g = set-flow network s k (amount_at s k + d) ch.sized.zones ch.sized.pairs ch.room p in
      let b' = flow_of (set s k (pos (amount_at s k + d))) in
      record {
        sized = ch.sized;
        room = simp length-set ch.room;
        lacking = more-along network (flow_of s) b' total d k z ch.lacking p e o.counts o.room g;
        links = links-on network (flow_of s) b' total d m z ch.links e g (m.dep (first_zone bytes k)) o.dep-lt;
        inside = ch.sized.placed.from-in k p;
        some = ch.some;
        lab = omega (arith, ch.lab, o.lab-le);
        few = ch.few;
      }

  pub path-back : 0 < m.dep z → (second_zone bytes (m.by z) ≡ z → ⊥) → PathBack net_exports prices total bytes (set s (m.by z) (pos (amount_at s (m.by z) - d))) m d (second_zone bytes (m.by z))
  path-back h e =
      let k = m.by z in
      let o = here.back h e in
      let p = here.pair h in
      let g = set-flow network s k (amount_at s k - d) ch.sized.zones ch.sized.pairs ch.room p in
      let b' = flow_of (set s k (pos (amount_at s k - d))) in
      record {
        sized = ch.sized;
        room = simp length-set ch.room;
        lacking = less-along network (flow_of s) b' total d k z ch.lacking p o.leaves (omega (arith, ch.lab, o.enough)) g;
        links = links-back network (flow_of s) b' total d m z ch.links o.leaves g (m.dep (second_zone bytes k)) o.dep-lt;
        inside = ch.sized.placed.to-in k p;
        some = ch.some;
        lab = omega (arith, ch.lab, o.lab-le);
        few = ch.few;
      }

  pub step-safe : 0 < m.dep z → (m.by z < pair_count bytes) × ((amount_at s (m.by z) + d < 9223372036854775808) × ((second_zone bytes (m.by z) ≡ z → ⊥) → d ≤ amount_at s (m.by z)))
  step-safe h = (here.pair h, (omega (arith, ch.lacking.flows (m.by z) (here.pair h), ch.few), λ e. omega (arith, (here.back h e).enough, ch.lab)))

  pub path-step : 0 < m.dep z → (s' : List ℤ) (r : ℕ) → Shifted bytes s s' (m.by z) z d r → PathBack net_exports prices total bytes s' m d r × ((m.dep r < m.dep z) × Rest s s')
  path-step h s' r sh = by (ℕ_discrete (second_zone bytes (m.by z)) z)
    where
      k96 : m.by z < 96
      k96 = omega (arith, here.pair h, ch.sized.pairs)

      by : Dec (second_zone bytes (m.by z) ≡ z) → PathBack net_exports prices total bytes s' m d r × ((m.dep r < m.dep z) × Rest s s')
      by (yes e) =
          let q = sh.on e in
          rw (q.0, q.1) (path-on h e, ((here.on h e).dep-lt, rest-set s (m.by z) (pos (amount_at s (m.by z) + d)) k96))
      by (no e) =
          let q = sh.back e in
          rw (q.0, q.1) (path-back h e, ((here.back h e).dep-lt, rest-set s (m.by z) (pos (amount_at s (m.by z) - d)) k96))

-- where a walk ends: in a zone with export left
pub record Walked (bytes : List ℕ) (s s' : List ℤ) (m : Trail) (d z r : ℕ) : Type 0 where
  pub path : (net_exports prices : List ℤ) (total : ℕ) → PathBack net_exports prices total bytes s m d z → PathBack net_exports prices total bytes s' m d r
  pub root : m.dep r ≡ 0
  pub rest : Rest s s'

module _ (bytes : List ℕ) (s s' : List ℤ) (k z d r b x : ℕ) (second : b ≡ second_zone bytes k) (old : x ≡ amount_at s k) where
  pub shifted-on : b ≡ z → r ≡ first_zone bytes k → s' ≡ set s k (pos (x + d)) → Shifted bytes s s' k z d r
  shifted-on e f g = record { on = λ w. (f, g ∙ ap (λ (y : ℕ). set s k (pos (y + d))) old); back = λ w. absurd (w (sym second ∙ e)) }

  pub shifted_back : (b ≡ z → ⊥) → r ≡ b → s' ≡ set s k (pos (x - d)) → Shifted bytes s s' k z d r
  shifted_back e f g = record { on = λ w. absurd (e (second ∙ w)); back = λ w. (f ∙ second, g ∙ ap (λ (y : ℕ). set s k (pos (y - d))) old) }

module _ (net_exports prices : List ℤ) (total : ℕ) (bytes : List ℕ) (s : List ℤ) (m : Trail) (d t : ℕ) where
  pub path-start : Augment net_exports prices total bytes s m d t → PathBack net_exports prices total bytes (set s (80 + t) (pos (amount_at s (80 + t) + d))) m d t
  path-start p =
      let c = network_of net_exports prices bytes in
      let v = amount_at s (80 + t) + d in
      let g = set-import-used c s t v p.sized.zones p.sized.pairs p.room p.inside in
      record {
        sized = p.sized;
        room = simp length-set p.room;
        lacking = use-import c (flow_of s) (flow_of (set s (80 + t) (pos v))) total d t p.state p.inside g p.left;
        links = links-import-used c (flow_of s) (flow_of (set s (80 + t) (pos v))) total d m t v (m.dep t) (p.links (m.dep t)) g;
        inside = p.inside;
        some = p.some;
        lab = p.lab;
        few = p.few;
      }

  pub root-left : PathBack net_exports prices total bytes s m d t → m.dep t ≡ 0 → amount_at s (64 + t) + d ≤ up (get_or net_exports t (pos 0))
  root-left ch e = omega (arith, (here net_exports prices total bytes s m d t ch).root e, ch.lab)

  pub path-end : PathBack net_exports prices total bytes s m d t → m.dep t ≡ 0 → State (network_of net_exports prices bytes) (flow_of (set s (64 + t) (pos (amount_at s (64 + t) + d)))) (total + d)
  path-end ch e =
      let c = network_of net_exports prices bytes in
      let v = amount_at s (64 + t) + d in
      let g = set-export-used c s t v ch.sized.zones ch.sized.pairs ch.room ch.inside in
      use-export c (flow_of s) (flow_of (set s (64 + t) (pos v))) total d t ch.lacking ch.inside g (root-left ch e)

  pub path-start-at : (i : ℕ) (s' : List ℤ) → i ≡ amount_at s (80 + t) → s' ≡ set s (80 + t) (pos (i + d)) → Augment net_exports prices total bytes s m d t
      → PathBack net_exports prices total bytes s' m d t
  path-start-at i s' e f p = rw (f, e) (path-start p)

  pub path-end-at : (i : ℕ) (s' : List ℤ) → i ≡ amount_at s (64 + t) → s' ≡ set s (64 + t) (pos (i + d)) → PathBack net_exports prices total bytes s m d t → m.dep t ≡ 0
      → State (network_of net_exports prices bytes) (flow_of s') (total + d)
  path-end-at i s' e f ch z = rw (f, e) (path-end ch z)
