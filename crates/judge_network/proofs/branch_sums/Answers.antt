-- Each branch and zone is one of the case's, the table and the parts are the hour's, and so the loads, prices and
-- total fit; the test of a branch is the rule's.
use Rattle.std.proofs.Common.{◌≡◌, List, [], ℕ, ◌+◌, ◌<◌, Bool, get_or, refl, ap, sym, subst, ◌∙◌, arith, below_none, SFits, to_z, of_z}
use Rattle.std.proofs.Math.ListN.{get_or-replicate}
use Rattle.std.proofs.Math.IntN.{ℤ, pos, ◌+ℤ◌, ◌-ℤ◌, ◌*ℤ◌, +ℤ_idr, +ℤ_assoc}
use Rattle.std.proofs.Math.Facts.{to_z-of_z}
use Rattle.std.specs.Int.{w32, w64}
use Rattle.std.specs.Int.Signed.{lt_z}
use Rattle.std.specs.Ordering.{int_cmp, is_lt}
use Rattle.base_measures.specs.Steps.Derived.{less-is}
use Rattle.base_integers.specs.Meaning.Ranges.{Within}
use Rattle.base_integers.specs.Meaning.Sums.{sum_to}
use Rattle.base_integers.specs.Meaning.Machine.{SumsFit}
use Rattle.base_integers.specs.Steps.Sums.{sum_more, sum-scale-l}
use Rattle.base_integers.specs.Steps.Size.{Near, near_fits, near_sub, near_mul, near-pos, near-unsigned, near_within}
use Rattle.base_integers.specs.Steps.Machine.{step, step_fits, sfits-by}
use Rattle.base_limits.specs.Meaning.Limits as limits
use Rattle.base_limits.specs.Meaning.Limits.{parts_in_one, grains_of}
use Rattle.base_measures.specs.declared.Grains.{Grains}
use Rattle.base_measures.specs.declared.Tenths.{Tenths}
use Rattle.base_measures.specs.Meaning.TenthsHold.{tenths_at, TenthsHold}
use Rattle.rules.specs.Meaning.Layout.{shadow_in, ram_in}
use Rattle.rules.specs.Meaning.Hour.{case_of, plan_of, prices_of, fb_part, branch_use, branch_room, branch_price, branch_value, branch_total, zone_price}
use Rattle.base_causes.specs.Meaning.Causes.{first_below}
use Rattle.base_causes.proofs.Promised.CauseLaws.{first-here, first-later, first-nowhere}
use Rattle.rules.specs.Meaning.Verdict.{◌over_z◌}
use Rattle.rules.proofs.Steps.Duality.{times-grains}
use Rattle.rules.proofs.Promised.Fits.{branchUse-sums, branchTotal-sums, system-near, price-near, price-term-near}
use Rattle.case_branches.specs.Meaning.Table.{table_of}
use Rattle.case_branches.specs.Steps.Table.{table-entry, entry-within}
use Rattle.case_header.specs.declared.Counts.{Counts}
use Rattle.proposal_file.specs.declared.ProposalOpening.{ProposalOpening}
use Rattle.proposal_file.specs.Meaning.Read.{HourReadFrom}
use Rattle.proposal_file.specs.Meaning.InRange.{VolumesInRange, FlowsInRange}
use Rattle.proposal_file.specs.Steps.Read.{case-opened, sound, zones-is, branches-is, few-zones, few-branches, share-is, share-in, system-is, shadow-in}
use Rattle.report_file.specs.Meaning.Prices.{no_grains, grains_at}
use Rattle.judge_network.specs.Steps.Prices.{added, AddedTo, add_step, Partly, branch-step}
use Rattle.judge_network.proofs.branch_sums.Goals as goal

module _ {s t : List ℕ} {counts : Counts} {opening : ProposalOpening} (h : HourReadFrom s t counts opening) where
  -- THE SHARE AND THE SYSTEM PRICE
  rest-is : pos parts_in_one -ℤ opening.share.0 ≡ pos parts_in_one -ℤ pos (plan_of s t).share
  rest-is = ap (λ (x : ℤ). pos parts_in_one -ℤ x) (share-is h)

  rest-near : Near 200000 (pos parts_in_one -ℤ pos (plan_of s t).share)
  rest-near = near_sub (near-pos parts_in_one) (near-unsigned _ 100000 (share-in h))

  base-fits : SFits w64 (grains_of opening.system.0)
  base-fits = sfits-by w64 (ap grains_of (system-is h)) (near_fits w64 (omega arith) (near_mul (near-pos parts_in_one) (system-near s t)))

  total-fits : SumsFit (λ j. pos parts_in_one *ℤ branch_value (case_of s) (prices_of s t) j) (case_of s).branches
  total-fits = branchTotal-sums _ (sound h) _ (system-near s t) (shadow-in h)

  -- BRANCH m OF THE HOUR, as it was read
  module _ (m : ℕ) (i : m < counts.branches) where
    inside : m < (case_of s).branches
    inside = omega (arith, branches-is h)

    row-in : m < 64
    row-in = omega (arith, few-branches h)

    shadow-near : Near 1000000 (pos (shadow_in s t m))
    unfolding prices_of
    shadow-near = near-unsigned _ 1000000 (shadow-in h m inside)

    margin-near : Near 500000 (ram_in s m)
    unfolding case_of
    margin-near = near_within 500000 limits.margin _ (omega arith) (omega arith) ((sound h).ram-in m inside)

    loads-fit : VolumesInRange (case_of s) (plan_of s t) → FlowsInRange (case_of s) (plan_of s t) → SumsFit (λ z. (case_of s).ptdf m z *ℤ fb_part (case_of s) (plan_of s t) z) (case_of s).zones
    loads-fit v f = branchUse-sums _ (sound h) _ v.within f.within m inside

    room-fits : {x r : ℤ} → x ≡ pos parts_in_one -ℤ opening.share.0 → r ≡ ram_in s m → SFits w64 (x *ℤ r)
    room-fits e q = sfits-by w64 (λ j. (e ∙ rest-is) j *ℤ q j) (near_fits w64 (omega arith) (near_mul rest-near margin-near))

    -- the load of all zones, and the test of this branch
    used : {z : ℕ} {u : ℤ} → z ≡ counts.zones → u ≡ sum_to z (λ j. (case_of s).ptdf m j *ℤ fb_part (case_of s) (plan_of s t) j) → u ≡ branch_use (case_of s) (plan_of s t) m
    unfolding branch_use
    used e q = q ∙ ap (λ (n : ℕ). sum_to n (λ z. (case_of s).ptdf m z *ℤ fb_part (case_of s) (plan_of s t) z)) (e ∙ zones-is h)

    answered : {u x r y : ℤ} {b : Bool} → u ≡ branch_use (case_of s) (plan_of s t) m → x ≡ pos parts_in_one -ℤ opening.share.0 → r ≡ ram_in s m → y ≡ x *ℤ r → b ≡ is_lt (int_cmp y u)
        → b ≡ branch_use (case_of s) (plan_of s t) m over_z branch_room (case_of s) (plan_of s t) m
    unfolding branch_room case_of plan_of
    answered {u = v} {y = w} u e q y a = a ∙ less-is w v ∙ (λ j. lt_z ((y ∙ (λ n. (e ∙ rest-is) n *ℤ q n)) j) (u j))

    -- its part of the total
    module _ {shadow margin : ℤ} (p : shadow ≡ pos (shadow_in s t m)) (q : margin ≡ ram_in s m) where
      shadow-fits : SFits w64 (grains_of shadow)
      shadow-fits = sfits-by w64 (ap grains_of p) (near_fits w64 (omega arith) (near_mul (near-pos parts_in_one) shadow-near))

      cost-fits : {g : ℤ} → g ≡ grains_of shadow → SFits w64 (margin *ℤ g)
      cost-fits e = sfits-by w64 (λ j. q j *ℤ (e ∙ ap grains_of p) j) (near_fits w64 (omega arith) (near_mul margin-near (near_mul (near-pos parts_in_one) shadow-near)))

      value-is : {g x : ℤ} → g ≡ grains_of shadow → x ≡ margin *ℤ g → x ≡ pos parts_in_one *ℤ branch_value (case_of s) (prices_of s t) m
      unfolding branch_value case_of prices_of
      value-is e x = x ∙ (λ j. q j *ℤ (e ∙ ap grains_of p) j) ∙ times-grains (ram_in s m) (pos (shadow_in s t m))

    -- ZONE z OF THE HOUR: an entry of the table and a part are the hour's
    module _ (z : ℕ) (l : z < counts.zones) where
      known : z < (case_of s).zones
      known = omega (arith, zones-is h)

      zone-in : z < 16
      zone-in = omega (arith, few-zones h)

      module _ {table : List (List ℤ)} (e : table ≡ table_of s) where
        entry-is : get_or (get_or table m []) z (pos 0) ≡ (case_of s).ptdf m z
        unfolding case_of
        entry-is = ap (λ (t : List (List ℤ)). get_or (get_or t m []) z (pos 0)) e ∙ table-entry (case-opened h) m z i l

        entry-in : Within limits.ptdf (get_or (get_or table m []) z (pos 0))
        entry-in = subst (λ (t : List (List ℤ)). Within limits.ptdf (get_or (get_or t m []) z (pos 0))) (sym e) (entry-within (case-opened h) m z i l)

        -- the machine reads the entry
        read-is : to_z w32 (of_z w32 (get_or (get_or table m []) z (pos 0))) ≡ get_or (get_or table m []) z (pos 0)
        read-is = to_z-of_z {w = w32} (near_fits w32 (omega arith) (near_within 200000 limits.ptdf _ (omega arith) (omega arith) entry-in))

        read-in : Within limits.ptdf (to_z w32 (of_z w32 (get_or (get_or table m []) z (pos 0))))
        read-in = subst (λ (x : ℤ). Within limits.ptdf x) (sym read-is) entry-in

        module _ {r : ℤ} (q : r ≡ to_z w32 (of_z w32 (get_or (get_or table m []) z (pos 0)))) where
          ptdf-is : r ≡ (case_of s).ptdf m z
          ptdf-is = q ∙ read-is ∙ entry-is

          -- this zone's part of the load
          load-is : {parts : List Tenths} {x : ℤ} → TenthsHold (fb_part (case_of s) (plan_of s t)) parts → x ≡ r *ℤ tenths_at parts z → x ≡ (case_of s).ptdf m z *ℤ fb_part (case_of s) (plan_of s t) z
          load-is p x = x ∙ (λ j. ptdf-is j *ℤ p.each z zone-in j)

          -- what this branch adds to this zone's price
          price-is : {shadow x : ℤ} → shadow ≡ pos (shadow_in s t m) → x ≡ r *ℤ shadow → x ≡ branch_price (case_of s) (prices_of s t) z m
          unfolding branch_price prices_of
          price-is p x = x ∙ (λ j. ptdf-is j *ℤ p j)

          price-fits : {shadow : ℤ} → shadow ≡ pos (shadow_in s t m) → SFits w64 (r *ℤ shadow)
          price-fits p = sfits-by w64 (price-is p refl) (near_fits w64 (omega arith) (price-term-near _ (sound h) _ (system-near s t) (shadow-in h) z m known inside))

        -- the same from the table
        term-is : {shadow : ℤ} → shadow ≡ pos (shadow_in s t m) → added (get_or table m []) shadow z ≡ branch_price (case_of s) (prices_of s t) z m
        unfolding branch_price prices_of
        term-is p = λ j. entry-is j *ℤ p j

      -- the price with this branch
      module _ {before now : List Grains} {row : List ℤ} {shadow x : ℤ} (w : Partly (case_of s) (prices_of s t) m before) (a : AddedTo before now row shadow z counts.zones)
          (e : x ≡ branch_price (case_of s) (prices_of s t) z m) where
        price-sum-is : grains_at now z +ℤ x ≡ grains_of (prices_of s t).system +ℤ sum_to (m + 1) (λ k. branch_price (case_of s) (prices_of s t) z k)
        price-sum-is =
            (λ j. (a.left z (omega arith) l ∙ w.each z known) j +ℤ e j)
            ∙ +ℤ_assoc (grains_of (prices_of s t).system) (sum_to m (λ k. branch_price (case_of s) (prices_of s t) z k)) (branch_price (case_of s) (prices_of s t) z m)
            ∙ ap (λ (y : ℤ). grains_of (prices_of s t).system +ℤ y) (sym (sum_more m (λ k. branch_price (case_of s) (prices_of s t) z k)))

        price-sum-fits : SFits w64 (grains_at now z +ℤ x)
        price-sum-fits = sfits-by w64 price-sum-is (near_fits w64 (omega arith) (price-near _ (sound h) _ (system-near s t) (shadow-in h) (m + 1) (omega (arith, inside)) z known))

pub in_grains-prices-requires : goal.in_grains-prices-requires
in_grains-prices-requires c = base-fits c.args.filled.hour.read

pub loop-m-init : goal.loop-m-init
unfolding sum_to first_below
loop-m-init c =
    let h = c.args.filled.hour.read in
    record {
      within = refl;
      prices = record {
        long = refl;
        each = λ z l. ap (λ (g : Grains). g.0) (get_or-replicate 16 z c.in_grains-prices.result no_grains (omega (arith, few-zones h, zones-is h)))
            ∙ c.in_grains-prices.ensures ∙ ap grains_of (system-is h) ∙ sym (+ℤ_idr _);
      };
      total = refl;
    }

pub loop-z-init : goal.loop-z-init
unfolding sum_to
loop-z-init c = record { load = refl; prices = record { long = c.loop-m.invariant.prices.long; done = below_none _; left = λ z l m. refl } }

pub offset_bounds-table-m : goal.offset_bounds-table-m
offset_bounds-table-m c = omega (arith, row-in c.args.filled.hour.read c.loop-m.m c.loop-m-test.true)

pub offset_bounds-table-z : goal.offset_bounds-table-z
offset_bounds-table-z c = omega (arith, few-zones c.args.filled.hour.read)

pub bounds-table-m : goal.bounds-table-m
bounds-table-m c = row-in c.args.filled.hour.read c.loop-m.m c.loop-m-test.true

pub bounds-table-z : goal.bounds-table-z
bounds-table-z c = omega (arith, few-zones c.args.filled.hour.read)

pub of_entry-ptdf-requires : goal.of_entry-ptdf-requires
of_entry-ptdf-requires c = read-in c.args.filled.hour.read c.loop-m.m c.loop-m-test.true c.loop-z.z c.loop-z-test.true c.requires.table_value

pub offset_bounds-parts-z : goal.offset_bounds-parts-z
offset_bounds-parts-z c = omega (arith, few-zones c.args.filled.hour.read)

pub bounds-parts-z : goal.bounds-parts-z
bounds-parts-z c = omega (arith, few-zones c.args.filled.hour.read)

pub load-requires : goal.load-requires
load-requires c =
    let h = c.args.filled.hour.read in
    let m = c.loop-m.m in
    let i = c.loop-m-test.true in
    let z = c.loop-z.z in
    let l = c.loop-z-test.true in
    sfits-by w64 (load-is h m i z l c.requires.table_value c.of_entry-ptdf.ensures c.requires.tenths_hold refl)
    ((loads-fit h m i c.args.filled.within c.requires.flows_in_range).term z (known h m i z l))

pub plus-load-requires : goal.plus-load-requires
plus-load-requires c =
    let h = c.args.filled.hour.read in
    let m = c.loop-m.m in
    let i = c.loop-m-test.true in
    let z = c.loop-z.z in
    let l = c.loop-z-test.true in
    step_fits (loads-fit h m i c.args.filled.within c.requires.flows_in_range) z (known h m i z l)
    c.loop-z.invariant.load (load-is h m i z l c.requires.table_value c.of_entry-ptdf.ensures c.requires.tenths_hold c.load.ensures)

pub offset_bounds-prices-z : goal.offset_bounds-prices-z
offset_bounds-prices-z c = omega (arith, few-zones c.args.filled.hour.read)

pub bounds-prices-z : goal.bounds-prices-z
bounds-prices-z c = omega (arith, few-zones c.args.filled.hour.read)

pub price-requires : goal.price-requires
price-requires c = price-fits c.args.filled.hour.read c.loop-m.m c.loop-m-test.true c.loop-z.z c.loop-z-test.true c.requires.table_value c.of_entry-ptdf.ensures c.shadow_at-shadow.ensures

pub plus-requires : goal.plus-requires
plus-requires c =
    let h = c.args.filled.hour.read in
    let m = c.loop-m.m in
    let i = c.loop-m-test.true in
    let z = c.loop-z.z in
    let l = c.loop-z-test.true in
    price-sum-fits h m i z l c.loop-m.invariant.prices c.loop-z.invariant.prices (price-is h m i z l c.requires.table_value c.of_entry-ptdf.ensures c.shadow_at-shadow.ensures c.price.ensures)

pub offset_bounds-prices-z-in-loop-z : goal.offset_bounds-prices-z-in-loop-z
offset_bounds-prices-z-in-loop-z c = omega (arith, few-zones c.args.filled.hour.read)

pub bounds-prices-z-in-loop-z : goal.bounds-prices-z-in-loop-z
bounds-prices-z-in-loop-z c = omega (arith, few-zones c.args.filled.hour.read)

pub loop-z-preserved : goal.loop-z-preserved
loop-z-preserved c =
    let h = c.args.filled.hour.read in
    let m = c.loop-m.m in
    let i = c.loop-m-test.true in
    let z = c.loop-z.z in
    let l = c.loop-z-test.true in
    let shadow = c.shadow_at-shadow.result.0 in
    record {
      load = step (loads-fit h m i c.args.filled.within c.requires.flows_in_range) z c.loop-z.invariant.load
          (load-is h m i z l c.requires.table_value c.of_entry-ptdf.ensures c.requires.tenths_hold c.load.ensures) c.plus-load.ensures;
      prices = add_step c.loop-m.prices c.loop-z.prices (get_or c.args.table m []) shadow z c.args.filled.hour.case.counts.zones c.plus.result l (few-zones h) c.loop-z.invariant.prices
          (c.plus.ensures ∙ ap (λ (x : ℤ). grains_at c.loop-z.prices z +ℤ x) (c.price.ensures ∙ ap (λ (x : ℤ). x *ℤ shadow) (c.of_entry-ptdf.ensures ∙ read-is h m i z l c.requires.table_value)));
    }

pub of_volume-requires : goal.of_volume-requires
of_volume-requires c = room-fits c.args.filled.hour.read c.loop-m.m c.loop-m-test.true c.flow_based-flow_based.ensures c.margin_at-margin.ensures

pub returns-then-lt-clause-overloaded : goal.returns-then-lt-clause-overloaded
returns-then-lt-clause-overloaded c =
    let h = c.args.filled.hour.read in
    let m = c.loop-m.m in
    let i = c.loop-m-test.true in
    first-here _ m (inside h m i) c.loop-m.invariant.within
    (sym (answered h m i (used h m i (omega arith) c.loop-z.invariant.load) c.flow_based-flow_based.ensures c.margin_at-margin.ensures c.of_volume.ensures c.lt.ensures) ∙ c.if-lt.true)

pub in_grains-requires : goal.in_grains-requires
in_grains-requires c = shadow-fits c.args.filled.hour.read c.loop-m.m c.loop-m-test.true c.shadow_at-shadow.ensures c.margin_at-margin.ensures

pub cost-requires : goal.cost-requires
cost-requires c = cost-fits c.args.filled.hour.read c.loop-m.m c.loop-m-test.true c.shadow_at-shadow.ensures c.margin_at-margin.ensures c.in_grains.ensures

pub plus-total-requires : goal.plus-total-requires
plus-total-requires c =
    let h = c.args.filled.hour.read in
    let m = c.loop-m.m in
    let i = c.loop-m-test.true in
    step_fits (total-fits h) m (inside h m i) c.loop-m.invariant.total (value-is h m i c.shadow_at-shadow.ensures c.margin_at-margin.ensures c.in_grains.ensures c.cost.ensures)

pub loop-m-preserved : goal.loop-m-preserved
loop-m-preserved c =
    let h = c.args.filled.hour.read in
    let m = c.loop-m.m in
    let i = c.loop-m-test.true in
    let row = get_or c.args.table m [] in
    let shadow = c.shadow_at-shadow.result.0 in
    let e : c.loop-z.z ≡ c.args.filled.hour.case.counts.zones = omega arith in
    record {
      within = first-later _ m c.loop-m.invariant.within (sym (answered h m i (used h m i e c.loop-z.invariant.load) c.flow_based-flow_based.ensures c.margin_at-margin.ensures c.of_volume.ensures c.lt.ensures) ∙ c.if-lt.false);
      prices = branch-step _ _ m c.loop-m.prices c.loop-z.prices row shadow
          (λ z k. term-is h m i z (omega (arith, zones-is h)) c.requires.table_value c.shadow_at-shadow.ensures) c.loop-m.invariant.prices
          (subst (λ (n : ℕ). AddedTo c.loop-m.prices c.loop-z.prices row shadow n n) (zones-is h) (subst (λ (n : ℕ). AddedTo c.loop-m.prices c.loop-z.prices row shadow n c.args.filled.hour.case.counts.zones) e c.loop-z.invariant.prices));
      total = step (total-fits h) m c.loop-m.invariant.total (value-is h m i c.shadow_at-shadow.ensures c.margin_at-margin.ensures c.in_grains.ensures c.cost.ensures) c.plus-total.ensures;
    }

pub returns-clause-within : goal.returns-clause-within
returns-clause-within c = first-nowhere _ c.loop-m.m (omega (arith, branches-is c.args.filled.hour.read)) (omega (arith, branches-is c.args.filled.hour.read)) c.loop-m.invariant.within

pub returns-clause-prices : goal.returns-clause-prices
unfolding zone_price
returns-clause-prices c =
    let cs = case_of c.args.filled.hour.case.bytes.now in
    let d = prices_of c.args.filled.hour.case.bytes.now c.args.filled.hour.proposal.now in
    let e : c.loop-m.m ≡ cs.branches = omega (arith, branches-is c.args.filled.hour.read) in
    record { each = λ z h. c.loop-m.invariant.prices.each z h ∙ ap (λ (k : ℕ). grains_of d.system +ℤ sum_to k (λ j. branch_price cs d z j)) e }

pub returns-clause-total : goal.returns-clause-total
unfolding branch_total
returns-clause-total c =
    let cs = case_of c.args.filled.hour.case.bytes.now in
    let d = prices_of c.args.filled.hour.case.bytes.now c.args.filled.hour.proposal.now in
    let e : c.loop-m.m ≡ cs.branches = omega (arith, branches-is c.args.filled.hour.read) in
    c.loop-m.invariant.total ∙ ap (λ (k : ℕ). sum_to k (λ j. pos parts_in_one *ℤ branch_value cs d j)) e ∙ sum-scale-l cs.branches (λ j. branch_value cs d j) (pos parts_in_one)
