-- The pairs of zones seen so far, as a set of zones for each zone: zone b is in the set of zone a if an earlier
-- pair goes from a to b. Assumes nothing.
use Rattle.std.specs.Prelude.{◌≡◌, refl, Bool, true, false, ◌&&◌, ◌||◌, List, ℕ, zero, suc, ◌+◌, ◌<◌, eqb, length, get_or, set, replicate}
use Rattle.std.proofs.Common.{sym, ap, ◌∙◌, add-one, arith, length-set, get_or-set_same, get_or-set_other, eqb-true}
use Rattle.std.proofs.Math.Bool.{or-false}
use Rattle.std.proofs.lemmas.Bool.{eqb-false}
use Rattle.base_causes.specs.Meaning.Causes.{any_below}
use Rattle.base_zone_set.specs.Meaning.Zones.{member, added}
use Rattle.base_zone_set.specs.Steps.Zones.{member-added, member-none}

abbrev pub holds : List ℕ → ℕ → ℕ → Bool
holds seen a b = member (get_or seen a 0) b

-- with one pair more
abbrev pub with_pair : List ℕ → ℕ → ℕ → List ℕ
with_pair seen a b = set seen a (added (get_or seen a 0) b)

holds_more : (seen : List ℕ) (f t : ℕ) → f < length seen → t < 16 → (a b : ℕ) → holds (with_pair seen f t) a b ≡ (holds seen a b || (eqb f a && eqb t b))
holds_more seen f t h l a b = by (eqb f a) refl
  where
    by : (w : Bool) → eqb f a ≡ w → holds (with_pair seen f t) a b ≡ (holds seen a b || (w && eqb t b))
    by true q =
        let e = eqb-true f a q in
        ap (λ (n : ℕ). member n b) (ap (λ (i : ℕ). get_or (with_pair seen f t) i 0) (sym e) ∙ get_or-set_same seen f (added (get_or seen f 0) t) 0 h)
        ∙ member-added (get_or seen f 0) t b l
        ∙ ap (λ (i : ℕ). holds seen i b || eqb t b) e
    by false q =
        ap (λ (n : ℕ). member n b) (get_or-set_other seen f a (added (get_or seen f 0) t) 0 (λ e. eqb-false f a q (sym e)))
        ∙ sym (or-false (holds seen a b))

blank : (n a : ℕ) → ◌≡◌ {A = ℕ} (get_or (replicate n 0) a 0) 0
blank zero a = refl
blank (suc n) zero = refl
blank (suc n) (suc a) = blank n a

-- THE PAIRS SEEN: the first l; pair j goes from `from j` to `to j`
abbrev pub same_pair : (ℕ → ℕ) → (ℕ → ℕ) → ℕ → ℕ → ℕ → Bool
same_pair from to a b j = eqb (from j) a && eqb (to j) b

pub record Seen (from to : ℕ → ℕ) (l : ℕ) (seen : List ℕ) : Type 0 where
  pub places : length seen ≡ 16
  pub held : (a b : ℕ) → holds seen a b ≡ any_below l (same_pair from to a b)

pub seen_none : (from to : ℕ → ℕ) → Seen from to 0 (replicate 16 0)
unfolding any_below
seen_none from to = record { places = refl; held = λ a b. ap (λ (n : ℕ). member n b) (blank 16 a) ∙ member-none b }

pub seen_more : (from to : ℕ → ℕ) (l : ℕ) {seen : List ℕ} {f t : ℕ} → Seen from to l seen → f ≡ from l → t ≡ to l → f < 16 → t < 16 → Seen from to (l + 1) (with_pair seen f t)
unfolding any_below
seen_more from to l {seen} {f} {t} w ef et hf ht = record {
  places = length-set seen f _ ∙ w.places;
  held = λ a b. holds_more seen f t (omega (arith, w.places)) ht a b ∙ (λ j. w.held a b j || (eqb (ef j) a && eqb (et j) b)) ∙ ap (λ (n : ℕ). any_below n (same_pair from to a b)) (sym (add-one l));
}
