-- The flow-based parts while the links' flows are subtracted from the net positions, one link at a time: first at
-- the zone that the flow enters, then at the zone that it leaves. Assumes nothing.
use Rattle.std.specs.Prelude.{◌≡◌, List, ℕ, ◌+◌, ◌<◌, set, ℤ, pos, ◌+ℤ◌, ◌-ℤ◌}
use Rattle.std.proofs.Common.{sym, ap, ◌∙◌, arith}
use Rattle.base_integers.specs.Steps.Difference.{at, ◌⊕◌, ◌⊖◌, eq-by}
use Rattle.base_measures.specs.declared.Tenths.{Tenths}
use Rattle.rules.specs.Meaning.Hour.{Case, Plan, net}
use Rattle.base_measures.specs.Meaning.TenthsHold.{tenths_at, TenthsHold}
use Rattle.judge_clearing.specs.Steps.TenthsHold.{set_holds, keyed, keyed-at, keyed-other}

abbrev pub flows : Plan → ℕ → ℤ
flows p l = pos (p.flow l)

-- with the first i flows in and the first j flows out
abbrev pub partly : Case → Plan → ℕ → ℕ → ℕ → ℤ
partly c p i j z = net c p z -ℤ (keyed c.to (flows p) i z -ℤ keyed c.from (flows p) j z)

module _ (c : Case) (p : Plan) where
  module _ (l : ℕ) (xs : List Tenths) (z : ℕ) (x : Tenths) where
    pub in-next : z ≡ c.to l → c.to l < 16 → TenthsHold (partly c p l l) xs → tenths_at xs z -ℤ flows p l ≡ partly c p (l + 1) l z
    in-next e h a =
        ap (λ (v : ℤ). v -ℤ flows p l) (a.each z (omega (arith, e)))
        ∙ eq-by (at (net c p z) ⊖ (at (keyed c.to (flows p) l z) ⊖ at (keyed c.from (flows p) l z)) ⊖ at (flows p l)) (at (net c p z) ⊖ (at (keyed c.to (flows p) l z) ⊕ at (flows p l) ⊖ at (keyed c.from (flows p) l z))) (omega arith)
        ∙ ap (λ (v : ℤ). net c p z -ℤ (v -ℤ keyed c.from (flows p) l z)) (sym (keyed-at c.to (flows p) l z e))

    pub in-set : z ≡ c.to l → c.to l < 16 → TenthsHold (partly c p l l) xs → x.0 ≡ tenths_at xs z -ℤ flows p l → TenthsHold (partly c p (l + 1) l) (set xs z x)
    in-set e h a q = set_holds (partly c p l l) (partly c p (l + 1) l) xs z x (omega (arith, e)) a (q ∙ in-next e h a)
        (λ k d. ap (λ (v : ℤ). net c p k -ℤ (v -ℤ keyed c.from (flows p) l k)) (keyed-other c.to (flows p) l k (λ r. d (r ∙ sym e))))

    pub out-next : z ≡ c.from l → c.from l < 16 → TenthsHold (partly c p (l + 1) l) xs → tenths_at xs z +ℤ flows p l ≡ partly c p (l + 1) (l + 1) z
    out-next e h a =
        ap (λ (v : ℤ). v +ℤ flows p l) (a.each z (omega (arith, e)))
        ∙ eq-by (at (net c p z) ⊖ (at (keyed c.to (flows p) (l + 1) z) ⊖ at (keyed c.from (flows p) l z)) ⊕ at (flows p l)) (at (net c p z) ⊖ (at (keyed c.to (flows p) (l + 1) z) ⊖ (at (keyed c.from (flows p) l z) ⊕ at (flows p l)))) (omega arith)
        ∙ ap (λ (v : ℤ). net c p z -ℤ (keyed c.to (flows p) (l + 1) z -ℤ v)) (sym (keyed-at c.from (flows p) l z e))

    pub out-set : z ≡ c.from l → c.from l < 16 → TenthsHold (partly c p (l + 1) l) xs → x.0 ≡ tenths_at xs z +ℤ flows p l → TenthsHold (partly c p (l + 1) (l + 1)) (set xs z x)
    out-set e h a q = set_holds (partly c p (l + 1) l) (partly c p (l + 1) (l + 1)) xs z x (omega (arith, e)) a (q ∙ out-next e h a)
        (λ k d. ap (λ (v : ℤ). net c p k -ℤ (keyed c.to (flows p) (l + 1) k -ℤ v)) (keyed-other c.from (flows p) l k (λ r. d (r ∙ sym e))))
