-- Prices by zone: an array of grains that holds a definition's values, and what one branch adds to it. Assumes nothing.
use Rattle.std.specs.Prelude.{◌≡◌, List, ℕ, ◌+◌, ◌≤◌, ◌<◌, length, get_or, set, ℤ, pos, ◌+ℤ◌, ◌*ℤ◌}
use Rattle.std.proofs.Common.{sym, ap, ◌∙◌, arith, below_more, length-set, get_or-set_same, get_or-set_other}
use Rattle.std.proofs.Math.IntN.{+ℤ_assoc}
use Rattle.base_integers.specs.Meaning.Sums.{sum_to}
use Rattle.base_integers.specs.Steps.Sums.{sum_more}
use Rattle.base_limits.specs.Meaning.Limits as limits
use Rattle.base_measures.specs.declared.Grains.{Grains}
use Rattle.rules.specs.Meaning.Hour.{Case, Prices, branch_price}
use Rattle.report_file.specs.Meaning.Prices.{no_grains, grains_at}

-- what a branch with these PTDFs and this shadow price adds to zone z
abbrev pub added : List ℤ → ℤ → ℕ → ℤ
added row shadow z = get_or row z (pos 0) *ℤ shadow

-- the first n zones done
pub record AddedTo (before after : List Grains) (row : List ℤ) (shadow : ℤ) (n zones : ℕ) : Type 0 where
  pub long : length after ≡ 16
  pub done : (z : ℕ) → z < n → grains_at after z ≡ grains_at before z +ℤ added row shadow z
  pub left : (z : ℕ) → n ≤ z → z < zones → grains_at after z ≡ grains_at before z

-- one zone more
pub add_step : (before after : List Grains) (row : List ℤ) (shadow : ℤ) (n zones : ℕ) (next : Grains) → n < zones → zones ≤ 16
    → AddedTo before after row shadow n zones → next.0 ≡ grains_at after n +ℤ added row shadow n → AddedTo before (set after n next) row shadow (n + 1) zones
add_step before after row shadow n zones next h k a e = record {
  long = length-set after n next ∙ a.long;
  done = below_more (λ z. grains_at (set after n next) z ≡ grains_at before z +ℤ added row shadow z) n
      (λ z l. ap (λ (g : Grains). g.0) (get_or-set_other after n z next no_grains (λ q. absurd (apart z n l q))) ∙ a.done z l)
      (ap (λ (g : Grains). g.0) (get_or-set_same after n next no_grains (omega (arith, a.long))) ∙ e ∙ ap (λ (x : ℤ). x +ℤ added row shadow n) (a.left n (omega arith) h));
  left = λ z l m. ap (λ (g : Grains). g.0) (get_or-set_other after n z next no_grains (λ q. absurd (past n z l q))) ∙ a.left z (omega arith) m;
}
  where
    apart : (z n : ℕ) → z < n → z ≡ n → ⊥
    apart z n l q = omega arith

    past : (n z : ℕ) → n + 1 ≤ z → z ≡ n → ⊥
    past n z l q = omega arith

-- the prices with the first m branches added
pub record Partly (c : Case) (d : Prices) (m : ℕ) (prices : List Grains) : Type 0 where
  pub long : length prices ≡ 16
  pub each : (z : ℕ) → z < c.zones → grains_at prices z ≡ limits.grains_of d.system +ℤ sum_to m (λ k. branch_price c d z k)

-- one branch more
pub branch-step : (c : Case) (d : Prices) (m : ℕ) (before after : List Grains) (row : List ℤ) (shadow : ℤ)
    → ((z : ℕ) → z < c.zones → added row shadow z ≡ branch_price c d z m) → Partly c d m before → AddedTo before after row shadow c.zones c.zones → Partly c d (m + 1) after
branch-step c d m before after row shadow t p a = record {
  long = a.long;
  each = λ z h.
      a.done z h ∙ (λ j. p.each z h j +ℤ t z h j)
      ∙ +ℤ_assoc (limits.grains_of d.system) (sum_to m (λ k. branch_price c d z k)) (branch_price c d z m)
      ∙ ap (λ (x : ℤ). limits.grains_of d.system +ℤ x) (sym (sum_more m (λ k. branch_price c d z k)));
}
