-- Numbers below a count can be sorted by selection: the greatest goes to the last place, and the others are sorted
-- before it. Assumes nothing.
use Rattle.std.specs.Prelude.{◌≡◌, Bool, ℕ, zero, suc, ◌≤◌, ◌<◌, eqb, ltb}
use Rattle.std.proofs.Math.Path.{refl, sym, ap}
use Rattle.std.proofs.Common.{subst, ◌∙◌, arith, eq-eqb, ne_eqb, lt-ltb, le-ltb}
use Rattle.std.proofs.Math.Bool.{cond}
use Rattle.std.proofs.Math.Decide.{dec_lt, ℕ_discrete}
use Rattle.rules_rearranged.specs.Meaning.Permutation.{Permutation, unmoved}

-- the greatest of the first m + 1
record Greatest (m : ℕ) (f : ℕ → ℕ) : Type 0 where
  place : ℕ
  place_in : place ≤ m
  most : (i : ℕ) → i ≤ m → f i ≤ f place

last : (f : ℕ → ℕ) (i k : ℕ) → i ≡ k → f i ≤ f k
last f i k e = subst (λ (x : ℕ). f i ≤ f x) e (omega arith)

-- one more
or-next : (m : ℕ) (f : ℕ → ℕ) → Greatest m f → Greatest (suc m) f
or-next m f g = elim (dec_lt (f g.place) (f (suc m))) [
  | yes l ↦ record {
    place = suc m;
    place_in = omega arith;
    most = λ i h. elim (dec_lt i (suc m)) [ yes k ↦ omega (arith, g.most i (omega arith), l) | no o ↦ last f i (suc m) (omega arith) ];
  }
  | no n ↦ record {
    place = g.place;
    place_in = omega (arith, g.place_in);
    most = λ i h. elim (dec_lt i (suc m)) [ yes k ↦ g.most i (omega arith) | no o ↦ omega (arith, last f i (suc m) (omega arith), n) ];
  }
]

greatest : (m : ℕ) (f : ℕ → ℕ) → Greatest m f
greatest zero f = record { place = 0; place_in = omega arith; most = λ i h. last f i 0 (omega arith) }
greatest (suc m) f = or-next m f (greatest m f)

-- two indices exchanged
exchanged : ℕ → ℕ → ℕ → ℕ
exchanged a b i = cond (eqb i a) b (cond (eqb i b) a i)

module _ (a b : ℕ) where
  to-second : (i : ℕ) → i ≡ a → exchanged a b i ≡ b
  unfolding exchanged
  to-second i e = ap (λ (x : Bool). cond x b (cond (eqb i b) a i)) (eq-eqb i a e)

  to-first : (i : ℕ) → i ≡ b → exchanged a b i ≡ a
  unfolding exchanged
  to-first i e = elim (ℕ_discrete i a) [
    | yes q ↦ to-second i q ∙ sym e ∙ q
    | no g ↦ ap (λ (x : Bool). cond x b (cond (eqb i b) a i)) (ne_eqb i a g) ∙ ap (λ (x : Bool). cond x a i) (eq-eqb i b e)
  ]

  stays : (i : ℕ) → (i ≡ a → ⊥) → (i ≡ b → ⊥) → exchanged a b i ≡ i
  unfolding exchanged
  stays i g h = ap (λ (x : Bool). cond x b (cond (eqb i b) a i)) (ne_eqb i a g) ∙ ap (λ (x : Bool). cond x a i) (ne_eqb i b h)

  there_and_back : (i : ℕ) → exchanged a b (exchanged a b i) ≡ i
  there_and_back i = elim (ℕ_discrete i a) [
    | yes e ↦ ap (exchanged a b) (to-second i e) ∙ to-first b refl ∙ sym e
    | no g ↦ elim (ℕ_discrete i b) [
      | yes e ↦ ap (exchanged a b) (to-first i e) ∙ to-second a refl ∙ sym e
      | no h ↦ ap (exchanged a b) (stays i g h) ∙ stays i g h
    ]
  ]

  exchanged-in : (n i : ℕ) → a < n → b < n → i < n → exchanged a b i < n
  exchanged-in n i k l h = elim (ℕ_discrete i a) [
    | yes e ↦ subst (λ (x : ℕ). x < n) (sym (to-second i e)) l
    | no g ↦ elim (ℕ_discrete i b) [ yes e ↦ subst (λ (x : ℕ). x < n) (sym (to-first i e)) k | no o ↦ subst (λ (x : ℕ). x < n) (sym (stays i g o)) h ]
  ]

-- f below m, and m itself at its place
with_last : ℕ → (ℕ → ℕ) → ℕ → ℕ
with_last m f i = cond (ltb i m) (f i) m

module _ (m : ℕ) (f : ℕ → ℕ) where
  below_last : (i : ℕ) → i < m → with_last m f i ≡ f i
  unfolding with_last
  below_last i h = ap (λ (x : Bool). cond x (f i) m) (lt-ltb i m h)

  at_last : (i : ℕ) → m ≤ i → with_last m f i ≡ m
  unfolding with_last
  at_last i h = ap (λ (x : Bool). cond x (f i) m) (le-ltb i m h)

-- a rearrangement of the first m indices that leaves the last of m + 1 at its place
module _ {m : ℕ} (π : Permutation m) where
  last-in : (f : ℕ → ℕ) → ((i : ℕ) → i < m → f i < m) → (i : ℕ) → i < suc m → with_last m f i < suc m
  last-in f inside i h = elim (dec_lt i m) [ yes l ↦ omega (arith, below_last m f i l, inside i l) | no g ↦ omega (arith, at_last m f i (omega arith)) ]

  back : (f g : ℕ → ℕ) → ((i : ℕ) → i < m → f i < m) → ((i : ℕ) → i < m → g (f i) ≡ i) → (i : ℕ) → i < suc m → with_last m g (with_last m f i) ≡ i
  back f g inside h i l = elim (dec_lt i m) [
    | yes k ↦ ap (with_last m g) (below_last m f i k) ∙ below_last m g (f i) (inside i k) ∙ h i k
    | no n ↦ ap (with_last m g) (at_last m f i (omega arith)) ∙ at_last m g m (omega arith) ∙ omega arith
  ]

  -- and then exchanges place k with it
  then-exchanged : (k : ℕ) → k ≤ m → Permutation (suc m)
  then-exchanged k h = record {
    source = λ i. exchanged k m (with_last m π.source i);
    target = λ i. with_last m π.target (exchanged k m i);
    source_in = λ i l. exchanged-in k m (suc m) (with_last m π.source i) (omega arith) (omega arith) (last-in π.source π.source_in i l);
    target-in = λ i l. last-in π.target π.target-in (exchanged k m i) (exchanged-in k m (suc m) i (omega arith) (omega arith) l);
    target-source = λ i l. ap (with_last m π.target) (there_and_back k m (with_last m π.source i)) ∙ back π.source π.target π.source_in π.target-source i l;
    source-target = λ i l. ap (exchanged k m) (back π.target π.source π.target-in π.source-target (exchanged k m i) (exchanged-in k m (suc m) i (omega arith) (omega arith) l)) ∙ there_and_back k m i;
  }

-- SORTED
pub record InOrder (n : ℕ) (f : ℕ → ℕ) : Type 0 where
  pub by : Permutation n
  pub in_order : (i j : ℕ) → i ≤ j → j < n → f (by.source i) ≤ f (by.source j)

module _ (m : ℕ) (f : ℕ → ℕ) (top : Greatest m f) (rest : InOrder m (λ i. f (exchanged top.place m i))) where
  place : ℕ → ℕ
  place i = exchanged top.place m (with_last m rest.by.source i)

  at-end : (j : ℕ) → m ≤ j → place j ≡ top.place
  unfolding place
  at-end j h = ap (exchanged top.place m) (at_last m rest.by.source j h) ∙ to-first top.place m m refl

  place_in : (i : ℕ) → i < suc m → place i < suc m
  unfolding place then-exchanged
  place_in i h = (then-exchanged rest.by top.place top.place_in).source_in i h

  before-it : (i : ℕ) → i < m → place i ≡ exchanged top.place m (rest.by.source i)
  unfolding place
  before-it i h = ap (exchanged top.place m) (below_last m rest.by.source i h)

  sorted : (i j : ℕ) → i ≤ j → j < suc m → f (place i) ≤ f (place j)
  sorted i j h l = elim (dec_lt j m) [
    | yes k ↦ rw (before-it i (omega arith), before-it j k) (rest.in_order i j h k)
    | no g ↦ subst (λ (x : ℕ). f (place i) ≤ f x) (sym (at-end j (omega arith))) (top.most (place i) (omega (arith, place_in i (omega arith))))
  ]

  and-the-greatest : InOrder (suc m) f
  unfolding place then-exchanged
  and-the-greatest = record { by = then-exchanged rest.by top.place top.place_in; in_order = sorted }

pub selection : (n : ℕ) (f : ℕ → ℕ) → InOrder n f
selection zero f = record { by = unmoved 0; in_order = λ i j h l. absurd (omega arith) }
selection (suc m) f = and-the-greatest m f (greatest m f) (selection m (λ i. f (exchanged (greatest m f).place m i)))
