-- Two tables with rows that fail alike give the same refusal. Assumes nothing.
use Rattle.std.specs.Prelude.{◌≡◌, refl, Bool, not, List, [], ◌∷◌, ◌++◌, ℕ, ◌<◌, T}
use Rattle.std.proofs.Common.{sym, ap, subst, ◌∙◌}
use Rattle.std.proofs.Math.Option.{Option, none, some, some-ne-none}
use Rattle.rules_rearranged.specs.Meaning.Permutation.{Permutation}
use Rattle.base_causes.specs.declared.Outcome.{Outcome}
use Rattle.base_causes.specs.Meaning.Causes.{Cause, verdict, first_below, any_below, place_else, first_field, refusal, answer, each, each_at, each_field}
use Rattle.base_causes.proofs.Promised.CauseLaws.{first-is, first-none, first-ext, not-below, row-found, row-clear, else-refusal, refusal-append}
use Rattle.rules.proofs.Steps.SameTables.{any-ext}
use Rattle.rules_rearranged.specs.Meaning.Rearranged.{SameVerdict}

-- tests with their places rearranged hold somewhere, or nowhere, alike
module _ {n : ℕ} (π : Permutation n) (f f' : ℕ → Bool) (h : (k : ℕ) → k < n → f' k ≡ f (π.source k)) where
  pub nowhere-after : first_below n f ≡ none → first_below n f' ≡ none
  nowhere-after e = first-none n f' (λ i l. subst (λ (b : Bool). T (not b)) (sym (h i l)) (not-below n f e (π.source i) (π.source_in i l)))

  pub nowhere-before : first_below n f' ≡ none → first_below n f ≡ none
  nowhere-before e = first-none n f (λ i l. subst (λ (b : Bool). T (not b)) (h (π.target i) (π.target-in i l) ∙ ap f (π.source-target i l)) (not-below n f' e (π.target i) (π.target-in i l)))

-- ROWS THAT FAIL ALIKE
pub record SameRow (r r' : Cause) : Type 0 where
  pub number_is : r'.number ≡ r.number
  pub first-place : first_below r'.places r'.fails ≡ first_below r.places r.fails
  pub index_is : (k : ℕ) → first_below r.places r.fails ≡ some k → r'.index k ≡ r.index k

pub data SameRows : List Cause → List Cause → Type 0 where
  no_row : SameRows [] []
  and-row : {r r' : Cause} {rs rs' : List Cause} → SameRow r r' → SameRows rs rs' → SameRows (r ∷ rs) (r' ∷ rs')

-- equal rows; rows with the same number of places and tests that agree
pub same_row : {r r' : Cause} → r' ≡ r → SameRow r r'
same_row e = record { number_is = λ j. (e j).number; first-place = λ j. first_below (e j).places (e j).fails; index_is = λ k l j. (e j).index k }

pub nowhere-row : (r r' : Cause) → r'.number ≡ r.number → first_below r.places r.fails ≡ none → first_below r'.places r'.fails ≡ none → SameRow r r'
nowhere-row r r' e before after = record { number_is = e; first-place = after ∙ sym before; index_is = λ k l. absurd (some-ne-none k (sym l ∙ before)) }

pub same-each-at : (number : ℕ) {n : ℕ} (f f' : ℕ → Bool) (offset offset' : ℕ → ℕ) → ((k : ℕ) → k < n → f' k ≡ f k) → ((k : ℕ) → offset' k ≡ offset k)
    → SameRow (each_at number n f offset) (each_at number n f' offset')
same-each-at number {n} f f' offset offset' h o = record { number_is = refl; first-place = first-ext n f' f h; index_is = λ k l. o k }

pub same-each : (number : ℕ) {n : ℕ} (f f' : ℕ → Bool) → ((k : ℕ) → k < n → f' k ≡ f k) → SameRow (each number n f) (each number n f')
same-each number f f' h = same-each-at number f f' (λ k. k) (λ k. k) h (λ k. refl)

-- rows of a part, with fields tested alike and at the same offsets
pub same-each-field : (number : ℕ) {n w : ℕ} (f f' : ℕ → ℕ → Bool) (offset offset' : ℕ → ℕ → ℕ) → ((k i : ℕ) → k < n → i < w → f' k i ≡ f k i)
    → ((k i : ℕ) → offset' k i ≡ offset k i) → SameRow (each_field number n w f offset) (each_field number n w f' offset')
unfolding first_field
same-each-field number {n} {w} f f' offset offset' h o = record {
  number_is = refl;
  first-place = first-ext n (λ k. any_below w (f' k)) (λ k. any_below w (f k)) (λ k l. any-ext w (f' k) (f k) (λ i b. h k i l b));
  index_is = λ k l. o k (first_field w (f' k)) ∙ ap (λ (x : Option ℕ). offset k (place_else x)) (first-ext w (f' k) (f k) (λ i b. h k i (first-is n (λ k. any_below w (f k)) k l).place_in b));
}

pub refusal-same : {rs rs' : List Cause} → SameRows rs rs' → refusal rs' ≡ refusal rs
refusal-same no_row = refl
refusal-same (and-row {r} {r'} {rs} {rs'} q qs) = by (first_below r.places r.fails) refl (refusal-same qs)
  where
    by : (o : Option ℕ) → first_below r.places r.fails ≡ o → refusal rs' ≡ refusal rs → refusal (r' ∷ rs') ≡ refusal (r ∷ rs)
    by (some k) e ih =
        row-found r' rs' k (q.first-place ∙ e) ∙ (λ j. some (verdict (q.number_is j) (q.index_is k e j))) ∙ sym (row-found r rs k e)
    by none e ih = row-clear r' rs' (q.first-place ∙ e) ∙ ih ∙ sym (row-clear r rs e)

-- THE SAME REFUSAL, except for the index of 21
pub data SameRefusal : Option Outcome → Option Outcome → Type 0 where
  neither : SameRefusal none none
  both : {o o' : Outcome} → SameVerdict o o' → SameRefusal (some o) (some o')

same-verdict-of : (o : Outcome) → SameVerdict o o
same-verdict-of o = record { number_same = refl; index_same = λ h. refl }

same_self : (x : Option Outcome) → SameRefusal x x
same_self none = neither
same_self (some o) = both (same-verdict-of o)

pub same-refusal : {x x' : Option Outcome} → x' ≡ x → SameRefusal x x'
same-refusal {x} e = subst (λ (y : Option Outcome). SameRefusal x y) (sym e) (same_self x)

same-else : (x : Option Outcome) {x' y y' : Option Outcome} → x' ≡ x → SameRefusal y y' → SameRefusal (else-refusal x y) (else-refusal x' y')
same-else x {x'} {y} {y'} e q = subst (λ (z : Option Outcome). SameRefusal (else-refusal x y) (else-refusal z y')) (sym e) (by x)
  where
    by : (z : Option Outcome) → SameRefusal (else-refusal z y) (else-refusal z y')
    by none = q
    by (some o) = same_self (some o)

-- two tables that give it, after rows that fail alike
pub record SameTable (rs rs' : List Cause) : Type 0 where
  pub same : SameRefusal (refusal rs) (refusal rs')

pub after-rows : {qs qs' rs rs' : List Cause} → SameRows qs qs' → SameTable rs rs' → SameTable (qs ++ rs) (qs' ++ rs')
after-rows {qs} {qs'} {rs} {rs'} e q = record {
  same = subst (λ (x : Option Outcome). SameRefusal x (refusal (qs' ++ rs'))) (sym (refusal-append qs rs))
      (subst (λ (x : Option Outcome). SameRefusal (else-refusal (refusal qs) (refusal rs)) x) (sym (refusal-append qs' rs')) (same-else (refusal qs) (refusal-same e) q.same));
}

pub same_answer : {x x' : Option Outcome} → SameRefusal x x' → SameVerdict (answer x) (answer x')
same_answer neither = same-verdict-of (verdict 0 0)
same_answer (both q) = q

another-place : (k k' : ℕ) → SameVerdict (verdict 21 k) (verdict 21 k')
another-place k k' = record { number_same = refl; index_same = λ no-21. absurd (no-21 refl) }

-- ROW 21 before rows that fail alike
pub same-but-21 : {n : ℕ} (π : Permutation n) (f f' : ℕ → Bool) → ((k : ℕ) → k < n → f' k ≡ f (π.source k)) → {rs rs' : List Cause} → SameRows rs rs'
    → SameTable (each 21 n f ∷ rs) (each 21 n f' ∷ rs')
same-but-21 {n} π f f' h {rs} {rs'} q = record { same = by (first_below n f) refl (first_below n f') refl }
  where
    absurdly : {A : Type 0} (k : ℕ) → some k ≡ none → A
    absurdly k z = absurd (some-ne-none k z)

    by : (o : Option ℕ) → first_below n f ≡ o → (o' : Option ℕ) → first_below n f' ≡ o' → SameRefusal (refusal (each 21 n f ∷ rs)) (refusal (each 21 n f' ∷ rs'))
    by (some k) a (some k') b =
        subst (λ (x : Option Outcome). SameRefusal x (refusal (each 21 n f' ∷ rs'))) (sym (row-found (each 21 n f) rs k a))
        (subst (λ (x : Option Outcome). SameRefusal (some (verdict 21 k)) x) (sym (row-found (each 21 n f') rs' k' b)) (both (another-place k k')))
    by (some k) a none b = absurdly k (sym a ∙ nowhere-before π f f' h b)
    by none a (some k') b = absurdly k' (sym b ∙ nowhere-after π f f' h a)
    by none a none b = same-refusal (row-clear (each 21 n f') rs' b ∙ refusal-same q ∙ sym (row-clear (each 21 n f) rs a))
