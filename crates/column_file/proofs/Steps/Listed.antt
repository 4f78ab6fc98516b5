-- Lists given by their entry at each place, and runs of stores of them. Assumes nothing.
use Rattle.std.specs.Prelude.{◌≡◌, refl, List, [], ◌∷◌, ◌++◌, ℕ, zero, suc, ◌+◌, ◌≤◌, ◌<◌, length, get_or, set}
use Rattle.std.proofs.Common.{sym, ap, ◌∙◌, append_assoc, append-nil, add-zero, add-one, arith, length-append}
use Rattle.std.proofs.Math.Decide.{dec_lt}
use Rattle.std.proofs.Math.ListN.{get_or-append, get_or-eq_default}
use Rattle.std.proofs.lemmas.List.Edits.{sets}
use Rattle.std.proofs.Math.Seq.{get_or-append_seam}
use Rattle.base_integers.specs.Steps.Bytes.{sets-append}
use Rattle.column_file.specs.Meaning.Columns.{listed}

pub listed-length : (n : ℕ) (f : ℕ → ℕ) → length (listed n f) ≡ n
unfolding listed
listed-length zero f = refl
listed-length (suc n) f = omega (arith, length-append (listed n f) (f n ∷ []), listed-length n f)

pub listed_at : (n : ℕ) (f : ℕ → ℕ) (k : ℕ) → k < n → get_or (listed n f) k 0 ≡ f k
unfolding listed
listed_at zero f k h = absurd (omega arith)
listed_at (suc n) f k h = elim (dec_lt k n) [
  | yes l ↦ get_or-append (listed n f) (f n ∷ []) 0 k (omega (arith, listed-length n f)) ∙ listed_at n f k l
  | no g ↦ last (omega arith)
]
  where
    last : k ≡ n → get_or (listed n f ++ (f n ∷ [])) k 0 ≡ f k
    last e = ap (λ (x : ℕ). get_or (listed n f ++ (f n ∷ [])) x 0) (e ∙ sym (listed-length n f)) ∙ get_or-append_seam (listed n f) (f n) [] 0 ∙ ap f (sym e)

pub listed-past : (n : ℕ) (f : ℕ → ℕ) (k : ℕ) → n ≤ k → get_or (listed n f) k 0 ≡ 0
listed-past n f k h = get_or-eq_default (listed n f) 0 (omega (arith, listed-length n f))

pub listed-ext : (n : ℕ) (f g : ℕ → ℕ) → ((k : ℕ) → k < n → f k ≡ g k) → listed n f ≡ listed n g
unfolding listed
listed-ext zero f g h = refl
listed-ext (suc n) f g h = λ j. listed-ext n f g (λ k l. h k (omega arith)) j ++ (h n (omega arith) j ∷ [])

-- in two parts
pub listed-append : (m n : ℕ) (f : ℕ → ℕ) → listed (m + n) f ≡ listed m f ++ listed n (λ k. f (m + k))
unfolding listed
listed-append m zero f = ap (λ (k : ℕ). listed k f) (add-zero m) ∙ sym (append-nil (listed m f))
listed-append m (suc n) f =
    let e : m + suc n ≡ suc (m + n) = omega arith in
    ap (λ (k : ℕ). listed k f) e
    ∙ ap (λ (l : List ℕ). l ++ (f (m + n) ∷ [])) (listed-append m n f)
    ∙ append_assoc (listed m f) (listed n (λ k. f (m + k))) (f (m + n) ∷ [])

-- A RUN OF STORES from place i on: one number more, and one list more
pub store-more : (l : List ℕ) (i n : ℕ) (f : ℕ → ℕ) → set (sets l i (listed n f)) (i + n) (f n) ≡ sets l i (listed (n + 1) f)
unfolding listed
store-more l i n f =
    ap (λ (k : ℕ). set (sets l i (listed n f)) (i + k) (f n)) (sym (listed-length n f))
    ∙ sets-append l i (listed n f) (f n ∷ [])
    ∙ ap (λ (k : ℕ). sets l i (listed k f)) (sym (add-one n))

pub store-list : (l : List ℕ) (i m n : ℕ) (f : ℕ → ℕ) → sets (sets l i (listed m f)) (i + m) (listed n (λ k. f (m + k))) ≡ sets l i (listed (m + n) f)
store-list l i m n f =
    ap (λ (k : ℕ). sets (sets l i (listed m f)) (i + k) (listed n (λ k. f (m + k)))) (sym (listed-length m f))
    ∙ sets-append l i (listed m f) (listed n (λ k. f (m + k)))
    ∙ ap (sets l i) (sym (listed-append m n f))
