-- THE SCRATCH AFTERWARDS: its first n numbers are zero, the others unchanged. Assumes nothing.
use Rattle.std.specs.Prelude.{◌≡◌, List, ℕ, ◌-◌, ◌≤◌, ◌<◌, ◌++◌, length, get_or, replicate, take, drop, ℤ, pos}
use Rattle.std.proofs.Common.{ap, ◌∙◌, arith, length-append, length-drop}
use Rattle.std.proofs.Math.ListN.{get_or-append}
use Rattle.std.proofs.lemmas.List.{length-take-le, get_or-append_right, get_or-drop, get_or-replicate, length-replicate}
use Rattle.flow_scratch.specs.Steps.Scratch.{Rest}
use Rattle.flow_scratch.specs.Meaning.Cleared.{Cleared}

-- the first n numbers were blanked
pub cleared_blank : (n : ℕ) (s z : List ℤ) → n ≤ length s → z ≡ replicate (length (take n s)) (pos 0) → Cleared n s (z ++ drop n s)
cleared_blank n s z h e = record {
  len = simp (length-append, length-drop) (omega (arith, h, wide));
  zeros = λ i p. get_or-append z (drop n s) (pos 0) i (omega (arith, wide)) ∙ blank i p;
  past = λ i p. get_or-append_right z (drop n s) n i (pos 0) wide p ∙ get_or-drop n s (i - n) (pos 0) ∙ ap (λ (k : ℕ). get_or s k (pos 0)) (omega arith);
}
  where
    room : length (take n s) ≡ n
    room = length-take-le n s h

    wide : length z ≡ n
    wide = ap length e ∙ length-replicate (length (take n s)) (pos 0) ∙ room

    blank : (i : ℕ) → i < n → get_or z i (pos 0) ≡ pos 0
    blank i p = rw e (get_or-replicate (length (take n s)) i (pos 0) (pos 0) (omega (arith, room)))

-- cleared in its first m numbers, used in its first 96, then cleared in its first n
pub cleared-again : (m n : ℕ) (s s' t t' : List ℤ) → 96 ≤ n → m ≤ n → Cleared m s s' → Rest s' t → Cleared n t t' → Cleared n s t'
cleared-again m n s s' t t' h k a b c = record {
  len = c.len ∙ b.len ∙ a.len;
  zeros = c.zeros;
  past = λ i l. c.past i l ∙ b.past i (omega arith) ∙ a.past i (omega arith);
}
