-- Bytes put into a buffer at a position, and texts in a run. Assumes nothing.
use Rattle.std.specs.Prelude.{◌≡◌, refl, List, [], ◌∷◌, ◌++◌, ℕ, suc, ◌+◌, ◌<◌, length, set}
use Rattle.std.proofs.Common.{ap, subst, ◌∙◌, arith, length-append}
use Rattle.std.proofs.lemmas.List.{set_comm}
use Rattle.std.proofs.lemmas.List.Edits.{sets}
use Rattle.std.proofs.Math.Seq.{length-sets}
use Rattle.base_integers.specs.Steps.Bytes.{sets-append}
use Rattle.text_rules.specs.Meaning.Put.{Put}

-- an equal text
pub put_as : {before text other after : List ℕ} {at next : ℕ} → text ≡ other → Put before at text after next → Put before at other after next
put_as {before} {after = after} {at = at} {next = next} e p = subst (λ (t : List ℕ). Put before at t after next) e p

pub put-length : {before text after : List ℕ} {at next : ℕ} → Put before at text after next → length after ≡ length before
put-length {before} {text} {after} {at} p = ap length p.bytes ∙ length-sets before at text

-- one text after another
pub put_then : {before middle after a b : List ℕ} {at mid next : ℕ} → Put before at a middle mid → Put middle mid b after next → Put before at (a ++ b) after next
put_then {before} {middle} {after} {a} {b} {at} {mid} p q = record {
  bytes = q.bytes ∙ ap (λ (k : ℕ). sets middle k b) p.position ∙ ap (λ (l : List ℕ). sets l (at + length a) b) p.bytes ∙ sets-append before at a b;
  position = omega (arith, q.position, p.position, length-append a b);
}

pub put_byte : (before : List ℕ) (at x : ℕ) → Put before at (x ∷ []) (set before at x) (at + 1)
put_byte before at x = record { bytes = refl; position = refl }

-- a byte in front of a text that stands there already
set-sets : (old : List ℕ) (i at x : ℕ) (text : List ℕ) → i < at → set (sets old at text) i x ≡ sets (set old i x) at text
set-sets old i at x [] h = refl
set-sets old i at x (y ∷ text) h = set-sets (set old at y) i (suc at) x text (omega arith) ∙ ap (λ (l : List ℕ). sets l (suc at) text) (set_comm old at i y x apart)
  where
    apart : at ≡ i → ⊥
    apart e = omega arith

pub put_front : (before : List ℕ) (at past x : ℕ) (text : List ℕ) → at + 1 ≡ past → set (sets before past text) at x ≡ sets before at (x ∷ text)
put_front before at past x text e = set-sets before at past x text (omega arith) ∙ ap (λ (k : ℕ). sets (set before at x) k text) (omega-suc at past e)
  where
    omega-suc : (at past : ℕ) → at + 1 ≡ past → past ≡ suc at
    omega-suc at past e = omega arith
