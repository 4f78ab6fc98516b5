-- THE OUTPUT OF AN ANSWER IN PLAIN BYTES: mark, version, and the number of value n in the four bytes from 5 + 4 n
-- on, with each number computed from the bits of its own value. Each product is rounded once. The LTA share is the
-- product with 100,000, cut; a volume the share's product with the quantity, cut; a flow ten times the MW, cut. A
-- price is a hundred times the euros, taken to the nearest cent, halves away from zero. A value at another's place,
-- or of another kind, would make it false. `get_or b k 0` is the byte at place k of the buffer, counted from 0.
-- Assumes nothing.
use Rattle.std.specs.Prelude.{◌≡◌, refl, ℕ, suc, ◌+◌, ◌-◌, ◌*◌, ◌/◌, ◌%◌, ◌^◌, ◌≤◌, ◌<◌, ℤ, pos, negsuc}
use Rattle.std.proofs.Math.Path.{sym, ap}
use Rattle.std.proofs.Common.{◌∙◌, subst, arith, get_or-take, SFits, of_z}
use Rattle.std.proofs.Math.Bool.{false}
use mathlib.Core.List.{List, ◌++◌}
use Rattle.std.proofs.Math.Decide.{dec_lt}
use Rattle.std.proofs.Math.ListN.{length, get_or, drop, length-append, length-drop, get_or-append}
use Rattle.std.proofs.Math.Seq.{get_or-drop, get_or-append-add}
use mir.Syntax.{w32, w64}
use Rattle.base_integers.specs.Steps.Bytes.{byte_at}
use Rattle.base_integers.specs.Meaning.Ranges.{range, outside}
use Rattle.base_integers.specs.Steps.Ranges.{nat-within, is_false}
use Rattle.rules.specs.Meaning.Layout.{u8_at, u16_at, orders_in, links_in, branches_in, quantity_in, proposal_length}
use Rattle.rules.specs.Meaning.Hour.{case_of}
use Rattle.rules.proofs.Steps.Passed.{case-sound}
use Rattle.dump_binary64.specs.Meaning.Value.{bits_at}
use Rattle.dump_binary64.proofs.Promised.Taken.{bits-are-bytes}
use Rattle.dump_values.specs.Meaning.Field.{Kind, share-of, system-price, kind_of, converted, field_range, fault}
use Rattle.dump_values.proofs.Promised.Taken.{ShareTaken, FlowTaken, ShadowTaken, SystemTaken, share-taken, flow-taken, shadow-taken, system-taken}
use Rattle.dump_values.proofs.Promised.PlainFaults.{minus-zero}
use Rattle.dump_values.proofs.Promised.PlainPlaces.{branches, links, orders, first-value, second-value, order_value, link-value, branch-value, by_kind}
use Rattle.dump_proposal.specs.Meaning.Dump.{value_count, dump_outcome, proposal_bytes, dump_written, dump_output}
use Rattle.dump_proposal.proofs.Promised.Causes.{dump-writes}
use Rattle.dump_proposal.specs.Promised.PlainCauses.{bits}
use Rattle.dump_proposal.proofs.Promised.PlainCauses.{values, answered-0}
use Rattle.dump_proposal.proofs.Promised.ReadBack.{readable, all-finite, has-field, in-range, system-fits, field_at}
use Rattle.dump_proposal.proofs.Steps.Answers.{bytes-are}
use Rattle.dump_proposal.specs.Promised.PlainBytes.{modulo32, FieldStands, WrittenProposal}

-- FOUR BYTES of 64 bits
abbrev Fits : ℤ → Type 0
Fits (pos n) = n < 4294967296
Fits (negsuc n) = n < 2147483648

four-cases : (P : ℕ → Type 0) → P 0 → P 1 → P 2 → P 3 → (i : ℕ) → i < 4 → P i
four-cases P a b c e i h = elim (dec_lt i 1) [
  | yes x ↦ let q : 0 ≡ i = omega arith in subst P q a
  | no x ↦ elim (dec_lt i 2) [
    | yes y ↦ let q : 1 ≡ i = omega arith in subst P q b
    | no y ↦ elim (dec_lt i 3) [ yes z ↦ let q : 2 ≡ i = omega arith in subst P q c | no z ↦ let q : 3 ≡ i = omega arith in subst P q e ]
  ]
]

field-byte : (z : ℤ) → Fits z → (i : ℕ) → i < 4 → of_z w64 z / 256 ^ i % 256 ≡ modulo32 z / 256 ^ i % 256
field-byte (pos n) f i h = ap (λ (m : ℕ). m / 256 ^ i % 256) same
  where
    same : n ≡ n % 4294967296
    same = omega arith
field-byte (negsuc n) f i h = four-cases (λ (i : ℕ). (0x1_0000_0000_0000_0000 - suc n) / 256 ^ i % 256 ≡ (4294967295 - n % 4294967296) / 256 ^ i % 256) (omega arith) (omega arith) (omega arith) (omega arith) i h

signed-fits : (z : ℤ) → SFits w32 z → Fits z
signed-fits (pos n) f = omega (arith, f.sfits)
signed-fits (negsuc n) f = omega (arith, f.sfits)

module _ (s d : List ℕ) (room : ℕ) (answered : (dump_outcome s d room).number ≡ 0) where
  abbrev number : ℕ → ℤ
  number n = converted (kind_of s n) (bits_at d n)

  -- a value of a known kind is taken as that kind
  module _ (n : ℕ) (h : n < values s) {kind : Kind} (e : kind_of s n ≡ kind) where
    no-fault : fault kind (bits_at d n) ≡ false
    unfolding value_count orders_in links_in branches_in u8_at u16_at
    no-fault = ap (λ (k : Kind). fault k (bits_at d n)) (sym e) ∙ has-field s d room answered n h

    as-kind : (P : ℕ → ℤ → Type 0) → P (bits_at d n) (converted kind (bits_at d n)) → P (bits d n) (number n)
    as-kind P x = subst (λ (b : ℕ). P b (number n)) (bits-are-bytes d n) (subst (λ (k : Kind). P (bits_at d n) (converted k (bits_at d n))) (sym e) x)

  share-was : (n : ℕ) → n < values s → (q : ℕ) → q ≤ 100000 → kind_of s n ≡ share-of q → ShareTaken (bits d n) q (number n)
  unfolding value_count orders_in links_in branches_in u8_at u16_at
  share-was n h q l e = as-kind n h e (λ (b : ℕ). ShareTaken b q) (share-taken q (bits_at d n) (all-finite s d room answered n h) (omega (arith, l)) (no-fault n h e))

  quantity-most : (i : ℕ) → i < orders s → quantity_in s i ≤ 100000
  unfolding case_of orders_in u16_at
  quantity-most i h = (case-sound s (readable s d room answered)).quantity-in i h

  -- every number fits its four bytes
  fits : (n : ℕ) → n < values s → Fits (number n)
  unfolding value_count orders_in links_in branches_in u8_at u16_at converted
  fits n h = by_kind s (λ (k : Kind). outside (field_range k) (converted k (bits_at d n)) ≡ false → Fits (converted k (bits_at d n)))
      (λ e. upto 100000 _ (omega arith) e)
      (λ e. signed-fits (converted system-price (bits_at d n)) (system-fits (converted system-price (bits_at d n)) e))
      (λ i l e. upto (quantity_in s i) _ (omega (arith, quantity-most i l)) e)
      (λ e. upto 4294967295 _ (omega arith) e)
      (λ e. upto 1000000 _ (omega arith) e)
      n (in-range s d room answered n h)
    where
      upto : (g m : ℕ) → g < 4294967296 → outside (range (pos 0) (pos g)) (pos m) ≡ false → m < 4294967296
      upto g m l e = omega (arith, (nat-within 0 g m (is_false e)).1)

  abbrev size : ℕ
  size = 13 + 4 * (orders s + links s + branches s)

  written-length : length (proposal_bytes s d) ≡ size
  unfolding proposal_length orders_in links_in branches_in u8_at u16_at
  written-length = bytes-are s d

  number-stands : (n : ℕ) → n < values s → FieldStands (proposal_bytes s d) (5 + 4 * n) (number n)
  unfolding value_count orders_in links_in branches_in u8_at u16_at
  number-stands n h i l =
      sym (get_or-drop (5 + 4 * n) (proposal_bytes s d) i 0) ∙ sym (get_or-take 4 (drop (5 + 4 * n) (proposal_bytes s d)) i 0 l) ∙ ap (λ (b : List ℕ). get_or b i 0) (field_at s d n h)
      ∙ byte_at 4 (of_z w64 (number n)) i l ∙ field-byte (number n) (fits n h) i l

module _ (s d before : List ℕ) (answered : (dump_outcome s d (length before)).number ≡ 0) where
  abbrev after : List ℕ
  after = dump_output s d before

  output-is : after ≡ proposal_bytes s d ++ drop (length (proposal_bytes s d)) before
  unfolding dump_output
  output-is = ap (λ (b : List ℕ). b ++ drop (length b) before) (dump-writes s d (length before) answered)

  in-proposal : (k : ℕ) → k < size s d (length before) answered → get_or after k 0 ≡ get_or (proposal_bytes s d) k 0
  in-proposal k h = ap (λ (b : List ℕ). get_or b k 0) output-is ∙ get_or-append (proposal_bytes s d) _ 0 k (omega (arith, h, written-length s d (length before) answered))

  room-for-it : size s d (length before) answered ≤ length before
  room-for-it = (answered-0 s d (length before) answered).1.1

  number-there : (n : ℕ) → n < values s → FieldStands after (5 + 4 * n) (number s d (length before) answered n)
  number-there n h i l = (let k : 5 + 4 * n + i < 13 + 4 * (orders s + links s + branches s) = omega (arith, h, l) in in-proposal (5 + 4 * n + i) k) ∙ number-stands s d (length before) answered n h i l

  -- THE THEOREM
  pub proposal-written : WrittenProposal s d before after
  unfolding proposal_bytes
  proposal-written =
      let room = length before in
      let at = in-proposal in
      record {
        mark-at = (at 0 (omega arith), (at 1 (omega arith), at 2 (omega arith)));
        version-at = (at 3 (omega arith), at 4 (omega arith));
        number = number s d room answered;
        number_at = number-there;
        share-is = share-was s d room answered 0 (omega arith) 100000 (omega arith) (first-value s);
        system-is = as-kind s d room answered 1 (omega arith) (second-value s) SystemTaken (system-taken (bits_at d 1) (no-fault s d room answered 1 (omega arith) (second-value s)));
        volume-is = λ i h. share-was s d room answered (2 + i) (omega (arith, h)) (quantity_in s i) (quantity-most s d room answered i h) (order_value s i h);
        flow-is = λ l h. as-kind s d room answered (2 + (orders s + l)) (omega (arith, h)) (link-value s l h) FlowTaken (flow-taken (bits_at d (2 + (orders s + l))) (no-fault s d room answered (2 + (orders s + l)) (omega (arith, h)) (link-value s l h)));
        shadow-is = λ m h. as-kind s d room answered (2 + (orders s + links s + m)) (omega (arith, h)) (branch-value s m) ShadowTaken (shadow-taken (bits_at d (2 + (orders s + links s + m))) (no-fault s d room answered (2 + (orders s + links s + m)) (omega (arith, h)) (branch-value s m)));
        past-it = λ k h. past k h;
        same_length = ap length output-is ∙ length-append (proposal_bytes s d) _ ∙ omega (arith, length-drop (length (proposal_bytes s d)) before, written-length s d room answered, room-for-it);
      }
    where
      past : (k : ℕ) → 13 + 4 * (orders s + links s + branches s) ≤ k → get_or after k 0 ≡ get_or before k 0
      past k h =
          let size_is = written-length s d (length before) answered in
          let there : length (proposal_bytes s d) + (k - length (proposal_bytes s d)) ≡ k = omega (arith, h, size_is) in
          ap (λ (b : List ℕ). get_or b k 0) output-is
          ∙ ap (λ (j : ℕ). get_or (proposal_bytes s d ++ drop (length (proposal_bytes s d)) before) j 0) (sym there)
          ∙ get_or-append-add (proposal_bytes s d) _ (k - length (proposal_bytes s d)) 0
          ∙ get_or-drop (length (proposal_bytes s d)) before (k - length (proposal_bytes s d)) 0
          ∙ ap (λ (j : ℕ). get_or before j 0) there

  -- MINUS ZERO IS ZERO, at any place
  pub minus-zero-written : (n : ℕ) → n < 2 + (orders s + links s + branches s) → bits d n ≡ 2 ^ 63 → (i : ℕ) → i < 4 → get_or after (5 + 4 * n + i) 0 ≡ 0
  minus-zero-written n h e i l =
      number-there n h i l
      ∙ ap (λ (z : ℤ). modulo32 z / 256 ^ i % 256) (ap (converted (kind_of s n)) (bits-are-bytes d n ∙ e) ∙ (minus-zero (kind_of s n)).1)
      ∙ four-cases (λ (i : ℕ). 0 / 256 ^ i % 256 ≡ 0) refl refl refl refl i l

-- its length is that of the proposal, and a refusal writes nothing
pub length-written : (s d : List ℕ) (room : ℕ) → (dump_outcome s d room).number ≡ 0 → length (dump_written s d room) ≡ 13 + 4 * (orders s + links s + branches s)
length-written s d room e = ap length (dump-writes s d room e) ∙ written-length s d room e
