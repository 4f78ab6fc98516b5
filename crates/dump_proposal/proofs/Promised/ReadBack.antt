-- WHAT IS WRITTEN IS READ BACK: the proposal has the right length for its case and passes rows 9 to 14, and each
-- field holds the number of its own value. Assumes nothing.
use Rattle.std.specs.Prelude.{◌≡◌, Bool, true, false, ℕ, zero, suc, ◌+◌, ◌*◌, ◌≤◌, ◌<◌, ltb, length, get_or, take, drop, ℤ, negsuc}
use Rattle.std.proofs.Math.Path.{refl, sym, ap}
use Rattle.std.proofs.Common.{◌∙◌, subst, SFits, of_z}
use Rattle.std.proofs.Math.Bool.{not}
use mathlib.Core.List.{List, [], ◌++◌, append_assoc, append-nil}
use Rattle.std.proofs.Math.Option.{Option, none, some}
use Rattle.std.proofs.Math.Decide.{dec_lt}
use native.Mathlib.Omega.{arith}
use borrow.Author.Tests.{le-ltb, eq-eqb, not-false, ltb-false}
use Rattle.std.proofs.Math.Dec.{T}
use Rattle.std.proofs.Math.Seq.{drop-append-add, drop-append_seam, take-append_seam}
use Rattle.std.proofs.Math.IntN.{pos}
use Rattle.std.specs.Float.Ieee.Scale as float
use mir.Syntax.{w32, w64}
use Rattle.base_integers.specs.Meaning.Bytes.{bytes_of, signed32}
use Rattle.base_integers.specs.Steps.Bytes.{bytes-length}
use Rattle.base_integers.specs.Meaning.Ranges.{range, outside}
use Rattle.base_integers.specs.Steps.Ranges.{nat-within, nat-inside, is_false, not_is, nor-left, nor-right}
use Rattle.base_limits.specs.Meaning.Limits as limits
use Rattle.base_causes.specs.declared.Outcome.{Outcome}
use Rattle.base_causes.specs.Meaning.Causes.{Cause, Pass, first_below, refusal, each_at}
use Rattle.base_causes.proofs.Promised.CauseLaws.{empty, all_pass, first-none, row-clear, field-passes}
use Rattle.rules.specs.Meaning.Layout.{u8_at, u16_at, u32_at, i32_at, orders_in, links_in, branches_in, quantity_in, proposal_version, proposal_length, share_in, system_in, volume_in, flow_in, shadow_at, shadow_in}
use Rattle.rules.specs.Meaning.Hour.{case_of, plan_of, prices_of}
use Rattle.rules.specs.Meaning.Verdict.{case_refusal, Readable, not_mark, proposal_causes, proposal_refusal}
use Rattle.rules.proofs.Steps.LayoutLaws.{word-there, signed-there}
use Rattle.rules.proofs.Steps.Passed.{case-sound}
use Rattle.bytes_write.specs.Steps.Halves.{low_half, low_bits}
use Rattle.dump_binary64.specs.Meaning.Value.{bits_at, finite, negative, above_one, cut, nearest, ShareWithin}
use Rattle.dump_binary64.proofs.Promised.Within.{share-within}
use Rattle.dump_values.specs.Meaning.Field.{Kind, share-of, flow, shadow-price, kind_of, product_of, converted, forbidden, field_range, fault}
use Rattle.dump_values.proofs.Promised.PlainPlaces.{after-kind, order-kind, flow-kind, shadow-kind}
use Rattle.dump_proposal.specs.Meaning.Dump.{value_count, refuses, dump_causes, dump_refusal, dump_outcome, proposal_mark, field_bytes, fields_from, proposal_bytes, dump_written, dump_output, ProposalHolds, VolumesWithin}
use Rattle.dump_proposal.proofs.Promised.Causes.{dump-none, dump-writes}
use Rattle.dump_proposal.proofs.Steps.Walks.{fields-length}
use Rattle.dump_proposal.proofs.Steps.Answers.{bytes-are}

-- WHERE A FIELD STANDS
abbrev number : List ℕ → List ℕ → ℕ → ℤ
number s d n = converted (kind_of s n) (bits_at d n)

field-last : (s d : List ℕ) (n : ℕ) (rest : List ℕ) (j : ℕ) → j ≡ n → take 4 (drop (4 * j) (fields_from s d 0 n ++ (field_bytes (number s d (0 + n)) ++ rest))) ≡ field_bytes (number s d j)
field-last s d n rest j e =
    let l : 4 * j ≡ length (fields_from s d 0 n) = omega (arith, fields-length s d 0 n) in
    let last = field_bytes (number s d (0 + n)) in
    ap (λ (k : ℕ). take 4 (drop k (fields_from s d 0 n ++ (last ++ rest)))) l
    ∙ ap (λ (r : List ℕ). take 4 r) (drop-append_seam (fields_from s d 0 n) (last ++ rest))
    ∙ ap (λ (k : ℕ). take k (last ++ rest)) (sym (bytes-length 4 (of_z w64 (number s d (0 + n)))))
    ∙ take-append_seam last rest
    ∙ ap (λ (k : ℕ). field_bytes (number s d k)) (same n j e)
  where
    same : (n j : ℕ) → j ≡ n → 0 + n ≡ j
    same n j e = omega arith

field-there : (s d : List ℕ) (n : ℕ) (rest : List ℕ) (j : ℕ) → j < n → take 4 (drop (4 * j) (fields_from s d 0 n ++ rest)) ≡ field_bytes (number s d j)
unfolding fields_from
field-there s d zero rest j h = absurd (omega arith)
field-there s d (suc n) rest j h = ap (λ (l : List ℕ). take 4 (drop (4 * j) l)) (append_assoc (fields_from s d 0 n) (field_bytes (number s d (0 + n))) rest)
    ∙ elim (dec_lt j n) [ yes l ↦ field-there s d n (field_bytes (number s d (0 + n)) ++ rest) j l | no g ↦ field-last s d n rest j (omega arith) ]

pub field_at : (s d : List ℕ) (j : ℕ) → j < value_count s → take 4 (drop (5 + 4 * j) (proposal_bytes s d)) ≡ field_bytes (number s d j)
unfolding proposal_bytes
field_at s d j h =
    ap (λ (l : List ℕ). take 4 l) (drop-append-add proposal_mark (fields_from s d 0 (value_count s)) (4 * j))
    ∙ ap (λ (l : List ℕ). take 4 (drop (4 * j) l)) (sym (append-nil (fields_from s d 0 (value_count s))))
    ∙ field-there s d (value_count s) [] j h

-- a number without sign, and of either sign
word_read : (s d : List ℕ) (j m k : ℕ) → j < value_count s → number s d j ≡ pos m → m < 4294967296 → k ≡ 5 + 4 * j → u32_at (proposal_bytes s d) k ≡ m
word_read s d j m k h e l q = word-there (proposal_bytes s d) k m l (ap (λ (i : ℕ). take 4 (drop i (proposal_bytes s d))) q ∙ field_at s d j h ∙ ap field_bytes e)

signed-read : (s d : List ℕ) (j k : ℕ) → j < value_count s → SFits w32 (number s d j) → k ≡ 5 + 4 * j → i32_at (proposal_bytes s d) k ≡ number s d j
signed-read s d j k h f q =
    signed-there (proposal_bytes s d) k (number s d j) f
    (ap (λ (i : ℕ). take 4 (drop i (proposal_bytes s d))) q ∙ field_at s d j h ∙ low-32 (number s d j) f)
  where
    low-32 : (z : ℤ) → SFits w32 z → field_bytes z ≡ signed32 z
    low-32 z f = unfold signed32 in sym (low_half (of_z w64 z)) ∙ ap (bytes_of 4) (low_bits z f)

pub system-fits : (z : ℤ) → outside limits.system_price z ≡ false → SFits w32 z
unfolding outside
system-fits (pos n) e = record { sfits = omega (arith, ltb-false 2147483647 n e) }
system-fits (negsuc n) e = record { sfits = omega (arith, ltb-false 2147483647 n (not_is _ (nor-left (ltb 2147483647 n) false (is_false e)))) }

-- AN ANSWERED DUMP: every row of the table passed
module _ (s d : List ℕ) (room : ℕ) (answered : (dump_outcome s d room).number ≡ 0) where
  passed : (i : ℕ) → Pass (get_or (dump_causes s d room) i empty)
  unfolding dump_refusal
  passed i = all_pass (dump_causes s d room) (dump-none s d room answered) i

  pub readable : Readable s
  unfolding dump_causes
  readable = record { none-holds = by (case_refusal s) ((passed 0).pass 0 (omega arith)) }
    where
      by : (o : Option Outcome) → T (not (refuses o)) → o ≡ none
      by (some x) t = absurd t
      by none t = refl

  pub all-finite : (n : ℕ) → n < value_count s → finite (bits_at d n) ≡ true
  unfolding dump_causes
  all-finite n h = not-false _ (not_is _ ((passed 2).pass n h))

  pub has-field : (n : ℕ) → n < value_count s → fault (kind_of s n) (bits_at d n) ≡ false
  unfolding dump_causes
  has-field n h = not_is _ ((passed 3).pass n h)

  -- nothing forbidden, and in its field's range
  module _ (n : ℕ) (h : n < value_count s) where
    not-forbidden : T (not (forbidden (kind_of s n) (bits_at d n)))
    unfolding fault
    not-forbidden = nor-left (forbidden (kind_of s n) (bits_at d n)) _ (is_false (has-field n h))

    pub in-range : outside (field_range (kind_of s n)) (number s d n) ≡ false
    unfolding fault
    in-range = not_is _ (nor-right (not (float.finite (product_of (kind_of s n) (bits_at d n)))) (outside (field_range (kind_of s n)) (number s d n)) (nor-right (forbidden (kind_of s n) (bits_at d n)) _ (is_false (has-field n h))))

  abbrev t : List ℕ
  t = proposal_bytes s d

  -- A VALUE OF A KNOWN KIND, as a number without sign: it is at most its field's greatest, and stands at its place
  module _ (n : ℕ) (h : n < value_count s) {kind : Kind} (e : kind_of s n ≡ kind) where
    abbrev b : ℕ
    b = bits_at d n

    most-of : (g m : ℕ) → field_range kind ≡ range (pos 0) (pos g) → converted kind b ≡ pos m → m ≤ g
    most-of g m r z = (nat-within 0 g m (is_false (sym (λ i. outside (r i) (z i)) ∙ sym (λ i. outside (field_range (e i)) (converted (e i) b)) ∙ in-range n h))).1

    back-of : (g m k : ℕ) → field_range kind ≡ range (pos 0) (pos g) → converted kind b ≡ pos m → g < 4294967296 → k ≡ 5 + 4 * n → u32_at t k ≡ m
    back-of g m k r z l q = word_read s d n m k h (ap (λ (i : Kind). converted i b) e ∙ z) (lt_by (most-of g m r z) l) q
      where
        lt_by : {a b c : ℕ} → a ≤ b → b < c → a < c
        lt_by h k = omega arith

    allowed : T (not (forbidden kind b))
    allowed = subst (λ (i : Kind). T (not (forbidden i b))) e (not-forbidden n h)

  -- THE OPENING
  opening-in : (n : ℕ) → n < 2 → n < value_count s
  unfolding value_count
  opening-in n h = omega arith

  abbrev share : ℕ
  share = cut (product_of (share-of 100000) (bits_at d 0))

  share_back : share_in t ≡ share
  unfolding share_in kind_of converted
  share_back = back-of 0 (opening-in 0 (omega arith)) refl 100000 share 5 refl refl (omega arith) refl

  share-most : share ≤ 100000
  unfolding kind_of converted
  share-most = most-of 0 (opening-in 0 (omega arith)) refl 100000 share refl refl

  system-back : system_in t ≡ number s d 1
  unfolding system_in kind_of
  system-back = signed-read s d 1 9 (opening-in 1 (omega arith)) (system-fits (number s d 1) (in-range 1 (opening-in 1 (omega arith)))) refl

  -- THE VOLUMES
  module _ (i : ℕ) (h : i < orders_in s) where
    volume-in : 2 + i < value_count s
    unfolding value_count
    volume-in = omega arith

    volume-kind : kind_of s (2 + i) ≡ share-of (quantity_in s i)
    volume-kind = sym (after-kind s i) ∙ order-kind s i h

    quantity-most : quantity_in s i ≤ 100000
    unfolding case_of
    quantity-most = (case-sound s readable).quantity-in i h

    abbrev volume : ℕ
    volume = cut (product_of (share-of (quantity_in s i)) (bits_at d (2 + i)))

    volume-back : volume_in s t i ≡ volume
    unfolding volume_in converted
    volume-back = back-of (2 + i) volume-in volume-kind (quantity_in s i) volume (13 + 4 * i) refl refl (omega (arith, quantity-most)) (omega arith)

    volume-exact : ShareWithin (bits_at d (2 + i)) (quantity_in s i) volume
    unfolding product_of
    volume-exact =
        let a = allowed (2 + i) volume-in volume-kind in
        let b = bits_at d (2 + i) in
        share-within b (quantity_in s i) (all-finite (2 + i) volume-in) (not_is _ (nor-left (negative b) (above_one b) a)) (not_is _ (nor-right (negative b) (above_one b) a)) (omega (arith, quantity-most))

  -- THE FLOWS AND THE SHADOW PRICES
  module _ (l : ℕ) (h : l < links_in s) where
    abbrev flow-place : ℕ
    flow-place = 2 + (orders_in s + l)

    flow-in : flow-place < value_count s
    unfolding value_count
    flow-in = omega arith

    flow-back : flow_in s t l ≡ cut (product_of flow (bits_at d flow-place))
    unfolding flow_in converted
    flow-back = back-of flow-place flow-in (sym (after-kind s (orders_in s + l)) ∙ flow-kind s (orders_in s + l) (omega arith) (omega arith)) 4294967295 (cut (product_of flow (bits_at d flow-place))) (13 + 4 * (orders_in s + l)) refl refl (omega arith) (omega arith)

  module _ (m : ℕ) (h : m < branches_in s) where
    abbrev shadow-place : ℕ
    shadow-place = 2 + (orders_in s + links_in s + m)

    shadow-in : shadow-place < value_count s
    unfolding value_count
    shadow-in = omega arith

    is-shadow : kind_of s shadow-place ≡ shadow-price
    is-shadow = sym (after-kind s (orders_in s + links_in s + m)) ∙ shadow-kind s (orders_in s + links_in s + m) (omega arith) (omega arith)

    abbrev shadow : ℕ
    shadow = nearest (product_of shadow-price (bits_at d shadow-place))

    shadow-back : shadow_in s t m ≡ shadow
    unfolding shadow_in shadow_at converted
    shadow-back = back-of shadow-place shadow-in is-shadow 1000000 shadow (13 + 4 * (orders_in s + links_in s + m)) refl refl (omega arith) (omega arith)

    shadow-most : shadow ≤ 1000000
    unfolding converted
    shadow-most = most-of shadow-place shadow-in is-shadow 1000000 shadow refl refl

  -- ROWS 9 TO 14
  length-is : length t ≡ proposal_length s
  length-is = bytes-are s d

  long-enough : 13 ≤ length t
  long-enough = unfold proposal_length in omega (arith, length-is)

  abbrev rows : List Cause
  rows = proposal_causes s t (case_of s) (plan_of s t) (prices_of s t)

  abbrev bad_shadow : ℕ → Bool
  bad_shadow m = outside limits.shadow_price (pos (shadow_in s t m))

  shadows-in : first_below (branches_in s) bad_shadow ≡ none
  shadows-in = first-none (branches_in s) bad_shadow (λ m h. is_false (ap (λ (n : ℕ). outside limits.shadow_price (pos n)) (shadow-back m h) ∙ not_is _ (nat-inside 0 1000000 (shadow m h) (omega arith) (shadow-most m h))))

  header-passes : refusal rows ≡ refusal (drop 3 rows)
  unfolding proposal_causes not_mark proposal_version u8_at u16_at proposal_bytes
  header-passes = field-passes 9 0 (drop 1 rows) (le-ltb (length t) 13 long-enough) ∙ field-passes 10 0 (drop 2 rows) refl ∙ field-passes 11 0 (drop 3 rows) refl

  body-passes : refusal (drop 3 rows) ≡ refusal []
  unfolding proposal_causes case_of plan_of prices_of
  body-passes =
      field-passes 12 0 (drop 4 rows) (ap not (eq-eqb (length t) (proposal_length s) length-is))
      ∙ field-passes 13 0 (drop 5 rows) (ap (λ (n : ℕ). outside limits.share (pos n)) share_back ∙ not_is _ (nat-inside 0 100000 share (omega arith) share-most))
      ∙ row-clear (each_at 14 (branches_in s) bad_shadow (shadow_at s)) [] shadows-in

  passes : proposal_refusal s t ≡ none
  unfolding proposal_refusal refusal
  passes = header-passes ∙ body-passes

  -- THE THEOREM
  pub read_back : ProposalHolds s d t
  unfolding converted kind_of
  read_back = record {
    length-is = length-is;
    passes = passes;
    share-is = ap pos share_back;
    system-is = system-back;
    volume-is = λ i h. ap pos (volume-back i h) ∙ sym (ap (λ (k : Kind). converted k (bits_at d (2 + i))) (volume-kind i h));
    flow-is = λ l h. ap pos (flow-back l h) ∙ sym (ap (λ (k : Kind). converted k (bits_at d (flow-place l h))) (sym (after-kind s (orders_in s + l)) ∙ flow-kind s (orders_in s + l) (omega arith) (omega arith)));
    shadow-is = λ m h. ap pos (shadow-back m h) ∙ sym (ap (λ (k : Kind). converted k (bits_at d (shadow-place m h))) (is-shadow m h));
  }

  pub volumes : VolumesWithin s d t
  volumes = record { volume-within = λ i h. subst (λ (v : ℕ). ShareWithin (bits_at d (2 + i)) (quantity_in s i) v) (sym (volume-back i h)) (volume-exact i h) }

-- the same for the bytes in the output after the entry wrote them
stands : (s d out : List ℕ) → (dump_outcome s d (length out)).number ≡ 0 → take (length (dump_written s d (length out))) (dump_output s d out) ≡ proposal_bytes s d
unfolding dump_output
stands s d out e = take-append_seam (dump_written s d (length out)) (drop (length (dump_written s d (length out))) out) ∙ dump-writes s d (length out) e

pub written_back : (s d out : List ℕ) → (dump_outcome s d (length out)).number ≡ 0
    → let t = take (length (dump_written s d (length out))) (dump_output s d out) in ProposalHolds s d t × VolumesWithin s d t
written_back s d out e = subst (λ (b : List ℕ). ProposalHolds s d b × VolumesWithin s d b) (sym (stands s d out e)) (read_back s d (length out) e, volumes s d (length out) e)
