-- REQUEST S-5: a proposal straight from the solver's dump. A dump has one binary64 value for each field of the
-- proposal after its version, in the same order: the LTA share and the system price, a share per order, a flow per
-- link, a shadow price per branch. Assumes nothing.
use Rattle.std.specs.Prelude.{◌≡◌, Bool, true, false, not, List, [], ◌∷◌, ◌++◌, ℕ, zero, suc, ◌+◌, ◌*◌, ◌<◌, length, ℤ, pos}
use Rattle.std.proofs.Math.Option.{Option, none, some}
use Rattle.std.specs.Int.{w64}
use Rattle.std.proofs.Common.{of_z}
use Rattle.base_integers.specs.Meaning.Bytes.{bytes_of}
use Rattle.base_causes.specs.declared.Outcome.{Outcome}
use Rattle.base_causes.specs.Meaning.Causes.{Cause, verdict, refusal, answer, once, field, each}
use Rattle.rules.specs.Meaning.Layout.{orders_in, links_in, branches_in, quantity_in, proposal_length, share_in, system_in, volume_in, flow_in, shadow_in}
use Rattle.rules.specs.Meaning.Verdict.{◌under◌, differ, case_refusal, proposal_refusal}
use Rattle.base_output.specs.declared.Written.{Written}
use Rattle.base_output.specs.Meaning.Output.{written_by, output_after}
use Rattle.dump_binary64.specs.Meaning.Value.{bits_at, finite, ShareWithin}
use Rattle.dump_values.specs.Meaning.Field.{kind_of, converted, fault}

-- how many values a dump for the case s has; eight bytes each, nothing after
unfoldable pub value_count : List ℕ → ℕ
value_count s = 2 + (orders_in s + links_in s + branches_in s)

unfoldable pub dump_length : List ℕ → ℕ
dump_length s = 8 * value_count s

-- THE TABLE, for a case s, a dump d and an output of `room` bytes.
-- 56: one of 1 to 8 refuses the case; the index is that number
abbrev pub refuses : Option Outcome → Bool
refuses (some o) = true
refuses none = false

abbrev pub number_in : Option Outcome → ℕ
number_in (some o) = o.number
number_in none = 0

abbrev pub refused_case : List ℕ → Cause
refused_case s = field 56 (number_in (case_refusal s)) (refuses (case_refusal s))

-- 57: the dump's length is wrong. 58: a value is not finite. 59: a value has no field. 60: the output is too short
abbrev pub wrong_length : List ℕ → List ℕ → Cause
wrong_length s d = once 57 (differ (length d) (dump_length s))

abbrev pub not_finite : List ℕ → List ℕ → Cause
not_finite s d = each 58 (value_count s) (λ n. not (finite (bits_at d n)))

abbrev pub out_of_field : List ℕ → List ℕ → Cause
out_of_field s d = each 59 (value_count s) (λ n. fault (kind_of s n) (bits_at d n))

abbrev pub short_output : List ℕ → ℕ → Cause
short_output s room = once 60 (room under proposal_length s)

unfoldable pub dump_causes : List ℕ → List ℕ → ℕ → List Cause
dump_causes s d room = refused_case s ∷ wrong_length s d ∷ not_finite s d ∷ out_of_field s d ∷ short_output s room ∷ []

unfoldable pub dump_refusal : List ℕ → List ℕ → ℕ → Option Outcome
dump_refusal s d room = refusal (dump_causes s d room)

unfoldable pub dump_outcome : List ℕ → List ℕ → ℕ → Outcome
dump_outcome s d room = answer (dump_refusal s d room)

-- THE BYTES: mark LTP and version 1, and each value's number in 32 bits, little-endian, a negative one in two's
-- complement; the fields of n values from value a on
abbrev pub proposal_mark : List ℕ
proposal_mark = 76 ∷ 84 ∷ 80 ∷ 1 ∷ 0 ∷ []

abbrev pub field_bytes : ℤ → List ℕ
field_bytes z = bytes_of 4 (of_z w64 z)

unfoldable pub fields_from : List ℕ → List ℕ → ℕ → ℕ → List ℕ
fields_from s d a zero = []
fields_from s d a (suc n) = fields_from s d a n ++ field_bytes (converted (kind_of s (a + n)) (bits_at d (a + n)))

unfoldable pub proposal_bytes : List ℕ → List ℕ → List ℕ
proposal_bytes s d = proposal_mark ++ fields_from s d 0 (value_count s)

-- what is written into an output: the proposal; nothing for a refusal
unfoldable pub dump_written : List ℕ → List ℕ → ℕ → List ℕ
dump_written s d room = written_by (dump_refusal s d room) (proposal_bytes s d)

-- the output afterwards: what is written, then the old bytes past it
unfoldable pub dump_output : List ℕ → List ℕ → List ℕ → List ℕ
dump_output s d out = output_after (dump_written s d (length out)) out

-- WHAT AN ANSWER MUST MEET: number and index, the length of what it wrote, and every byte of the output afterwards
pub record DumpAnswered (s d before : List ℕ) (r : Written) (after : List ℕ) : Type 0 where
  pub outcome : verdict r.number r.index ≡ dump_outcome s d (length before)
  pub written : r.length ≡ length (dump_written s d (length before))
  pub output : after ≡ dump_output s d before

-- READ BACK: the proposal t of an answer has the right length for the case and passes rows 9 to 14; each field
-- holds the number of its own value and nothing else, so nothing is rebalanced
pub record ProposalHolds (s d t : List ℕ) : Type 0 where
  pub length-is : length t ≡ proposal_length s
  pub passes : proposal_refusal s t ≡ none
  pub share-is : pos (share_in t) ≡ converted (kind_of s 0) (bits_at d 0)
  pub system-is : system_in t ≡ converted (kind_of s 1) (bits_at d 1)
  pub volume-is : (i : ℕ) → i < orders_in s → pos (volume_in s t i) ≡ converted (kind_of s (2 + i)) (bits_at d (2 + i))
  pub flow-is : (l : ℕ) → l < links_in s → pos (flow_in s t l) ≡ converted (kind_of s (2 + (orders_in s + l))) (bits_at d (2 + (orders_in s + l)))
  pub shadow-is : (m : ℕ) → m < branches_in s → pos (shadow_in s t m) ≡ converted (kind_of s (2 + (orders_in s + links_in s + m))) (bits_at d (2 + (orders_in s + links_in s + m)))

-- THE VOLUMES of an answer: each is at most its order's quantity, and differs from the exact product of share and
-- quantity by less than one tenth
pub record VolumesWithin (s d t : List ℕ) : Type 0 where
  pub volume-within : (i : ℕ) → i < orders_in s → ShareWithin (bits_at d (2 + i)) (quantity_in s i) (volume_in s t i)
