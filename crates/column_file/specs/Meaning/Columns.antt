-- REQUEST S-10: a case with its order part column by column, for the archive, and the way back; what the two
-- entries answer and write. Assumes nothing.
use Rattle.std.specs.Prelude.{◌≡◌, Bool, true, false, cond, ◌||◌, List, [], ◌∷◌, ◌++◌, ℕ, zero, suc, ◌+◌, ◌*◌, ◌-◌, ◌/◌, ◌%◌, ◌≤◌, ◌<◌, ltb, length, get_or, take}
use Rattle.std.proofs.Math.Option.{Option, none, some}
use Rattle.base_causes.specs.declared.Outcome.{Outcome}
use Rattle.base_causes.specs.Meaning.Causes.{Cause, verdict, refusal, answer, once}
use Rattle.rules.specs.Meaning.Layout.{order_at, order_size, orders_in, report_room}
use Rattle.rules.specs.Meaning.Verdict.{◌under◌, not_mark, case_refusal, outcome, Readable}
use Rattle.base_output.specs.declared.Written.{Written}
use Rattle.base_output.specs.Meaning.Output.{written_by, output_after}

-- n bytes: f k at each place k
unfoldable pub listed : ℕ → (ℕ → ℕ) → List ℕ
listed zero f = []
listed (suc n) f = listed n f ++ (f n ∷ [])

-- THE PERMUTATION OF OFFSETS of a table with these rows and columns. Written row by row, byte q of the table is
-- in row q / columns and column q % columns; written column by column it stands at this place. The inverse is the
-- same with rows and columns exchanged.
unfoldable pub transposed : (rows columns : ℕ) → ℕ → ℕ
transposed rows columns q = q % columns * rows + q / columns

-- THE OTHER ARRANGEMENT of a file whose orders begin at `start`: the mark is LT and a letter, and the bytes from
-- there to the orders stay. The orders become a table of `rows` rows and `columns` columns; before, it had
-- `columns` rows and `rows` columns. The length stays, whatever the file holds.
unfoldable pub arranged_byte : (letter start rows columns : ℕ) → List ℕ → ℕ → ℕ
arranged_byte letter start rows columns s k =
    cond (ltb k 3) (get_or (76 ∷ 84 ∷ letter ∷ []) k 0)
    (cond (ltb k start) (get_or s k 0)
    (get_or s (start + transposed rows columns (k - start)) 0))

unfoldable pub arranged : (letter start rows columns : ℕ) → List ℕ → List ℕ
arranged letter start rows columns s = listed (length s) (arranged_byte letter start rows columns s)

-- COLUMNED, mark LTK: a row for each of an order's ten bytes (zone, side, four of the quantity, four of the price),
-- with a byte for each order
unfoldable pub columned_of : List ℕ → List ℕ
columned_of s = arranged 75 (order_at s 0) order_size (orders_in s) s

-- RESTORED, mark LTC: a row for each order, with its ten bytes
unfoldable pub restored_of : List ℕ → List ℕ
restored_of t = arranged 67 (order_at t 0) (orders_in t) order_size t

-- WHAT IS ASKED, of a file and of the room in the output: 71 and then 72.
abbrev pub refuses : Option Outcome → Bool
refuses (some o) = true
refuses none = false

-- the case is not readable: one of 1 to 8 refuses it
unfoldable pub unreadable : List ℕ → Bool
unreadable s = refuses (case_refusal s)

-- the mark is not LTK, or no readable case results
unfoldable pub not_restored : List ℕ → Bool
not_restored t = not_mark 76 84 75 t || unreadable (restored_of t)

-- the output is shorter than the file
abbrev pub short_output : ℕ → ℕ → Cause
short_output size room = once 72 (room under size)

unfoldable pub columned_causes : List ℕ → ℕ → List Cause
columned_causes s room = once 71 (unreadable s) ∷ short_output (length s) room ∷ []

unfoldable pub restored_causes : List ℕ → ℕ → List Cause
restored_causes t room = once 71 (not_restored t) ∷ short_output (length t) room ∷ []

-- COLUMNING a case s into an output: number and index, what is written (nothing for a refusal), and every byte of
-- the output afterwards
unfoldable pub columned_outcome : List ℕ → ℕ → Outcome
columned_outcome s room = answer (refusal (columned_causes s room))

unfoldable pub columned_written : List ℕ → ℕ → List ℕ
columned_written s room = written_by (refusal (columned_causes s room)) (columned_of s)

unfoldable pub columned_output : List ℕ → List ℕ → List ℕ
columned_output s out = output_after (columned_written s (length out)) out

-- THE WAY BACK of a columned file t, in the same way
unfoldable pub restored_outcome : List ℕ → ℕ → Outcome
restored_outcome t room = answer (refusal (restored_causes t room))

unfoldable pub restored_written : List ℕ → ℕ → List ℕ
restored_written t room = written_by (refusal (restored_causes t room)) (restored_of t)

unfoldable pub restored_output : List ℕ → List ℕ → List ℕ
restored_output t out = output_after (restored_written t (length out)) out

-- WHAT HOLDS OF AN ANSWER. The columned file u of a case s, byte by byte: the length, the mark, all from the mark
-- to the orders, and byte k of order i, which stands in column k at place i. `only-columned` shows that no other
-- file has these bytes.
pub record Columned (s u : List ℕ) : Type 0 where
  pub long : length u ≡ length s
  pub mark : (k : ℕ) → k < 3 → get_or u k 0 ≡ get_or (76 ∷ 84 ∷ 75 ∷ []) k 0
  pub kept : (k : ℕ) → 3 ≤ k → k < order_at s 0 → get_or u k 0 ≡ get_or s k 0
  pub column : (i k : ℕ) → i < orders_in s → k < order_size → get_or u (order_at s 0 + (k * orders_in s + i)) 0 ≡ get_or s (order_at s i + k) 0

-- the way back takes u, and the case s results
pub record ComesBack (s u : List ℕ) : Type 0 where
  pub taken : not_restored u ≡ false
  pub same : restored_of u ≡ s

-- the judgement refuses u by 2, whatever the proposal, if there is room for a report
pub record NotJudged (u : List ℕ) : Type 0 where
  pub by_2 : (t : List ℕ) (room : ℕ) → report_room ≤ room → outcome u t room ≡ verdict 2 0

-- the case s that a file t is restored to: it is readable, t is its columned file byte by byte, and columning it
-- gives t again
pub record Restored (t s : List ℕ) : Type 0 where
  pub readable : Readable s
  pub bytes : Columned s t
  pub same : columned_of s ≡ t

-- WHAT AN ANSWER r MUST MEET, with the output `before` and then `after`: number and index, the length of what is
-- written, every byte of the output, and for an answer by 0 what its bytes hold
pub record CaseColumned (s before : List ℕ) (r : Written) (after : List ℕ) : Type 0 where
  pub outcome-is : verdict r.number r.index ≡ columned_outcome s (length before)
  pub written : r.length ≡ length (columned_written s (length before))
  pub output : after ≡ columned_output s before
  pub columns : r.number ≡ 0 → Columned s (take r.length after)
  pub back : r.number ≡ 0 → ComesBack s (take r.length after)
  pub not-judged : r.number ≡ 0 → NotJudged (take r.length after)

pub record CaseRestored (t before : List ℕ) (r : Written) (after : List ℕ) : Type 0 where
  pub outcome-is : verdict r.number r.index ≡ restored_outcome t (length before)
  pub written : r.length ≡ length (restored_written t (length before))
  pub output : after ≡ restored_output t before
  pub restored : r.number ≡ 0 → Restored t (take r.length after)
