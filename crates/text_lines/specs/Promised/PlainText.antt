-- ALL THAT THE DESK PRINTS for an input, in plain bytes: where the input is cut, and which lines its two parts have.
-- The clause `text` of the exported entry cites it. Assumes nothing.
use Rattle.std.specs.Prelude.{◌≡◌, ◌⊎◌, ◌≢◌, List, [], ◌++◌, ℕ, ◌≤◌, ◌<◌, length}
use Rattle.rules.specs.Meaning.Verdict.{outcome}
use Rattle.rules.proofs.Promised.PlainCut.{HeaderFacts, Demands}
use Rattle.rules.proofs.Promised.PlainLines.{VerdictLine, AllLines}

pub record PlainText (input text : List ℕ) : Type 0 where
  pub case-bytes : List ℕ
  pub proposal-bytes : List ℕ
  pub input-is : case-bytes ++ proposal-bytes ≡ input
  -- where the header is good and there are enough bytes, the case has the length that its header demands; else all
  -- is the case
  pub cut-there : HeaderFacts input → (n : ℕ) → Demands input n → n ≤ length input → length case-bytes ≡ n
  pub too_few : HeaderFacts input → (n : ℕ) → Demands input n → length input < n → proposal-bytes ≡ []
  pub bad-header : (HeaderFacts input → ⊥) → proposal-bytes ≡ []
  -- for 0 and 26 all lines, for any other number the first line alone
  pub lines_are : ((outcome case-bytes proposal-bytes 176).number ≡ 0) ⊎ ((outcome case-bytes proposal-bytes 176).number ≡ 26) → AllLines case-bytes proposal-bytes text
  pub line-is : (outcome case-bytes proposal-bytes 176).number ≢ 0 → (outcome case-bytes proposal-bytes 176).number ≢ 26
      → VerdictLine (outcome case-bytes proposal-bytes 176).number (outcome case-bytes proposal-bytes 176).index text
