-- The case and the proposal in what is lent: two files, or one input that is cut as the desk's is. Assumes nothing.
use Rattle.std.specs.Prelude.{List, ℕ}
use Rattle.rules.specs.Meaning.Cut.{case_part, proposal_part}
use Rattle.case_file.specs.declared.Files.{Files}
use Rattle.case_file.specs.declared.Files.TheVariants.{Apart, Joined}

abbrev pub case_in : Files → List ℕ → List ℕ
case_in Apart s = s
case_in Joined s = case_part s

abbrev pub proposal_in : Files → List ℕ → List ℕ
proposal_in Apart t = t
proposal_in Joined t = proposal_part t
