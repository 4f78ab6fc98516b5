-- Link l of a case as a struct.
use Rattle.std.specs.Prelude.{List, ℕ, pos}
use Rattle.rules.specs.Meaning.Layout.{from_in, to_in, capacity_in}
use Rattle.case_links.specs.declared.Link.{Link}

-- link l of the case s
abbrev pub link_of : List ℕ → ℕ → Link
link_of s l = record { from = from_in s l; to = to_in s l; capacity = record { 0 = pos (capacity_in s l) } }
