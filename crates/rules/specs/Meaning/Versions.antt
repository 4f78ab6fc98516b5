-- S-4: "Version 1 is read with contracted equal to capacity." The case of version 2 that a case of version 1 is
-- read as, and where its offsets move. Assumes nothing.
use Rattle.std.specs.Prelude.{cond, List, [], ◌++◌, ℕ, zero, suc, ◌+◌, ◌*◌, ◌-◌, ◌/◌, eqb, take, drop}
use Rattle.base_integers.specs.Meaning.Bytes.{bytes_of}
use Rattle.rules.specs.Meaning.Layout.{links_in, link_at, order_at}
use Rattle.base_causes.specs.declared.Outcome.{Outcome}
use Rattle.base_causes.specs.Meaning.Causes.{verdict}

-- link l of a case of version 1, with its capacity repeated as its contracted volume; then the first links, each so
unfoldable pub contracted_link : List ℕ → ℕ → List ℕ
contracted_link s l = take 6 (drop (link_at s l) s) ++ take 4 (drop (link_at s l + 2) s)

unfoldable pub contracted_links : List ℕ → ℕ → List ℕ
contracted_links s zero = []
contracted_links s (suc l) = contracted_links s l ++ contracted_link s l

-- THE CASE OF VERSION 2: the mark; version 2; the rest of the header and the branches; the links; the orders
unfoldable pub upgraded : List ℕ → List ℕ
upgraded s = take 3 s ++ (bytes_of 2 2 ++ (take (link_at s 0 - 5) (drop 5 s) ++ (contracted_links s (links_in s) ++ drop (order_at s 0) s)))

-- WHERE AN OFFSET MOVES: a link's field by four bytes for each earlier link, an order's by four for each link
unfoldable pub moved_index : List ℕ → ℕ → ℕ → ℕ
moved_index s number index = cond (eqb number 7) (index + 4 * ((index - link_at s 0) / 6)) (cond (eqb number 8) (index + 4 * links_in s) index)

abbrev pub moved : List ℕ → Outcome → Outcome
moved s o = verdict o.number (moved_index s o.number o.index)
