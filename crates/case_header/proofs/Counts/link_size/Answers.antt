-- `case_header::Counts::link_size` meets its contract: a contracted volume makes a link four bytes longer.
-- Assumes nothing.
use Rattle.std.proofs.Common.{Bool, cond, ◌+◌, sym, ap, ◌∙◌}
use Rattle.rules.specs.Meaning.Layout.{contracted_size}
use Rattle.case_header.proofs.Counts.link_size.Goals as goal

pub returns-then-contracts : goal.returns-then-contracts
unfolding contracted_size
returns-then-contracts c = ap (λ (b : Bool). 6 + cond b 4 0) (sym c.if-contracts.true ∙ c.contracts.ensures)

pub returns : goal.returns
unfolding contracted_size
returns c = ap (λ (b : Bool). 6 + cond b 4 0) (sym c.if-contracts.false ∙ c.contracts.ensures)
