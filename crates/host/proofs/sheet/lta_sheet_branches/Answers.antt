-- `host::sheet::lta_sheet_branches` meets its contract: its clauses are parts of the contract of `sheet_branches`.
-- Assumes nothing.
use Rattle.sheet_branches.specs.Promised.Clauses.{branches-held, causes-plain, bytes-plain}
use Rattle.host.proofs.sheet.lta_sheet_branches.Goals as goal

pub returns-clause-branches : goal.returns-clause-branches
returns-clause-branches c = branches-held c.sheet_branches.ensures

pub returns-clause-causes : goal.returns-clause-causes
returns-clause-causes c = causes-plain c.sheet_branches.ensures

pub returns-clause-bytes : goal.returns-clause-bytes
returns-clause-bytes c = bytes-plain c.sheet_branches.ensures
