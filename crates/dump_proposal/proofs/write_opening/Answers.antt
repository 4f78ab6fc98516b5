-- `dump_proposal::write_opening` meets its contract: three runs of stores, one after the other.
use Rattle.std.proofs.Common.{◌∙◌}
use Rattle.std.proofs.Math.Seq.{sets}
use Rattle.base_integers.specs.Meaning.Bytes.{bytes_of}
use Rattle.dump_proposal.proofs.Steps.Walks.{opening-run}
use Rattle.dump_proposal.proofs.write_opening.Goals as goal

pub returns : goal.returns
returns c =
    let a = c.args in
    c.put-2.ensures
    ∙ (λ j. sets ((c.put.ensures ∙ (λ i. sets (c.put_mark.ensures i) 5 (bytes_of 4 a.opening.share.0))) j) 9 (bytes_of 4 a.opening.system.0))
    ∙ opening-run a.out.now a.opening.share.0 a.opening.system.0
