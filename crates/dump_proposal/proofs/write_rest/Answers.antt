-- `dump_proposal::write_rest` meets its contract: each turn writes an entry more.
use Rattle.std.proofs.Common.{refl, ◌∙◌, ◌+◌, ◌*◌, arith, get_or-take, length-take}
use Rattle.std.proofs.Math.Seq.{sets}
use Rattle.base_integers.specs.Meaning.Bytes.{bytes_of}
use Rattle.dump_proposal.specs.Steps.Walks.{table_bytes}
use Rattle.dump_proposal.proofs.Steps.Walks.{table-run}
use Rattle.dump_proposal.proofs.write_rest.Goals as goal

pub loop-i-init : goal.loop-i-init
unfolding table_bytes
loop-i-init c = refl

pub loop-i-preserved : goal.loop-i-preserved
loop-i-preserved c =
    let e = c.from.ensures ∙ get_or-take c.args.rest c.args.table.now c.loop-i.i 0 (omega (arith, length-take c.args.rest c.args.table.now)) in
    c.put.ensures
    ∙ (λ j. sets (c.loop-i.invariant j) (13 + 4 * c.loop-i.i) (bytes_of 4 (e j)))
    ∙ table-run c.args.out.now c.args.table.now c.loop-i.i
