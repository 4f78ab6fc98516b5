-- The loop's invariant: the pairs before k stand in the table.
use Rattle.flow_pairs.specs.Meaning.Table.{PairsTabled}
use Rattle.flow_pairs.proofs.pair_table.Given as goal

abbrev pub invariant-loop-k : goal.invariant-loop-k
invariant-loop-k l = PairsTabled l.pairs l.k l.table
