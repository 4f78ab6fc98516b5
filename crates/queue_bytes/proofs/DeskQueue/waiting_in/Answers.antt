-- `DeskQueue::waiting_in`: a cell that counts finds room, and each cell read adds its hour or none. Assumes nothing.
use Rattle.std.specs.Prelude.{◌≡◌, length}
use Rattle.std.proofs.Common.{sym, ap, ◌∙◌, arith, rules}
use Rattle.queue_bytes.specs.declared.Waiting.{Waiting}
use Rattle.queue_bytes.specs.Steps.Cells.{waiting_of}
use Rattle.queue_bytes.proofs.Steps.Cells.{kept_more, kept_same}
use Rattle.queue_bytes.proofs.Steps.Walks.{hours_to, read_none, read-good, read-room, read_more, read_all}
use Rattle.queue_bytes.proofs.DeskQueue.waiting_in.Goals as goal
use Rattle.queue_bytes.proofs.DeskQueue.waiting_in.Goals.{then-counts, else-counts}

pub loop-c-init : goal.loop-c-init
loop-c-init c = read_none c.args.self.bytes c.args.area

pub bounds-cells-count : goal.bounds-cells-count
bounds-cells-count c =
    read-room c.args.self.bytes c.args.area (record { cells = c.loop-c.cells; count = c.loop-c.count }) _ c.loop-c.c-index c.loop-c.invariant (sym c.counts.ensures ∙ c.if-counts.true)

pub overflow_add-count : goal.overflow_add-count
overflow_add-count c =
    record { fits = omega (arith, read-room c.args.self.bytes c.args.area (record { cells = c.loop-c.cells; count = c.loop-c.count }) _ c.loop-c.c-index c.loop-c.invariant (sym c.counts.ensures ∙ c.if-counts.true)) }

pub loop-c-preserved : goal.loop-c-preserved
loop-c-preserved c =
    let b = c.args.self.bytes in
    let a = c.args.area in
    let i = c.loop-c.c-index in
    let n : length b ≡ 101 = search rules in
    let w : Waiting = record { cells = c.loop-c.cells; count = c.loop-c.count } in
    let on = ap waiting_of (read_more b a i n c.requires (omega arith)) in
    elim c.if-counts.branch [
      | then-counts t ↦ ((λ j. record { cells = t.cells-is j; count = t.count-is j }) ∙ kept_more w _ (hours_to b a i) (read-good b a i) c.loop-c.invariant (sym c.counts.ensures ∙ t.if-counts.true) ∙ on)
      | else-counts t ↦ ((λ j. record { cells = t.cells-is j; count = t.count-is j }) ∙ kept_same w _ (hours_to b a i) (read-good b a i) c.loop-c.invariant (sym c.counts.ensures ∙ t.if-counts.false) ∙ on)
    ]

pub returns : goal.returns
returns c =
    let b = c.args.self.bytes in
    let n : length b ≡ 101 = search rules in
    c.loop-c.invariant ∙ ap waiting_of (read_all b c.args.area c.loop-c.c-index (omega arith) n c.requires)
