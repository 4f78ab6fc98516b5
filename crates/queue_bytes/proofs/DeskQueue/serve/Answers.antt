-- `DeskQueue::serve`: nothing is found, or the first hour of the found area is taken out. Assumes nothing.
use Rattle.std.specs.Prelude.{◌≡◌, Some, ℕ, ◌+◌, ◌%◌, length, get_or, set}
use Rattle.std.proofs.Common.{◌∙◌, sym, subst, arith, rules}
use Rattle.queue_bytes.specs.Steps.Answers.{ServeStep}
use Rattle.queue_bytes.proofs.Steps.Answers.{Taking, taking, serve-64, first_cell, cells_left, serve-taken}
use Rattle.queue_bytes.proofs.DeskQueue.serve.Goals as goal
use Rattle.queue_bytes.proofs.DeskQueue.serve.Goals.{In_ok-area}

-- what the found area has waiting
found : (c : In_ok-area) → Taking c.args.self.bytes c.in_ok-area.area
found c = taking c.args.self.bytes c.in_ok-area.area (sym c.in_ok-area.was ∙ c.next_area.ensures)

pub returns-in_err-area : goal.returns-in_err-area
returns-in_err-area c =
    let b = c.args.self.bytes in
    let n : length b ≡ 101 = search rules in
    subst (ServeStep b) (sym c.from_residual.ensures) (serve-64 b n c.in_err-area.ensures)

pub waiting_in-waiting-requires : goal.waiting_in-waiting-requires
waiting_in-waiting-requires c = (found (goal.at.waiting_in-waiting-requires c).In_ok-area).area-in

pub with_cells-left-requires : goal.with_cells-left-requires
with_cells-left-requires c = (found (goal.at.with_cells-left-requires c).In_ok-area).area-in

pub overflow_sub-hour : goal.overflow_sub-hour
overflow_sub-hour c =
    let b = c.args.self.bytes in
    let t = found (goal.at.overflow_sub-hour c).In_ok-area in
    omega (arith, first_cell b c.in_ok-area.area t c.waiting_in-waiting.result c.waiting_in-waiting.ensures)

pub returns : goal.returns
returns c =
    let b = c.args.self.bytes in
    let a = c.in_ok-area.area in
    let n : length b ≡ 101 = search rules in
    let t = found (goal.at.returns c).In_ok-area in
    let w = c.waiting_in-waiting.result in
    let taken = serve-taken b n a t (get_or w.cells 0 0) c.moved_up.result c.with_cells-left.result.bytes
    (first_cell b a t w c.waiting_in-waiting.ensures)
    (c.moved_up.ensures ∙ cells_left b a t w c.waiting_in-waiting.ensures)
    c.with_cells-left.ensures in
    subst (λ (h : ℕ). ServeStep b (Some (record { area = a; hour = h; left = record { bytes = set c.with_cells-left.result.bytes 100 ((a + 1) % 4) } }))) (sym c.from.ensures) taken
