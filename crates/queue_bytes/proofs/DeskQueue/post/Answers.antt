-- `DeskQueue::post`: each refusal in its order, else the hour is added. Assumes nothing.
use Rattle.std.specs.Prelude.{◌≡◌, length}
use Rattle.std.proofs.Common.{sym, ◌∙◌, rules}
use Rattle.queue_turns.specs.Meaning.Queue.{among}
use Rattle.queue_bytes.specs.Meaning.Bytes.{hours_at}
use Rattle.queue_bytes.proofs.Steps.Answers.{post-61, post-62, post-63, post-taken, good-hours}
use Rattle.queue_bytes.proofs.Steps.Answers.{among-hour, post-addable, post-stored}
use Rattle.queue_bytes.proofs.DeskQueue.post.Goals as goal
use Rattle.queue_bytes.proofs.DeskQueue.post.Goals.{After-is_among}

-- whether the hour waits already, by the cells
waits : (c : After-is_among) → among c.args.hour (hours_at c.args.self.bytes c.args.area) ≡ c.is_among.result
waits c =
    sym (among-hour c.waiting_in-waiting.result c.args.hour (hours_at c.args.self.bytes c.args.area) c.waiting_in-waiting.ensures) ∙ sym c.is_among.ensures

pub returns-then-area-gt3 : goal.returns-then-area-gt3
returns-then-area-gt3 c =
    let b = c.args.self.bytes in
    let n : length b ≡ 101 = search rules in
    post-61 c.args.area c.args.hour b n c.if-area-gt3.true

pub returns-then-hour-gt24 : goal.returns-then-hour-gt24
returns-then-hour-gt24 c =
    let b = c.args.self.bytes in
    let n : length b ≡ 101 = search rules in
    post-62 c.args.area c.args.hour b n c.if-area-gt3.false c.if-hour-gt24.true

pub returns-then-is_among : goal.returns-then-is_among
returns-then-is_among c =
    let b = c.args.self.bytes in
    let n : length b ≡ 101 = search rules in
    post-63 c.args.area c.args.hour b n c.if-area-gt3.false c.if-hour-gt24.false (waits (goal.at.returns-then-is_among c).After-is_among ∙ c.if-is_among.true)

pub with-requires : goal.with-requires
with-requires c =
    let a = c.args in
    post-addable c.waiting_in-waiting.result a.hour a.self.bytes a.area c.waiting_in-waiting.ensures c.if-hour-gt24.false (sym c.is_among.ensures ∙ c.if-is_among.false)

pub returns : goal.returns
returns c =
    let a = c.args in
    let b = a.self.bytes in
    let n : length b ≡ 101 = search rules in
    let longer = c.with.ensures (hours_at b a.area) (good-hours b a.area) c.waiting_in-waiting.ensures in
    post-taken a.area a.hour b n c.if-area-gt3.false c.if-hour-gt24.false (waits (goal.at.returns c).After-is_among ∙ c.if-is_among.false)
    (c.with_cells.ensures ∙ post-stored b a.area a.hour c.with.result longer)
