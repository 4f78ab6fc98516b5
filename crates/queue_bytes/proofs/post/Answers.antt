-- `post`: the bytes afterwards mean the queue afterwards. Assumes nothing.
use Rattle.std.proofs.Common.{sym, ap, ◌∙◌}
use Rattle.queue_bytes.specs.Meaning.Bytes.{queue_of}
use Rattle.queue_bytes.specs.Steps.Answers.{bytes_unless_refused}
use Rattle.queue_bytes.proofs.Steps.ReadBack.{post-means}
use Rattle.queue_bytes.proofs.post.Goals as goal

pub returns-in-Ok-clause-queue : goal.returns-in-Ok-clause-queue
returns-in-Ok-clause-queue c =
    let b = c.args.queue.now in
    let r = c.post.ensures in
    ap queue_of (sym (ap (bytes_unless_refused b) c.in-Ok.is) ∙ r.bytes-are) ∙ post-means c.args.area c.args.hour b r.size
