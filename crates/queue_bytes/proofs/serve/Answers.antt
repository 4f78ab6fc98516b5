-- `serve`: the bytes afterwards mean the queue afterwards. Assumes nothing.
use Rattle.std.proofs.Common.{sym, ap, ◌∙◌}
use Rattle.queue_bytes.specs.Meaning.Bytes.{queue_of}
use Rattle.queue_bytes.specs.Steps.Answers.{bytes_left}
use Rattle.queue_bytes.proofs.Steps.ReadBack.{serve-means}
use Rattle.queue_bytes.proofs.serve.Goals as goal

pub returns-in_default-clause-queue : goal.returns-in_default-clause-queue
returns-in_default-clause-queue c =
    let b = c.args.queue.now in
    let r = c.serve.ensures in
    ap queue_of (sym (ap (bytes_left b) c.in_default.is) ∙ r.bytes-are) ∙ serve-means b r.size

pub returns-clause-queue : goal.returns-clause-queue
returns-clause-queue c =
    let b = c.args.queue.now in
    let r = c.serve.ensures in
    ap queue_of (sym (ap (bytes_left b) c.in-Some.is) ∙ r.bytes-are) ∙ serve-means b r.size
