-- `text_hour::put_named` meets its contract: name, count and space, each where the one before ends.
-- Assumes nothing.
use Rattle.text_rules.proofs.Steps.Put.{put_then}
use Rattle.text_hour.proofs.put_named.Goals as goal

pub returns : goal.returns
returns c = put_then (put_then c.put_text-count.ensures c.put_count-end.ensures) c.put_text.ensures
