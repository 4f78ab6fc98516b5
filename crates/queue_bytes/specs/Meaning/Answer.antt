-- What a serve answers, in the fields that the host gets. Assumes nothing.
use Rattle.queue_turns.specs.Meaning.Queue.{ServeAnswer}
use Rattle.queue_bytes.specs.declared.Served.{Served}

abbrev pub given : ServeAnswer → Served
given a = record { number = a.number; index = a.index; area = a.area; hour = a.hour }
