use Rattle.stream_laws.proofs.Putting.{putting_keeps_order, putting_reads_as_last, calls_read_as_their_list}
use Rattle.stream_laws.proofs.laws.settings_read_as_their_calls.Goals as goal

pub returns : goal.returns
returns c = record { order = putting_keeps_order; last = putting_reads_as_last; calls = calls_read_as_their_list }
