use Rattle.std.proofs.Common.{refl}
use Rattle.stream_model.specs.Network.{items_by, entering, tags_by}
use Rattle.stream_model.specs.Claims.{most, decide}
use Rattle.stream_model.specs.Machine.{counts_in, job_of, claim_of, commit_of, feed_of, close_of, read_of}
use Rattle.worked_rows.proofs.rates.joins_shifted_streams.Goals as goal

pub returns-clause-skipped : goal.returns-clause-skipped
unfolding items_by entering tags_by counts_in most decide job_of claim_of commit_of feed_of close_of read_of
returns-clause-skipped c = refl

pub returns-clause-delayed : goal.returns-clause-delayed
unfolding items_by entering tags_by counts_in most decide job_of claim_of commit_of feed_of close_of read_of
returns-clause-delayed c = refl

pub returns-clause-stalled : goal.returns-clause-stalled
unfolding items_by entering tags_by counts_in most decide job_of claim_of commit_of feed_of close_of read_of
returns-clause-stalled c = refl
