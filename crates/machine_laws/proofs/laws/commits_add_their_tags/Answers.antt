use Rattle.machine_laws.proofs.Tagging.{commits_add_their_tags}
use Rattle.machine_laws.proofs.laws.commits_add_their_tags.Goals as goal

pub returns : goal.returns
returns c = commits_add_their_tags
