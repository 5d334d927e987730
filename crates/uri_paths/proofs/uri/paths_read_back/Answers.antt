use Rattle.uri_paths.proofs.Back.{reads_back}
use Rattle.uri_paths.proofs.uri.paths_read_back.Goals as goal

pub returns : goal.returns
returns c = reads_back
