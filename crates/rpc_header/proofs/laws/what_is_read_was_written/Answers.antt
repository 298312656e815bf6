use Rattle.rpc_header.proofs.laws.what_is_read_was_written.Goals as goal
use Rattle.rpc_header.proofs.Spelled.{spelled}

pub returns : goal.returns
returns c = spelled
