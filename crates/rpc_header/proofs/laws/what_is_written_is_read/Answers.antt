use Rattle.rpc_header.proofs.laws.what_is_written_is_read.Goals as goal
use Rattle.rpc_header.proofs.ReadBack.{read_back}

pub returns : goal.returns
returns c = read_back
