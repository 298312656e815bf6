use Rattle.rpc_header.proofs.SpellingBytes.{spelling_count, spelling_bytes}
use Rattle.rpc_header.proofs.laws.a_spelling_is_32_bytes.Goals as goal

pub returns-clause-count : goal.returns-clause-count
returns-clause-count c = spelling_count

pub returns-clause-bytes : goal.returns-clause-bytes
returns-clause-bytes c = spelling_bytes
