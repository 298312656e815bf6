use Rattle.std.proofs.Common.{arith, ap, ◌∙◌, ◌≡◌, ◌++◌, ℕ, List, length, drop, Ok}
use Rattle.std.proofs.lemmas.List.{length-append, length-drop}
use Rattle.rpc_header.specs.Spelling.{spelling}
use Rattle.packet_pool.specs.Contents.{came_in, came_from}
use Rattle.packet_pool.proofs.Bytes.{payload_read, data_read}
use Rattle.packet_pool.proofs.frames.read_packet.Goals as goal

pub returns-in-Ok-read_header-clause-read : goal.returns-in-Ok-read_header-clause-read
returns-in-Ok-read_header-clause-read c = let bytes : List ℕ = c.args.bytes.now in let h = c.in-Ok-read_header.header in let d : List ℕ = c.in-Ok-read_header.data.now in let payload : List ℕ = c.in-Ok.seen.payload.now in let from : ℕ = c.in-Ok.seen.from.machine in let e = c.in-Ok-read_header.ensures in
    let whole = payload_read bytes c.args.me.machine (record { sender = from; payload = payload }) c.in-Ok.ensures.seen in let behind = data_read bytes payload (spelling h (length d)) d whole e.spelled (c.a_spelling_is_32_bytes.ensures.count h (length d)) in
    ap came_in c.in-Ok.ensures.seen ∙ (ap (came_from from) e.read ∙ ap (λ (z : List ℕ). Ok (record { sender = from; header = h; payload = z })) behind)

pub returns-in-Ok-read_header-clause-len : goal.returns-in-Ok-read_header-clause-len
returns-in-Ok-read_header-clause-len c = let bytes : List ℕ = c.args.bytes.now in let h = c.in-Ok-read_header.header in let d : List ℕ = c.in-Ok-read_header.data.now in let payload : List ℕ = c.in-Ok.seen.payload.now in let e = c.in-Ok-read_header.ensures in
    let whole = payload_read bytes c.args.me.machine (record { sender = c.in-Ok.seen.from.machine; payload = payload }) c.in-Ok.ensures.seen in let count = c.a_spelling_is_32_bytes.ensures.count h (length d) in let both = length-append (spelling h (length d)) d in let behind = length-drop 42 bytes in
    let a : length payload ≡ length (drop 42 bytes) = ap length whole in let b : length payload ≡ length (spelling h (length d) ++ d) = ap length e.spelled in omega (arith, count, both, behind, a, b)
