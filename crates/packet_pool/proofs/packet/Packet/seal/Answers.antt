use Rattle.std.proofs.Common.{arith, sym, ap, ◌∙◌, ◌≡◌, ◌+◌, ◌≤◌, ◌++◌, ℕ, List, length, take, drop, Ok}
use Rattle.rpc_header.specs.Spelling.{spelling}
use Rattle.udp_frames.specs.Frame.{frame}
use Rattle.udp_frames.specs.Reading.{reads}
use Rattle.packet_pool.specs.Contents.{packet_frame, came_in, came_from}
use Rattle.packet_pool.proofs.Bytes.{whole_items, data_of, data_length, carried, frame_front, frame_behind, data_stays}
use Rattle.packet_pool.proofs.packet.Packet.seal.Goals as goal

pub returns-clause-data : goal.returns-clause-data
returns-clause-data c = let p = c.args.self.now in let B : List ℕ = c.as_mut_slice-bytes.result.now in let v = c.as_mut_slice-bytes.ensures.value in let S : List ℕ = c.write_spelling.new.bytes in let W : List ℕ = c.write_headers.new.buffer in let len : ℕ = c.args.len in
    let spelled : List ℕ = spelling c.args.header.now len in let count = c.a_spelling_is_32_bytes.ensures.count c.args.header.now len in let long = c.as_mut_slice-bytes.ensures.len in let within = p.within.0 in let short = c.requires.fits.data_length in
    let room : 74 + len ≤ length B = omega (arith, long, within, short) in let k1 = c.write_spelling.auto.bytes in let k2 = c.write_headers.auto.buffer in let whole = whole_items p.bytes.len W p.bytes.items (omega (arith, long, k1, k2)) in
    ap (λ (z : List ℕ). take len (drop 74 z)) whole ∙ (data_stays c.args.from.machine c.args.to.machine len spelled B S W count room c.write_spelling.ensures.written c.write_headers.ensures.frame ∙ ap (λ (z : List ℕ). take len (drop 74 z)) v)

pub returns-clause-behind : goal.returns-clause-behind
returns-clause-behind c = let p = c.args.self.now in let B : List ℕ = c.as_mut_slice-bytes.result.now in let v = c.as_mut_slice-bytes.ensures.value in let S : List ℕ = c.write_spelling.new.bytes in let W : List ℕ = c.write_headers.new.buffer in let len : ℕ = c.args.len in
    let spelled : List ℕ = spelling c.args.header.now len in let count = c.a_spelling_is_32_bytes.ensures.count c.args.header.now len in let long = c.as_mut_slice-bytes.ensures.len in let within = p.within.0 in let short = c.requires.fits.data_length in
    let room : 74 + len ≤ length B = omega (arith, long, within, short) in let k1 = c.write_spelling.auto.bytes in let k2 = c.write_headers.auto.buffer in let whole = whole_items p.bytes.len W p.bytes.items (omega (arith, long, k1, k2)) in
    ap (λ (z : List ℕ). drop (74 + len) z) whole ∙ (frame_behind c.args.from.machine c.args.to.machine len spelled B S W count room c.write_spelling.ensures.written c.write_headers.ensures.frame ∙ ap (λ (z : List ℕ). drop (74 + len) z) v)

pub returns-clause-frame : goal.returns-clause-frame
returns-clause-frame c = let p = c.args.self.now in let B : List ℕ = c.as_mut_slice-bytes.result.now in let v = c.as_mut_slice-bytes.ensures.value in let S : List ℕ = c.write_spelling.new.bytes in let W : List ℕ = c.write_headers.new.buffer in let len : ℕ = c.args.len in
    let h = c.args.header.now in let spelled : List ℕ = spelling h len in let count = c.a_spelling_is_32_bytes.ensures.count h len in let long = c.as_mut_slice-bytes.ensures.len in let within = p.within.0 in let short = c.requires.fits.data_length in
    let room : 74 + len ≤ length B = omega (arith, long, within, short) in let k1 = c.write_spelling.auto.bytes in let k2 = c.write_headers.auto.buffer in let whole = whole_items p.bytes.len W p.bytes.items (omega (arith, long, k1, k2)) in
    let from : ℕ = c.args.from.machine in let to : ℕ = c.args.to.machine in let written = c.write_spelling.ensures.written in let framed = c.write_headers.ensures.frame in let D : List ℕ = data_of from to len spelled B S W count room written framed in
    ap (λ (z : List ℕ). take (74 + len) z) whole ∙ (frame_front from to len spelled B S W count room written framed ∙ (ap (λ (z : ℕ). frame from to (spelling h z ++ D)) (sym (data_length from to len spelled B S W count room written framed))
    ∙ ap (λ (z : List ℕ). packet_frame from to h z) (sym (ap (λ (z : List ℕ). take len (drop 74 z)) whole ∙ data_stays from to len spelled B S W count room written framed))))

pub returns-clause-reads : goal.returns-clause-reads
returns-clause-reads c = let p = c.args.self.now in let B : List ℕ = c.as_mut_slice-bytes.result.now in let S : List ℕ = c.write_spelling.new.bytes in let W : List ℕ = c.write_headers.new.buffer in let len : ℕ = c.args.len in
    let h = c.args.header.now in let spelled : List ℕ = spelling h len in let count = c.a_spelling_is_32_bytes.ensures.count h len in let long = c.as_mut_slice-bytes.ensures.len in let within = p.within.0 in let short = c.requires.fits.data_length in
    let room : 74 + len ≤ length B = omega (arith, long, within, short) in let k1 = c.write_spelling.auto.bytes in let k2 = c.write_headers.auto.buffer in let whole = whole_items p.bytes.len W p.bytes.items (omega (arith, long, k1, k2)) in
    let from : ℕ = c.args.from.machine in let to : ℕ = c.args.to.machine in let written = c.write_spelling.ensures.written in let framed = c.write_headers.ensures.frame in let D : List ℕ = data_of from to len spelled B S W count room written framed in
    let stays = ap (λ (z : List ℕ). take len (drop 74 z)) whole ∙ data_stays from to len spelled B S W count room written framed in let n : 74 + len ≡ 42 + (32 + len) = omega arith in
    ap (λ (z : List ℕ). came_in (reads (take (74 + len) z) to)) whole ∙ (ap (λ (z : ℕ). came_in (reads (take z W) to)) n ∙ (ap came_in c.write_headers.ensures.read
    ∙ (ap (λ (z : List ℕ). came_in (Ok (record { sender = from; payload = z }))) (carried from to len spelled B S W count room written framed)
    ∙ (ap (came_from from) (c.write_spelling.ensures.reads_back D (data_length from to len spelled B S W count room written framed)) ∙ ap (λ (z : List ℕ). Ok (record { sender = from; header = h; payload = z })) (sym stays)))))
