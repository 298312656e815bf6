use Rattle.std.proofs.Common.{sym, ap, ◌∙◌, ◌++◌, ℕ, List, take, drop, append_assoc}
use Rattle.std.proofs.lemmas.List.{drop-drop}
use Rattle.rpc_header.specs.Spelling.{spelling}
use Rattle.packet_pool.proofs.frames.write_spelling.Goals as goal

pub returns-clause-written : goal.returns-clause-written
returns-clause-written c = let bytes : List ℕ = c.args.bytes.now in let split = c.split_at_mut-behind.ensures in let spelled : List ℕ = spelling c.args.header.now c.args.len in
    (λ i. split.front i ++ (c.write_header.ensures.spelled i ++ drop 32 (split.back i))) ∙ (ap (λ (z : List ℕ). take 42 bytes ++ (spelled ++ z)) (drop-drop 32 42 bytes) ∙ sym (append_assoc (take 42 bytes) spelled (drop 74 bytes)))
