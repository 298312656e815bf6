-- What was written is read back.
use Rattle.std.proofs.Common.{◌≡◌, ◌++◌, List, ℕ, length, ap, sym, subst, ◌∙◌}
use Rattle.rpc_header.specs.Reading.{Accepted, read_of}
use Rattle.rpc_header.specs.Spelling.{FitsFields, HasSpelling, spelling}
use Rattle.rpc_header.specs.declared.Header.{Header}
use Rattle.rpc_header.proofs.ReadBack.{read_back}
use Rattle.rpc_header.proofs.writing.write_header.Goals as goal

reads_back : (h : Header) (len : ℕ) (xs d : List ℕ) → FitsFields h → HasSpelling h len → xs ≡ spelling h len
    → length d ≡ len → read_of (xs ++ d) ≡ Accepted h d
reads_back h len xs d f s spelled size =
    let P : ℕ → Type 0 = λ n. HasSpelling h n in
    ap (λ (ys : List ℕ). read_of (ys ++ d)) (spelled ∙ ap (spelling h) (sym size))
    ∙ read_back h d f (subst P (sym size) s)

pub returns-clause-reads_back : goal.returns-clause-reads_back
returns-clause-reads_back c =
    λ d. reads_back c.args.header.now c.args.data_len _ d c.write_fields.ensures.room c.requires c.write_fields.ensures.spelled
