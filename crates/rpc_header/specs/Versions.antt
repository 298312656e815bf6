-- The versions of the packet header, and all that depends on the version.
use Rattle.std.specs.Prelude.{ℕ, ◌*◌, ◌==◌, if◌then◌else◌, Option, Some, None, unwrap_or}
use Rattle.rpc_header.specs.declared.Header.{Header}
use Rattle.rpc_header.specs.Limits.{data_limit}

-- the number of fragments that a version counts, where the version is known
abbrev pub fragments_of : ℕ → Option ℕ
fragments_of version = if version == 1 then Some 64 else None

-- the version in which a header is spelled
abbrev pub version_of : Header → ℕ
version_of header = 1

-- the number of fragments that a header's version counts
abbrev pub fragments_in : Header → ℕ
fragments_in header = unwrap_or (fragments_of (version_of header)) 0

-- the most bytes that the arguments or the reply of a call have whose packets have this header: full pieces,
-- as many as its version counts
abbrev pub longest_of : Header → ℕ
longest_of header = fragments_in header * data_limit
