-- What is kept of a run to print it.
use Rattle.std.specs.Prelude.{ℕ, Bool}
use Rattle.lane_checksum.specs.Digests.{digest}
use Rattle.lane_checksum.specs.declared.Digest.{Digest}
use Rattle.call_rules.specs.Packet.{Call}
use Rattle.call_rules.specs.Worker.{Run}

-- a run with digests in place of its bytes
pub record RunDigest : Type 0 where
  pub call : Call
  pub procedure : ℕ
  pub arguments : Digest
  pub signal : Bool
  pub reply : Digest

abbrev pub run_digest : Run → RunDigest
run_digest r =
    record {
      call = r.call;
      procedure = r.procedure;
      arguments = digest r.arguments;
      signal = r.signal;
      reply = digest r.reply;
    }
