-- The lines that are printed of what happens. Texts of bytes are printed from what is kept of them, their digests.
use Rattle.std.specs.Prelude.{◌≡◌, ◌⊎◌, ℕ, zero, suc, ◌+◌, ◌*◌, ◌/◌, ◌%◌, List, [], ◌∷◌, ◌++◌, length, take, map, slice_index, Bool, true, false, nat_le, if◌then◌else◌, codes}
use Rattle.std.specs.List.{flat_map}
use Rattle.std.specs.Fmt.{decimal, digit_glyph}
use Rattle.lane_checksum.specs.Digests.{digest}
use Rattle.lane_checksum.specs.declared.Digest.{Digest}
use Rattle.lane_checksum.specs.declared.TheConstants.{HEAD_LEN}
use Rattle.udp_frames.specs.declared.fault.FrameFault.{FrameFault}
use Rattle.udp_frames.specs.declared.fault.FrameFault.TheVariants as frame_fault
use Rattle.rpc_header.specs.declared.Activity.{Activity}
use Rattle.rpc_header.specs.declared.Export.{Export}
use Rattle.rpc_header.specs.declared.HeaderFault.{HeaderFault}
use Rattle.rpc_header.specs.declared.HeaderFault.TheVariants as header_fault
use Rattle.rpc_header.specs.declared.Kind.{Kind}
use Rattle.rpc_header.specs.declared.Kind.TheVariants as kind
use Rattle.binder.specs.declared.row.ExportFault.{ExportFault}
use Rattle.binder.specs.declared.row.ExportFault.TheVariants as export_fault
use Rattle.call_rules.specs.Packet.{Call, Fields}
use Rattle.call_rules.specs.declared.caller.TheConstants.{TRIES}
use Rattle.call_rules.specs.declared.worker.Did.{Did}
use Rattle.call_rules.specs.declared.worker.Did.TheVariants as did
use Rattle.call_rules.specs.declared.worker.Unfit.{Unfit}
use Rattle.call_rules.specs.declared.worker.Unfit.TheVariants as unfit
use Rattle.replay_model.specs.declared.discard.Discard.{Discard}
use Rattle.replay_model.specs.declared.discard.Discard.TheVariants as why
use Rattle.replay_model.specs.Digests.{RunDigest, run_digest}
use Rattle.replay_model.specs.Record.{Act, Cause, Unanswered, RefusedFor, Counts}
use Rattle.replay_model.specs.Record as act

abbrev pub blank : List ℕ
blank = 32 ∷ []

abbrev pub newline : List ℕ
newline = 10 ∷ []

-- M.P
abbrev pub activity_text : Activity → List ℕ
activity_text a = decimal a.machine ++ codes "." ++ decimal a.process

-- M.P N
abbrev pub call_text : Call → List ℕ
call_text c = activity_text c.activity ++ blank ++ decimal c.number

-- one digit of a number below 16
abbrev pub nibble : ℕ → ℕ
nibble n = digit_glyph false n

abbrev pub hex_byte : ℕ → List ℕ
hex_byte b = nibble (b / 16) ∷ nibble (b % 16) ∷ []

abbrev pub hex : List ℕ → List ℕ
hex bytes = flat_map hex_byte bytes

-- a length, and the bytes in hexadecimal where the digest has them all, else the four digits of the sum
unfoldable pub bytes_text : Digest → List ℕ
bytes_text d =
    decimal d.len ++ codes ":"
    ++ (if nat_le d.len HEAD_LEN then hex (take d.len d.head) else codes "#" ++ hex (d.sum / 256 ∷ d.sum % 256 ∷ []))

-- the first two bytes
abbrev pub exception_number : Digest → ℕ
exception_number d = 256 * slice_index d.head 0 + slice_index d.head 1

abbrev pub kind_text : Kind → List ℕ
kind_text kind.Call = codes "call"
kind_text kind.Result = codes "result"
kind_text kind.Ack = codes "ack"
kind_text kind.Probe = codes "probe"
kind_text kind.Reject = codes "reject"
kind_text kind.Signal = codes "signal"
kind_text kind.Bind = codes "bind"
kind_text kind.Bound = codes "bound"

abbrev pub flags_text : Fields → List ℕ
flags_text h = (if h.please_ack then codes "a" else codes "-") ++ (if h.last then codes "l" else codes "-")

-- KIND N/FRAGMENT FLAGS
abbrev pub header_text : Fields → List ℕ
header_text h =
    kind_text h.kind ++ blank ++ decimal h.call.number ++ codes "/" ++ decimal h.fragment ++ blank ++ flags_text h

-- a packet by its number, its sender, its receiver, its header and the length of its data
abbrev pub packet_text : (number from to : ℕ) → Fields → (len : ℕ) → List ℕ
packet_text number from to h len =
    codes "packet " ++ decimal number ++ blank ++ decimal from ++ codes ">" ++ decimal to ++ blank ++ header_text h ++ blank
    ++ decimal len

abbrev pub packet_line : (number from to : ℕ) → Fields → (len : ℕ) → List ℕ
packet_line number from to h len = packet_text number from to h len ++ newline

-- a procedure by its name, where the test service has it
abbrev pub procedure_text : ℕ → List ℕ
procedure_text zero = codes "null"
procedure_text (suc zero) = codes "add"
procedure_text (suc (suc zero)) = codes "bump"
procedure_text (suc (suc (suc zero))) = codes "maxarg"
procedure_text (suc (suc (suc (suc zero)))) = codes "maxresult"
procedure_text (suc (suc (suc (suc (suc n))))) = decimal (suc (suc (suc (suc (suc n)))))

-- a signal by its number behind a mark
abbrev pub reply_text : Bool → Digest → List ℕ
reply_text false reply = bytes_text reply
reply_text true reply = codes "!" ++ decimal (exception_number reply)

-- A N PROCEDURE BYTES -> REPLY
abbrev pub run_text : RunDigest → List ℕ
run_text r =
    call_text r.call ++ blank ++ procedure_text r.procedure ++ blank ++ bytes_text r.arguments ++ codes " -> "
    ++ reply_text r.signal r.reply

abbrev pub run_line : ℕ → RunDigest → List ℕ
run_line i r = codes "run " ++ decimal i ++ blank ++ run_text r ++ newline

-- the runs from number i on
abbrev pub run_lines : ℕ → List RunDigest → List ℕ
run_lines i [] = []
run_lines i (r ∷ rs) = run_line i r ++ run_lines (i + 1) rs

abbrev pub journal_lines : List RunDigest → List ℕ
journal_lines [] = codes "journal empty" ++ newline
journal_lines (r ∷ rs) = run_lines 1 (r ∷ rs)

abbrev pub end_text : Counts → List ℕ
end_text c =
    codes "end runs " ++ decimal c.runs ++ codes " returned " ++ decimal c.returned ++ codes " signalled "
    ++ decimal c.signalled ++ codes " failed " ++ decimal c.failed ++ codes " refused " ++ decimal c.refused

abbrev pub unfit_text : Unfit → List ℕ
unfit_text unfit.Older = codes "Older"
unfit_text unfit.Same = codes "Same"
unfit_text unfit.Busy = codes "Busy"
unfit_text unfit.Unknown = codes "Unknown"
unfit_text unfit.Skipped = codes "Skipped"
unfit_text unfit.Lost = codes "Lost"
unfit_text unfit.Full = codes "Full"
unfit_text unfit.NoBuffer = codes "NoBuffer"
unfit_text unfit.BadName = codes "BadName"

-- VERB N, with a reason behind it where a call is refused; a wait, or why the packet is dropped
abbrev pub did_text : ℕ → Did → List ℕ
did_text n did.Claims = codes "claims " ++ decimal n
did_text n did.Admits = codes "admits " ++ decimal n
did_text n did.Runs = codes "runs " ++ decimal n
did_text n did.Replies = codes "replies " ++ decimal n
did_text n did.Begins = codes "begins " ++ decimal n
did_text n did.Takes = codes "takes " ++ decimal n
did_text n did.Rests = codes "rests " ++ decimal n
did_text n did.Fetches = codes "fetches " ++ decimal n
did_text n did.Resends = codes "resends " ++ decimal n
did_text n did.Acks = codes "acks " ++ decimal n
did_text n did.Answers = codes "answers " ++ decimal n
did_text n (did.Rejects reason) = codes "rejects " ++ decimal n ++ blank ++ decimal reason
did_text n did.Waits = codes "waits"
did_text n (did.Drops reason) = codes "drops " ++ unfit_text reason

abbrev pub frame_fault_text : FrameFault → List ℕ
frame_fault_text frame_fault.Short = codes "Short"
frame_fault_text frame_fault.NotForUs = codes "NotForUs"
frame_fault_text frame_fault.NotIp = codes "NotIp"
frame_fault_text frame_fault.Version = codes "Version"
frame_fault_text frame_fault.Options = codes "Options"
frame_fault_text frame_fault.IpLength = codes "IpLength"
frame_fault_text frame_fault.IpFragment = codes "IpFragment"
frame_fault_text frame_fault.NotUdp = codes "NotUdp"
frame_fault_text frame_fault.IpChecksum = codes "IpChecksum"
frame_fault_text frame_fault.Address = codes "Address"
frame_fault_text frame_fault.Port = codes "Port"
frame_fault_text frame_fault.UdpLength = codes "UdpLength"
frame_fault_text frame_fault.NoChecksum = codes "NoChecksum"
frame_fault_text frame_fault.UdpChecksum = codes "UdpChecksum"

abbrev pub header_fault_text : HeaderFault → List ℕ
header_fault_text header_fault.Short = codes "Short"
header_fault_text header_fault.Version = codes "Version"
header_fault_text header_fault.Kind = codes "Kind"
header_fault_text header_fault.Flags = codes "Flags"
header_fault_text header_fault.Reason = codes "Reason"
header_fault_text header_fault.Length = codes "Length"
header_fault_text header_fault.Reserved = codes "Reserved"
header_fault_text header_fault.ShortFragment = codes "ShortFragment"
header_fault_text header_fault.FragmentNumber = codes "FragmentNumber"

abbrev pub discard_text : Discard → List ℕ
discard_text (why.Frame fault) = codes "frame " ++ frame_fault_text fault
discard_text (why.Header fault) = codes "header " ++ header_fault_text fault
discard_text why.Kind = codes "Kind"
discard_text why.Foreign = codes "Foreign"
discard_text why.NoBuffer = codes "NoBuffer"
discard_text why.NoRoom = codes "NoRoom"
discard_text why.NoCell = codes "NoCell"
discard_text why.Stale = codes "Stale"
discard_text why.Taken = codes "Taken"
discard_text why.Lost = codes "Lost"
discard_text why.Unused = codes "Unused"

abbrev pub return_text : Call → Bool → Digest → List ℕ
return_text call false reply = codes "returned " ++ call_text call ++ blank ++ bytes_text reply
return_text call true reply = codes "signalled " ++ call_text call ++ blank ++ decimal (exception_number reply)

abbrev pub return_line : Call → Bool → Digest → List ℕ
return_line call signal reply = return_text call signal reply ++ newline

-- a call that failed: no transmission of so many was answered, or the server refused it for a reason
abbrev pub failure_text : Call → Cause → List ℕ
failure_text call Unanswered = codes "failed " ++ call_text call ++ blank ++ decimal TRIES
failure_text call (RefusedFor reason) = codes "refused " ++ call_text call ++ blank ++ decimal reason

-- a bind that has found an export
abbrev pub bound_text : Call → Export → List ℕ
bound_text call export =
    codes "bound " ++ call_text call ++ blank ++ decimal export.index ++ blank ++ decimal export.identifier

-- why a name isn't exported
abbrev pub no_export_text : ExportFault → List ℕ
no_export_text export_fault.Exists = codes "Exists"
no_export_text export_fault.Full = codes "Full"
no_export_text (export_fault.TooFast next second) = codes "TooFast " ++ decimal next ++ blank ++ decimal second
no_export_text export_fault.Memory = codes "Memory"

-- a frame by its length and its bytes
abbrev pub frame_text : ℕ → List ℕ → List ℕ
frame_text k bytes = codes "frame " ++ decimal k ++ blank ++ decimal (length bytes) ++ blank ++ hex bytes

-- what is printed of one thing that happens: nothing, one line with this text, or a line for each run of a journal
pub data Printed : Type 0 where
  Silent : Printed
  OneLine : (text : List ℕ) → Printed
  Runs : List RunDigest → Printed

abbrev pub printed_of : Act → Printed
printed_of act.Impossible = OneLine (codes "impossible")
printed_of (act.Seconds second) = OneLine (codes "second " ++ decimal second)
printed_of (act.Binds call) = OneLine (codes "bind " ++ call_text call)
printed_of (act.Starts s) = OneLine (codes "start " ++ call_text s.call)
printed_of (act.TooFast a number second) = OneLine (codes "nostart TooFast " ++ decimal number ++ blank ++ decimal second)
printed_of (act.CallerSends k p) = OneLine (packet_text k p.from p.to p.header (length p.payload))
printed_of (act.ServerSends k p) = OneLine (packet_text k p.from p.to p.header (length p.payload))
printed_of (act.Readies k) = OneLine (codes "ready " ++ decimal k)
printed_of (act.Hears a k) = Silent
printed_of (act.TellsWaiting call) = OneLine (codes "waiting " ++ call_text call)
printed_of (act.Returns r) = OneLine (return_text r.call r.signal (digest r.reply))
printed_of (act.Fails call cause) = OneLine (failure_text call cause)
printed_of (act.BindFails call) = OneLine (codes "bindfailed " ++ call_text call ++ blank ++ decimal TRIES)
printed_of (act.BindsTo call export) = OneLine (bound_text call export)
printed_of (act.Unbinds call) = OneLine (codes "unbound " ++ call_text call)
printed_of act.Quiet = OneLine (codes "quiet")
printed_of (act.Discards reason) = OneLine (codes "drop " ++ discard_text reason)
printed_of (act.Idles number) = OneLine (codes "worker " ++ decimal number ++ codes " idle")
printed_of (act.Works number n step) = OneLine (codes "worker " ++ decimal number ++ blank ++ did_text n step)
printed_of (act.HasRun run) = Silent
printed_of (act.Rejects k rows) = Silent
printed_of (act.Exports export) = OneLine (codes "export " ++ decimal export.index ++ blank ++ decimal export.identifier)
printed_of (act.NoExport fault) = OneLine (codes "noexport " ++ no_export_text fault)
printed_of (act.Withdraws index) = OneLine (codes "withdrawn " ++ decimal index)
printed_of (act.Restarts machine second) = OneLine (codes "restarted " ++ decimal machine ++ blank ++ decimal second)
printed_of (act.Skips a next) = OneLine (codes "skipped " ++ activity_text a ++ blank ++ decimal next)
printed_of (act.Shows k bytes) = OneLine (frame_text k bytes)
printed_of (act.ListsRuns runs) = Runs (map run_digest runs)
printed_of (act.Ends counts) = OneLine (end_text counts)

abbrev pub lines_printed : Printed → List ℕ
lines_printed Silent = []
lines_printed (OneLine text) = text ++ newline
lines_printed (Runs runs) = journal_lines runs

-- the lines of one thing that happens
abbrev pub lines_of_act : Act → List ℕ
lines_of_act a = lines_printed (printed_of a)

abbrev pub lines_of : List Act → List ℕ
lines_of [] = []
lines_of (a ∷ acts) = lines_of_act a ++ lines_of acts

-- nothing, or a text that ends with a newline
abbrev pub EndsLine : List ℕ → Type 0
EndsLine text = (text ≡ []) ⊎ ((front : List ℕ) × (text ≡ front ++ newline))
