-- What bytes say as a frame, to one machine: who sent which data, or the first fault. Each field stands where
-- RFC 894, RFC 791 and RFC 768 put it behind an Ethernet header and an IP header without options.
use Rattle.std.specs.Prelude.{◌≡◌, ℕ, ◌+◌, ◌-◌, ◌*◌, ◌/◌, ◌%◌, List, [], ◌∷◌, ◌++◌, length, take, drop, slice_index, Bool, not, ◌&&◌, ◌||◌, ◌==◌, nat_le, if◌then◌else◌, Option, Some, None, Result, Ok, Err}
use Rattle.std.specs.Str.{bytes_eq}
use Rattle.lane_checksum.specs.PlainSum.{csum}
use Rattle.udp_frames.specs.Frame.{ethernet_len, internet_len, udp_len, headers_len, ethernet_address, internet_address, port}
use Rattle.udp_frames.specs.declared.fault.FrameFault.{FrameFault}
use Rattle.udp_frames.specs.declared.fault.FrameFault.TheVariants.{Short, NotForUs, NotIp, Version, Options, IpLength, IpFragment, NotUdp, IpChecksum, Address, Port, UdpLength, NoChecksum, UdpChecksum}

-- who sent which data
pub record Datagram : Type 0 where
  pub sender : ℕ
  pub payload : List ℕ

-- the byte at a place, the number of 16 bits there, and so many bytes from there on
abbrev pub octet : ℕ → List ℕ → ℕ
octet place bytes = slice_index bytes place

abbrev pub number : ℕ → List ℕ → ℕ
number place bytes = 256 * slice_index bytes place + slice_index bytes (place + 1)

abbrev pub part : ℕ → ℕ → List ℕ → List ℕ
part place count bytes = take count (drop place bytes)

-- the fields of the Ethernet header that count
abbrev pub ethernet_destination : List ℕ → List ℕ
ethernet_destination = part 0 6

abbrev pub ethernet_type : List ℕ → ℕ
ethernet_type = number 12

-- the fields of the IP header
abbrev pub version : List ℕ → ℕ
version bytes = octet 14 bytes / 16

abbrev pub header_length : List ℕ → ℕ
header_length bytes = octet 14 bytes % 16

abbrev pub total_length : List ℕ → ℕ
total_length = number 16

abbrev pub flags_and_offset : List ℕ → ℕ
flags_and_offset = number 20

abbrev pub protocol : List ℕ → ℕ
protocol = octet 23

abbrev pub source_address : List ℕ → List ℕ
source_address = part 26 4

abbrev pub destination_address : List ℕ → List ℕ
destination_address = part 30 4

-- the last byte of the source address, which is the sender's number
abbrev pub source_machine : List ℕ → ℕ
source_machine = octet 29

-- the fields of the UDP header
abbrev pub source_port : List ℕ → ℕ
source_port = number 34

abbrev pub destination_port : List ℕ → ℕ
destination_port = number 36

abbrev pub udp_length : List ℕ → ℕ
udp_length = number 38

abbrev pub udp_checksum : List ℕ → ℕ
udp_checksum = number 40

-- what the two checksums cover
abbrev pub internet_header : List ℕ → List ℕ
internet_header = part ethernet_len internet_len

abbrev pub pseudo_header : List ℕ → List ℕ
pseudo_header bytes = source_address bytes ++ destination_address bytes ++ (0 ∷ 17 ∷ part 38 2 bytes)

abbrev pub udp_datagram : List ℕ → List ℕ
udp_datagram = drop (ethernet_len + internet_len)

-- a row for each fault: the test that a frame without it passes
abbrev pub Checks : Type 0
Checks = List (FrameFault × Bool)

abbrev pub ethernet_checks : List ℕ → ℕ → Checks
ethernet_checks bytes me =
    (NotForUs, bytes_eq (ethernet_destination bytes) (ethernet_address me))
    ∷ (NotIp, ethernet_type bytes == 0x0800)
    ∷ []

-- the source is 10.0.0.s of a machine s, and the destination 10.0.0.me
abbrev pub is_between_machines : List ℕ → ℕ → Bool
is_between_machines bytes me =
    nat_le 1 (source_machine bytes) && nat_le (source_machine bytes) 254
    && bytes_eq (source_address bytes) (internet_address (source_machine bytes))
    && bytes_eq (destination_address bytes) (internet_address me)

abbrev pub internet_checks : List ℕ → ℕ → Checks
internet_checks bytes me =
    (Version, version bytes == 4)
    ∷ (Options, header_length bytes == 5)
    ∷ (IpLength, (total_length bytes == length bytes - ethernet_len) && nat_le (internet_len + udp_len) (total_length bytes))
    ∷ (IpFragment, (flags_and_offset bytes == 0) || (flags_and_offset bytes == 0x4000))
    ∷ (NotUdp, protocol bytes == 17)
    ∷ (IpChecksum, csum (internet_header bytes) == 65535)
    ∷ (Address, is_between_machines bytes me)
    ∷ []

abbrev pub udp_checks : List ℕ → Checks
udp_checks bytes =
    (Port, (source_port bytes == port) && (destination_port bytes == port))
    ∷ (UdpLength, udp_length bytes == total_length bytes - internet_len)
    ∷ (NoChecksum, not (udp_checksum bytes == 0))
    ∷ (UdpChecksum, csum (pseudo_header bytes ++ udp_datagram bytes) == 65535)
    ∷ []

abbrev pub checks : List ℕ → ℕ → Checks
checks bytes me =
    (Short, nat_le headers_len (length bytes)) ∷ ethernet_checks bytes me ++ internet_checks bytes me ++ udp_checks bytes

-- the fault of the first row whose test fails
abbrev pub first_fault : Checks → Option FrameFault
first_fault [] = None
first_fault ((fault, passes) ∷ rows) = if passes then first_fault rows else Some fault

-- an answer that names the first fault of these rows, if there is one
abbrev pub Finds : {T : Type 0} → Result T FrameFault → Checks → Type 0
Finds (Ok _) rows = first_fault rows ≡ None
Finds (Err fault) rows = first_fault rows ≡ Some fault

abbrev pub reads_unless : Option FrameFault → List ℕ → Result Datagram FrameFault
reads_unless None bytes = Ok (record { sender = source_machine bytes; payload = drop headers_len bytes })
reads_unless (Some fault) bytes = Err fault

-- what these bytes say to machine `me`
abbrev pub reads : List ℕ → ℕ → Result Datagram FrameFault
reads bytes me = reads_unless (first_fault (checks bytes me)) bytes
