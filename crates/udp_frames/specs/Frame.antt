-- The frame that carries one UDP datagram from one machine to another, as this network writes it: an Ethernet
-- header (RFC 894), an IP header without options (RFC 791), a UDP header (RFC 768) and the data. A machine is
-- its number, from 1 to 254, and a byte is a number below 256.
use Rattle.std.specs.Prelude.{ℕ, ◌+◌, ◌-◌, ◌≤◌, ◌/◌, ◌%◌, List, [], ◌∷◌, ◌++◌, length}
use Rattle.lane_checksum.specs.PlainSum.{csum, finish_of}

-- a number of 16 bits, high byte first
abbrev pub two_bytes : ℕ → List ℕ
two_bytes n = n / 256 ∷ n % 256 ∷ []

-- the lengths of the headers
abbrev pub ethernet_len : ℕ
ethernet_len = 14

abbrev pub internet_len : ℕ
internet_len = 20

abbrev pub udp_len : ℕ
udp_len = 8

abbrev pub headers_len : ℕ
headers_len = ethernet_len + internet_len + udp_len

-- the most bytes of data in one frame
abbrev pub largest_payload : ℕ
largest_payload = 1472

-- 02:00:0a:00:00:m
abbrev pub ethernet_address : ℕ → List ℕ
ethernet_address m = 0x02 ∷ 0x00 ∷ 0x0a ∷ 0x00 ∷ 0x00 ∷ m ∷ []

-- 10.0.0.m
abbrev pub internet_address : ℕ → List ℕ
internet_address m = 10 ∷ 0 ∷ 0 ∷ m ∷ []

-- the UDP port of every machine
abbrev pub port : ℕ
port = 4003

abbrev pub ethernet_header : (from to : ℕ) → List ℕ
ethernet_header from to =
    ethernet_address to  -- destination
    ++ ethernet_address from  -- source
    ++ two_bytes 0x0800  -- type: IP

abbrev pub internet_header : (from to total_length checksum : ℕ) → List ℕ
internet_header from to total_length checksum =
    0x45  -- version 4, header length 5 words
    ∷ 0x00  -- type of service
    ∷ two_bytes total_length  -- total length
    ++ two_bytes 0  -- identification
    ++ two_bytes 0  -- flags and fragment offset
    ++ 64  -- time to live
    ∷ 17  -- protocol: UDP
    ∷ two_bytes checksum  -- header checksum
    ++ internet_address from  -- source address
    ++ internet_address to  -- destination address

abbrev pub udp_header : (udp_length checksum : ℕ) → List ℕ
udp_header udp_length checksum =
    two_bytes port  -- source port
    ++ two_bytes port  -- destination port
    ++ two_bytes udp_length  -- length
    ++ two_bytes checksum  -- checksum

-- what the UDP checksum covers in front of the UDP header
abbrev pub pseudo_header : (from to udp_length : ℕ) → List ℕ
pseudo_header from to udp_length =
    internet_address from  -- source address
    ++ internet_address to  -- destination address
    ++ 0  -- zero
    ∷ 17  -- protocol: UDP
    ∷ two_bytes udp_length  -- UDP length

-- the complement of the sum of an IP header whose checksum is 0
abbrev pub internet_checksum : (from to total_length : ℕ) → ℕ
internet_checksum from to total_length = 65535 - csum (internet_header from to total_length 0)

-- the checksum of a datagram: that of the pseudo header, the UDP header with checksum 0, and the data
abbrev pub udp_checksum : (from to udp_length : ℕ) → List ℕ → ℕ
udp_checksum from to udp_length payload =
    finish_of (csum (pseudo_header from to udp_length ++ udp_header udp_length 0 ++ payload))

-- the bytes in front of the data
abbrev pub headers : (from to : ℕ) → List ℕ → List ℕ
headers from to payload =
    let total_length = internet_len + udp_len + length payload in
    let udp_length = udp_len + length payload in
    ethernet_header from to
    ++ internet_header from to total_length (internet_checksum from to total_length)
    ++ udp_header udp_length (udp_checksum from to udp_length payload)

abbrev pub frame : (from to : ℕ) → List ℕ → List ℕ
frame from to payload = headers from to payload ++ payload

-- the number of a machine
abbrev pub IsMachine : ℕ → Type 0
IsMachine m = (1 ≤ m) × (m ≤ 254)
