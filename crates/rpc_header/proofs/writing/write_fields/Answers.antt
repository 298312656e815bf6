-- The rows are written one after the other.
use Rattle.std.proofs.Common.{lit≤}
use Rattle.rpc_header.proofs.Written.{first_row, next_row, rows, written}
use Rattle.rpc_header.proofs.writing.write_fields.Goals as goal

pub returns-clause-spelled : goal.returns-clause-spelled
unfolding rows
returns-clause-spelled c =
    let first = first_row _ c.version_of.result c.kind_byte.result c.flags_byte.result c.args.header.reason c.told-into in
    let machine = next_row 4 4 _ _ _ _ first (lit≤ tt) c.write_u32.ensures in
    let process = next_row 8 2 _ _ _ _ machine (lit≤ tt) c.write_u16.ensures in
    let hint = next_row 10 2 _ _ _ _ process (lit≤ tt) c.write_u16-2.ensures in
    let call_number = next_row 12 6 _ _ _ _ hint (lit≤ tt) c.write_u48.ensures in
    let fragment = next_row 18 2 _ _ _ _ call_number (lit≤ tt) c.write_u16-3.ensures in
    let identifier = next_row 20 4 _ _ _ _ fragment (lit≤ tt) c.write_u32-2.ensures in
    let index = next_row 24 2 _ _ _ _ identifier (lit≤ tt) c.write_u16-4.ensures in
    let procedure = next_row 26 2 _ _ _ _ index (lit≤ tt) c.write_u16-5.ensures in
    let data_length = next_row 28 2 c.args.data_len _ _ _ procedure (lit≤ tt) c.write_u16-6.ensures in
    let reserved = next_row 30 2 0 _ _ _ data_length (lit≤ tt) c.write_u16-7.ensures in
    written c.args.header c.args.data_len _ _ _ _ c.requires c.version_of.ensures c.kind_byte.ensures c.flags_byte.ensures reserved
