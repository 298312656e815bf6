-- The laws that the law of the world rests on, each by the contract that states it.
use Rattle.std.specs.Prelude.{◌≡◌, ◌↔◌, ℕ, ◌^◌, ◌<◌, ◌≤◌, List, ◌++◌, length, Option, Some, None, IsTrue, Bool, true, false}
use Rattle.item_list.specs.Bytes.{AreBytes}
use Rattle.udp_frames.specs.Damage.{WrittenIsRead, FlippedBitNeverForges}
use Rattle.rpc_header.specs.declared.Header.{Header}
use Rattle.rpc_header.specs.Spelling.{HasSpelling, FitsFields, spelling}
use Rattle.rpc_header.specs.Reading.{Accepted, read_of}
use Rattle.rpc_header.specs.declared.Export.{Export}
use Rattle.binder.specs.declared.interface.InterfaceName.{InterfaceName}
use Rattle.binder.specs.declared.row.ExportRow.{ExportRow}
use Rattle.binder.specs.declared.row.Verdict.TheVariants as verdict
use Rattle.binder.specs.Exports.{Exports, accepts, booted, export_fault, exported, look_up, row_at, withdrawn}
use Rattle.binder.specs.declared.interface.TheConstants.{BIND_DATA_LIMIT}
use Rattle.binder.specs.Interfaces.{bind_data, is_interface_name}
use Rattle.binder.specs.Sound.{AreSound}
use Rattle.call_rules.specs.Packet.{Fields, Packet, fields_of, piece_size}
use Rattle.call_rules.specs.Entry.{Entry, Word}
use Rattle.call_rules.specs.Worker.{Resting, Claimed, Took, Admitted, Ran, Fetched, Answer, on_idle, on_claimed, on_took, on_admitted, on_ran, on_fetched}
use Rattle.call_rules.specs.Caller.{is_idle, is_unused, on_packet}
use Rattle.replay_model.specs.Arrival.{header_of}
use Rattle.replay_model.specs.Process.{Line, started, binds, heard, ticked}
use Rattle.replay_model.specs.Step.{asked_of, next_call}
use Rattle.replay_model.specs.World.{number_limit, packet_at}
use Rattle.lawful_rules.specs.Known.{Known}
use Rattle.lawful_rules.specs.Facts.{Life, HasLength, HasReply, IsRequest, IsAnswer, IsWorkerAt, IsLine, IsMarked}
use Rattle.lawful_rules.specs.Lawful.{AreRows, Grounds, LawfulStep, ReplyGrounds, ByStart, ByBind, ByPacket, ByTick, LawfulAct}

-- of frames and headers
pub record FrameLaws : Type 0 where
  pub written_is_read : WrittenIsRead
  pub flipped_bit_never_forges : FlippedBitNeverForges
  pub header_is_read : (h : Header) (d : List ℕ) → FitsFields h → HasSpelling h (length d) → read_of (spelling h (length d) ++ d) ≡ Accepted h d
  pub spelling_count : (h : Header) (len : ℕ) → length (spelling h len) ≡ 32
  pub spelling_bytes : (h : Header) (len : ℕ) → AreBytes (spelling h len)
  pub fields_are_back : (f : Fields) → f.call.number < 2 ^ 48 → fields_of (header_of f) ≡ f

-- of the rules: each row is a lawful step
pub record RuleLaws : Type 0 where
  pub idle : (k : Known) (f : Life) (rows : List (Option ExportRow)) (p : Packet) (e : Entry) →
      IsRequest k p → AreRows f rows → Grounds k f p.header.call.activity e →
      LawfulStep k f rows p Resting e (on_idle (asked_of rows p) (Some e) p)
  pub claimed : (k : Known) (f : Life) (rows : List (Option ExportRow)) (long : Bool) (p : Packet) (seen : Word) (e : Entry) →
      IsWorkerAt k f (Claimed p seen) e → Grounds k f p.header.call.activity e →
      LawfulStep k f rows p (Claimed p seen) e (on_claimed long p seen e)
  pub took : (k : Known) (f : Life) (rows : List (Option ExportRow)) (p : Packet) (e : Entry) →
      IsWorkerAt k f (Took p) e → Grounds k f p.header.call.activity e →
      LawfulStep k f rows p (Took p) e (on_took p e)
  pub admitted : (k : Known) (f : Life) (rows : List (Option ExportRow)) (buffer : Bool) (p : Packet) (arguments : List ℕ) (answer : Answer) (e : Entry) →
      HasReply answer.signal answer.reply →
      IsWorkerAt k f (Admitted p arguments) e → Grounds k f p.header.call.activity e →
      LawfulStep k f rows p (Admitted p arguments) e (on_admitted buffer p arguments answer)
  pub ran : (k : Known) (f : Life) (rows : List (Option ExportRow)) (p : Packet) (answer : Answer) (e : Entry) →
      IsWorkerAt k f (Ran p answer) e → Grounds k f p.header.call.activity e →
      LawfulStep k f rows p (Ran p answer) e (on_ran p answer)
  pub fetched : (k : Known) (f : Life) (rows : List (Option ExportRow)) (p : Packet) (e : Entry) →
      IsWorkerAt k f (Fetched p) e → Grounds k f p.header.call.activity e →
      LawfulStep k f rows p (Fetched p) e (on_fetched p e)
  pub start : (k : Known) (machine process second : ℕ) (l : Line) (procedure : ℕ) (arguments before : List ℕ) →
      IsLine k machine process l → is_idle l.caller.state ≡ true → l.next < number_limit second → second < 2 ^ 32 →
      procedure < 256 ^ 2 → HasLength arguments →
      LawfulAct k l (ByStart (record { call = next_call l; export = l.binding; procedure = procedure; arguments = arguments })) before
      (started machine l procedure arguments)
  pub bind : (k : Known) (machine process second : ℕ) (l : Line) (bytes before : List ℕ) →
      IsLine k machine process l → is_idle l.caller.state ≡ true → l.next < number_limit second → second < 2 ^ 32 →
      HasLength bytes → length bytes ≤ piece_size →
      LawfulAct k l (ByBind (next_call l)) before (binds machine l bytes)
  pub packet : (k : Known) (machine process : ℕ) (l : Line) (n : ℕ) (p : Packet) (before : List ℕ) →
      ReplyGrounds k → IsLine k machine process l → IsAnswer k n p → packet_at k.bag n ≡ Some p →
      is_unused (on_packet l.caller p.header).act ≡ false →
      LawfulAct k l (ByPacket n p) before (heard machine l p)
  pub tick : (k : Known) (machine process : ℕ) (l : Line) (before : List ℕ) →
      ReplyGrounds k → IsLine k machine process l → IsMarked k.bag l.caller before →
      LawfulAct k l ByTick before (ticked machine l)

-- of the exports
pub record ExportLaws : Type 0 where
  pub accepted : (exports : Exports) (export : Export) (procedure : ℕ) → (accepts exports.rows export procedure ≡ verdict.Accepted)
      ↔ ((row : ExportRow) × (row_at exports.rows export.index ≡ Some row) × (row.identifier ≡ export.identifier) × (procedure < row.procedures))
  pub found : (rows : List (Option ExportRow)) (name : InterfaceName) (export : Export) → look_up rows name ≡ Some export →
      (row : ExportRow) × (row_at rows export.index ≡ Some row) × (row.name ≡ name) × (row.identifier ≡ export.identifier)
  pub boots : (now : ℕ) → AreSound now (booted now)
  pub exports : (boot : ℕ) (exports : Exports) (name : InterfaceName) (procedures now : ℕ) → AreSound boot exports →
      export_fault exports name now ≡ None → AreSound boot (exported exports name procedures)
  pub withdraws : (boot : ℕ) (exports : Exports) (name : InterfaceName) → AreSound boot exports → AreSound boot (withdrawn exports name)
  pub size : (name : InterfaceName) → IsTrue (is_interface_name name) → length (bind_data name) ≤ BIND_DATA_LIMIT
  pub in_time : (exports : Exports) (name : InterfaceName) (now : ℕ) → export_fault exports name now ≡ None → exports.next ≤ now

pub record Laws : Type 0 where
  pub exports : ExportLaws
  pub frames : FrameLaws
  pub rules : RuleLaws
