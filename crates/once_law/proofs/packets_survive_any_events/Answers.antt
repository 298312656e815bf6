-- Each packet in the bag after any events can arrive, by the laws that the function calls.
use Rattle.std.proofs.Common.{subst}
use Rattle.once_law.proofs.Laws.{Laws}
use Rattle.once_law.proofs.Arriving.{ComesAs, frame_comes, damaged_frame_comes}
use Rattle.once_law.proofs.Whole.{all_can_arrive}
use Rattle.once_law.proofs.packets_survive_any_events.Goals as goal

pub returns : goal.returns
returns c =
    let laws : Laws = record {
      frames = record {
        written_is_read = c.written_is_read.ensures;
        flipped_bit_never_forges = c.flipped_bit_never_forges.ensures;
        header_is_read = c.what_is_written_is_read.ensures;
        spelling_count = c.a_spelling_is_32_bytes.ensures.count;
        spelling_bytes = c.a_spelling_is_32_bytes.ensures.bytes;
        fields_are_back = c.fields_are_a_header.ensures.of_fields;
      };
      exports = record {
        accepted = c.accepted_bindings_are_live.ensures.accepted;
        found = c.a_name_is_found_in_its_row.ensures.found;
        boots = c.exports_stay_sound.ensures.boot;
        exports = c.exports_stay_sound.ensures.export;
        withdraws = c.exports_stay_sound.ensures.withdraw;
        size = c.bind_data_is_read_in_one_way.ensures.size;
        in_time = c.an_export_is_found.ensures.in_time;
      };
      rules = record {
        idle = c.rules_are_lawful.ensures.idle;
        claimed = c.rules_are_lawful.ensures.claimed;
        took = c.rules_are_lawful.ensures.took;
        admitted = c.rules_are_lawful.ensures.admitted;
        ran = c.rules_are_lawful.ensures.ran;
        fetched = c.rules_are_lawful.ensures.fetched;
        start = c.rules_are_lawful.ensures.start;
        bind = c.rules_are_lawful.ensures.bind;
        packet = c.rules_are_lawful.ensures.packet;
        tick = c.rules_are_lawful.ensures.tick;
      };
    } in
    record {
      whole = λ small long events p r sent. frame_comes laws.frames p (all_can_arrive laws small long events p r sent);
      damaged = λ small long events p r sent bit q comes. subst (λ a. ComesAs p a) comes (damaged_frame_comes laws.frames p bit (all_can_arrive laws small long events p r sent));
      spelled = λ small long events p r sent. (all_can_arrive laws small long events p r sent).framed.has_spelling;
      fields_fit = λ small long events p r sent. (all_can_arrive laws small long events p r sent).framed.fits_fields;
      call_number_fits = λ small long events p r sent. (all_can_arrive laws small long events p r sent).framed.fits_number;
    }
