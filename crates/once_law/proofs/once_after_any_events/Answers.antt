-- The invariant holds after any events, by the laws that the function calls.
use Rattle.once_law.proofs.Laws.{Laws}
use Rattle.once_law.proofs.Whole.{Holds-after, once_holds}
use Rattle.replay_model.specs.Step.{run}
use Rattle.replay_model.specs.World.{first_world}
use Rattle.once_law.proofs.once_after_any_events.Goals as goal

pub returns : goal.returns
returns c small long events r =
    let laws : Laws = record {
      frames = record {
        written_is_read = c.written_is_read.ensures;
        flipped_bit_never_forges = c.flipped_bit_never_forges.ensures;
        header_is_read = c.what_is_written_is_read.ensures;
        spelling_count = c.a_spelling_is_32_bytes.ensures.count;
        spelling_bytes = c.a_spelling_is_32_bytes.ensures.bytes;
        fields_are_back = c.fields_are_a_header.ensures.of_fields;
      };
      exports = record {
        accepted = c.accepted_bindings_are_live.ensures.accepted;
        found = c.a_name_is_found_in_its_row.ensures.found;
        boots = c.exports_stay_sound.ensures.boot;
        exports = c.exports_stay_sound.ensures.export;
        withdraws = c.exports_stay_sound.ensures.withdraw;
        size = c.bind_data_is_read_in_one_way.ensures.size;
        in_time = c.an_export_is_found.ensures.in_time;
      };
      rules = record {
        idle = c.rules_are_lawful.ensures.idle;
        claimed = c.rules_are_lawful.ensures.claimed;
        took = c.rules_are_lawful.ensures.took;
        admitted = c.rules_are_lawful.ensures.admitted;
        ran = c.rules_are_lawful.ensures.ran;
        fetched = c.rules_are_lawful.ensures.fetched;
        start = c.rules_are_lawful.ensures.start;
        bind = c.rules_are_lawful.ensures.bind;
        packet = c.rules_are_lawful.ensures.packet;
        tick = c.rules_are_lawful.ensures.tick;
      };
    } in
    once_holds (run (first_world small long) events) (Holds-after laws small long events r)
