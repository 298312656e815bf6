-- An entry as the rules see it.
use Rattle.call_rules.specs.Entry as rules
use Rattle.replay_server.specs.declared.entry.EntryState.{EntryState}
use Rattle.replay_server.specs.declared.entry.EntryState.TheVariants as state
use Rattle.replay_server.specs.Texts.{gathered_in}

abbrev pub entry_of : EntryState → rules.Entry
entry_of state.Empty = rules.Empty
entry_of (state.Gather number pieces) = rules.Gather number.value (gathered_in pieces) pieces.gathered.next
entry_of (state.Filling number pieces) = rules.Filling number.value (gathered_in pieces) pieces.gathered.next
entry_of (state.Running number) = rules.Running number.value
entry_of (state.Done number answer) = rules.Done number.value answer.signal answer.reply.items
entry_of (state.Sending number answer) = rules.Sending number.value answer.signal answer.reply.items
