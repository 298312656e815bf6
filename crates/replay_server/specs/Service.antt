-- An answer of the test service as the rules see it.
use Rattle.call_rules.specs.Worker as rules
use Rattle.replay_model.specs.Service as service
use Rattle.replay_server.specs.declared.texts.Answer.{Answer}
use Rattle.replay_server.specs.declared.service.Served.{Served}

abbrev pub answer_of : Answer → rules.Answer
answer_of a = record { signal = a.signal; reply = a.reply.items }

abbrev pub served_of : Served → service.Served
served_of s = record { answer = answer_of s.answer; total = s.total }
