-- An action of a caller as the rules see it.
use Rattle.caller_core.specs.declared.action.Action.{Action}
use Rattle.caller_core.specs.declared.action.Action.TheVariants as action
use Rattle.call_rules.specs.Packet.{fields_of}
use Rattle.call_rules.specs.Caller.{Act, Send, Keep, Last, TellsWaiting, Bound, Unbound, Refused, Failed, Quiet, Unused}

abbrev pub act_of : Action → Act
act_of (action.Send header piece) = Send (fields_of header) piece
act_of (action.Keep ack) = Keep (fields_of ack)
act_of (action.Last signal) = Last signal
act_of action.Waiting = TellsWaiting
act_of (action.Bound export) = Bound export
act_of action.Unbound = Unbound
act_of (action.Refused reason) = Refused reason
act_of action.Failed = Failed
act_of action.Quiet = Quiet
act_of action.Unused = Unused
