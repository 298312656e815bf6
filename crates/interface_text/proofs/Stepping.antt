-- What is expected behind a step is expected where the step is taken, and its fault stays.
use Rattle.std.proofs.Common.{◌≡◌, ap, Ok}
use Rattle.interface_tokens.specs.Outcome.{Outcome, Fails}
use Rattle.interface_tokens.specs.declared.expect.AtType.{AtType}
use Rattle.interface_tokens.specs.declared.fault.Stop.{Stop}
use Rattle.interface_tokens.specs.declared.fault.Stop.TheVariants.{Memory, Fault}
use Rattle.interface_text.specs.TypeRules.{Typing, then_expect}

pub expects : (typing : Typing) (read : Outcome Typing) (at : AtType) → read ≡ Ok typing → then_expect read at ≡ Ok (typing, at)
expects typing read at h = ap (λ (r : Outcome Typing). then_expect r at) h

pub fails : (stop : Stop) (read : Outcome Typing) (at : AtType) → Fails stop read → Fails stop (then_expect read at)
fails Memory read at h = h
fails (Fault place cause) read at h = ap (λ (r : Outcome Typing). then_expect r at) h
