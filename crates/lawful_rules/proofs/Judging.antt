-- What a judgement says of the word and of the packet, and when two words or calls are the same.
use Rattle.std.proofs.Common.{◌≡◌, ◌<◌, true, false, refl, eqb, eqb-true, arith, ◌⊎◌}
use Rattle.std.proofs.lemmas.Bool.{false≢true, and_parts}
use Rattle.std.proofs.lemmas.Bool.Decides.{nat_tests}
use Rattle.rpc_header.specs.declared.Activity.{Activity}
use Rattle.rpc_header.specs.declared.Kind.TheVariants as kind
use Rattle.call_rules.specs.Packet.{Call, Fields, is_same_activity, is_same_call}
use Rattle.call_rules.specs.Entry.{Word, is_same_phase, is_same_word, judge}
use Rattle.call_rules.specs.declared.entry.Phase.{Phase}
use Rattle.call_rules.specs.declared.entry.Phase.TheVariants as phase
use Rattle.call_rules.specs.declared.entry.Judged.TheVariants as judged
use Rattle.lawful_rules.specs.Lawful.{is_owned}

-- what a Call begins: nothing is in a worker's hands, and the word is empty or of a lesser number
pub record IsNew (w : Word) (h : Fields) : Type 0 where
  pub is_call : h.kind ≡ kind.Call
  pub is_first : h.fragment ≡ 0
  pub not_owned : is_owned w.phase ≡ false
  pub empty_or_less : (w.phase ≡ phase.Empty) ⊎ (w.number < h.call.number)

pub new_where_admitted : (w : Word) (h : Fields) → judge w h ≡ judged.Admit → IsNew w h
new_where_admitted w h e =
    record {
      is_call = grind (arith, nat_tests);
      is_first = grind (arith, nat_tests);
      not_owned = grind (arith, nat_tests);
      empty_or_less = grind (arith, nat_tests);
    }

pub last_where_admitted : (w : Word) (h : Fields) → judge w h ≡ judged.Admit → h.last ≡ true
last_where_admitted w h e = grind (arith, nat_tests)

pub new_where_begun : (w : Word) (h : Fields) → judge w h ≡ judged.Begin → IsNew w h
new_where_begun w h e =
    record {
      is_call = grind (arith, nat_tests);
      is_first = grind (arith, nat_tests);
      not_owned = grind (arith, nat_tests);
      empty_or_less = grind (arith, nat_tests);
    }

pub not_last_where_begun : (w : Word) (h : Fields) → judge w h ≡ judged.Begin → h.last ≡ false
not_last_where_begun w h e = grind (arith, nat_tests)

-- a further piece of the call that is gathered
pub record IsMore (w : Word) (h : Fields) : Type 0 where
  pub is_call : h.kind ≡ kind.Call
  pub same_number : w.number ≡ h.call.number
  pub not_owned : is_owned w.phase ≡ false

pub more_where_gathered : (w : Word) (h : Fields) → judge w h ≡ judged.More → IsMore w h
more_where_gathered w h e =
    record {
      is_call = grind (arith, nat_tests);
      same_number = grind (arith, nat_tests);
      not_owned = grind (arith, nat_tests);
    }

-- a packet that asks for a piece of the reply
pub record IsFetch (w : Word) (h : Fields) : Type 0 where
  pub same_number : w.number ≡ h.call.number
  pub not_owned : is_owned w.phase ≡ false

pub fetch_where_done : (w : Word) (h : Fields) → judge w h ≡ judged.Fetch → IsFetch w h
fetch_where_done w h e = record { same_number = grind (arith, nat_tests); not_owned = grind (arith, nat_tests) }

same_phase : (a b : Phase) → is_same_phase a b ≡ true → a ≡ b
same_phase phase.Empty phase.Empty e = refl
same_phase phase.Gather phase.Gather e = refl
same_phase phase.Filling phase.Filling e = refl
same_phase phase.Running phase.Running e = refl
same_phase phase.Done phase.Done e = refl
same_phase phase.Sending phase.Sending e = refl
same_phase _ _ e = absurd (false≢true e)

pub same_word : (a b : Word) → is_same_word a b ≡ true → a ≡ b
same_word a b e =
    let parts = and_parts (is_same_phase a.phase b.phase) (eqb a.number b.number) e in
    let p = same_phase a.phase b.phase parts.0 in
    let n = eqb-true a.number b.number parts.1 in
    λ i. record { phase = p i; number = n i }

same_activity : (a b : Activity) → is_same_activity a b ≡ true → a ≡ b
same_activity a b e =
    let parts = and_parts (eqb a.machine b.machine) (eqb a.process b.process) e in
    let m = eqb-true a.machine b.machine parts.0 in
    let p = eqb-true a.process b.process parts.1 in
    λ i. record { machine = m i; process = p i }

pub same_call : (a b : Call) → is_same_call a b ≡ true → a ≡ b
same_call a b e =
    let parts = and_parts (is_same_activity a.activity b.activity) (eqb a.number b.number) e in
    let p = same_activity a.activity b.activity parts.0 in
    let n = eqb-true a.number b.number parts.1 in
    λ i. record { activity = p i; number = n i }
