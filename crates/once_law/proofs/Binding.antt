-- The invariant is kept where a process starts a bind.
use Rattle.std.proofs.Common.{◌≡◌, ℕ, ◌<◌, ◌≤◌, List, [], ◌∷◌, length, Option, Some, None, true, refl, arith, leb}
use Rattle.std.specs.Prelude.{IsTrue, ◌||◌, ◌&&◌}
use Rattle.std.specs.List.{list_all}
use Rattle.std.proofs.lemmas.Bool.{leb-true, leb-false, and_parts}
use Rattle.std.proofs.lemmas.Bool.Decides.{nat_tests}
use Rattle.std.proofs.lemmas.List.Elements.{All-nil, All-cons, All-append}
use Rattle.item_list.specs.Bytes.{AreBytes}
use Rattle.binder.specs.Interfaces.{bind_data, counted}
use Rattle.binder.specs.Names.{is_name, is_letter, is_digit, begins_with_letter}
use Rattle.call_rules.specs.Caller.{is_idle}
use Rattle.replay_model.specs.Once.{sent_since}
use Rattle.replay_model.specs.Process.{Line, binds}
use Rattle.replay_model.specs.Step.{settled, next_call, starts_bind, bind_by, bind_event}
use Rattle.replay_model.specs.World.{World, Client, numbered, number_limit, test_name}
use Rattle.lawful_rules.specs.Known.{known}
use Rattle.lawful_rules.specs.Facts.{HasLength}
use Rattle.lawful_rules.specs.Lawful.{ByBind}
use Rattle.once_law.proofs.Places.{line_at_read}
use Rattle.once_law.proofs.Parts.{Holds}
use Rattle.once_law.proofs.Laws.{Laws}
use Rattle.once_law.proofs.Does.{does-keeps}
use Rattle.once_law.proofs.Calls.{either, Holds-too_fast}

-- Binds.

name_byte : (b : ℕ) → IsTrue (is_letter b || is_digit b) → b < 256
name_byte b h = grind (arith, nat_tests)

list_bytes : (bytes : List ℕ) → IsTrue (list_all (λ (b : ℕ). is_letter b || is_digit b) bytes) → AreBytes bytes
list_bytes [] h = All-nil (λ byte. byte < 256)
list_bytes (b ∷ bytes) h =
    let parts = and_parts (is_letter b || is_digit b) (list_all (λ (x : ℕ). is_letter x || is_digit x) bytes) h in
    All-cons (λ byte. byte < 256) b bytes (name_byte b parts.0) (list_bytes bytes parts.1)

-- a name is at most 32 bytes
pub record IsShortName (bytes : List ℕ) : Type 0 where
  pub are_bytes : AreBytes bytes
  pub short : length bytes ≤ 32

short_name : (bytes : List ℕ) → IsTrue (is_name bytes) → IsShortName bytes
short_name bytes h =
    let outer = and_parts (begins_with_letter bytes && list_all (λ (b : ℕ). is_letter b || is_digit b) bytes) (leb (length bytes) 32) h in
    let inner = and_parts (begins_with_letter bytes) (list_all (λ (b : ℕ). is_letter b || is_digit b) bytes) outer.0 in
    record { are_bytes = list_bytes bytes inner.1; short = leb-true (length bytes) 32 outer.1 }

counted_bytes : (bytes : List ℕ) → IsShortName bytes → AreBytes (counted bytes)
counted_bytes bytes h = All-cons (λ byte. byte < 256) (length bytes) bytes (omega (arith, h.short)) h.are_bytes

-- the data of a bind to a name of a script can be sent, as one piece
bind_fits : Laws → (name : List ℕ) → IsTrue (is_name name) → HasLength (bind_data (test_name name)) × (length (bind_data (test_name name)) ≤ 1440)
unfolding bind_data
bind_fits laws name h =
    let kind = (test_name name).kind in
    let size = laws.exports.size (test_name name) h in (
      record {
        fits = omega (arith, size);
        are_bytes = All-append (λ byte. byte < 256) (counted kind) (counted name) (counted_bytes kind (short_name kind refl)) (counted_bytes name (short_name name h));
      },
      omega (arith, size),
    )

Holds-starts_bind : Laws → (w : World) (m p : ℕ) (c : Client) (l : Line) (name : List ℕ) → IsTrue (is_name name) → Holds w → numbered 2 w.clients m ≡ Some c → numbered 1 c.lines p ≡ Some l → is_idle l.caller.state ≡ true → l.next < number_limit w.second → Holds (settled w (starts_bind w m p c l name))
Holds-starts_bind laws w m p c l name is h ec el idle low =
    let fits = bind_fits laws name is in
    does-keeps w m p c (record c { read = w.second }) l (ByBind (next_call l)) (binds m l (bind_data (test_name name))) h ec el refl
    (h.reads.read_first m c ec) (omega arith) tt
    (laws.rules.bind (known w) m p w.second l (bind_data (test_name name)) (sent_since l.caller.activity w.records.marks)
    (h.lines m p l (line_at_read w.clients m p c l ec el)) idle low h.lives.second_fits fits.0 fits.1)

Holds-bind_by : Laws → (w : World) (m p : ℕ) (c : Client) (name : List ℕ) (o : Option Line) → IsTrue (is_name name) → Holds w → numbered 2 w.clients m ≡ Some c → numbered 1 c.lines p ≡ o → Holds (settled w (bind_by w m p c o name))
unfolding bind_by
Holds-bind_by laws w m p c name None is h ec el = h
Holds-bind_by laws w m p c name (Some l) is h ec el =
    either w (is_idle l.caller.state) _ _
    (λ idle. either w (leb (number_limit w.second) l.next) _ _ (λ full. Holds-too_fast w m c l h ec)
    (λ free. Holds-starts_bind laws w m p c l name is h ec el idle (leb-false (number_limit w.second) l.next free)))
    (λ busy. h)

pub Holds-bind : Laws → (w : World) (m p : ℕ) (name : List ℕ) (o : Option Client) → IsTrue (is_name name) → Holds w → numbered 2 w.clients m ≡ o → Holds (settled w (bind_event w m p o name))
unfolding bind_event
Holds-bind laws w m p name None is h e = h
Holds-bind laws w m p name (Some c) is h e = Holds-bind_by laws w m p c name (numbered 1 c.lines p) is h e refl
