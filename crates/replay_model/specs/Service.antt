-- The test service: what its procedures answer, by their numbers.
use Rattle.std.specs.Prelude.{ℕ, zero, suc, ◌+◌, ◌%◌, List, [], ◌∷◌, ◌++◌, length, drop, map, Bool, true, false, ◌==◌, ◌&&◌, nat_le, if◌then◌else◌}
use Rattle.std.specs.List.{range_with_len}
use Rattle.byteorder.specs.Endian.{big_bytes, big_number}
use Rattle.call_rules.specs.Worker.{Answer}
use Rattle.replay_model.specs.Forms.{largest_number}
use Rattle.replay_model.specs.declared.limits.TheConstants.{LARGEST_TEXT}
use Rattle.replay_model.specs.declared.event.CallWord.{CallWord}
use Rattle.replay_model.specs.declared.event.CallWord.TheVariants as word

-- an answer, and the service's total after it
pub record Served : Type 0 where
  pub answer : Answer
  pub total : ℕ

-- the number and the marshalled arguments of a call; a number is marshalled as 4 bytes, the highest first
abbrev pub procedure_of : CallWord → ℕ
procedure_of word.Null = 0
procedure_of (word.Add a b) = 1
procedure_of (word.Bump n) = 2
procedure_of (word.MaxArg n) = 3
procedure_of (word.MaxResult n) = 4

-- a text of n bytes: byte i is i modulo 251
unfoldable pub text_of : ℕ → List ℕ
text_of n = map (λ (i : ℕ). i % 251) (range_with_len 0 n)

-- bytes are marshalled behind their count
abbrev pub counted_text : ℕ → List ℕ
counted_text n = big_bytes 4 n ++ text_of n

abbrev pub arguments_of : CallWord → List ℕ
arguments_of word.Null = []
arguments_of (word.Add a b) = big_bytes 4 a ++ big_bytes 4 b
arguments_of (word.Bump n) = big_bytes 4 n
arguments_of (word.MaxArg n) = counted_text n
arguments_of (word.MaxResult n) = big_bytes 4 n

abbrev pub replies : ℕ → List ℕ → Served
replies total reply = record { answer = record { signal = false; reply = reply }; total = total }

-- an exception, by its number, which is marshalled in two bytes
abbrev pub raises : ℕ → ℕ → Served
raises total exception = record { answer = record { signal = true; reply = 0 ∷ exception ∷ [] }; total = total }

-- a sum, or the exception of one that is too large
abbrev pub adds : (total a b : ℕ) → Served
adds total a b = if nat_le (a + b) largest_number then replies total (big_bytes 4 (a + b)) else raises total 1

-- a sum with the total, which it becomes, or the exception of one that is too large
abbrev pub bumps : (total n : ℕ) → Served
bumps total n = if nat_le (total + n) largest_number then replies (total + n) (big_bytes 4 (total + n)) else raises total 1

-- bytes are at most so many, behind their count
abbrev pub is_counted : List ℕ → Bool
is_counted bytes = nat_le 4 (length bytes) && (length bytes == 4 + big_number 4 bytes) && nat_le (big_number 4 bytes) LARGEST_TEXT

-- a text, or the exception of one that is too long
abbrev pub gives_text : (total n : ℕ) → Served
gives_text total n = if nat_le n LARGEST_TEXT then replies total (counted_text n) else raises total 1

-- the answer to a procedure and its arguments, by the total; arguments that can't be read raise 0
abbrev pub served : (total procedure : ℕ) → List ℕ → Served
served total zero bytes = if length bytes == 0 then replies total [] else raises total 0
served total (suc zero) bytes =
    if length bytes == 8 then adds total (big_number 4 bytes) (big_number 4 (drop 4 bytes)) else raises total 0
served total (suc (suc zero)) bytes = if length bytes == 4 then bumps total (big_number 4 bytes) else raises total 0
served total (suc (suc (suc zero))) bytes = if is_counted bytes then replies total [] else raises total 0
served total (suc (suc (suc (suc zero)))) bytes = if length bytes == 4 then gives_text total (big_number 4 bytes) else raises total 0
served total (suc (suc (suc (suc (suc other))))) bytes = raises total 0
