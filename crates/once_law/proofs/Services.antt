-- What the test service takes and answers has room in packets.
use Rattle.std.proofs.Common.{ℕ, zero, suc, ◌+◌, ◌/◌, ◌%◌, ◌^◌, ◌<◌, ◌≤◌, List, [], ◌∷◌, length, map, drop, true, false, eqb, leb, arith, lit<}
use Rattle.std.proofs.Math.Nat.{mod-lt}
use Rattle.std.proofs.lemmas.Bool.{cond_both, false≢true, leb-true}
use Rattle.std.proofs.lemmas.List.FromFn.{length-map-range_with_len}
use Rattle.std.proofs.lemmas.List.Elements.{All-nil, All-cons, All-append}
use Rattle.std.specs.Int.{byte_at}
use Rattle.std.specs.List.{range_with_len}
use Rattle.byteorder.specs.Endian.{big_bytes, big_number}
use Rattle.item_list.specs.Bytes.{AreBytes}
use Rattle.replay_model.specs.declared.event.CallWord.{CallWord}
use Rattle.replay_model.specs.declared.event.CallWord.TheVariants as word
use Rattle.replay_model.specs.declared.limits.TheConstants.{LARGEST_TEXT}
use Rattle.replay_model.specs.Forms.{largest_number, IsAskable}
use Rattle.replay_model.specs.Service.{procedure_of, arguments_of, text_of, counted_text, is_counted, served, adds, bumps, gives_text, replies, raises}
use Rattle.lawful_rules.specs.Facts.{HasLength, HasReply}

one_byte : (k x : ℕ) → byte_at k x < 256
one_byte zero x = mod-lt x (lit< tt)
one_byte (suc k) x = mod-lt (x / 256 ^ suc k) (lit< tt)

-- a marshalled number is bytes, whatever the number
number_bytes : (n x : ℕ) → AreBytes (big_bytes n x)
number_bytes zero x = All-nil (λ byte. byte < 256)
number_bytes (suc n) x = All-cons (λ byte. byte < 256) (byte_at n x) (big_bytes n x) (one_byte n x) (number_bytes n x)

pub procedure_fits : (asked : CallWord) → procedure_of asked < 256 ^ 2
procedure_fits word.Null = omega arith
procedure_fits (word.Add a b) = omega arith
procedure_fits (word.Bump n) = omega arith
procedure_fits (word.MaxArg n) = omega arith
procedure_fits (word.MaxResult n) = omega arith

below_251 : (n from : ℕ) → AreBytes (map (λ (i : ℕ). i % 251) (range_with_len from n))
below_251 zero from = All-nil (λ byte. byte < 256)
below_251 (suc n) from =
    let low : from % 251 < 251 = mod-lt from (lit< tt) in
    All-cons (λ byte. byte < 256) (from % 251) (map (λ (i : ℕ). i % 251) (range_with_len (from + 1) n)) (omega (arith, low)) (below_251 n (from + 1))

-- a text behind its count
counted_fits : (n : ℕ) → n ≤ LARGEST_TEXT → HasLength (counted_text n)
unfolding text_of
counted_fits n low =
    record {
      fits = omega (arith, low, length-map-range_with_len (λ (i : ℕ). i % 251) 0 n);
      are_bytes = All-append (λ byte. byte < 256) (big_bytes 4 n) (text_of n) (number_bytes 4 n) (below_251 n 0);
    }

pub arguments_fit : (asked : CallWord) → IsAskable asked → HasLength (arguments_of asked)
arguments_fit word.Null r = record { fits = omega arith; are_bytes = All-nil (λ byte. byte < 256) }
arguments_fit (word.Add a b) r =
    record { fits = omega arith; are_bytes = All-append (λ byte. byte < 256) (big_bytes 4 a) (big_bytes 4 b) (number_bytes 4 a) (number_bytes 4 b) }
arguments_fit (word.Bump n) r = record { fits = omega arith; are_bytes = number_bytes 4 n }
arguments_fit (word.MaxArg n) r = counted_fits n r
arguments_fit (word.MaxResult n) r = record { fits = omega arith; are_bytes = number_bytes 4 n }

no_reply : HasReply false []
no_reply =
    record { has_length = record { fits = omega arith; are_bytes = All-nil (λ byte. byte < 256) }; one_piece = λ signal. omega arith }

exception_reply : (exception : ℕ) → exception < 256 → HasReply true (0 ∷ exception ∷ [])
exception_reply exception h =
    record {
      has_length = record {
        fits = omega arith;
        are_bytes = All-cons (λ byte. byte < 256) 0 (exception ∷ []) (omega arith) (All-cons (λ byte. byte < 256) exception [] h (All-nil (λ byte. byte < 256)));
      };
      one_piece = λ signal. omega arith;
    }

number_reply : (n : ℕ) → HasReply false (big_bytes 4 n)
number_reply n =
    record { has_length = record { fits = omega arith; are_bytes = number_bytes 4 n }; one_piece = λ signal. omega arith }

adds_reply : (total a b : ℕ) → HasReply (adds total a b).answer.signal (adds total a b).answer.reply
adds_reply total a b =
    cond_both (leb (a + b) largest_number) (replies total (big_bytes 4 (a + b))) (raises total 1) (λ s. HasReply s.answer.signal s.answer.reply)
    (λ fits. number_reply (a + b)) (λ large. exception_reply 1 (omega arith))

bumps_reply : (total n : ℕ) → HasReply (bumps total n).answer.signal (bumps total n).answer.reply
bumps_reply total n =
    cond_both (leb (total + n) largest_number) (replies (total + n) (big_bytes 4 (total + n))) (raises total 1) (λ s. HasReply s.answer.signal s.answer.reply)
    (λ fits. number_reply (total + n)) (λ large. exception_reply 1 (omega arith))

text_reply : (total n : ℕ) → HasReply (gives_text total n).answer.signal (gives_text total n).answer.reply
text_reply total n =
    cond_both (leb n LARGEST_TEXT) (replies total (counted_text n)) (raises total 1) (λ s. HasReply s.answer.signal s.answer.reply)
    (λ fits. record { has_length = counted_fits n (leb-true n LARGEST_TEXT fits); one_piece = λ signal. absurd (false≢true signal) }) (λ large. exception_reply 1 (omega arith))

-- what the test service answers can be sent
pub served_reply : (total procedure : ℕ) (arguments : List ℕ) → HasReply (served total procedure arguments).answer.signal (served total procedure arguments).answer.reply
served_reply total zero bytes =
    cond_both (eqb (length bytes) 0) (replies total []) (raises total 0) (λ s. HasReply s.answer.signal s.answer.reply)
    (λ none. no_reply) (λ some. exception_reply 0 (omega arith))
served_reply total (suc zero) bytes =
    let a = big_number 4 bytes in
    let b = big_number 4 (drop 4 bytes) in
    cond_both (eqb (length bytes) 8) (adds total a b) (raises total 0) (λ s. HasReply s.answer.signal s.answer.reply)
    (λ two. adds_reply total a b) (λ other. exception_reply 0 (omega arith))
served_reply total (suc (suc zero)) bytes =
    cond_both (eqb (length bytes) 4) (bumps total (big_number 4 bytes)) (raises total 0) (λ s. HasReply s.answer.signal s.answer.reply)
    (λ one. bumps_reply total (big_number 4 bytes)) (λ other. exception_reply 0 (omega arith))
served_reply total (suc (suc (suc zero))) bytes =
    cond_both (is_counted bytes) (replies total []) (raises total 0) (λ s. HasReply s.answer.signal s.answer.reply)
    (λ counted. no_reply) (λ other. exception_reply 0 (omega arith))
served_reply total (suc (suc (suc (suc zero)))) bytes =
    cond_both (eqb (length bytes) 4) (gives_text total (big_number 4 bytes)) (raises total 0) (λ s. HasReply s.answer.signal s.answer.reply)
    (λ one. text_reply total (big_number 4 bytes)) (λ other. exception_reply 0 (omega arith))
served_reply total (suc (suc (suc (suc (suc other))))) bytes = exception_reply 0 (omega arith)
