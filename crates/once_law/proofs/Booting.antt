-- The invariant holds of the first world.
use Rattle.std.proofs.Common.{◌≡◌, ℕ, zero, suc, ◌+◌, ◌-◌, ◌<◌, ◌≤◌, List, [], ◌∷◌, map, replicate, Some, refl, ap, sym, ◌∙◌, subst, arith}
use Rattle.std.specs.Prelude.{Contains, slice_get}
use Rattle.std.proofs.lemmas.Option.{none-some, same_Some, option_and_then_some}
use Rattle.std.proofs.lemmas.Bool.Decides.{nat_tests}
use Rattle.std.proofs.lemmas.List.{length-replicate}
use Rattle.std.proofs.lemmas.List.Elements.{All-nil}
use Rattle.call_rules.specs.Entry.{Empty}
use Rattle.call_rules.specs.Worker.{Worker, Resting}
use Rattle.replay_model.specs.Once.{sent_since}
use Rattle.call_rules.specs.Packet.{Packet}
use Rattle.replay_model.specs.Process.{Line}
use Rattle.replay_model.specs.Record.{Marked}
use Rattle.replay_model.specs.World.{Client, numbered, entry_place, first_world, booted_client, booted_line}
use Rattle.lawful_rules.specs.Known.{Known, known}
use Rattle.lawful_rules.specs.Facts.{IsEntry, IsLine, IsMarked, carrier}
use Rattle.once_law.proofs.Places.{EachLine, numbered_read, entry_at_read}
use Rattle.once_law.proofs.Exporting.{boots_sound}
use Rattle.once_law.proofs.Laws.{ExportLaws}
use Rattle.once_law.proofs.Parts.{owned, Holds}

pub none_in_empty : {A : Type 0} (x : A) → Contains [] x → ⊥
none_in_empty x c = omega (arith, c.1)

map_read : {A B : Type 0} (f : A → B) (xs : List A) (k : ℕ) (y : B) → slice_get (map f xs) k ≡ Some y → (x : A) × (slice_get xs k ≡ Some x) × (f x ≡ y)
map_read f [] k y h = absurd (none-some y h)
map_read f (x ∷ xs) zero y h = (x, refl, same_Some (f x) y h)
map_read f (x ∷ xs) (suc k) y h = map_read f xs k y h

pub replicate_read : {A : Type 0} (n : ℕ) (a : A) (k : ℕ) (x : A) → slice_get (replicate n a) k ≡ Some x → x ≡ a
replicate_read zero a k x h = absurd (none-some x h)
replicate_read (suc n) a zero x h = sym (same_Some a x h)
replicate_read (suc n) a (suc k) x h = replicate_read n a k x h

-- Processes.

-- eight numbers in a row
abbrev eight : ℕ → List ℕ
eight a = a ∷ (a + 1) ∷ (a + 2) ∷ (a + 3) ∷ (a + 4) ∷ (a + 5) ∷ (a + 6) ∷ (a + 7) ∷ []

eight_read : (a k x : ℕ) → slice_get (eight a) k ≡ Some x → (x ≡ a + k) × (k < 8)
eight_read a zero x h = let e = same_Some a x h in (omega arith, omega arith)
eight_read a (suc zero) x h = let e = same_Some (a + 1) x h in (omega arith, omega arith)
eight_read a (suc (suc zero)) x h = let e = same_Some (a + 2) x h in (omega arith, omega arith)
eight_read a (suc (suc (suc zero))) x h = let e = same_Some (a + 3) x h in (omega arith, omega arith)
eight_read a (suc (suc (suc (suc zero)))) x h = let e = same_Some (a + 4) x h in (omega arith, omega arith)
eight_read a (suc (suc (suc (suc (suc zero))))) x h = let e = same_Some (a + 5) x h in (omega arith, omega arith)
eight_read a (suc (suc (suc (suc (suc (suc zero)))))) x h = let e = same_Some (a + 6) x h in (omega arith, omega arith)
eight_read a (suc (suc (suc (suc (suc (suc (suc zero))))))) x h = let e = same_Some (a + 7) x h in (omega arith, omega arith)
eight_read a (suc (suc (suc (suc (suc (suc (suc (suc k)))))))) x h = absurd (none-some x h)

-- process p of machine m, as it boots in this second
pub record IsBooted (boot m p : ℕ) (l : Line) : Type 0 where
  pub first_machine : 2 ≤ m
  pub last_machine : m ≤ 9
  pub first_process : 1 ≤ p
  pub last_process : p ≤ 8
  pub is : booted_line boot m p ≡ l

-- each process of clients that boot in one second
booted_lines : (boot : ℕ) → EachLine (map (booted_client boot) (eight 2)) (IsBooted boot)
booted_lines boot m p l h =
    option_and_then_some {P = IsBooted boot m p l} (λ (c : Client). numbered 1 c.lines p) (numbered 2 (map (booted_client boot) (eight 2)) m) l h
    (λ c ec el.
    let rm = numbered_read 2 (map (booted_client boot) (eight 2)) m c ec in
    let cm = map_read (booted_client boot) (eight 2) (m - 2) c rm.1 in
    let xm = eight_read 2 (m - 2) cm.0 cm.1 in
    let rp = numbered_read 1 (map (booted_line boot cm.0) (eight 1)) p l (subst (λ (d : Client). numbered 1 d.lines p ≡ Some l) (sym cm.2) el) in
    let cp = map_read (booted_line boot cm.0) (eight 1) (p - 1) l rp.1 in
    let xp = eight_read 1 (p - 1) cp.0 cp.1 in
    let em : cm.0 ≡ m = omega (arith, xm.0, rm.0) in
    let ep : cp.0 ≡ p = omega (arith, xp.0, rp.0) in
    record {
      first_machine = rm.0;
      last_machine = omega (arith, xm.1, rm.0);
      first_process = rp.0;
      last_process = omega (arith, xp.1, rp.0);
      is = sym (ap (λ a. booted_line boot a cp.0) em ∙ ap (booted_line boot m) ep) ∙ cp.2;
    })

booted_clients : (boot m : ℕ) (c : Client) → numbered 2 (map (booted_client boot) (eight 2)) m ≡ Some c → c ≡ booted_client boot m
booted_clients boot m c e =
    let rm = numbered_read 2 (map (booted_client boot) (eight 2)) m c e in
    let cm = map_read (booted_client boot) (eight 2) (m - 2) c rm.1 in
    let xm = eight_read 2 (m - 2) cm.0 cm.1 in
    let em : cm.0 ≡ m = omega (arith, xm.0, rm.0) in
    sym cm.2 ∙ ap (booted_client boot) em

-- each process of one client that boots
pub booted_client_lines : (boot m : ℕ) → 2 ≤ m → m ≤ 9 → (p : ℕ) (l : Line) → numbered 1 (booted_client boot m).lines p ≡ Some l → IsBooted boot m p l
booted_client_lines boot m low high p l h =
    let rp = numbered_read 1 (map (booted_line boot m) (eight 1)) p l h in
    let cp = map_read (booted_line boot m) (eight 1) (p - 1) l rp.1 in
    let xp = eight_read 1 (p - 1) cp.0 cp.1 in
    let ep : cp.0 ≡ p = omega (arith, xp.0, rp.0) in
    record {
      first_machine = low;
      last_machine = high;
      first_process = rp.0;
      last_process = omega (arith, xp.1, rp.0);
      is = sym (ap (booted_line boot m) ep) ∙ cp.2;
    }

-- a process that boots has nothing open, whatever is known
pub booted_is_line : (k : Known) (boot m p : ℕ) (l : Line) → IsBooted boot m p l → IsLine k m p l
booted_is_line k boot m p l b =
    let a : 2 ≤ m = b.first_machine in
    let c : m ≤ 9 = b.last_machine in
    let d : 1 ≤ p = b.first_process in
    let e : p ≤ 8 = b.last_process in
    subst (IsLine k m p) b.is
    (record {
      own_activity = refl;
      has_entry = grind (arith, nat_tests);
      has_room = record {
        hint = omega arith;
        number = omega arith;
        identifier = omega arith;
        index = omega arith;
        procedure = omega arith;
        bound_identifier = omega arith;
        bound_index = omega arith;
        arguments = record { fits = omega arith; are_bytes = All-nil (λ byte. byte < 256) };
      };
      is_open = tt;
    })

-- what a process that boots has sent is no matter
pub booted_marked : (bag : List Packet) (marks : List Marked) (boot m p : ℕ) (l : Line) → IsBooted boot m p l → IsMarked bag l.caller (sent_since l.caller.activity marks)
booted_marked bag marks boot m p l b = subst (λ x. IsMarked bag x.caller (sent_since x.caller.activity marks)) b.is tt

-- The world.

pub first_worker : (i : ℕ) (v : Worker) → numbered 1 (replicate 4 Resting) i ≡ Some v → v ≡ Resting
first_worker i v g = replicate_read 4 Resting (i - 1) v (numbered_read 1 (replicate 4 Resting) i v g).1

pub Holds-first : ExportLaws → (small long : ℕ) → Holds (first_world small long)
Holds-first laws small long =
    record {
      names = record { below_next = λ m p l e s c. absurd (none_in_empty s c); one_start = λ s t c. absurd (none_in_empty s c) };
      reads = record {
        read_first = λ m c e. subst (λ (d : Client). d.read ≤ 1) (sym (booted_clients 1 m c e)) (omega arith);
        below_read = λ m c e s g. absurd (none_in_empty s g);
      };
      lives = record {
        boot_first = omega arith;
        read_first = omega arith;
        second_fits = omega arith;
        sound = (boots_sound laws 1).0;
        next_read = (boots_sound laws 1).1;
        runs_read = λ r c. absurd (none_in_empty r c);
      };
      lines = λ m p l e. booted_is_line (known (first_world small long)) 1 m p l (booted_lines 1 m p l e);
      unreturned = λ m p l e o x c. absurd (none_in_empty x c);
      marks = λ m p l e. booted_marked [] [] 1 m p l (booted_lines 1 m p l e);
      sent = λ n p e. absurd (none-some p (numbered_read 1 [] n p e).1);
      ready = λ p c. absurd (none_in_empty p c);
      workers = record {
        works = λ i v g. record {
          has_entry = λ p c. absurd (none-some p (sym (ap carrier (first_worker i v g)) ∙ c));
          at_entry = λ p c. absurd (none-some p (sym (ap carrier (first_worker i v g)) ∙ c));
        };
        apart = λ i j v u gv gu ne p hp. absurd (none-some p (sym (ap owned (first_worker i v gv)) ∙ hp));
      };
      entries = record {
        count = length-replicate 64 Empty;
        each = λ a e g. subst (IsEntry (known (first_world small long)) a)
            (sym (replicate_read 64 Empty (entry_place a) e (entry_at_read (replicate 64 Empty) a e g).1)) tt;
        remembered = λ a e g r c. absurd (none_in_empty r c);
      };
      told = record {
        runs_started = λ r c. absurd (none_in_empty r c);
        replies = λ r c. absurd (none_in_empty r c);
        runs_once = tt;
        returns_run = λ x c. absurd (none_in_empty x c);
        returns_once = tt;
        failed = λ f c. absurd (none_in_empty f c);
      };
    }
