-- What a word is that `clap` finds no fault in, where options may stand and where the text of one is awaited.
use Rattle.std.proofs.Common.{◌≡◌, ◌⊎◌, ℕ, Bool, true, false, List, [], ◌∷◌, ◌++◌, sym, ap, subst, ◌∙◌, refl, inl, inr}
use Rattle.std.specs.Prelude.{Option, Some, None, codes, ◌==◌, fold}
use Rattle.std.specs.List.{before_first, after_first}
use Rattle.std.specs.Str.{bytes_eq, chars}
use Rattle.std.proofs.lemmas.Slice.Eq.{bytes_eq-Decides}
use Rattle.clap.proofs.OnLiterals.{clap_on_literals}
use Rattle.clap.specs.Faults.{flags_fault, long_fault, turn_fault, walk_fault}
use Rattle.clap.specs.Kinds.{Kinds, or_else, value_kinds}
use Rattle.clap.specs.Lexer.{has_byte}
use Rattle.clap.specs.ValueTests.{accepts}
use Rattle.clap.specs.Walk.{Held, Row, Text, Walk, arg_by_long, bundle_met, walked}
use Rattle.clap.specs.declared.builder.value_parser.ValueParser.{ValueParser}
use Rattle.clap.specs.declared.error.kind.ErrorKind.TheVariants.{DisplayHelp, InvalidValue, TooManyValues, UnknownArgument}
use Rattle.command_words.proofs.Lexing.{Dash, Ends, Form, Long, Plain, Short, cut, form, whole}
use Rattle.command_words.proofs.Spelled.{rest_fault}
use Rattle.command_words.proofs.Steps.{past, shape, stands, waits}

pub parts : (a b : Kinds) → or_else a b ≡ [] → (a ≡ []) × (b ≡ [])
parts [] b e = (refl, e)
parts (k ∷ ks) b e = let bad : k ∷ ks ≡ [] = e in cc

pub fits_of : (p : ValueParser) (v : Text) → value_kinds false p v ≡ [] → accepts false p v ≡ true
fits_of p v e = by (accepts false p v) refl
  where
    by : (b : Bool) → accepts false p v ≡ b → accepts false p v ≡ true
    by true h = h
    by false h = let bad = rw h at e in cc

-- what a word is that has no fault and no text of an option
pub data Read (word : Text) : Type 0 where
  End : word ≡ codes "--" → Read word
  Seed_is : (v : Text) → word ≡ codes "--seed=" ++ v → Read word
  Seed : word ≡ codes "--seed" → Read word
  Calls_are : (w : Text) → word ≡ codes "--calls=" ++ w → Read word
  Calls : word ≡ codes "--calls" → Read word

pub help_never : (p q : ValueParser) (value : Option Text) (h : Held) → long_fault (shape p q).rules false (arg_by_long (shape p q).rules (codes "help")) value h ≡ [] → ⊥
help_never p q None h e =
    let both = parts _ _ e in
    let bad : DisplayHelp ∷ [] ≡ [] = both.1 in
    cc
help_never p q (Some v) h e = let bad : TooManyValues ∷ [] ≡ [] = e in cc

-- a name without a fault
pub known : (p q : ValueParser) (name : Text) (value : Option Text) (h : Held)
    → long_fault (shape p q).rules false (arg_by_long (shape p q).rules name) value h ≡ [] → (codes "seed" ≡ name) ⊎ (codes "calls" ≡ name)
known p q name value h sound = by_seed (bytes_eq (codes "seed") name) refl
  where
    by_help : bytes_eq (codes "seed") name ≡ false → bytes_eq (codes "calls") name ≡ false → (b : Bool) → bytes_eq (codes "help") name ≡ b → ⊥
    by_help e f true g =
        help_never p q value h (subst (λ (n : Text). long_fault (shape p q).rules false (arg_by_long (shape p q).rules n) value h ≡ [])
        (sym ((bytes_eq-Decides (codes "help") name).0 g)) sound)
    by_help e f false g = let bad : UnknownArgument ∷ [] ≡ [] = rw (e, f, g) at sound in cc

    by_calls : bytes_eq (codes "seed") name ≡ false → (b : Bool) → bytes_eq (codes "calls") name ≡ b → (codes "seed" ≡ name) ⊎ (codes "calls" ≡ name)
    by_calls e true f = inr ((bytes_eq-Decides (codes "calls") name).0 f)
    by_calls e false f = absurd (by_help e f (bytes_eq (codes "help") name) refl)

    by_seed : (b : Bool) → bytes_eq (codes "seed") name ≡ b → (codes "seed" ≡ name) ⊎ (codes "calls" ≡ name)
    by_seed true e = inl ((bytes_eq-Decides (codes "seed") name).0 e)
    by_seed false e = by_calls e (bytes_eq (codes "calls") name) refl

pub idle_long : (p q : ValueParser) (rows : List Row) (pending : Option (Text × List Text)) (x : ℕ) (xs : Text) → turn_fault (shape p q) [] (stands rows pending) (45 ∷ 45 ∷ x ∷ xs) ≡ [] → Read (45 ∷ 45 ∷ x ∷ xs)
idle_long p q rows pending x xs sound = by (has_byte 61 (x ∷ xs)) refl
  where
    by : (b : Bool) → has_byte 61 (x ∷ xs) ≡ b → Read (45 ∷ 45 ∷ x ∷ xs)
    by true e =
        let name : Text = before_first (λ y. y == 61) (x ∷ xs) in
        let value : Text = after_first (λ y. y == 61) (x ∷ xs) in
        let fault : long_fault (shape p q).rules false (arg_by_long (shape p q).rules name) (Some value) (stands rows pending).held ≡ [] = (parts _ _ (rw e at sound)).0 in
        elim (known p q name (Some value) (stands rows pending).held fault) [
          | inl is ↦ Seed_is value (ap (λ (t : Text). 45 ∷ 45 ∷ t) (cut (x ∷ xs) e ∙ ap (λ (n : Text). n ++ 61 ∷ value) (sym is)))
          | inr is ↦ Calls_are value (ap (λ (t : Text). 45 ∷ 45 ∷ t) (cut (x ∷ xs) e ∙ ap (λ (n : Text). n ++ 61 ∷ value) (sym is)))
        ]
    by false e =
        let name : Text = before_first (λ y. y == 61) (x ∷ xs) in
        let fault : long_fault (shape p q).rules false (arg_by_long (shape p q).rules name) None (stands rows pending).held ≡ [] = (parts _ _ (rw e at sound)).0 in
        elim (known p q name None (stands rows pending).held fault) [
          | inl is ↦ Seed (ap (λ (t : Text). 45 ∷ 45 ∷ t) (whole (x ∷ xs) e ∙ sym is))
          | inr is ↦ Calls (ap (λ (t : Text). 45 ∷ 45 ∷ t) (whole (x ∷ xs) e ∙ sym is))
        ]

pub idle_short : (p q : ValueParser) (rows : List Row) (pending : Option (Text × List Text)) (x : ℕ) (xs : Text) → (x == 45) ≡ false
    → turn_fault (shape p q) [] (stands rows pending) (45 ∷ x ∷ xs) ≡ [] → ⊥
unfolding flags_fault bundle_met
idle_short p q rows pending x xs e sound = by_chars (chars (x ∷ xs)) refl
  where
    by_help : (c : ℕ) (cs : Text) → chars (x ∷ xs) ≡ c ∷ cs → (b : Bool) → (104 == c) ≡ b → ⊥
    by_help c cs h true g =
        let one = parts _ _ (rw (e, e, h, g) at sound) in
        let two = parts _ _ one.0 in
        let three = parts _ _ two.0 in
        let bad : DisplayHelp ∷ [] ≡ [] = three.1 in
        cc
    by_help c cs h false g = let bad : UnknownArgument ∷ [] ≡ [] = rw (e, e, h, g) at sound in cc

    by_chars : (cs : Text) → chars (x ∷ xs) ≡ cs → ⊥
    by_chars [] h = let bad : UnknownArgument ∷ [] ≡ [] = rw (e, e, h) at sound in cc
    by_chars (c ∷ cs) h = by_help c cs h (104 == c) refl

pub waiting_long : (p q : ValueParser) (rows : List Row) (awaited : Text) (x : ℕ) (xs : Text) → turn_fault (shape p q) [] (waits rows awaited) (45 ∷ 45 ∷ x ∷ xs) ≡ [] → Read (45 ∷ 45 ∷ x ∷ xs)
waiting_long p q rows awaited x xs sound = by (has_byte 61 (x ∷ xs)) refl
  where
    by : (b : Bool) → has_byte 61 (x ∷ xs) ≡ b → Read (45 ∷ 45 ∷ x ∷ xs)
    by true e =
        let name : Text = before_first (λ y. y == 61) (x ∷ xs) in
        let value : Text = after_first (λ y. y == 61) (x ∷ xs) in
        let fault : long_fault (shape p q).rules false (arg_by_long (shape p q).rules name) (Some value) (waits rows awaited).held ≡ [] = (parts _ _ (rw e at sound)).0 in
        elim (known p q name (Some value) (waits rows awaited).held fault) [
          | inl is ↦ Seed_is value (ap (λ (t : Text). 45 ∷ 45 ∷ t) (cut (x ∷ xs) e ∙ ap (λ (n : Text). n ++ 61 ∷ value) (sym is)))
          | inr is ↦ Calls_are value (ap (λ (t : Text). 45 ∷ 45 ∷ t) (cut (x ∷ xs) e ∙ ap (λ (n : Text). n ++ 61 ∷ value) (sym is)))
        ]
    by false e =
        let name : Text = before_first (λ y. y == 61) (x ∷ xs) in
        let fault : long_fault (shape p q).rules false (arg_by_long (shape p q).rules name) None (waits rows awaited).held ≡ [] = (parts _ _ (rw e at sound)).0 in
        elim (known p q name None (waits rows awaited).held fault) [
          | inl is ↦ Seed (ap (λ (t : Text). 45 ∷ 45 ∷ t) (whole (x ∷ xs) e ∙ sym is))
          | inr is ↦ Calls (ap (λ (t : Text). 45 ∷ 45 ∷ t) (whole (x ∷ xs) e ∙ sym is))
        ]

pub waiting_short : (p q : ValueParser) (rows : List Row) (awaited : Text) (x : ℕ) (xs : Text) → (x == 45) ≡ false → (c : ℕ) (cs : Text) → chars (x ∷ xs) ≡ c ∷ cs
    → turn_fault (shape p q) [] (waits rows awaited) (45 ∷ x ∷ xs) ≡ [] → ⊥
unfolding flags_fault
waiting_short p q rows awaited x xs e c cs h sound = by (104 == c) refl
  where
    by : (b : Bool) → (104 == c) ≡ b → ⊥
    by true g =
        let one = parts _ _ (rw (e, e, h, g) at sound) in
        let two = parts _ _ one.0 in
        let three = parts _ _ two.0 in
        let bad : DisplayHelp ∷ [] ≡ [] = three.1 in
        cc
    by false g = let bad : UnknownArgument ∷ [] ≡ [] = rw (e, e, h, g) at sound in cc

-- bytes that are no text are taken for the text of an option
pub seed_bytes : (p q : ValueParser) (rows : List Row) (x : ℕ) (xs : Text) → (x == 45) ≡ false → chars (x ∷ xs) ≡ []
    → walked (shape p q).rules [] (waits rows (codes "seed")) (45 ∷ x ∷ xs) ≡ stands rows (Some (codes "seed", (45 ∷ x ∷ xs) ∷ []))
unfolding walked bundle_met
seed_bytes p q rows x xs e h = rw (e, e, h) refl

pub calls_bytes : (p q : ValueParser) (rows : List Row) (x : ℕ) (xs : Text) → (x == 45) ≡ false → chars (x ∷ xs) ≡ []
    → walked (shape p q).rules [] (waits rows (codes "calls")) (45 ∷ x ∷ xs) ≡ stands rows (Some (codes "calls", (45 ∷ x ∷ xs) ∷ []))
unfolding walked bundle_met
calls_bytes p q rows x xs e h = rw (e, e, h) refl

pub idle_word : (p q : ValueParser) (rows : List Row) (pending : Option (Text × List Text)) (word : Text)
    → turn_fault (shape p q) [] (stands rows pending) word ≡ [] → Read word
idle_word p q rows pending word sound = by (form word)
  where
    by : Form word → Read word
    by (Ends is) = End is
    by (Long x xs is) =
        subst (λ (t : Text). Read t) (sym is) (idle_long p q rows pending x xs (subst (λ (t : Text). turn_fault (shape p q) [] (stands rows pending) t ≡ []) is sound))
    by (Short x xs is e) =
        absurd (idle_short p q rows pending x xs e
        (subst (λ (t : Text). turn_fault (shape p q) [] (stands rows pending) t ≡ []) is sound))
    by (Dash is) =
        let bad : UnknownArgument ∷ [] ≡ [] = subst (λ (t : Text). turn_fault (shape p q) [] (stands rows pending) t ≡ []) is sound in
        cc
    by (Plain v) =
        let bad : UnknownArgument ∷ [] ≡ [] = rw (v.0, v.1, v.1) at sound in
        cc

-- what a word is that has no fault where the text of an option is awaited
pub data Awaited (p q : ValueParser) (rows : List Row) (name word : Text) : Type 0 where
  Stop : word ≡ codes "--" → Awaited p q rows name word
  Given : walked (shape p q).rules [] (waits rows name) word ≡ stands rows (Some (name, word ∷ [])) → Awaited p q rows name word

pub seed_word : (p q : ValueParser) (rows : List Row) (word : Text)
    → turn_fault (shape p q) [] (waits rows (codes "seed")) word ≡ [] → Awaited p q rows (codes "seed") word
unfolding clap_on_literals
seed_word p q rows word sound = by (form word)
  where
    read : (t : Text) → turn_fault (shape p q) [] (waits rows (codes "seed")) t ≡ [] → Read t → Awaited p q rows (codes "seed") t
    read t fault (End is) = Stop is
    read t fault (Seed_is v is) = let bad : InvalidValue ∷ [] ≡ [] = subst (λ (u : Text). turn_fault (shape p q) [] (waits rows (codes "seed")) u ≡ []) is fault in cc
    read t fault (Seed is) = let bad : InvalidValue ∷ [] ≡ [] = subst (λ (u : Text). turn_fault (shape p q) [] (waits rows (codes "seed")) u ≡ []) is fault in cc
    read t fault (Calls_are v is) = let bad : InvalidValue ∷ [] ≡ [] = subst (λ (u : Text). turn_fault (shape p q) [] (waits rows (codes "seed")) u ≡ []) is fault in cc
    read t fault (Calls is) = let bad : InvalidValue ∷ [] ≡ [] = subst (λ (u : Text). turn_fault (shape p q) [] (waits rows (codes "seed")) u ≡ []) is fault in cc

    short : (x : ℕ) (xs : Text) → (x == 45) ≡ false → turn_fault (shape p q) [] (waits rows (codes "seed")) (45 ∷ x ∷ xs) ≡ []
        → (cs : Text) → chars (x ∷ xs) ≡ cs → Awaited p q rows (codes "seed") (45 ∷ x ∷ xs)
    short x xs e fault [] h = Given (seed_bytes p q rows x xs e h)
    short x xs e fault (c ∷ cs) h = absurd (waiting_short p q rows (codes "seed") x xs e c cs h fault)

    by : Form word → Awaited p q rows (codes "seed") word
    by (Ends is) = Stop is
    by (Long x xs is) =
        let fault : turn_fault (shape p q) [] (waits rows (codes "seed")) (45 ∷ 45 ∷ x ∷ xs) ≡ [] =
        subst (λ (t : Text). turn_fault (shape p q) [] (waits rows (codes "seed")) t ≡ []) is sound in
        subst (λ (t : Text). Awaited p q rows (codes "seed") t) (sym is) (read (45 ∷ 45 ∷ x ∷ xs) fault (waiting_long p q rows (codes "seed") x xs fault))
    by (Short x xs is e) =
        subst (λ (t : Text). Awaited p q rows (codes "seed") t) (sym is) (short x xs e
        (subst (λ (t : Text). turn_fault (shape p q) [] (waits rows (codes "seed")) t ≡ []) is sound) (chars (x ∷ xs)) refl)
    by (Dash is) = subst (λ (t : Text). Awaited p q rows (codes "seed") t) (sym is) (Given refl)
    by (Plain v) = Given (rw (v.0, v.1, v.1) refl)

pub calls_word : (p q : ValueParser) (rows : List Row) (word : Text)
    → turn_fault (shape p q) [] (waits rows (codes "calls")) word ≡ [] → Awaited p q rows (codes "calls") word
unfolding clap_on_literals
calls_word p q rows word sound = by (form word)
  where
    read : (t : Text) → turn_fault (shape p q) [] (waits rows (codes "calls")) t ≡ [] → Read t → Awaited p q rows (codes "calls") t
    read t fault (End is) = Stop is
    read t fault (Seed_is v is) = let bad : InvalidValue ∷ [] ≡ [] = subst (λ (u : Text). turn_fault (shape p q) [] (waits rows (codes "calls")) u ≡ []) is fault in cc
    read t fault (Seed is) = let bad : InvalidValue ∷ [] ≡ [] = subst (λ (u : Text). turn_fault (shape p q) [] (waits rows (codes "calls")) u ≡ []) is fault in cc
    read t fault (Calls_are v is) = let bad : InvalidValue ∷ [] ≡ [] = subst (λ (u : Text). turn_fault (shape p q) [] (waits rows (codes "calls")) u ≡ []) is fault in cc
    read t fault (Calls is) = let bad : InvalidValue ∷ [] ≡ [] = subst (λ (u : Text). turn_fault (shape p q) [] (waits rows (codes "calls")) u ≡ []) is fault in cc

    short : (x : ℕ) (xs : Text) → (x == 45) ≡ false → turn_fault (shape p q) [] (waits rows (codes "calls")) (45 ∷ x ∷ xs) ≡ []
        → (cs : Text) → chars (x ∷ xs) ≡ cs → Awaited p q rows (codes "calls") (45 ∷ x ∷ xs)
    short x xs e fault [] h = Given (calls_bytes p q rows x xs e h)
    short x xs e fault (c ∷ cs) h = absurd (waiting_short p q rows (codes "calls") x xs e c cs h fault)

    by : Form word → Awaited p q rows (codes "calls") word
    by (Ends is) = Stop is
    by (Long x xs is) =
        let fault : turn_fault (shape p q) [] (waits rows (codes "calls")) (45 ∷ 45 ∷ x ∷ xs) ≡ [] =
        subst (λ (t : Text). turn_fault (shape p q) [] (waits rows (codes "calls")) t ≡ []) is sound in
        subst (λ (t : Text). Awaited p q rows (codes "calls") t) (sym is) (read (45 ∷ 45 ∷ x ∷ xs) fault (waiting_long p q rows (codes "calls") x xs fault))
    by (Short x xs is e) =
        subst (λ (t : Text). Awaited p q rows (codes "calls") t) (sym is) (short x xs e
        (subst (λ (t : Text). turn_fault (shape p q) [] (waits rows (codes "calls")) t ≡ []) is sound) (chars (x ∷ xs)) refl)
    by (Dash is) = subst (λ (t : Text). Awaited p q rows (codes "calls") t) (sym is) (Given refl)
    by (Plain v) = Given (rw (v.0, v.1, v.1) refl)

-- words that have no fault from here on, to their end
abbrev pub Sound : (p q : ValueParser) (w : Walk) (words : List Text) → Type 0
Sound p q w words = (walk_fault (shape p q) [] w words ≡ []) × (rest_fault p q (fold (walked (shape p q).rules []) w words) ≡ [])

pub turn_of : (p q : ValueParser) (w : Walk) (word : Text) (rest : List Text) → Sound p q w (word ∷ rest) → turn_fault (shape p q) [] w word ≡ []
unfolding walk_fault
turn_of p q w word rest sound = (parts _ _ sound.0).0

pub after : (p q : ValueParser) (w next : Walk) (word : Text) (rest : List Text) → walked (shape p q).rules [] w word ≡ next → Sound p q w (word ∷ rest) → Sound p q next rest
unfolding walk_fault
after p q w next word rest is sound = (
  subst (λ (u : Walk). walk_fault (shape p q) [] u rest ≡ []) is (parts _ _ sound.0).1,
  subst (λ (u : Walk). rest_fault p q (fold (walked (shape p q).rules []) u rest) ≡ []) is sound.1,
)

-- as `after`, where the word is known
pub after_word : (p q : ValueParser) (w next : Walk) (word known : Text) (rest : List Text) → word ≡ known → walked (shape p q).rules [] w known ≡ next
    → Sound p q w (word ∷ rest) → Sound p q next rest
after_word p q w next word known rest same is sound = after p q w next word rest (ap (walked (shape p q).rules [] w) same ∙ is) sound

pub fault_at : (p q : ValueParser) (w : Walk) (word known : Text) (rest : List Text) → word ≡ known → Sound p q w (word ∷ rest) → turn_fault (shape p q) [] w known ≡ []
fault_at p q w word known rest same sound = subst (λ (t : Text). turn_fault (shape p q) [] w t ≡ []) same (turn_of p q w word rest sound)

-- behind `--` stands nothing
pub none_past : (p q : ValueParser) (rows : List Row) (pending : Option (Text × List Text)) (words : List Text) → Sound p q (past (stands rows pending)) words → words ≡ []
none_past p q rows pending [] sound = refl
none_past p q rows pending (word ∷ rest) sound =
    let bad : UnknownArgument ∷ [] ≡ [] = turn_of p q (past (stands rows pending)) word rest sound in
    cc

pub end_past : (p q : ValueParser) (rows : List Row) (pending : Option (Text × List Text)) (word : Text) (rest : List Text) → word ≡ codes "--"
    → Sound p q (stands rows pending) (word ∷ rest) → (rest ≡ []) × (rest_fault p q (past (stands rows pending)) ≡ [])
unfolding clap_on_literals
end_past p q rows pending word rest same sound =
    let later = after_word p q (stands rows pending) (past (stands rows pending)) word (codes "--") rest same refl sound in
    let none = none_past p q rows pending rest later in
    (none, subst (λ (ws : List Text). rest_fault p q (fold (walked (shape p q).rules []) (past (stands rows pending)) ws) ≡ []) none later.1)

pub waits_past : (p q : ValueParser) (rows : List Row) (name : Text) (words : List Text) → Sound p q (past (waits rows name)) words → words ≡ []
waits_past p q rows name [] sound = refl
waits_past p q rows name (word ∷ rest) sound =
    let bad : UnknownArgument ∷ [] ≡ [] = turn_of p q (past (waits rows name)) word rest sound in
    cc

pub seed_missing : (p q : ValueParser) (rows : List Row) (word : Text) (rest : List Text) → word ≡ codes "--" → Sound p q (waits rows (codes "seed")) (word ∷ rest) → ⊥
unfolding clap_on_literals
seed_missing p q rows word rest same sound =
    let later = after_word p q (waits rows (codes "seed")) (past (waits rows (codes "seed"))) word (codes "--") rest same refl sound in
    let none = waits_past p q rows (codes "seed") rest later in
    let bad : InvalidValue ∷ [] ≡ [] =
    subst (λ (ws : List Text). rest_fault p q (fold (walked (shape p q).rules []) (past (waits rows (codes "seed"))) ws) ≡ []) none later.1 in
    cc

-- the text of an option that is awaited
pub seed_given : (p q : ValueParser) (rows : List Row) (words : List Text) → Sound p q (waits rows (codes "seed")) words
    → (t : Text) × (rest : List Text) × (words ≡ t ∷ rest) × Sound p q (stands rows (Some (codes "seed", t ∷ []))) rest
unfolding clap_on_literals
seed_given p q rows [] sound = let bad : InvalidValue ∷ [] ≡ [] = sound.1 in cc
seed_given p q rows (word ∷ rest) sound = by (seed_word p q rows word (turn_of p q (waits rows (codes "seed")) word rest sound))
  where
    by : Awaited p q rows (codes "seed") word → (t : Text) × (more : List Text) × (word ∷ rest ≡ t ∷ more) × Sound p q (stands rows (Some (codes "seed", t ∷ []))) more
    by (Stop is) = absurd (seed_missing p q rows word rest is sound)
    by (Given is) = (word, rest, refl, after p q (waits rows (codes "seed")) (stands rows (Some (codes "seed", word ∷ []))) word rest is sound)

pub calls_missing : (p q : ValueParser) (rows : List Row) (word : Text) (rest : List Text) → word ≡ codes "--" → Sound p q (waits rows (codes "calls")) (word ∷ rest) → ⊥
unfolding clap_on_literals
calls_missing p q rows word rest same sound =
    let later = after_word p q (waits rows (codes "calls")) (past (waits rows (codes "calls"))) word (codes "--") rest same refl sound in
    let none = waits_past p q rows (codes "calls") rest later in
    let bad : InvalidValue ∷ [] ≡ [] =
    subst (λ (ws : List Text). rest_fault p q (fold (walked (shape p q).rules []) (past (waits rows (codes "calls"))) ws) ≡ []) none later.1 in
    cc

-- the text of an option that is awaited
pub calls_given : (p q : ValueParser) (rows : List Row) (words : List Text) → Sound p q (waits rows (codes "calls")) words
    → (t : Text) × (rest : List Text) × (words ≡ t ∷ rest) × Sound p q (stands rows (Some (codes "calls", t ∷ []))) rest
unfolding clap_on_literals
calls_given p q rows [] sound = let bad : InvalidValue ∷ [] ≡ [] = sound.1 in cc
calls_given p q rows (word ∷ rest) sound = by (calls_word p q rows word (turn_of p q (waits rows (codes "calls")) word rest sound))
  where
    by : Awaited p q rows (codes "calls") word → (t : Text) × (more : List Text) × (word ∷ rest ≡ t ∷ more) × Sound p q (stands rows (Some (codes "calls", t ∷ []))) more
    by (Stop is) = absurd (calls_missing p q rows word rest is sound)
    by (Given is) = (word, rest, refl, after p q (waits rows (codes "calls")) (stands rows (Some (codes "calls", word ∷ []))) word rest is sound)
