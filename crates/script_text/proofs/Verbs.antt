-- Words that are looked up in a list of all there are.
use Rattle.std.proofs.Common.{◌≡◌, ◌≢◌, ◌<◌, ◌+◌, ℕ, Bool, true, false, List, length, get_or, nat_eq, ap, sym, ◌∙◌, arith, below_more}
use Rattle.std.specs.Cmp.Lexicographic.{pointwise}
use Rattle.std.proofs.lemmas.Slice.Eq.{slice_eq-Decides}
use Rattle.std.proofs.lemmas.Bool.Decides.{Decides-eqb}
use Rattle.std.proofs.lemmas.List.{get_or_default}
use Rattle.script_text.specs.Words.{text_of, asked_text_of}
use Rattle.script_text.specs.declared.verb.Verb.{Verb}
use Rattle.script_text.specs.declared.verb.Verb.TheVariants as verb
use Rattle.script_text.specs.declared.verb.CallVerb.{CallVerb}
use Rattle.script_text.specs.declared.verb.CallVerb.TheVariants as asked
use Rattle.script_text.specs.declared.verb.TheConstants.{VERBS, CALL_VERBS}

-- the word is none of the first i of these
abbrev pub IsNoneOf : {V : Type 0} → (V → List ℕ) → List V → V → ℕ → List ℕ → Type 0
IsNoneOf spelling vs d i word = (k : ℕ) → k < i → word ≢ spelling (get_or vs k d)

pub none_of_more : {V : Type 0} (spelling : V → List ℕ) (vs : List V) (d e : V) (i : ℕ) (word text : List ℕ) (same : Bool) → IsNoneOf spelling vs d i word → i < length vs
    → text ≡ spelling (get_or vs i e) → same ≡ pointwise nat_eq word text → same ≡ false → IsNoneOf spelling vs d (i + 1) word
none_of_more spelling vs d e i word text same before within is eq other =
    below_more (λ k. word ≢ spelling (get_or vs k d)) i before
    (λ h. absurd (cc ((slice_eq-Decides Decides-eqb word text same eq).1 (h ∙ (ap spelling (get_or_default vs i d e within) ∙ sym is)), other)))

pub no_verb : (word : List ℕ) → IsNoneOf text_of VERBS verb.Call 17 word → (v : Verb) → word ≢ text_of v
no_verb word h verb.Call = h 0 (omega arith)
no_verb word h verb.Tick = h 1 (omega arith)
no_verb word h verb.Bind = h 2 (omega arith)
no_verb word h verb.Second = h 3 (omega arith)
no_verb word h verb.Restart = h 4 (omega arith)
no_verb word h verb.Damage = h 5 (omega arith)
no_verb word h verb.Deliver = h 6 (omega arith)
no_verb word h verb.Work = h 7 (omega arith)
no_verb word h verb.Export = h 8 (omega arith)
no_verb word h verb.Withdraw = h 9 (omega arith)
no_verb word h verb.Skip = h 10 (omega arith)
no_verb word h verb.Show = h 11 (omega arith)
no_verb word h verb.Journal = h 12 (omega arith)
no_verb word h verb.End = h 13 (omega arith)
no_verb word h verb.Pool = h 14 (omega arith)
no_verb word h verb.Holders = h 15 (omega arith)
no_verb word h verb.Sweep = h 16 (omega arith)

pub no_call_verb : (word : List ℕ) → IsNoneOf asked_text_of CALL_VERBS asked.Null 7 word → (v : CallVerb) → word ≢ asked_text_of v
no_call_verb word h asked.Null = h 0 (omega arith)
no_call_verb word h asked.Add = h 1 (omega arith)
no_call_verb word h asked.Bump = h 2 (omega arith)
no_call_verb word h asked.MaxArg = h 3 (omega arith)
no_call_verb word h asked.MaxResult = h 4 (omega arith)
no_call_verb word h asked.BigArg = h 5 (omega arith)
no_call_verb word h asked.BigResult = h 6 (omega arith)
