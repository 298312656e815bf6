-- The token that a test of the syntax matches: words and signs are the same where their numbers are.
use Rattle.std.proofs.Common.{◌≡◌, ℕ, ◌==◌, true, false, List, Some, Result, Ok, Err, refl, ap, sym, ◌∙◌, arith}
use Rattle.std.specs.Prelude.{slice_get}
use Rattle.std.proofs.lemmas.Bool.Decides.{nat_tests}
use Rattle.interface_tokens.specs.Tokens.{words, code_of, sign_of}
use Rattle.interface_tokens.specs.Syntax.{place_of, is_word, is_sign, name_of, number_of}
use Rattle.interface_tokens.specs.declared.fault.Cause.{Cause}
use Rattle.interface_tokens.specs.declared.token.Token.{Token}
use Rattle.interface_tokens.specs.declared.token.Token.TheVariants as token
use Rattle.interface_tokens.specs.declared.token.Word.{Word}
use Rattle.interface_tokens.specs.declared.token.Word.TheVariants as word
use Rattle.interface_tokens.specs.declared.token.Sign.{Sign}
use Rattle.interface_tokens.specs.declared.token.Sign.TheVariants as sign

word_found : (w : Word) → slice_get words (place_of w) ≡ Some w
word_found word.Interface = refl
word_found word.End = refl
word_found word.Type = refl
word_found word.Exception = refl
word_found word.Procedure = refl
word_found word.Var = refl
word_found word.In = refl
word_found word.Out = refl
word_found word.Raises = refl
word_found word.Boolean = refl
word_found word.Byte = refl
word_found word.Char = refl
word_found word.Cardinal = refl
word_found word.Integer = refl
word_found word.Longcard = refl
word_found word.Array = refl
word_found word.Of = refl
word_found word.Upto = refl
word_found word.Record = refl

pub some_same : {X : Type 0} (x y : X) → Some x ≡ Some y → x ≡ y
some_same x y h = cc

same_word : (u v : Word) → place_of u ≡ place_of v → u ≡ v
same_word u v h = some_same u v (sym (word_found u) ∙ ap (λ (n : ℕ). slice_get words n) h ∙ word_found v)

sign_found : (s : Sign) → sign_of (code_of s) ≡ Some s
unfolding sign_of
sign_found sign.Semicolon = refl
sign_found sign.Colon = refl
sign_found sign.Comma = refl
sign_found sign.Open = refl
sign_found sign.Close = refl
sign_found sign.OpenBrace = refl
sign_found sign.CloseBrace = refl
sign_found sign.Equals = refl
sign_found sign.FullStop = refl

same_sign : (s u : Sign) → code_of s ≡ code_of u → s ≡ u
same_sign s u h = some_same s u (sym (sign_found s) ∙ ap sign_of h ∙ sign_found u)

numbers_same : (m n : ℕ) → m == n ≡ true → m ≡ n
numbers_same m n h = grind (arith, nat_tests)

no : false ≡ true → ⊥
no h = cc

pub word_is : (t : Token) (v : Word) → is_word t v ≡ true → t ≡ token.Word v
unfolding is_word
word_is (token.Word u) v h = ap (λ (w : Word). let k : Token = token.Word w in k) (same_word u v (numbers_same (place_of u) (place_of v) h))
word_is (token.Sign s) v h = absurd (no h)
word_is (token.Name n) v h = absurd (no h)
word_is token.LongName v h = absurd (no h)
word_is (token.Number n) v h = absurd (no h)

pub sign_is : (t : Token) (s : Sign) → is_sign t s ≡ true → t ≡ token.Sign s
unfolding is_sign
sign_is (token.Sign u) s h = ap (λ (w : Sign). let k : Token = token.Sign w in k) (same_sign u s (numbers_same (code_of u) (code_of s) h))
sign_is (token.Word u) s h = absurd (no h)
sign_is (token.Name n) s h = absurd (no h)
sign_is token.LongName s h = absurd (no h)
sign_is (token.Number n) s h = absurd (no h)

not_named : (c : Cause) (n : List ℕ) → (let r : Result (List ℕ) Cause = Err c in r) ≡ Ok n → ⊥
not_named c n h = cc

named_same : (m n : List ℕ) → (let r : Result (List ℕ) Cause = Ok m in r) ≡ Ok n → m ≡ n
named_same m n h = cc

pub name_is : (t : Token) (n : List ℕ) → name_of t ≡ Ok n → t ≡ token.Name n
unfolding name_of
name_is (token.Name m) n h = ap (λ (w : List ℕ). let k : Token = token.Name w in k) (named_same m n h)
name_is token.LongName n h = absurd (not_named _ n h)
name_is (token.Word u) n h = absurd (not_named _ n h)
name_is (token.Sign u) n h = absurd (not_named _ n h)
name_is (token.Number m) n h = absurd (not_named _ n h)

not_numbered : (c : Cause) (n : ℕ) → (let r : Result ℕ Cause = Err c in r) ≡ Ok n → ⊥
not_numbered c n h = cc

numbered_same : (m n : ℕ) → (let r : Result ℕ Cause = Ok m in r) ≡ Ok n → m ≡ n
numbered_same m n h = cc

pub number_is : (t : Token) (n : ℕ) → number_of t ≡ Ok n → t ≡ token.Number n
unfolding number_of
number_is (token.Number m) n h = ap (λ (w : ℕ). let k : Token = token.Number w in k) (numbered_same m n h)
number_is (token.Name m) n h = absurd (not_numbered _ n h)
number_is token.LongName n h = absurd (not_numbered _ n h)
number_is (token.Word u) n h = absurd (not_numbered _ n h)
number_is (token.Sign u) n h = absurd (not_numbered _ n h)
