-- What a call answers, told in other words.
use Rattle.std.proofs.Common.{Result, Ok, Err, IfOk, IfErr}

pub ok_as : {A E : Type 0} (r : Result A E) (P Q : A → Type 0) → ((x : A) → P x → Q x) → IfOk r P → IfOk r Q
ok_as (Ok x) P Q f p = f x p
ok_as (Err e) P Q f p = p

pub err_as : {A E : Type 0} (r : Result A E) (P Q : E → Type 0) → ((e : E) → P e → Q e) → IfErr r P → IfErr r Q
err_as (Ok x) P Q f p = p
err_as (Err e) P Q f p = f e p
