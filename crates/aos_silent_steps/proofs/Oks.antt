-- What holds of a result that is there.
use Rattle.std.specs.Prelude.{Result, Ok, Err, IfOk, OnErr}

pub ok_more : {A B : Type 0} (r : Result A B) (P Q : A → Type 0) → ((a : A) → P a → Q a) → IfOk r P → IfOk r Q
ok_more (Ok a) P Q f p = f a p
ok_more (Err e) P Q f p = p

pub ok_both : {A B : Type 0} (r : Result A B) (P Q R : A → Type 0) → ((a : A) → P a → Q a → R a) → IfOk r P → IfOk r Q → IfOk r R
ok_both (Ok a) P Q R f p q = f a p q
ok_both (Err e) P Q R f p q = p

pub on_err : {A B : Type 0} (r : Result A B) (P : Type 0) → P → OnErr r P
on_err (Ok a) P p = tt
on_err (Err e) P p = p
