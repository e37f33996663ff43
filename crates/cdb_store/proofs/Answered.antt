-- A fact that holds whatever the answer.
use Rattle.std.proofs.Common.{Result, Ok, Err, OnErr}

pub held_on_err : {A B : Type 0} (r : Result A B) (P : Type 0) → P → OnErr r P
held_on_err r P p = elim r as (λ v. OnErr v P) [ Ok x ↦ tt | Err e ↦ p ]
