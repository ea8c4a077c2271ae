-- What is so of each value that is given.
use Rattle.std.proofs.Common.{Err, IfOk, IfSome, None, Ok, Option, Result, Some}

pub if_ok : {T E : Type 0} {P Q : T → Type 0} (r : Result T E) → ((t : T) → P t → Q t) → IfOk r P → IfOk r Q
if_ok (Ok t) f p = f t p
if_ok (Err e) f p = tt

pub if_some : {T : Type 0} {P Q : T → Type 0} (o : Option T) → ((t : T) → P t → Q t) → IfSome o P → IfSome o Q
if_some (Some t) f p = f t p
if_some None f p = tt

pub if_both : {T E : Type 0} (P Q : T → Type 0) (r : Result T E) → IfOk r P → IfOk r Q → IfOk r (λ t. P t × Q t)
if_both P Q (Ok t) p q = (p, q)
if_both P Q (Err e) p q = tt
