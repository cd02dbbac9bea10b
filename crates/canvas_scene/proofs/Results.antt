-- What follows where a call gave a value.
use Rattle.std.proofs.Common.{Result, Ok, Err, OnOk, IfOk}

pub on-ok : {A E P Q : Type 0} (r : Result A E) → (P → Q) → OnOk r P → OnOk r Q
on-ok (Ok v) f h = f h
on-ok (Err e) f h = h

pub if-ok : {A E : Type 0} {P Q : A → Type 0} (r : Result A E) → ((v : A) → P v → Q v) → IfOk r P → IfOk r Q
if-ok (Ok v) f h = f v h
if-ok (Err e) f h = h
