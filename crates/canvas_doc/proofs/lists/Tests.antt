-- Tests: negated, joined, of orderings and of all records.
use Rattle.std.proofs.Common.{◌≡◌, Bool, true, false, not, cond, ◌||◌, List, All, refl}
use Rattle.std.specs.declared.cmp.Ordering.{Ordering}
use Rattle.std.specs.declared.cmp.Ordering.TheVariants.{Less, Equal, Greater}
use Rattle.std.specs.Ordering.{is_lt}
use Rattle.canvas_record.specs.declared.records.Record.{Record}

pub not-true : (b : Bool) → not b ≡ true → b ≡ false
not-true true h = cc
not-true false h = refl

pub or-false : (a : Bool) → (a || false) ≡ a
or-false true = refl
or-false false = refl

pub or-cond : (b c : Bool) → (b || c) ≡ cond b true c
or-cond true c = refl
or-cond false c = refl

pub less-from_lt : (o : Ordering) → is_lt o ≡ true → o ≡ Less
less-from_lt Less h = refl
less-from_lt Equal h = cc
less-from_lt Greater h = cc

pub all-both : (P Q R : Record → Type 0) → ((r : Record) → P r → Q r → R r) → (rs : List Record) → All P rs → All Q rs → All R rs
all-both P Q R f rs a b = λ k d l. f _ (a k d l) (b k d l)
