-- JSON values without floats, each of whose texts is UTF-8 and whose members stand in order: the compact text is read back.
use Rattle.std.proofs.Common.{◌≡◌, ℕ, suc, max, ◌^◌, ◌<◌, ◌≤◌, ℤ, pos, negsuc, Bool, true, false, List, [], ◌∷◌, Some, IsUtf8, refl, sym, ap, ap₂, ◌∙◌, arith, append-nil, decimal}
use Rattle.std.specs.Prelude.{unsigned_abs, Option, option_and_then}
use Rattle.std.specs.Fmt.{signed_decimal}
use Rattle.std.proofs.lemmas.Fmt.{IsAscii-decimal}
use Rattle.std.proofs.lemmas.Str.{IsUtf8-append, IsUtf8-from_ascii}
use Rattle.json.specs.Token.{Token}
use Rattle.json.specs.Lex.{tokens}
use Rattle.json.specs.Json as json
use Rattle.json.specs.Tree as tree
use Rattle.json.proofs.Printed.Decimals.{IsNumber-decimal, IsNumber-signed_decimal}
use Rattle.json.proofs.Printed.Tokens.{tokens-print}
use Rattle.json.proofs.Printed.Trees.{value-json_tokens, ArePrintable-json_tokens}
use Rattle.json.proofs.Printed.Utf8.{IsUtf8-are_ascii, IsUtf8-quoted, IsUtf8-boolean}
use Rattle.serde_json.specs.Data.{Data, null, boolean, number, string, array, object, unsigned, Items, no_items, item, Members, no_members, member, put, depth, items_depth, members_depth}
use Rattle.serde_json.specs.Find.{of_integer}
use Rattle.serde_json.specs.Read.{read, of_json, of_items, of_members, max_depth}
use Rattle.serde_json.specs.Written.{outline, items_outline, members_outline, compact_text, items_text, members_text, comma_if}
use Rattle.serde_json.proofs.Numbers.{number_of-decimal, number_of-negative}
use Rattle.serde_json.proofs.Texts.{print-outline}

-- a value that its outline gives back, with a text
pub record IsWritten (d : Data) : Type 0 where
  pub reads : of_json (outline d) ≡ Some d
  pub numbers : tree.HasNumbers (outline d)
  pub text : IsUtf8 (compact_text d)

pub record AreItemsWritten (ds : Items) : Type 0 where
  pub reads : of_items (items_outline ds) ≡ Some ds
  pub numbers : tree.ItemsHaveNumbers (items_outline ds)
  pub text : (later : Bool) → IsUtf8 (items_text later ds)

-- the members, put into others one after another
abbrev pub put_all : Members → Members → Members
put_all no_members found = found
put_all (member k d ms) found = put_all ms (put k d found)

pub record AreMembersWritten (ms : Members) : Type 0 where
  pub reads : (found : Members) → of_members (members_outline ms) found ≡ Some (put_all ms found)
  pub numbers : tree.MembersHaveNumbers (members_outline ms)
  pub text : (later : Bool) → IsUtf8 (members_text later ms)

mutual
  depth-outline : (d : Data) → tree.depth (outline d) ≡ depth d
  depth-outline null = refl
  depth-outline (boolean b) = refl
  depth-outline (number n) = refl
  depth-outline (string s) = refl
  depth-outline (array ds) = ap suc (items-depth ds)
  depth-outline (object ms) = ap suc (members-depth ms)

  items-depth : (ds : Items) → tree.items_depth (items_outline ds) ≡ items_depth ds
  items-depth no_items = refl
  items-depth (item d ds) = ap₂ max (depth-outline d) (items-depth ds)

  members-depth : (ms : Members) → tree.members_depth (members_outline ms) ≡ members_depth ms
  members-depth no_members = refl
  members-depth (member k d ms) = ap₂ max (depth-outline d) (members-depth ms)

abbrev whole : Option (json.Json × List Token) → Option Data
whole o = option_and_then of_json (option_and_then (λ p. json.if_last p.0 p.1) o)

pub text-reads : (d : Data) → IsWritten d → depth d ≤ 127 → read (compact_text d) ≡ Some d
text-reads d w shallow =
    let same : tokens (compact_text d) ≡ tree.json_tokens (outline d) =
    ap tokens (sym (print-outline d)) ∙ tokens-print (tree.json_tokens (outline d)) (ArePrintable-json_tokens (outline d) w.numbers) in
    let levels : tree.depth (outline d) ≤ max_depth = rw (depth-outline d) shallow in
    ap whole (ap (json.value max_depth) (same ∙ sym (append-nil _)) ∙ value-json_tokens (outline d) max_depth [] levels) ∙ w.reads

-- one byte below 128, then a text
then-text : (x : ℕ) (xs : List ℕ) → IsUtf8 (x ∷ []) → IsUtf8 xs → IsUtf8 (x ∷ xs)
then-text x xs h u = IsUtf8-append (x ∷ []) xs h u

comma-text : (later : Bool) → IsUtf8 (comma_if later)
comma-text true = IsUtf8-are_ascii _ refl
comma-text false = IsUtf8-are_ascii _ refl

pub null-written : IsWritten null
null-written = record { reads = refl; numbers = tt; text = IsUtf8-are_ascii _ refl }

pub boolean-written : (b : Bool) → IsWritten (boolean b)
boolean-written b = record { reads = refl; numbers = tt; text = IsUtf8-boolean b }

pub unsigned-written : (n : ℕ) → n < 2 ^ 64 → IsWritten (number (unsigned n))
unsigned-written n h = record { reads = rw (number_of-decimal n h) refl; numbers = IsNumber-decimal n h; text = IsUtf8-from_ascii (decimal n) (IsAscii-decimal n h) }

negative-text : (n : ℕ) → n < 2 ^ 63 → IsUtf8 (signed_decimal (negsuc n))
negative-text n h =
    let k : suc n < 2 ^ 64 = omega arith in
    then-text 45 (decimal (suc n)) (IsUtf8-are_ascii _ refl) (IsUtf8-from_ascii (decimal (suc n)) (IsAscii-decimal (suc n) k))

pub integer-written : (z : ℤ) → unsigned_abs z ≤ 2 ^ 31 → IsWritten (number (of_integer z))
integer-written (pos n) h = unsigned-written n (omega arith)
integer-written (negsuc n) h =
    let k : n < 2 ^ 63 = omega arith in
    record { reads = rw (number_of-negative n k) refl; numbers = IsNumber-signed_decimal (negsuc n) (omega arith); text = negative-text n k }

pub string-written : (s : List ℕ) → IsUtf8 s → IsWritten (string s)
string-written s h = record { reads = refl; numbers = tt; text = IsUtf8-quoted s h }

pub no-items-written : AreItemsWritten no_items
no-items-written = record { reads = refl; numbers = tt; text = λ later. IsUtf8-are_ascii _ refl }

pub item-written : (d : Data) (ds : Items) → IsWritten d → AreItemsWritten ds → AreItemsWritten (item d ds)
item-written d ds w rest = record {
  reads = rw (w.reads, rest.reads) refl;
  numbers = (w.numbers, rest.numbers);
  text = λ later. IsUtf8-append (comma_if later) _ (comma-text later) (IsUtf8-append (compact_text d) _ w.text (rest.text true));
}

pub array-written : (ds : Items) → AreItemsWritten ds → IsWritten (array ds)
array-written ds w = record { reads = rw w.reads refl; numbers = w.numbers; text = then-text 91 _ (IsUtf8-are_ascii _ refl) (w.text false) }

pub no-members-written : AreMembersWritten no_members
no-members-written = record { reads = λ found. refl; numbers = tt; text = λ later. IsUtf8-are_ascii _ refl }

pub member-written : (k : List ℕ) (d : Data) (ms : Members) → IsUtf8 k → IsWritten d → AreMembersWritten ms → AreMembersWritten (member k d ms)
member-written k d ms key w rest = record {
  reads = λ found. rw w.reads (rest.reads (put k d found));
  numbers = (w.numbers, rest.numbers);
  text = λ later. IsUtf8-append (comma_if later) _ (comma-text later)
      (IsUtf8-append _ _ (IsUtf8-quoted k key) (then-text 58 _ (IsUtf8-are_ascii _ refl) (IsUtf8-append (compact_text d) _ w.text (rest.text true))));
}

-- an object whose members stand once each and in order
pub object-written : (ms : Members) → AreMembersWritten ms → put_all ms no_members ≡ ms → IsWritten (object ms)
object-written ms w order = record { reads = rw (w.reads no_members, order) refl; numbers = w.numbers; text = then-text 123 _ (IsUtf8-are_ascii _ refl) (w.text false) }
