-- What is parsed of texts: an amending text, a list, and any of them.
use Rattle.std.specs.Prelude.{ℕ, List, ◌++◌, length, flat_map, ◌≤◌, ◌≡◌, decimal, codes, ◌+◌, ◌*◌, ◌==◌, ◌&&◌, nat_lt, nat_le, Bool, if◌then◌else◌, zero, suc, [], ◌∷◌, take, drop, Option, None, Some, Result, Ok, Err, map}
use Rattle.cdb_form.specs.Format.{KeyValue, AreBytes, record_of}
use Rattle.cdb_form.specs.Text.Form as form
use Rattle.cdb_form.specs.Text.Native.{IsNumeral, Spells, spelling_of}
use Rattle.std.specs.Char.{digit_value}
use Rattle.cdb_form.specs.Text.Map.{map_lines}
use Rattle.cdb_form.specs.declared.text.fault.TextFault.{TextFault}
use Rattle.cdb_form.specs.declared.text.fault.TextFault.TheVariants.{Syntax, Ended, Large}

-- ---- The amending text of a list of changes, whose lengths are at most `greatest`: the larger form, of
-- which the native texts are those that put alone.

-- an item puts a record, or removes a key
pub data Change : Type 0 where
  Putting : KeyValue → Change
  Removing : List ℕ → Change

-- a removal is spelled -klen:key and a newline, its length a numeral of at most `greatest`
pub record SpellsRemoval (greatest : ℕ) (text key : List ℕ) : Type 0 where
  pub klen : List ℕ
  pub klen_is : IsNumeral klen (length key)
  pub key_fits : length key ≤ greatest
  pub bytes : AreBytes key
  pub text_is : text ≡ codes "-" ++ klen ++ codes ":" ++ key ++ codes "\n"

-- a put is spelled as the record in a native text
abbrev pub SpellsChange : ℕ → List ℕ → Change → Type 0
SpellsChange greatest text (Putting r) = Spells greatest text r
SpellsChange greatest text (Removing key) = SpellsRemoval greatest text key

-- the text is spelled changes, and then the rest
abbrev pub SpelledChanges : ℕ → List Change → List ℕ → List ℕ → Type 0
SpelledChanges greatest changes text rest = form.Spelled SpellsChange greatest changes text rest

-- the text is an amending one, spelled changes and a newline, and then the rest
abbrev pub ReadsChanges : ℕ → List Change → List ℕ → List ℕ → Type 0
ReadsChanges greatest changes text rest = form.Reads SpellsChange greatest changes text rest

-- the spelling of a removal with the shortest numeral
abbrev pub removal_line : List ℕ → List ℕ
removal_line key = codes "-" ++ decimal (length key) ++ codes ":" ++ key ++ codes "\n"

-- the spelling of a change with the shortest numerals
abbrev pub change_line : Change → List ℕ
change_line (Putting r) = spelling_of r
change_line (Removing key) = removal_line key

-- the text of some changes, with the shortest numerals
abbrev pub amending_text : List Change → List ℕ
amending_text changes = flat_map change_line changes ++ codes "\n"

-- ---- The texts of the keys of a list of records; and the list texts of a list of keys, whose lengths are at
-- most `greatest`.

-- a key with its length in the shortest decimal
abbrev pub list_line : List ℕ → List ℕ
list_line key = codes "+" ++ decimal (length key) ++ codes ":" ++ key ++ codes "\n"

-- the list text: a newline ends it
abbrev pub list_text : List KeyValue → List ℕ
list_text rs = flat_map (λ r. list_line r.key) rs ++ codes "\n"

-- the keys alone, a line for each
abbrev pub key_line : List ℕ → List ℕ
key_line key = key ++ codes "\n"

abbrev pub keys_text : List KeyValue → List ℕ
keys_text rs = flat_map (λ r. key_line r.key) rs

-- ---- list texts that are read

-- a key is spelled +klen:key and a newline, its length a numeral of at most `greatest`
pub record SpellsKey (greatest : ℕ) (text key : List ℕ) : Type 0 where
  pub klen : List ℕ
  pub klen_is : IsNumeral klen (length key)
  pub key_fits : length key ≤ greatest
  pub bytes : AreBytes key
  pub text_is : text ≡ codes "+" ++ klen ++ codes ":" ++ key ++ codes "\n"

-- the text is spelled keys, and then the rest
abbrev pub SpelledKeys : ℕ → List (List ℕ) → List ℕ → List ℕ → Type 0
SpelledKeys greatest keys text rest = form.Spelled SpellsKey greatest keys text rest

-- the text is a list text, spelled keys and a newline, and then the rest
abbrev pub ReadsKeys : ℕ → List (List ℕ) → List ℕ → List ℕ → Type 0
ReadsKeys greatest keys text rest = form.Reads SpellsKey greatest keys text rest

-- ---- What bytes say as a text: its items up to its end or its fault. Each part of an item is read from the
-- place `at` on.

-- a part was found, up to a place and these bytes; or a fault
pub data Part (X : Type 0) : Type 0 where
  Found : X → (at : ℕ) → (rest : List ℕ) → Part X
  Stuck : TextFault → Part X

-- and then another
abbrev pub followed : {X Y : Type 0} → Part X → (X → (at : ℕ) → (rest : List ℕ) → Part Y) → Part Y
followed (Found x at rest) next = next x at rest
followed (Stuck fault) next = Stuck fault

-- the byte c
abbrev pub byte_part : (c at : ℕ) → List ℕ → Part Unit
byte_part c at [] = Stuck (Ended at)
byte_part c at (d ∷ text) = if d == c then Found tt (at + 1) text else Stuck (Syntax at)

-- n bytes, and the byte c
abbrev pub field_part : (n c at : ℕ) → List ℕ → Part (List ℕ)
field_part n c at text =
    if nat_le (length text) n then Stuck (Ended (at + length text))
    else followed (byte_part c (at + n) (drop n text)) (λ _ at rest. Found (take n text) at rest)

-- a numeral of at most g, whose digits from `start` to `at` are `value`, and the byte c
abbrev pub number_part : (g c start value at : ℕ) → List ℕ → Part ℕ
number_part g c start value at [] = Stuck (Ended at)
number_part g c start value at (d ∷ text) =
    if nat_lt (digit_value d) 10 then (
    if nat_le (value * 10 + digit_value d) g
    then number_part g c start (value * 10 + digit_value d) (at + 1) text else Stuck (Large at)
    )
    else if (d == c) && nat_lt start at then Found value (at + 1) text else Stuck (Syntax at)

-- klen,vlen:key->value and a newline, and klen:key and a newline
abbrev pub record_part : (g at : ℕ) → List ℕ → Part KeyValue
record_part g at text =
    followed (number_part g 44 at 0 at text) (λ klen at text.
    followed (number_part g 58 at 0 at text) (λ vlen at text.
    followed (field_part klen 45 at text) (λ key at text.
    followed (byte_part 62 at text) (λ _ at text.
    followed (field_part vlen 10 at text) (λ value at text.
    Found (record_of key value) at text)))))

abbrev pub removal_part : (g at : ℕ) → List ℕ → Part (List ℕ)
removal_part g at text =
    followed (number_part g 58 at 0 at text) (λ klen at text. field_part klen 10 at text)

-- an item, after its plus or its minus; or none, at the newline that ends the text
abbrev pub item_part : (removals : Bool) → (g at : ℕ) → List ℕ → Part (Option Change)
item_part removals g at [] = Stuck (Ended at)
item_part removals g at (c ∷ text) =
    if c == 10 then Found None (at + 1) text
    else if c == 43
    then followed (record_part g (at + 1) text) (λ r at rest. Found (Some (Putting r)) at rest)
    else if removals && (c == 45)
    then followed (removal_part g (at + 1) text) (λ key at rest. Found (Some (Removing key)) at rest)
    else Stuck (Syntax at)

-- the items of a text, and what follows it or its fault
pub record Parsed : Type 0 where
  pub items : List Change
  pub ends : Result (List ℕ) TextFault

-- a key of a list text means a put of it without a value
abbrev pub listed : List ℕ → Change
listed key = Putting (record_of key [])

-- a key, after its plus; or none, at the newline that ends the text
abbrev pub key_part : (g at : ℕ) → List ℕ → Part (Option Change)
key_part g at [] = Stuck (Ended at)
key_part g at (c ∷ text) =
    if c == 10 then Found None (at + 1) text
    else if c == 43
    then followed (removal_part g (at + 1) text) (λ key at rest. Found (Some (listed key)) at rest)
    else Stuck (Syntax at)

-- the text goes on with this part
abbrev pub going_on : Part (Option Change) → ((at : ℕ) → List ℕ → Parsed) → Parsed
going_on (Found (Some item) at rest) go =
    record { items = item ∷ (go at rest).items; ends = (go at rest).ends }
going_on (Found None at rest) go = record { items = []; ends = Ok rest }
going_on (Stuck fault) go = record { items = []; ends = Err fault }

-- a text of at most so many of these items
unfoldable pub text_from : ((at : ℕ) → List ℕ → Part (Option Change)) → (most at : ℕ) → List ℕ
    → Parsed
text_from item zero at text = record { items = []; ends = Err (Ended at) }
text_from item (suc most) at text =
    going_on (item at text) (λ at rest. text_from item most at rest)

-- a native text, or an amending one, whose lengths are at most g
abbrev pub parse : (removals : Bool) → (g : ℕ) → List ℕ → Parsed
parse removals g text = text_from (item_part removals g) (suc (length text)) 0 text

-- a list text
abbrev pub parse_list : (g : ℕ) → List ℕ → Parsed
parse_list g text = text_from (key_part g) (suc (length text)) 0 text

-- a map text has no fault
abbrev pub parse_map : List ℕ → Parsed
parse_map text = record { items = map Putting (map_lines text); ends = Ok [] }
