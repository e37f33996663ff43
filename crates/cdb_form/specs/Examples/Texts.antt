-- What worked texts say.
use Rattle.std.specs.Prelude.{◌≡◌, true, false, [], ◌∷◌, codes, Ok, Err, refl}
use Rattle.cdb_form.specs.Format.{record_of}
use Rattle.cdb_form.specs.Text.Parse.{Putting, Removing, listed, parse, parse_list, text_from}
use Rattle.cdb_form.specs.declared.text.fault.TextFault.TheVariants.{Syntax, Ended, Large}

-- two records, and what follows the text
two : parse false 4294967295 (codes "+3,5:one->Hello\n+3,7:two->Goodbye\n\nmore") ≡ record {
  items = Putting (record_of (codes "one") (codes "Hello")) ∷ Putting (record_of (codes "two") (codes "Goodbye")) ∷ [];
  ends = Ok (codes "more");
}
unfolding text_from
two = refl

-- a text that ends early, one whose value is too long by a byte, and a length that is too large
early : parse false 4294967295 (codes "+3,5:one->Hello\n") ≡ record { items = Putting (record_of (codes "one") (codes "Hello")) ∷ []; ends = Err (Ended 16) }
unfolding text_from
early = refl

longer : parse false 4294967295 (codes "+3,5:one->Hello!\n\n") ≡ record { items = []; ends = Err (Syntax 15) }
unfolding text_from
longer = refl

large : parse false 255 (codes "+3,256:one") ≡ record { items = []; ends = Err (Large 5) }
unfolding text_from
large = refl

-- an amending text; a native one removes nothing
amending : parse true 4294967295 (codes "-3:one\n+1,0:a->\n\n") ≡ record { items = Removing (codes "one") ∷ Putting (record_of (codes "a") []) ∷ []; ends = Ok [] }
unfolding text_from
amending = refl

native : parse false 4294967295 (codes "-3:one\n\n") ≡ record { items = []; ends = Err (Syntax 0) }
unfolding text_from
native = refl

-- two keys, the one of them with a newline; a key that is cut, one that is too long by a byte, and a
-- record
keys : parse_list 4294967295 (codes "+3:one\n+2:a\n\n\nmore") ≡ record { items = listed (codes "one") ∷ listed (codes "a\n") ∷ []; ends = Ok (codes "more") }
unfolding text_from
keys = refl

cut : parse_list 4294967295 (codes "+3:one\n+3:tw") ≡ record { items = listed (codes "one") ∷ []; ends = Err (Ended 12) }
unfolding text_from
cut = refl

key_longer : parse_list 4294967295 (codes "+3:ones\n\n") ≡ record { items = []; ends = Err (Syntax 6) }
unfolding text_from
key_longer = refl

no_record : parse_list 4294967295 (codes "+3,5:one->Hello\n\n") ≡ record { items = []; ends = Err (Syntax 2) }
unfolding text_from
no_record = refl
