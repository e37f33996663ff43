-- Map texts and texts of keys, read and written by hand.
use Rattle.std.specs.Fmt.{digits}
use Rattle.std.specs.Prelude.{List, [], codes, refl, ◌++◌, ◌∷◌, ◌≡◌}
use Rattle.cdb_form.specs.Format.{KeyValue}
use Rattle.cdb_form.specs.Text.Parse.{keys_text, list_text}
use Rattle.cdb_form.specs.Text.Map.{map_lines, map_text}

-- six lines with three records, the last one without a newline
six_lines : map_lines
    (codes "  one Hello\n# note\n\n  # more\n \t\nkey\ntwo\t \tGood bye")
    ≡ record { key = codes "one"; value = codes "Hello" }
    ∷ record { key = codes "key"; value = [] }
    ∷ record { key = codes "two"; value = codes "Good bye" } ∷ []
six_lines = refl

-- nothing, and nothing but blanks
nothing : map_lines [] ≡ []
nothing = refl

blanks : map_lines (codes " \t\n\n\t") ≡ []
blanks = refl

-- trailing blanks, a number sign and a carriage return belong to a value, a carriage return also to
-- a key
odd_bytes : map_lines (codes "a  # b \t\r\n\r\nc\r d")
    ≡ record { key = codes "a"; value = codes "# b \t\r" }
    ∷ record { key = codes "\r"; value = [] }
    ∷ record { key = codes "c\r"; value = codes "d" } ∷ []
odd_bytes = refl

-- a key with blanks alone after it
no_value : map_lines (codes "key \t\n") ≡ record { key = codes "key"; value = [] } ∷ []
no_value = refl

two_records : List KeyValue
two_records =
    record { key = codes "one"; value = codes "Hello" }
    ∷ record { key = codes "two"; value = codes "Goodbye" } ∷ []

written : map_text two_records ≡ codes "one Hello\ntwo Goodbye\n"
unfolding two_records
written = refl

listed : list_text two_records ≡ codes "+3:one\n+3:two\n\n"
unfolding digits two_records
listed = refl

keys : keys_text two_records ≡ codes "one\ntwo\n"
unfolding two_records
keys = refl

-- of no records
nothing_written : map_text [] ++ list_text [] ++ keys_text [] ≡ codes "\n"
nothing_written = refl
