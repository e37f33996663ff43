-- What bytes of a native text begin with, and those of a database file.
use Rattle.std.specs.Prelude.{List, drop, length, take, codes, ◌+◌, ◌++◌, ◌≡◌, ◌<◌, ◌≤◌, ℕ, Option, Some, None, Bool, nat_le, not, ◌==◌}
use Rattle.cdb_form.specs.Format.{KeyValue, prefix_record, prefix_size}
use Rattle.cdb_form.specs.Text.Native.{IsNumeral, Spells}
use Rattle.cdb_form.specs.declared.text.prefix.PrefixLengths.{PrefixLengths}
use Rattle.cdb_form.specs.declared.record.PeekedRecord.{PeekedRecord}
use Rattle.cdb_form.specs.Text.Map.{IsLineOf, is_newline}
use Rattle.cdb_form.specs.declared.text.kind.Kind.{Kind}
use Rattle.cdb_form.specs.declared.text.kind.Kind.TheVariants.{Blank, InLine, InWord}

-- what precedes the key of a record, whose lengths are at most `greatest`
pub record BeginsWithLengths (greatest : ℕ) (bytes : List ℕ) (l : PrefixLengths) : Type 0 where
  pub klen : List ℕ
  pub vlen : List ℕ
  pub klen_is : IsNumeral klen l.klen
  pub vlen_is : IsNumeral vlen l.vlen
  pub key_fits : l.klen ≤ greatest
  pub value_fits : l.vlen ≤ greatest
  pub front : take l.end bytes ≡ codes "+" ++ klen ++ codes "," ++ vlen ++ codes ":"
  pub within : l.end ≤ length bytes

-- a key and a value of these lengths, with what follows each
pub record BeginsWithBody (klen vlen : ℕ) (bytes : List ℕ) : Type 0 where
  pub front : take (klen + vlen + 3) bytes ≡ take klen bytes ++ codes "->"
      ++ take vlen (drop (klen + 2) bytes) ++ codes "\n"
  pub within : klen + vlen + 3 ≤ length bytes

-- n bytes that spell a record
pub record BeginsWithRecord (greatest : ℕ) (bytes : List ℕ) (n : ℕ) (r : KeyValue) : Type 0 where
  pub spells : Spells greatest (take n bytes) r
  pub within : n ≤ length bytes

-- the record that is shown
abbrev pub shown_by : PeekedRecord → KeyValue
shown_by f = record { key = f.key.now; value = f.value.now }

-- n bytes that are a record of a database file
pub record IsStored (w : ℕ) (bytes : List ℕ) (n : ℕ) (r : KeyValue) : Type 0 where
  pub whole : prefix_size w (take n bytes) ≡ n
  pub is : prefix_record w (take n bytes) ≡ r
  pub within : n ≤ length bytes

-- the number of bytes that the record at the start of some bytes has, if it is whole there
abbrev pub PrefixTells : ℕ → List ℕ → Option ℕ → Type 0
PrefixTells w bytes None = length bytes < prefix_size w bytes
PrefixTells w bytes (Some n) = (n ≡ prefix_size w bytes) × (n ≤ length bytes)

-- ---- What bytes of a map text begin with.

-- true if a byte may end a run of a kind: those that may not are of the kind
abbrev pub may_end : Kind → ℕ → Bool
may_end Blank c = not (c == 32)
may_end InWord c = nat_le c 32
may_end InLine c = is_newline c

-- n bytes that are the line of a record with its newline
pub record BeginsWithLine (bytes : List ℕ) (n : ℕ) (r : KeyValue) : Type 0 where
  pub line : List ℕ
  pub is : IsLineOf r line
  pub front : take n bytes ≡ line ++ codes "\n"
  pub within : n ≤ length bytes

-- the key, one byte, the value and one byte more are n bytes
pub record LiesPlainly (bytes : List ℕ) (n : ℕ) (r : KeyValue) : Type 0 where
  pub key : take (length r.key) bytes ≡ r.key
  pub value : take (length r.value) (drop (length r.key + 1) bytes) ≡ r.value
  pub size : length r.key + length r.value + 2 ≡ n
