-- The records that are left after puts and removals.
use Rattle.std.specs.Prelude.{ℕ, Bool, cond, not, nat_le, if◌then◌else◌, List, [], ◌∷◌, ◌++◌, filter, fold, bytes_eq, Result, Ok, Err, ◌≡◌, ◌+◌, ◌-◌, map}
use Rattle.std.specs.List.{count_by, list_any}
use Rattle.cdb_form.specs.Format.{file_size, KeyValue, WordPair, record_size, file_entries, table_entries, in_table}
use Rattle.cdb_store.specs.declared.make_fault.MakeFault.{MakeFault}
use Rattle.cdb_store.specs.declared.make_fault.MakeFault.TheVariants.{TooBig}
use Rattle.cdb_form.specs.declared.mode.Mode.{Mode}
use Rattle.cdb_form.specs.declared.mode.Mode.TheVariants.{Add, Warn, Insert, Replace}
use Rattle.cdb_make.specs.declared.answer.Put.{Put}
use Rattle.cdb_make.specs.declared.answer.Put.TheVariants.{Added, AddedAgain, Present, Replaced}
use Rattle.cdb_make.specs.Spans.{left}

-- true if a record has the key
abbrev pub has_key : List ℕ → KeyValue → Bool
has_key k r = bytes_eq r.key k

-- true if some record has it, and how many have
abbrev pub is_there : List ℕ → List KeyValue → Bool
is_there k rs = list_any (has_key k) rs

abbrev pub count_of : List ℕ → List KeyValue → ℕ
count_of k rs = count_by (has_key k) rs

-- the records of other keys
abbrev pub without : List ℕ → List KeyValue → List KeyValue
without k rs = filter (λ r. not (has_key k r)) rs

-- the records that stay after the first that goes
abbrev pub behind_first : (KeyValue → Bool) → List KeyValue → List KeyValue
behind_first goes [] = []
behind_first goes (r ∷ rs) =
    cond (goes r) (filter (λ r. not (goes r)) rs) (behind_first goes rs)

-- the records after a put that no limit hinders
abbrev pub put_list : Mode → KeyValue → List KeyValue → List KeyValue
put_list Add r rs = rs ++ r ∷ []
put_list Warn r rs = rs ++ r ∷ []
put_list Insert r rs = if is_there r.key rs then rs else rs ++ r ∷ []
put_list Replace r rs = without r.key rs ++ r ∷ []

-- what it answers
abbrev pub put_answer : Mode → KeyValue → List KeyValue → Put
put_answer Add r rs = Added
put_answer Warn r rs = if is_there r.key rs then AddedAgain else Added
put_answer Insert r rs = if is_there r.key rs then Present else Added
put_answer Replace r rs = if is_there r.key rs then Replaced (count_of r.key rs) else Added

-- true if the file of the records after a put is within the limit
abbrev pub fits : ℕ → ℕ → Mode → KeyValue → List KeyValue → Bool
fits w limit mode r rs = nat_le (file_size w (put_list mode r rs)) limit

-- the records after a put, and its answer, under a limit
abbrev pub put_step : ℕ → ℕ → Mode → KeyValue → List KeyValue → List KeyValue
put_step w limit mode r rs = if fits w limit mode r rs then put_list mode r rs else rs

abbrev pub put_result : ℕ → ℕ → Mode → KeyValue → List KeyValue → Result Put MakeFault
put_result w limit mode r rs =
    if fits w limit mode r rs then Ok (put_answer mode r rs) else Err TooBig

-- a call that changes the records
pub data Call : Type 0 where
  Putting : Mode → KeyValue → Call
  Removing : List ℕ → Call

-- the records after a call that met no fault but the limit
abbrev pub step : ℕ → ℕ → List KeyValue → Call → List KeyValue
step w limit rs (Putting mode r) = put_step w limit mode r rs
step w limit rs (Removing k) = without k rs

-- a call, and whether it met no fault but the limit
pub record Answered : Type 0 where
  pub call : Call
  pub done : Bool

-- the records after a call; one that met a fault leaves them
abbrev pub answered_step : ℕ → ℕ → List KeyValue → Answered → List KeyValue
answered_step w limit rs a = if a.done then step w limit rs a.call else rs

-- the records after some calls, from none on
abbrev pub survivors : ℕ → ℕ → List Answered → List KeyValue
survivors w limit calls = fold (answered_step w limit) [] calls

-- ---- Laws of the maker.

-- an entry at a place that is lower
abbrev pub lower : ℕ → WordPair → WordPair
lower gone e = record { first = e.first; second = e.second - gone }

-- the entries without a mark, each lower by `gone` and by the sizes of the records with one before it
abbrev pub lowered : ℕ → List Bool → List ℕ → List WordPair → List WordPair
lowered gone [] sizes es = map (lower gone) es
lowered gone (mark ∷ marks) [] es = []
lowered gone (mark ∷ marks) (n ∷ sizes) [] = []
lowered gone (mark ∷ marks) (n ∷ sizes) (e ∷ es) =
    cond mark (lowered (gone + n) marks sizes es) (lower gone e ∷ lowered gone marks sizes es)

-- the entries of the records without a mark are the old ones, less those with one, in all and in each
-- table
pub record TakenOut (w : ℕ) (rs : List KeyValue) (marks : List Bool) : Type 0 where
  pub places : file_entries w (left marks rs)
      ≡ lowered 0 marks (map (record_size w) rs) (file_entries w rs)
  pub tables : (n : ℕ) → table_entries w (left marks rs) n
      ≡ filter (in_table n) (lowered 0 marks (map (record_size w) rs) (file_entries w rs))
