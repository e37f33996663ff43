-- A text up to its end or its fault, and then the file.
use Rattle.std.proofs.Common.{◌≡◌, ◌≢◌, ℕ, ◌<◌, ◌≤◌, inl, inr, List, [], ◌∷◌, ◌++◌, refl, Option, Result, Ok, Err, sym, subst, ◌∙◌, length-append, take, arith}
use Rattle.std.specs.Prelude.{IsOk, codes}
use Rattle.std.specs.Io.KnownBytes.{Keeps, Appends}
use Rattle.cdb_tool.proofs.Words.{FailsPutting, Fault, Flushed, Ghosts, Holds, IsOfText, IsReadFault, KeyValue, MakeFault, Maker, TextFault, appends_kept, limit_of}
use Rattle.cdb_form.specs.Format.{file_size, file_bytes}
use Rattle.cdb_form.specs.declared.text.fault.TextFault.TheVariants as text_fault
use Rattle.cdb_form.specs.declared.text.fault.TextFault.TheVariants.{Syntax, Ended, Large, Input, Endless}
use Rattle.cdb_form.specs.Views.Feed.{Consumes, Feed, FromTo}
use Rattle.cdb_form.specs.Views.FormReader.{IsFaultOf}
use Rattle.cdb_form.specs.Views.TextReader.{GivesRecord, MeetsFault, reader_of, taken_of}
use Rattle.cdb_form.specs.Views.KnownBytes.{AppendsPrefix}
use Rattle.cdb_form.specs.Views.Taking.{Took}
use Rattle.cdb_form.specs.declared.text.native_reader.TextReader.{TextReader}
use Rattle.cdb_form.specs.Text.Native.{Spells}
use Rattle.cdb_form.proofs.Fed.FeedLemmas.{consumes_then, from_both, from_taken, from_then, from_weaker, nothing_taken}
use Rattle.cdb_form.proofs.NativeTexts.Spelling.{records as spelling}
use Rattle.cdb_form.proofs.NativeTexts.WholeForm.{SoFar, so_far_fault, so_far_part}
use Rattle.cdb_form.specs.declared.width.Width.{Ghosts as Widths}
use Rattle.cdb_form.specs.declared.mode.Mode.TheVariants as mode
use Rattle.cdb_store.specs.declared.make_fault.MakeFault.TheVariants as make
use Rattle.cdb_show.specs.Views.Fault as run
use Rattle.cdb_show.proofs.SpelledInputs.{GaveSpelled, spelled_all, spelled_more, spelled_none}
use Rattle.cdb_tool.specs.Runs.Make.{IsNewText, FailsText, FailsRead, PassesGreatest, TextNotRead, ReadsFitting, MakesFile, MakesBytes}
use Rattle.cdb_show.specs.declared.fault.Fault.TheVariants.{Text, Make, Output, NoMemory}
use Rattle.cdb_show.proofs.Writers.{prefix_kept, whole_prefix, keeps_self, keeps_then, not_ok}

-- ---- the records of a text

-- the records so far, whose file fits, and what was taken for them
pub record HoldsSoFar {R L S K : Type 0} {s : Ghosts S} {k : Widths K} (w g : ℕ) (feed : R → Feed) (start : Feed) (t : TextReader R L) (m : Maker S K s k) : Type 0 where
  pub records : List KeyValue
  pub holds : Holds m records
  pub fits : file_size w records ≤ g
  pub so_far : GaveSpelled Spells g feed start t.items.source records
  pub took : Took start (feed (reader_of t)) 0 (taken_of t)
  pub limit : limit_of m ≡ g

pub holds_so_far_none : {R L S K : Type 0} {s : Ghosts S} {k : Widths K} (w g : ℕ) (feed : R → Feed) (t : TextReader R L) (m : Maker S K s k) → Holds m [] → file_size w [] ≤ g → limit_of m ≡ g → IsNewText t → HoldsSoFar w g feed (feed (reader_of t)) t m
holds_so_far_none w g feed t m h fit l new = record {
  records = [];
  holds = h;
  fits = fit;
  so_far = spelled_none Spells g feed t.items.source new.taken new.asks;
  took = record { bytes = []; read = nothing_taken (feed (reader_of t)); counted = omega (arith, new.taken) };
  limit = l;
}

-- one record more of the text that is held
pub holds_so_far_more : {R L S K : Type 0} {s : Ghosts S} {k : Widths K} (w g : ℕ) (feed : R → Feed) (start : Feed) (t u : TextReader R L) (b c : Maker S K s k) (r : KeyValue) → (h : HoldsSoFar w g feed start t b) → GivesRecord g feed t u r
    → Holds c (h.records ++ r ∷ []) → file_size w (h.records ++ r ∷ []) ≤ g → limit_of c ≡ limit_of b → HoldsSoFar w g feed start u c
holds_so_far_more w g feed start t u b c r h one holds fit l = record {
  records = h.records ++ r ∷ [];
  holds = holds;
  fits = fit;
  so_far = spelled_more Spells g feed start t.items.source u.items.source h.records r h.so_far one.reads one.spends;
  took = record {
    bytes = h.took.bytes ++ one.reads.text;
    read = consumes_then start (feed (reader_of t)) (feed (reader_of u)) h.took.bytes one.reads.text h.took.read one.reads.read;
    counted = omega (arith, h.took.counted, one.reads.counted, length-append h.took.bytes one.reads.text);
  };
  limit = l ∙ h.limit;
}

-- the text has ended
pub reads_fitting : {R L S K : Type 0} {s : Ghosts S} {k : Widths K} (w g : ℕ) (feed : R → Feed) (start : Feed) (t u : TextReader R L) (b : Maker S K s k) → (h : HoldsSoFar w g feed start t b) → Consumes (feed (reader_of t)) (feed (reader_of u)) (codes "\n") → ReadsFitting w g start (feed (reader_of u)) h.records
reads_fitting w g feed start t u b h end = record { reads = spelled_all Spells g feed start t.items.source u.items.source h.records h.so_far end; fits = h.fits }

-- ---- a text up to its fault

-- the text of any bytes that agree: what was left of it has the fault, and these bytes were taken
abbrev Faulty : (g from to : ℕ) (rs : List KeyValue) (f : TextFault) (bytes : List ℕ) (text rest : List ℕ) → Type 0
Faulty g from to rs f bytes text rest = (mid : List ℕ) × SoFar Spells g text mid from rs × (IsFaultOf Spells g from to mid f × (mid ≡ bytes ++ rest))

fails_read : {R L S K : Type 0} {s : Ghosts S} {k : Widths K} (w g : ℕ) (feed : R → Feed) (start : Feed) (t u : TextReader R L) (b : Maker S K s k) (f : TextFault) → ((whole x y : List ℕ) → (feed (reader_of t)).may whole x → (feed (reader_of t)).may whole y → x ≡ y)
    → HoldsSoFar w g feed start t b → MeetsFault g feed t u f → f ≢ text_fault.NoMemory → FailsRead w g start (feed (reader_of u)) 1 f
fails_read w g feed start t u b f one h meets no_memory =
    let from : ℕ = taken_of t in
    let to : ℕ = taken_of u in
    let bytes : List ℕ = meets.took.bytes in
    let mid = feed (reader_of t) in
    let new = feed (reader_of u) in
    let both = from_then start mid new (λ text rest. SoFar Spells g text rest from h.records) (λ text rest. IsFaultOf Spells g from to text f × (text ≡ bytes ++ rest)) h.so_far.0
    (from_both mid new (λ text rest. IsFaultOf Spells g from to text f) (λ text rest. text ≡ bytes ++ rest) one meets.of (from_taken mid new bytes (λ text rest. text ≡ bytes ++ rest) meets.took.read (λ rest. refl))) in
    record {
      first = refl;
      memory = no_memory;
      read = record {
        taken = to;
        took = record {
          bytes = h.took.bytes ++ bytes;
          read = consumes_then start mid new h.took.bytes bytes h.took.read meets.took.read;
          counted = omega (arith, h.took.counted, meets.took.counted, length-append h.took.bytes bytes);
        };
        last = meets.last;
        part = from_weaker start new (Faulty g from to h.records f bytes) (λ text rest. IsReadFault f → FailsText w g (take to text) (Ended to)) both (λ text rest so is.
            let p = so_far_part Spells spelling g text so.0 rest bytes from to h.records so.1 so.2.1 meets.took.counted (so.2.0.part is) in
            record { records = h.records; fits = h.fits; behind = record { rest = p.1.rest; whole = p.1.whole; has = p.1.has } });
        asked = λ endless. omega (arith, meets.told.spent endless, meets.spends, h.so_far.1);
      };
      fails = from_weaker start new (Faulty g from to h.records f bytes) (λ text rest. IsOfText f → FailsText w g text f) both (λ text rest so is.
          let p = so_far_fault Spells spelling g text so.0 from h.records f so.1 so.2.0.exact (so.2.0.no_record is) in
          record { records = h.records; fits = h.fits; behind = record { rest = p.0.0; whole = p.0.1; has = p.1 } });
    }

-- a fault of the text that the reader gave
pub text_not_read : {R L S K : Type 0} {s : Ghosts S} {k : Widths K} (w g : ℕ) (feed : R → Feed) (start : Feed) (t u : TextReader R L) (b : Maker S K s k) (f : TextFault) → ((whole x y : List ℕ) → (feed (reader_of t)).may whole x → (feed (reader_of t)).may whole y → x ≡ y)
    → HoldsSoFar w g feed start t b → MeetsFault g feed t u f → TextNotRead w g start (feed (reader_of u)) (run.text_fault 1 f)
text_not_read w g feed start t u b (Syntax at) one h meets = fails_read w g feed start t u b (Syntax at) one h meets (λ e. let i : Syntax at ≡ text_fault.NoMemory = e in cc)
text_not_read w g feed start t u b (Ended at) one h meets = fails_read w g feed start t u b (Ended at) one h meets (λ e. let i : Ended at ≡ text_fault.NoMemory = e in cc)
text_not_read w g feed start t u b (Large at) one h meets = fails_read w g feed start t u b (Large at) one h meets (λ e. let i : Large at ≡ text_fault.NoMemory = e in cc)
text_not_read w g feed start t u b Input one h meets = fails_read w g feed start t u b Input one h meets (λ e. let i : Input ≡ text_fault.NoMemory = e in cc)
text_not_read w g feed start t u b Endless one h meets = fails_read w g feed start t u b Endless one h meets (λ e. let i : Endless ≡ text_fault.NoMemory = e in cc)
text_not_read w g feed start t u b text_fault.NoMemory one h meets = tt

-- one record more is too much
too_big : {R L S K : Type 0} {s : Ghosts S} {k : Widths K} (w g : ℕ) (feed : R → Feed) (start : Feed) (t u : TextReader R L) (b : Maker S K s k) (r : KeyValue) → (h : HoldsSoFar w g feed start t b) → GivesRecord g feed t u r → g < file_size w (h.records ++ r ∷ []) → FromTo start (feed (reader_of u)) (PassesGreatest w g)
too_big w g feed start t u b r h one large =
    let more = spelled_more Spells g feed start t.items.source u.items.source h.records r h.so_far one.reads one.spends in
    from_weaker start (feed (reader_of u)) (λ text rest. SoFar Spells g text rest (taken_of u) (h.records ++ r ∷ [])) (PassesGreatest w g) more.0 (λ text rest all. record { before = h.records; last = r; spelled = all.0; fits = h.fits; larger = large })

-- a record that the maker refused, on a store that is honest and doesn't fail
pub refused : {R L S K : Type 0} {s : Ghosts S} {k : Widths K} (g : ℕ) (feed : R → Feed) (start : Feed) (t u : TextReader R L) (b c : Maker S K s k) (r : KeyValue) (f : MakeFault) (image : List ℕ) → (h : HoldsSoFar k.WORD g feed start t b)
    → GivesRecord g feed t u r → s.image c.store image → (s.failures b.store < s.failures c.store → ⊥) → FailsPutting b c mode.Add r f → TextNotRead k.WORD g start (feed (reader_of u)) (run.make_fault f)
refused {k = k} g feed start t u b c r make.TooBig image h one is never x =
    too_big k.WORD g feed start t u b r h one (let large : limit_of b < file_size k.WORD (h.records ++ r ∷ []) = (x.1 h.records h.holds).each image is in omega (arith, h.limit))
refused g feed start t u b c r make.NoMemory image h one is never x = tt
refused g feed start t u b c r make.Broken image h one is never x = absurd (x.cause h.records h.holds image is)
refused g feed start t u b c r make.Lookup image h one is never x = absurd (x.2 refl)
refused g feed start t u b c r make.Writing image h one is never x = elim x.0 [ inl stays ↦ absurd (never stays.1.failed) | inr torn ↦ absurd (never torn.0.failed) ]

-- ---- the file

-- nothing was written if the text was not read
pub nothing_made : (w g : ℕ) (text rest : Feed) (o : Option (List ℕ)) (f : Fault) → TextNotRead w g text rest f → MakesBytes w g text rest o o (Err f)
nothing_made w g text rest o (Text input f) x = record { ok = tt; err = (x, keeps_self o) }
nothing_made w g text rest o (Make f) x = record { ok = tt; err = (x, keeps_self o) }
nothing_made w g text rest o NoMemory x = record { ok = tt; err = (x, keeps_self o) }
nothing_made w g text rest o f x = absurd x

pub file_made : (w g : ℕ) (text rest : Feed) (old new : Option (List ℕ)) (rs : List KeyValue) → ReadsFitting w g text rest rs → Appends old new (file_bytes w rs) → MakesBytes w g text rest old new (Ok tt)
file_made w g text rest old new rs read a = record { ok = record { records = rs; read = read; appended = a }; err = tt }

pub file_fails : (w g : ℕ) (text rest : Feed) (old new : Option (List ℕ)) (rs : List KeyValue) → ReadsFitting w g text rest rs → AppendsPrefix old new (file_bytes w rs) → MakesBytes w g text rest old new (Err Output)
file_fails w g text rest old new rs read x = record { ok = tt; err = record { records = rs; read = read; appended = x } }

-- ---- the flush

file_kept : (w g : ℕ) (text rest : Feed) (old mid new : Option (List ℕ)) → MakesFile w g text rest old mid → Keeps mid new → MakesFile w g text rest old new
file_kept w g text rest old mid new a k = record { records = a.records; read = a.read; appended = appends_kept old mid new (file_bytes w a.records) a.appended k }

makes_kept : (w g : ℕ) (text rest : Feed) (old mid new : Option (List ℕ)) (r : Result Unit Fault) → MakesBytes w g text rest old mid r → Keeps mid new → MakesBytes w g text rest old new r
makes_kept w g text rest old mid new (Ok u) m k = record { ok = file_kept w g text rest old mid new m.ok k; err = tt }
makes_kept w g text rest old mid new (Err Output) m k =
    record { ok = tt; err = record { records = m.err.records; read = m.err.read; appended = prefix_kept old mid new (file_bytes w m.err.records) m.err.appended k } }
makes_kept w g text rest old mid new (Err r) m k = record { ok = tt; err = (m.err.0, keeps_then old mid new m.err.1 k) }

-- the whole file was written, but it wasn't flushed
flush_fails : (w g : ℕ) (text rest : Feed) (old mid new : Option (List ℕ)) (r : Result Unit Fault) → MakesBytes w g text rest old mid r → Keeps mid new → IsOk r → MakesBytes w g text rest old new (Err Output)
flush_fails w g text rest old mid new (Ok u) m k is =
    let a = file_kept w g text rest old mid new m.ok k in
    record { ok = tt; err = record { records = a.records; read = a.read; appended = whole_prefix old new (file_bytes w a.records) a.appended } }
flush_fails w g text rest old mid new (Err f) m k is = absurd (not_ok is)

pub makes_flushed : (w g : ℕ) (text rest : Feed) (old mid new : Option (List ℕ)) (answer result : Result Unit Fault) → MakesBytes w g text rest old mid answer → Flushed mid new answer result → MakesBytes w g text rest old new result
makes_flushed w g text rest old mid new answer result m f = elim f.answered as (λ _. MakesBytes w g text rest old new result) [
  | inl e ↦ subst (MakesBytes w g text rest old new) (sym e) (makes_kept w g text rest old mid new answer m f.kept)
  | inr e ↦ subst (MakesBytes w g text rest old new) (sym e.1) (flush_fails w g text rest old mid new answer m f.kept e.0)
]
