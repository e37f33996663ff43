-- What was read of a stream, from what is known of its reader before and after.
use Rattle.std.proofs.Common.{ℕ, ◌+◌, ◌<◌, List, [], ◌++◌, length, Option, IfOk, IfErr, Result, Ok, Err, ◌≡◌, ◌∙◌, ap, arith, subst, sym}
use Rattle.std.proofs.lemmas.List.{append-nil, length-append}
use Rattle.cdb_form.proofs.Fed.FeedLemmas.{consumes_then, from_behind}
use Rattle.cdb_form.specs.Views.Feed.{Consumes, Feed, FromTo, Keeps}
use Rattle.cdb_form.specs.Views.Taking.{GivesAll, GivesMore}
use Rattle.cdb_form.specs.declared.walk.fault.WalkFault.TheVariants as walk
use Rattle.cdb_system.proofs.Words.{Fault, Form, MemStore, WritesFirst, WritesToDamage, WritesWalk, WritingFails, contents}
use Rattle.cdb_show.specs.declared.fault.Fault.TheVariants.{Walk, Output, Long, NoMemory}
use Rattle.cdb_show.specs.Runs.WalkText.{LoadStops}
use Rattle.cdb_show.specs.Views.Window.{feed_of, held_in, reader_of, window_feed}
use Rattle.cdb_show.specs.declared.window.Window.{Window}
use Rattle.cdb_system.specs.Reading.{IsNotLoaded, IsWhole, WritesText}

-- ---- the text of a stream

module _ (w : ℕ) (form : Form) (old mid new : Feed) (kept : Keeps old mid) (start end : Option (List ℕ)) where
  first_since : WritesFirst w form mid new start end → WritesFirst w form old new start end
  first_since h = record {
    first = h.first;
    read = record { bytes = h.read.bytes; read = consumes_then old mid new [] h.read.bytes kept h.read.read; records = h.read.records };
    appended = h.appended;
    is = from_behind old mid new [] _ kept h.is;
  }

  damage_since : (damage : _) → WritesToDamage w form mid new damage start end → WritesToDamage w form old new damage start end
  damage_since damage h = record { walked = h.walked; ends = h.ends; appended = h.appended; is = from_behind old mid new [] _ kept h.is }

  fails_since : (fault : Fault) → WritingFails w form mid new start end fault → WritingFails w form old new start end fault
  fails_since (Walk walk.Short) h = damage_since _ h
  fails_since (Walk (walk.Table n)) h = damage_since _ h
  fails_since (Walk (walk.Record place)) h = damage_since _ h
  fails_since (Walk walk.Input) h = (first_since h.0, h.1)
  fails_since NoMemory h = first_since h
  fails_since Output h = record { walked = h.walked; appended = h.appended; is = from_behind old mid new [] _ kept h.is }
  fails_since fault h = absurd h

  walk_since : (result : Result Unit Fault) → WritesWalk w form mid new start end result → WritesWalk w form old new start end result
  walk_since (Ok done) h = record { ok = record { walked = h.ok.walked; ends = h.ok.ends; appended = h.ok.appended; is = from_behind old mid new [] _ kept h.ok.is }; err = tt }
  walk_since (Err fault) h = record { ok = tt; err = fails_since fault h.err }

-- of a window over a reader, which is returned
pub text_handed : {R : Type 0} (feed : R → Feed) (w : ℕ) (form : Form) (first window : Feed) (last : Window R) (left : R) (start end : Option (List ℕ)) (result : Result Unit Fault) → Keeps first window → left ≡ reader_of last → WritesWalk w form window (feed_of feed last) start end result → WritesText w form first (feed left) start end result
text_handed feed w form first window last left start end result kept is h =
    let walk = walk_since w form first window (feed_of feed last) kept start end result h in
    record { held = held_in last; walk = subst (λ r. WritesWalk w form first (window_feed (feed r) (held_in last)) start end result) (sym is) walk }

-- ---- a stream that is taken into memory

-- all bytes were taken, and what a window holds then is let go
pub whole_is : (most : ℕ) (first mid new left : Feed) (bytes held : List ℕ) → Keeps first mid → GivesAll most mid new bytes → Consumes new left held → FromTo first left (λ stream rest. bytes ≡ stream)
whole_is most first mid new left bytes held kept gives lost =
    let read = consumes_then first mid new [] bytes kept gives.read in
    record {
      known = λ k. lost.known (read.known k);
      back = λ k whole rest m.
          let behind = lost.back (read.known k) whole rest m in
          let ended : held ++ rest ≡ [] = gives.end (read.known k) whole (held ++ rest) behind in
          (bytes ++ (held ++ rest), read.back k whole (held ++ rest) behind, sym (append-nil bytes) ∙ ap (λ r. bytes ++ r) (sym ended));
    }

-- more than the most were
pub more_is : (most : ℕ) (first mid new left : Feed) (bytes held : List ℕ) → Keeps first mid → GivesMore most mid new bytes → Consumes new left held → FromTo first left (λ stream rest. most < length stream)
more_is most first mid new left bytes held kept gives lost =
    let read = consumes_then first mid new [] bytes kept gives.read in
    record {
      known = λ k. lost.known (read.known k);
      back = λ k whole rest m.
          let size : length (bytes ++ (held ++ rest)) ≡ length bytes + length (held ++ rest) = length-append bytes (held ++ rest) in
          (bytes ++ (held ++ rest), read.back k whole (held ++ rest) (lost.back (read.known k) whole rest m), omega (arith, size, gives.long));
    }

-- so it is taken into memory, or not
pub is_whole : (most : ℕ) (first mid new left : Feed) (held : List ℕ) (result : Result MemStore Fault) → Keeps first mid → Consumes new left held → IfOk result (λ store. GivesAll most mid new (contents store)) → IfOk result (IsWhole most first left)
is_whole most first mid new left held (Ok store) kept lost h = record { whole = whole_is most first mid new left (contents store) held kept h lost; few = h.few }
is_whole most first mid new left held (Err fault) kept lost h = tt

why_not : (most : ℕ) (first mid new left : Feed) (held : List ℕ) (fault : Fault) → Keeps first mid → Consumes new left held → LoadStops most mid new fault → IsNotLoaded most first left fault
why_not most first mid new left held Long kept lost h = more_is most first mid new left h.0 held kept h.1 lost
why_not most first mid new left held (Walk walk.Input) kept lost h = lost.stays h.1
why_not most first mid new left held NoMemory kept lost h = tt
why_not most first mid new left held fault kept lost h = absurd h

pub is_not_loaded : (most : ℕ) (first mid new left : Feed) (held : List ℕ) (result : Result MemStore Fault) → Keeps first mid → Consumes new left held → IfErr result (LoadStops most mid new) → IfErr result (IsNotLoaded most first left)
is_not_loaded most first mid new left held (Ok store) kept lost h = tt
is_not_loaded most first mid new left held (Err fault) kept lost h = why_not most first mid new left held fault kept lost h
