-- What the parts of a record that were read say of the walk of what was unread.
use Rattle.cdb_form.proofs.Words.{Consumes, Feed, FromTo, Header, KeyValue, List, LosesAtMost, LosesFewer, ReadsFirst, ReadsNoRecord, ReadsShort, WalkFault, Walked, WordPair, [], ap, append-nil, append_assoc, arith, drop, drop-drop, header_pair, inl, inr, length, length-append, pair_at, prefix_size, record_size, refl, stopped_by, sym, walk_from, with_first, ℕ, ◌*◌, ◌++◌, ◌+◌, ◌-◌, ◌<◌, ◌∙◌, ◌≡◌, ◌≤◌}
use Rattle.cdb_form.specs.declared.walk.fault.WalkFault.TheVariants.{Record}
use Rattle.cdb_form.proofs.Files.Prefixes.{lengths_of, Begins, prefix_reads}
use Rattle.cdb_form.proofs.Fed.FeedLemmas.{consumes_then, from_behind, from_kept, from_taken, from_weaker, nothing_taken}
use Rattle.cdb_form.proofs.Files.WalkSteps.{walk_from-no_header, walk_from-no_body, walk_from-more}

-- the walk of what was left stops here
abbrev pub StopsAt : ℕ → ℕ → ℕ → WalkFault → Feed → Feed → Type 0
StopsAt w place end fault old new = FromTo old new (λ text rest. walk_from w place end text ≡ stopped_by fault)

-- how long the record at the start is, as its header says
pub prefix_told : (w : ℕ) (xs : List ℕ) (h : Header) → header_pair h ≡ pair_at w xs → prefix_size w xs ≡ 2 * w + h.klen + h.vlen
prefix_told w xs h lengths = ap (λ (p : WordPair). 2 * w + p.first + p.second) (sym lengths)

-- no header fits before the record end
pub no_room : (w place end : ℕ) (feed : Feed) → place < end → end - place < 2 * w → StopsAt w place end (Record place) feed feed
no_room w place end feed before few = from_kept feed feed _ (nothing_taken feed) (λ text. walk_from-no_header w place end text before (inl few))

-- the file ends within a header
pub header_early : (w place end : ℕ) (old new : Feed) (fault : WalkFault) → place < end → fault ≡ Record place → FromTo old new (λ text rest. length text < 2 * w) → StopsAt w place end fault old new
header_early w place end old new fault before e h = from_weaker old new _ _ h (λ text rest few. walk_from-no_header w place end text before (inr few) ∙ ap stopped_by (sym e))

-- what the header says doesn't fit before the record end
pub body_no_room : (w place end : ℕ) (old new : Feed) (header : List ℕ) → place < end → Consumes old new header → length header ≡ 2 * w → 2 * w ≤ end - place → end - place < prefix_size w header
    → StopsAt w place end (Record place) old new
body_no_room w place end old new header before read long room few = from_taken old new header _ read (λ rest. walk_from-no_body w place end (header ++ rest) header rest before refl long room (inl few))

-- the file ends within a key or a value
pub body_early : (w place end n : ℕ) (old mid new : Feed) (header : List ℕ) (fault : WalkFault) → place < end → fault ≡ Record place → Consumes old mid header → length header ≡ 2 * w → 2 * w ≤ end - place
    → 2 * w + n ≤ prefix_size w header → FromTo mid new (λ text rest. length text < n) → StopsAt w place end fault old new
body_early w place end n old mid new header fault before e read long room size h =
    from_behind old mid new header _ read (from_weaker mid new _ _ h (λ text rest few.
    walk_from-no_body w place end (header ++ text) header text before refl long room (inr (omega (arith, length-append header text))) ∙ ap stopped_by (sym e)))

-- the bytes of a whole record, and whatever follows them
pub record_text : (w place end next : ℕ) (header : List ℕ) (r : KeyValue) (rest : List ℕ) → 0 < w → length header ≡ 2 * w → pair_at w header ≡ lengths_of r → next ≡ place + record_size w r → next ≤ end
    → (walk_from w place end ((header ++ (r.key ++ r.value)) ++ rest) ≡ with_first r (walk_from w next end rest)) × (rest ≡ drop (next - place) ((header ++ (r.key ++ r.value)) ++ rest))
record_text w place end next header r rest some long lengths at room =
    let text = (header ++ (r.key ++ r.value)) ++ rest in
    let begins : Begins w text r rest = record {
      header = header;
      long = long;
      lengths = lengths;
      split = append_assoc header (r.key ++ r.value) rest ∙ ap (λ t. header ++ t) (append_assoc r.key r.value rest);
    } in
    let reads = prefix_reads w text r rest begins in
    let n : next - place ≡ record_size w r = omega arith in (
      walk_from-more w place end text r rest some begins (omega arith) ∙ ap (λ (k : ℕ). with_first r (walk_from w k end rest)) (sym at),
      sym (ap (λ (k : ℕ). drop k text) n ∙ reads.rest_is),
    )

-- such a record was taken
pub record_read : (w place end next : ℕ) (old new : Feed) (header : List ℕ) (r : KeyValue) → 0 < w → Consumes old new (header ++ (r.key ++ r.value))
    → length header ≡ 2 * w → pair_at w header ≡ lengths_of r → next ≡ place + record_size w r → next ≤ end
    → FromTo old new (λ text rest. (walk_from w place end text ≡ with_first r (walk_from w next end rest)) × (rest ≡ drop (next - place) text))
record_read w place end next old new header r some read long lengths at room =
    from_taken old new (header ++ (r.key ++ r.value)) _ read (λ rest. record_text w place end next header r rest some long lengths at room)

-- and whatever follows it
pub record_cut : (w place end next : ℕ) (old new : Feed) (header : List ℕ) (r : KeyValue) → 0 < w → Consumes old new (header ++ (r.key ++ r.value))
    → length header ≡ 2 * w → pair_at w header ≡ lengths_of r → next ≡ place + record_size w r → next ≤ end
    → ReadsFirst r (walk_from w place end) (walk_from w next end) old new
record_cut w place end next old new header r some read long lengths at room = record {
  bytes = header ++ (r.key ++ r.value);
  read = read;
  first = λ more. (record_text w place end next header r more some long lengths at room).0;
}

-- the walk goes on from there, up to the same record end
pub goes_on : (w place end next last : ℕ) (old new : Feed) (r : KeyValue) → place ≤ next → next ≤ last → last ≡ end
    → FromTo old new (λ text rest. (walk_from w place end text ≡ with_first r (walk_from w next end rest)) × (rest ≡ drop (next - place) text))
    → FromTo old new (λ text rest. (walk_from w place end text ≡ with_first r (walk_from w next last rest)) × (drop (last - next) rest ≡ drop (end - place) text))
goes_on w place end next last old new r later room same h =
    let n : (next - place) + (last - next) ≡ end - place = omega arith in
    from_weaker old new _ _ h (λ text rest p. (
      p.0 ∙ ap (λ (e : ℕ). with_first r (walk_from w next e rest)) (sym same),
      ap (drop (last - next)) p.1 ∙ drop-drop (last - next) (next - place) text ∙ ap (λ (k : ℕ). drop k text) n,
    ))

-- what was lost, part after part
pub loses_then : (old mid new : Feed) (xs : List ℕ) (n k : ℕ) → Consumes old mid xs → LosesAtMost mid new n → length xs + n ≤ k → LosesAtMost old new k
loses_then old mid new xs n k a b few = record {
  lost = xs ++ b.lost;
  taken = consumes_then old mid new xs b.lost a b.taken;
  few = omega (arith, length-append xs b.lost, b.few);
}

-- the same, at a fault
pub fewer_then : (old mid new : Feed) (xs : List ℕ) (n k : ℕ) → Consumes old mid xs → LosesFewer mid new n → length xs + n ≤ k → LosesFewer old new k
fewer_then old mid new xs n k a b few = record {
  lost = xs ++ b.lost;
  taken = consumes_then old mid new xs b.lost a b.taken;
  few = omega (arith, length-append xs b.lost, b.few);
}

-- fewer than n bytes were left after the bytes that were taken
pub short_then : (old mid new : Feed) (xs : List ℕ) (n k : ℕ) → Consumes old mid xs → ReadsShort n mid new → length xs + n ≤ k → ReadsShort k old new
short_then old mid new xs n k a b most = record {
  few = from_behind old mid new xs _ a (from_weaker mid new _ _ b.few (λ text rest few. (omega (arith, length-append xs text))));
  end = b.end;
}

-- what was read at a fault has no whole record: nothing was read, since no header fits
pub none_no_room : (w place end : ℕ) (feed : Feed) → place < end → end - place < 2 * w → ReadsNoRecord (walk_from w place end) feed feed
none_no_room w place end feed before few = record {
  lost = [];
  taken = nothing_taken feed;
  no_record = ap (λ (v : Walked). v.records) (walk_from-no_header w place end [] before (inl few));
}

-- a part of a header was
pub none_header : (w place end : ℕ) (old new : Feed) → place < end → LosesFewer old new (2 * w) → ReadsNoRecord (walk_from w place end) old new
none_header w place end old new before l = record {
  lost = l.lost;
  taken = l.taken;
  no_record = ap (λ (v : Walked). v.records) (walk_from-no_header w place end l.lost before (inr l.few));
}

-- a header was, of a record that doesn't fit
pub none_body_no_room : (w place end : ℕ) (old new : Feed) (header : List ℕ) → place < end → Consumes old new header → length header ≡ 2 * w → 2 * w ≤ end - place → end - place < prefix_size w header
    → ReadsNoRecord (walk_from w place end) old new
none_body_no_room w place end old new header before read long room few = record {
  lost = header;
  taken = read;
  no_record = ap (λ (v : Walked). v.records) (walk_from-no_body w place end header header [] before (sym (append-nil header)) long room (inl few));
}

-- a header was, and a part of the body that it gives the lengths of
pub none_body : (w place end n : ℕ) (old mid new : Feed) (header : List ℕ) → place < end → Consumes old mid header → LosesFewer mid new n → length header ≡ 2 * w → 2 * w ≤ end - place → 2 * w + n ≤ prefix_size w header
    → ReadsNoRecord (walk_from w place end) old new
none_body w place end n old mid new header before read l long room size = record {
  lost = header ++ l.lost;
  taken = consumes_then old mid new header l.lost read l.taken;
  no_record = ap (λ (v : Walked). v.records) (walk_from-no_body w place end (header ++ l.lost) header l.lost before refl long room (inr (omega (arith, length-append header l.lost, l.few))));
}
