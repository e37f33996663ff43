-- The values of a key that were found so far, and how a query ends.
use Rattle.cdb_show.proofs.Words.{Appends, AppendsPrefix, Bool, Damage, Err, Fault, Ghosts, IfErr, List, None, Ok, OnOk, OnlyReads, Option, ReadFault, Result, Some, [], ap, append_assoc, appends_none, appends_then, arith, codes, drop, false, flat_map, flat_map-append, head_size, length, map, prefix_last, prefix_then, read_fault, reads_more, refl, subst, sym, take, true, ℕ, ◌++◌, ◌+◌, ◌-◌, ◌<◌, ◌∙◌, ◌∷◌, ◌≡◌, ◌≢◌, ◌≤◌}
use Rattle.std.proofs.lemmas.Bool.{le-leb, cond-true}
use Rattle.std.proofs.lemmas.List.{append-nil, length-map, map-append, length-append}
use Rattle.std.proofs.Math.Seq.{drop-append_seam}
use Rattle.cdb_form.specs.declared.width.Width.{Ghosts as Widths}
use Rattle.cdb_form.specs.declared.damage.Damage.TheVariants as damage
use Rattle.cdb_read.specs.Lookup.{Found, bytes_of, lookup_of, with_spans}
use Rattle.cdb_read.specs.Views.Finder.{left_in, GivesSpan, FindingFails}
use Rattle.cdb_read.specs.Views.Reads.{CopyingFails}
use Rattle.cdb_read.specs.declared.fault.ReadFault.TheVariants as read
use Rattle.cdb_read.specs.declared.lookup.finder.Finder.{Finder}
use Rattle.cdb_read.specs.declared.span.Span.{Span}
use Rattle.cdb_read.proofs.FoundSoFar.{FoundSoFar, ending, found_more, found_still}
use Rattle.cdb_show.specs.Runs.Query.{Query, asked_of, value_text, values_text, spans_text, query_text, has_asked, why_missing, found_answer, query_answer, QueryAnswers, WritesQueryPrefix, QueryFails, Queries, WritesAllValues, in_hand, WritesSome, WritesEach, LeftFails}
use Rattle.cdb_show.specs.declared.fault.Fault.TheVariants.{Missing, Read, Output}

-- ---- what is written

pub in_lines : (lines : Bool) (value : List ℕ) → lines ≡ true → value_text lines value ≡ value ++ codes "\n"
in_lines true value is = refl
in_lines false value is = absurd (let k : false ≡ true = is in cc)

abbrev texts : (List ℕ → List ℕ) → List (List ℕ) → List ℕ
texts shown values = flat_map shown values

text_append : (shown : List ℕ → List ℕ) (b : List ℕ) (xs ys : List Span) → texts shown (map (bytes_of b) (xs ++ ys)) ≡ texts shown (map (bytes_of b) xs) ++ texts shown (map (bytes_of b) ys)
text_append shown b xs ys = ap (texts shown) (map-append (bytes_of b) xs ys) ∙ flat_map-append shown (map (bytes_of b) xs) (map (bytes_of b) ys)

text_push : (shown : List ℕ → List ℕ) (b : List ℕ) (spans : List Span) (span : Span) → texts shown (map (bytes_of b) (spans ++ span ∷ [])) ≡ texts shown (map (bytes_of b) spans) ++ shown (bytes_of b span)
text_push shown b spans span = text_append shown b spans (span ∷ []) ∙ ap (λ t. texts shown (map (bytes_of b) spans) ++ t) (append-nil (shown (bytes_of b span)))

-- the requested value follows the values before its number
nth_one : (shown : List ℕ → List ℕ) (b : List ℕ) (spans rest : List Span) (span : Span) (number : ℕ) → length spans + 1 ≡ number → texts shown (asked_of (Some number) (map (bytes_of b) ((spans ++ span ∷ []) ++ rest))) ≡ shown (bytes_of b span)
nth_one shown b spans rest span number count =
    let many : length (map (bytes_of b) spans) ≡ length spans = length-map spans (bytes_of b) in
    let place : number - 1 ≡ length (map (bytes_of b) spans) = omega (arith, many, count) in
    ap (λ xs. texts shown (take 1 (drop (number - 1) (map (bytes_of b) xs)))) (append_assoc spans (span ∷ []) rest)
    ∙ ap (λ xs. texts shown (take 1 (drop (number - 1) xs))) (map-append (bytes_of b) spans (span ∷ rest))
    ∙ ap (λ n. texts shown (take 1 (drop n (map (bytes_of b) spans ++ (bytes_of b span ∷ map (bytes_of b) rest))))) place
    ∙ ap (λ xs. texts shown (take 1 xs)) (drop-append_seam (map (bytes_of b) spans) (bytes_of b span ∷ map (bytes_of b) rest))
    ∙ append-nil (shown (bytes_of b span))

-- nothing was written yet
pub none_prefix : (start now : Option (List ℕ)) (text : List ℕ) → Appends start now [] → AppendsPrefix start now text
none_prefix start now text h = record { front = []; more = text; split = refl; appended = h }

-- ---- how a query ends

answer_whole : (w : ℕ) (b : List ℕ) (q : Query) (found : Found) → lookup_of w b q.key ≡ found → has_asked q.number found.spans found.damage ≡ true → Ok tt ≡ query_answer w b q
answer_whole w b q found e all = sym (ap (found_answer q.number) e ∙ cond-true (has_asked q.number found.spans found.damage) (Ok tt) (Err (why_missing found.damage)) all)

text_is : (w : ℕ) (b : List ℕ) (q : Query) (found : Found) → lookup_of w b q.key ≡ found → query_text w b q ≡ spans_text b q found.spans
text_is w b q found e = ap (λ f. spans_text b q f.spans) e

still_long : {S : Type 0} {s : Ghosts S} {old new : S} (w : ℕ) → OnlyReads s old new → head_size w ≤ s.size old → head_size w ≤ s.size new
still_long {s = s} {old = old} {new = new} w reads long = subst (λ n. head_size w ≤ n) (sym reads.size) long

-- the store that is returned is the finder's
pub handed_back : {S : Type 0} {w : ℕ} {s : Ghosts S} {q : Query} {old : S} {start now : Option (List ℕ)} {answer : Result Unit Fault} (new last : S) → last ≡ new → Queries w s q old new start now answer → Queries w s q old last start now answer
handed_back {w = w} {s = s} {q = q} {old = old} {start = start} {now = now} {answer = answer} new last same h = subst (λ x. Queries w s q old x start now answer) (sym same) h

-- a value was not written whole
copying_fault : {S : Type 0} (w : ℕ) (s : Ghosts S) (q : Query) (old mid new : S) (start now : Option (List ℕ)) (f : ReadFault) → OnlyReads s old mid → OnlyReads s mid new → head_size w ≤ s.size old → CopyingFails s mid new f
    → WritesQueryPrefix w s q new start now → QueryFails w s q old new start now (read_fault f)
copying_fault w s q old mid new start now read.Device before reads long fails front = (let p = before.failures in omega (arith, p, fails), front)
copying_fault w s q old mid new start now read.Output before reads long fails front = (still_long w (reads_more before reads) long, front)
copying_fault w s q old mid new start now f before reads long fails front = absurd fails

pub copying_fails : {S : Type 0} (w : ℕ) (s : Ghosts S) (q : Query) (old mid new : S) (start now : Option (List ℕ)) (f : ReadFault) → OnlyReads s old mid → OnlyReads s mid new → head_size w ≤ s.size old → CopyingFails s mid new f
    → ((b : List ℕ) → s.image new b → AppendsPrefix start now (query_text w b q)) → Queries w s q old new start now (Err (read_fault f))
copying_fails w s q old mid new start now f before reads long fails front =
    record { reads = reads_more before reads; ok = tt; err = copying_fault w s q old mid new start now f before reads long fails (record { written = front }) }

abbrev pub all_of : List ℕ → (List ℕ → List ℕ) → Query
all_of key shown = record { key = key; number = None; shown = shown }

-- the values so far were written
pub record WrittenSoFar {S L : Type 0} {s : Ghosts S} {l : Widths L} (w : ℕ) (all : List ℕ → Found) (shown : List ℕ → List ℕ) (old : S) (t : Finder S L s l) (start now : Option (List ℕ)) (any : Bool) : Type 0 where
  pub spans : List Span
  pub found : FoundSoFar w all old t spans
  pub some : any ≡ has_asked None spans None
  pub written : (b : List ℕ) → s.image t.reader.now.store b → Appends start now (values_text shown b spans)

pub written_none : {S L : Type 0} {s : Ghosts S} {l : Widths L} (w : ℕ) (all : List ℕ → Found) (shown : List ℕ → List ℕ) (old : S) (t : Finder S L s l) (start : Option (List ℕ)) → FoundSoFar w all old t [] → WrittenSoFar w all shown old t start start false
written_none w all shown old t start found = record { spans = []; found = found; some = refl; written = λ b is. appends_none start }

some_pushed : (spans : List Span) (span : Span) → true ≡ has_asked None (spans ++ span ∷ []) None
some_pushed [] span = refl
some_pushed (s ∷ spans) span = refl

pub written_more : {S L : Type 0} {s : Ghosts S} {l : Widths L} (w : ℕ) (all : List ℕ → Found) (shown : List ℕ → List ℕ) (old : S) (t u : Finder S L s l) (start mid now : Option (List ℕ)) (spans : List Span) (span : Span) → FoundSoFar w all old u (spans ++ span ∷ [])
    → ((b : List ℕ) → s.image u.reader.now.store b → Appends start mid (values_text shown b spans)) → ((b : List ℕ) → s.image u.reader.now.store b → Appends mid now (shown (bytes_of b span))) → WrittenSoFar w all shown old u start now true
written_more w all shown old t u start mid now spans span found before one = record {
  spans = spans ++ span ∷ [];
  found = found;
  some = some_pushed spans span;
  written = λ b is. subst (Appends start now) (sym (text_push shown b spans span)) (appends_then start mid now _ _ (before b is) (one b is));
}

-- ---- what is left of a finder

-- after these spans only a damage, or nothing, is found
with_nothing : (spans : List Span) (damage : Option Damage) → with_spans spans (ending [] damage) ≡ ending spans damage
with_nothing spans damage = ap (λ xs. ending xs damage) (append-nil spans)

pub ends_all : {S L : Type 0} {s : Ghosts S} {l : Widths L} (w : ℕ) (shown : List ℕ → List ℕ) (old t u : Finder S L s l) (start now : Option (List ℕ)) (any : Bool) (damage : Option Damage) (h : WrittenSoFar w (λ b. left_in w b old) shown old.reader.now.store t start now any)
    → OnlyReads s t.reader.now.store u.reader.now.store → ((b : List ℕ) → s.image u.reader.now.store b → left_in w b t ≡ ending [] damage) → WritesAllValues w shown old u start now h.spans damage
ends_all w shown old t u start now any damage h reads none = record {
  given = λ b is. h.found.first b (reads.images b is) ∙ ap (with_spans h.spans) (none b is) ∙ with_nothing h.spans damage;
  written = λ b is. h.written b (reads.images b is);
}

-- no value is in hand
nothing_in_hand : (now : Option (List ℕ)) → AppendsPrefix now now []
nothing_in_hand now = none_prefix now now [] (appends_none now)

pub finding_fails : {S L : Type 0} {s : Ghosts S} {l : Widths L} (w : ℕ) (shown : List ℕ → List ℕ) (old t u : Finder S L s l) (start now : Option (List ℕ)) (any : Bool) (f : ReadFault) → WrittenSoFar w (λ b. left_in w b old) shown old.reader.now.store t start now any
    → OnlyReads s t.reader.now.store u.reader.now.store → u.key.now ≡ t.key.now → FindingFails w t u f → LeftFails w shown old u start now (read_fault f)
finding_fails w shown old t u start now any (read.Table n) h reads same fails = (fails.0, record { spans = h.spans; all = ends_all w shown old t u start now any (Some (damage.Table n)) h reads fails.1 })
finding_fails w shown old t u start now any (read.Record place) h reads same fails = (fails.0, record { spans = h.spans; all = ends_all w shown old t u start now any (Some (damage.Record place)) h reads fails.1 })
finding_fails {s = s} w shown old t u start now any read.Device h reads same fails =
    let p = h.found.reads.failures in
    let found = found_still w (λ b. left_in w b old) old.reader.now.store t u h.spans h.found reads same fails.0 in (
      (let q = fails.1 in omega (arith, p, q)),
      record {
        spans = h.spans;
        hand = None;
        before = now;
        given = λ b is. found.first b is ∙ ap (λ xs. with_spans xs (left_in w b u)) (sym (append-nil h.spans));
        written = λ b is. h.written b (reads.images b is);
        front = λ b is. nothing_in_hand now;
      },
    )
finding_fails w shown old t u start now any read.Short h reads same fails = absurd fails
finding_fails w shown old t u start now any (read.Slot n i) h reads same fails = absurd fails
finding_fails w shown old t u start now any (read.Twice place) h reads same fails = absurd fails
finding_fails w shown old t u start now any (read.Unindexed place) h reads same fails = absurd fails
finding_fails w shown old t u start now any read.NoMemory h reads same fails = absurd fails
finding_fails w shown old t u start now any read.Output h reads same fails = absurd fails

-- a value was not written whole
pub value_fails : {S L : Type 0} {s : Ghosts S} {l : Widths L} (w : ℕ) (shown : List ℕ → List ℕ) (old t u : Finder S L s l) (start mid now : Option (List ℕ)) (spans : List Span) (span : Span) (f : ReadFault) → FoundSoFar w (λ b. left_in w b old) old.reader.now.store u (spans ++ span ∷ [])
    → s.failures old.reader.now.store ≤ s.failures t.reader.now.store → CopyingFails s t.reader.now.store u.reader.now.store f → ((b : List ℕ) → s.image u.reader.now.store b → Appends start mid (values_text shown b spans))
    → ((b : List ℕ) → s.image u.reader.now.store b → AppendsPrefix mid now (shown (bytes_of b span))) → LeftFails w shown old u start now (read_fault f)
value_fails {s = s} w shown old t u start mid now spans span f found before fails whole front = by f fails
  where
    some : WritesSome w shown old u start now
    some = record {
      spans = spans;
      hand = Some span;
      before = mid;
      given = found.first;
      written = whole;
      front = λ b is. subst (AppendsPrefix mid now) (sym (append-nil (shown (bytes_of b span)))) (front b is);
    }

    by : (f : ReadFault) → CopyingFails s t.reader.now.store u.reader.now.store f → LeftFails w shown old u start now (read_fault f)
    by read.Device fails = (omega (arith, before, fails), some)
    by read.Output fails = some
    by f fails = absurd fails

-- ---- all values of a key

-- a query of the values that its finder has left
module _ {S L : Type 0} {s : Ghosts S} {l : Widths L} (w : ℕ) (key : List ℕ) (shown : List ℕ → List ℕ) (old : S) (t u : Finder S L s l) (start now : Option (List ℕ)) (same : t.reader.now.store ≡ old) (finds : (b : List ℕ) → s.image old b → left_in w b t ≡ lookup_of w b key) (long : head_size w ≤ s.size old)
    (reads : OnlyReads s t.reader.now.store u.reader.now.store) where
  read_from : OnlyReads s old u.reader.now.store
  read_from = subst (λ x. OnlyReads s x u.reader.now.store) same reads

  looked_up : (b : List ℕ) → s.image u.reader.now.store b → lookup_of w b key ≡ left_in w b t
  looked_up b is = sym (finds b (read_from.images b is))

  answers : (spans : List Span) (damage : Option Damage) (answer : Result Unit Fault) → WritesAllValues w shown t u start now spans damage → answer ≡ found_answer None (ending spans damage) → QueryAnswers w s (all_of key shown) u.reader.now.store start now answer
  answers spans damage answer h is_answer = record {
    long = still_long w read_from long;
    answered = λ b is. is_answer ∙ ap (found_answer None) (sym (looked_up b is ∙ h.given b is));
    written = λ b is. subst (λ f. Appends start now (values_text shown b f.spans)) (sym (looked_up b is ∙ h.given b is)) (h.written b is);
  }

  some_prefix : WritesSome w shown t u start now → WritesQueryPrefix w s (all_of key shown) u.reader.now.store start now
  some_prefix h = record {
    written = λ b is.
        prefix_then start h.before now _ _ _ _ (h.written b is) (h.front b is)
        (text_is w b (all_of key shown) _ (looked_up b is ∙ h.given b is)
        ∙ text_append shown b (h.spans ++ in_hand h.hand) (left_in w b u).spans
        ∙ ap (λ t. t ++ values_text shown b (left_in w b u).spans) (text_append shown b h.spans (in_hand h.hand))
        ∙ append_assoc (values_text shown b h.spans) (values_text shown b (in_hand h.hand)) (values_text shown b (left_in w b u).spans));
  }

  each_found : (spans : List Span) → spans ≢ [] → Ok tt ≡ found_answer None (ending spans None)
  each_found [] some = absurd (some refl)
  each_found (s ∷ spans) some = refl

  left_fault : (f : Fault) → LeftFails w shown t u start now f → QueryFails w s (all_of key shown) old u.reader.now.store start now f
  left_fault Missing h = answers [] None _ h.1 refl
  left_fault (Read (read.Table n)) h = answers h.1.spans (Some (damage.Table n)) _ h.1.all refl
  left_fault (Read (read.Record place)) h = answers h.1.spans (Some (damage.Record place)) _ h.1.all refl
  left_fault (Read read.Device) h = (subst (λ x. s.failures x < s.failures u.reader.now.store) same h.0, some_prefix h.1)
  left_fault Output h = (still_long w read_from long, some_prefix h)
  left_fault f h = absurd h

  pub queries_left : (result : Result Unit Fault) → OnOk result (WritesEach w shown t u start now) → IfErr result (LeftFails w shown t u start now) → Queries w s (all_of key shown) old u.reader.now.store start now result
  queries_left (Ok tt) each none = record { reads = read_from; ok = answers each.spans None (Ok tt) each.all (each_found each.spans each.some); err = tt }
  queries_left (Err f) none fails = record { reads = read_from; ok = tt; err = left_fault f fails }

-- ---- the value of a number

abbrev pub nth_of : List ℕ → ℕ → (List ℕ → List ℕ) → Query
nth_of key number shown = record { key = key; number = Some number; shown = shown }

-- the values so far are before the number, and nothing was written
pub record PassedSoFar {S L : Type 0} {s : Ghosts S} {l : Widths L} (w : ℕ) (key : List ℕ) (old : S) (t : Finder S L s l) (number left : ℕ) (start now : Option (List ℕ)) : Type 0 where
  pub spans : List Span
  pub found : FoundSoFar w (λ b. lookup_of w b key) old t spans
  pub counted : length spans + left ≡ number
  pub more : 1 ≤ left
  pub kept : Appends start now []

pub passed_none : {S L : Type 0} {s : Ghosts S} {l : Widths L} (w : ℕ) (key : List ℕ) (old : S) (t : Finder S L s l) (number : ℕ) (start : Option (List ℕ)) → FoundSoFar w (λ b. lookup_of w b key) old t [] → 1 ≤ number → PassedSoFar w key old t number number start start
passed_none w key old t number start found some = record { spans = []; found = found; counted = omega arith; more = some; kept = appends_none start }

pub passed_more : {S L : Type 0} {s : Ghosts S} {l : Widths L} (w : ℕ) (key : List ℕ) (old : S) (t u : Finder S L s l) (number left less : ℕ) (start now : Option (List ℕ)) (span : Span) → PassedSoFar w key old t number left start now → OnlyReads s t.reader.now.store u.reader.now.store
    → GivesSpan w t u span → left ≡ less + 1 → 1 ≤ less → PassedSoFar w key old u number less start now
passed_more w key old t u number left less start now span h reads gives one some =
    let many : length (h.spans ++ span ∷ []) ≡ length h.spans + 1 = length-append h.spans (span ∷ []) in
    record {
      spans = h.spans ++ span ∷ [];
      found = found_more w (λ b. lookup_of w b key) old t u h.spans span h.found reads gives;
      counted = (let k = h.counted in omega (arith, many, k, one));
      more = some;
      kept = h.kept;
    }

-- the value of the number was found, the last of some
nth_text : {S L : Type 0} {s : Ghosts S} {l : Widths L} (w : ℕ) (key : List ℕ) (shown : List ℕ → List ℕ) (old : S) (u : Finder S L s l) (number : ℕ) (spans : List Span) (span : Span) (b : List ℕ) → FoundSoFar w (λ b. lookup_of w b key) old u (spans ++ span ∷ []) → length spans + 1 ≡ number → s.image u.reader.now.store b
    → query_text w b (nth_of key number shown) ≡ shown (bytes_of b span)
nth_text w key shown old u number spans span b found count is =
    text_is w b (nth_of key number shown) (with_spans (spans ++ span ∷ []) (left_in w b u)) (found.first b is) ∙ nth_one shown b spans (left_in w b u).spans span number count

pub nth_written : {S L : Type 0} {s : Ghosts S} {l : Widths L} (w : ℕ) (key : List ℕ) (shown : List ℕ → List ℕ) (old : S) (u : Finder S L s l) (number : ℕ) (start mid now : Option (List ℕ)) (spans : List Span) (span : Span) → FoundSoFar w (λ b. lookup_of w b key) old u (spans ++ span ∷ []) → length spans + 1 ≡ number
    → head_size w ≤ s.size old → Appends start mid [] → ((b : List ℕ) → s.image u.reader.now.store b → Appends mid now (shown (bytes_of b span))) → Queries w s (nth_of key number shown) old u.reader.now.store start now (Ok tt)
nth_written w key shown old u number start mid now spans span found count long kept wrote = record {
  reads = found.reads;
  ok = record {
    long = still_long w found.reads long;
    answered = λ b is.
        let rest = left_in w b u in
        let many : length ((spans ++ span ∷ []) ++ rest.spans) ≡ length (spans ++ span ∷ []) + length rest.spans = length-append (spans ++ span ∷ []) rest.spans in
        let more : length (spans ++ span ∷ []) ≡ length spans + 1 = length-append spans (span ∷ []) in
        answer_whole w b (nth_of key number shown) (with_spans (spans ++ span ∷ []) rest) (found.first b is) (le-leb number (length ((spans ++ span ∷ []) ++ rest.spans)) (omega (arith, many, more, count)));
    written = λ b is. subst (Appends start now) (sym (nth_text w key shown old u number spans span b found count is)) (appends_then start mid now [] _ kept (wrote b is));
  };
  err = tt;
}

pub nth_prefix : {S L : Type 0} {s : Ghosts S} {l : Widths L} (w : ℕ) (key : List ℕ) (shown : List ℕ → List ℕ) (old : S) (u : Finder S L s l) (number : ℕ) (start mid now : Option (List ℕ)) (spans : List Span) (span : Span) (b : List ℕ) → FoundSoFar w (λ b. lookup_of w b key) old u (spans ++ span ∷ [])
    → length spans + 1 ≡ number → s.image u.reader.now.store b → Appends start mid [] → AppendsPrefix mid now (shown (bytes_of b span)) → AppendsPrefix start now (query_text w b (nth_of key number shown))
nth_prefix w key shown old u number start mid now spans span b found count is kept front = prefix_last start mid now [] _ _ kept front (nth_text w key shown old u number spans span b found count is)
