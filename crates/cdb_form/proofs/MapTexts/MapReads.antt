-- What the parser of a map text took, piece after piece.
use Rattle.std.proofs.Common.{All, List, None, Option, Some, [], append_assoc, ap, arith, false, get_or, is_some, length-append, refl, subst, sym, take, true, ◌++◌, ◌+◌, ◌<◌, ◌∙◌, ◌∷◌, ◌≡◌, ◌≢◌, ◌≤◌, ℕ}
use Rattle.cdb_form.proofs.Words.{All-append, All-nil, All-push, AllPass, BeginsWithLine, Consumes, Feed, IsAmidLines, IsAtEnd, IsIgnoredLine, IsLineOf, IsOfText, IsReadFault, Keeps, KeyValue, Kind, Lacks, Source, TextFault, behind_blanks, budget, eqb-true, flat_map-append, is_blank, is_newline, is_of, line_end, line_pair, with_newlines, ◌==◌}
use Rattle.std.proofs.lemmas.List.{append-nil}
use Rattle.cdb_form.specs.Views.MapParser.{MovesRun, ReadsLine, ReadsPair, ReadsRun, ReadsToEnding, ReadsValue}
use Rattle.cdb_form.specs.Views.MapReader.{ReadsLinesOf}
use Rattle.cdb_form.specs.Views.Source.{IsTold, LeavesAmid, Takes}
use Rattle.cdb_form.specs.declared.text.fault.TextFault.TheVariants.{Syntax, Ended, Large, Input, Endless, NoMemory}
use Rattle.cdb_form.specs.declared.text.kind.Kind.TheVariants.{Blank, InLine, InWord}
use Rattle.cdb_form.specs.declared.text.map_parser.LineRead.TheVariants.{Ignored, Last, Pair}
use Rattle.cdb_form.proofs.MapTexts.MapLines.{behind_blanks-run, blank_line, noted_line, kept_line, line_pair-key}
use Rattle.cdb_form.proofs.Fed.FeedLemmas.{consumes_then, nothing_taken}

-- ---- kinds of bytes

blank_other : (c : ℕ) → is_blank c ≡ true → is_newline c ≡ false
blank_other c h = grind (arith, eqb-true)

-- no kind has a newline
of_no_newline : (kind : Kind) (c : ℕ) → is_of kind c ≡ true → is_newline c ≡ false
of_no_newline Blank c h = blank_other c h
of_no_newline InWord c h = grind arith
of_no_newline InLine c h = grind arith

pub run_lacks : (kind : Kind) (bytes : List ℕ) → AllPass (is_of kind) bytes → Lacks is_newline bytes
run_lacks kind bytes each k d l = of_no_newline kind (get_or bytes k d) (each k d l)

pub word_no_blank : (c : ℕ) → is_of InWord c ≡ true → is_blank c ≡ false
word_no_blank c h = grind arith

pub word_lacks : (bytes : List ℕ) → AllPass (is_of InWord) bytes → Lacks is_blank bytes
word_lacks bytes each k d l = word_no_blank (get_or bytes k d) (each k d l)

-- ---- bytes taken

pub takes_none : {R : Type 0} (feed : R → Feed) (s : Source R) → Takes feed s s []
takes_none feed s = record { read = nothing_taken (feed s.reader); counted = omega arith }

pub takes_then : {R : Type 0} (feed : R → Feed) (old mid new : Source R) (xs ys : List ℕ) → Takes feed old mid xs → Takes feed mid new ys → Takes feed old new (xs ++ ys)
takes_then feed old mid new xs ys a b = record {
  read = consumes_then _ _ _ xs ys a.read b.read;
  counted = omega (arith, a.counted, b.counted, length-append xs ys);
}

-- ---- one run of bytes

-- bytes of a kind were read so far
pub record RunSoFar {R : Type 0} (kind : Kind) (feed : R → Feed) (old new : Source R) (bytes : List ℕ) : Type 0 where
  pub each : AllPass (is_of kind) bytes
  pub takes : Takes feed old new bytes
  pub asks : new.asks ≤ old.asks
  pub spends : budget old ≤ budget new

-- one more byte
byte_takes : {R : Type 0} (feed : R → Feed) (mid new : Source R) (b : ℕ) → Consumes (feed mid.reader) (feed new.reader) (b ∷ []) → new.taken ≡ mid.taken + 1 → Takes feed mid new (b ∷ [])
byte_takes feed mid new b read counted = record { read = read; counted = omega (arith, counted) }

pub run_more : {R : Type 0} (kind : Kind) (feed : R → Feed) (old mid new : Source R) (bytes : List ℕ) (b : ℕ) → RunSoFar kind feed old mid bytes
    → Consumes (feed mid.reader) (feed new.reader) (b ∷ []) → new.taken ≡ mid.taken + 1 → new.asks < mid.asks → mid.asks ≤ new.asks + 1001 → is_of kind b ≡ true
    → RunSoFar kind feed old new (bytes ++ b ∷ [])
run_more kind feed old mid new bytes b so read counted fewer spends of_kind = record {
  each = All-push (λ c. is_of kind c ≡ true) bytes b so.each of_kind;
  takes = takes_then feed old mid new bytes (b ∷ []) so.takes (byte_takes feed mid new b read counted);
  asks = omega (arith, so.asks, fewer);
  spends = omega (arith, so.spends, spends, counted);
}

-- more bytes that were at hand
pub run_at_hand : {R : Type 0} (kind : Kind) (feed : R → Feed) (old mid new : Source R) (bytes held holds : List ℕ) → RunSoFar kind feed old mid bytes
    → (m : MovesRun kind feed mid new held holds) → RunSoFar kind feed old new (bytes ++ m.bytes)
run_at_hand kind feed old mid new bytes held holds so m = record {
  each = All-append (λ c. is_of kind c ≡ true) bytes m.bytes so.each m.each;
  takes = takes_then feed old mid new bytes m.bytes so.takes m.takes;
  asks = omega (arith, so.asks, m.asks);
  spends = omega (arith, so.spends, m.spends);
}

-- what was kept of it
pub kept_at_hand : (old new bytes more : List ℕ) (first : ℕ) → new ≡ old ++ more → old ≡ first ∷ bytes → new ≡ first ∷ (bytes ++ more)
kept_at_hand old new bytes more first e so = e ∙ ap (λ t. t ++ more) so

pub kept_more : (old new bytes : List ℕ) (first b : ℕ) → new ≡ old ++ b ∷ [] → old ≡ first ∷ bytes → new ≡ first ∷ (bytes ++ b ∷ [])
kept_more old new bytes first b e so = e ∙ ap (λ t. t ++ b ∷ []) so

-- the byte after it
pub run_stopped : {R : Type 0} (kind : Kind) (feed : R → Feed) (old mid new : Source R) (bytes : List ℕ) (b : ℕ) → RunSoFar kind feed old mid bytes
    → Consumes (feed mid.reader) (feed new.reader) (b ∷ []) → new.taken ≡ mid.taken + 1 → mid.asks ≤ new.asks + 1001 → is_of kind b ≡ false
    → ReadsRun kind feed old new bytes (Some b)
run_stopped kind feed old mid new bytes b so read counted spends other = record {
  each = so.each;
  takes = takes_then feed old mid new bytes (b ∷ []) so.takes (byte_takes feed mid new b read counted);
  other = other;
  end = tt;
  spends = omega (arith, so.spends, spends, counted);
}

-- or the end
pub run_ended : {R : Type 0} (kind : Kind) (feed : R → Feed) (old mid new : Source R) (bytes : List ℕ) → RunSoFar kind feed old mid bytes
    → Keeps (feed mid.reader) (feed new.reader) → IsAtEnd (feed new.reader) → new.taken ≡ mid.taken → mid.asks ≤ new.asks + 1001
    → ReadsRun kind feed old new bytes None
run_ended kind feed old mid new bytes so kept end counted spends = record {
  each = so.each;
  takes = takes_then feed old mid new bytes [] so.takes (record { read = kept; counted = omega (arith, counted) });
  other = tt;
  end = end;
  spends = omega (arith, so.spends, spends, counted);
}

-- or a fault after it
pub run_left : {R : Type 0} (kind : Kind) (feed : R → Feed) (old new : Source R) (bytes : List ℕ) (f : TextFault) → RunSoFar kind feed old new bytes → (IsOfText f → ⊥) → IsTold (feed new.reader) new.asks f
    → LeavesAmid (Lacks is_newline) feed old new f
run_left kind feed old new bytes f so outside is_told = record {
  outside = outside;
  bytes = bytes;
  are = run_lacks kind bytes so.each;
  takes = so.takes;
  told = is_told;
  spends = omega (arith, so.spends);
}

-- or a fault of the reader
pub run_failed : {R : Type 0} (kind : Kind) (feed : R → Feed) (old mid new : Source R) (bytes : List ℕ) (f : TextFault) → RunSoFar kind feed old mid bytes
    → Keeps (feed mid.reader) (feed new.reader) → new.taken ≡ mid.taken → mid.asks ≤ new.asks + 1001 → (IsOfText f → ⊥) → IsTold (feed new.reader) new.asks f
    → LeavesAmid (Lacks is_newline) feed old new f
run_failed kind feed old mid new bytes f so kept counted spends outside is_told = record {
  outside = outside;
  bytes = bytes ++ [];
  are = All-append (λ c. is_newline c ≡ false) bytes [] (run_lacks kind bytes so.each) (All-nil _);
  takes = takes_then feed old mid new bytes [] so.takes (record { read = kept; counted = omega (arith, counted) });
  told = is_told;
  spends = omega (arith, so.spends, spends, counted);
}

pub read_fault_outside : (f : TextFault) → IsReadFault f → IsOfText f → ⊥
read_fault_outside (Syntax at) h t = h
read_fault_outside (Ended at) h t = h
read_fault_outside (Large at) h t = h
read_fault_outside Input h t = t
read_fault_outside Endless h t = t
read_fault_outside NoMemory h t = h

-- ---- one piece after another

pub leaves_behind : {R : Type 0} (P Q : List ℕ → Type 0) (feed : R → Feed) (old mid new : Source R) (first : List ℕ) (f : TextFault)
    → Takes feed old mid first → budget old ≤ budget mid → ((bytes : List ℕ) → P bytes → Q (first ++ bytes)) → LeavesAmid P feed mid new f → LeavesAmid Q feed old new f
leaves_behind P Q feed old mid new first f takes spends grows l = record {
  outside = l.outside;
  bytes = first ++ l.bytes;
  are = grows l.bytes l.are;
  takes = takes_then feed old mid new first l.bytes takes l.takes;
  told = l.told;
  spends = omega (arith, spends, l.spends);
}

pub lacks_append : (first bytes : List ℕ) → Lacks is_newline first → Lacks is_newline bytes → Lacks is_newline (first ++ bytes)
lacks_append first bytes a b = All-append (λ c. is_newline c ≡ false) first bytes a b

lacks_one : (c : ℕ) → is_newline c ≡ false → Lacks is_newline (c ∷ [])
lacks_one c h = All-push (λ c. is_newline c ≡ false) [] c (All-nil _) h

-- after a run that did not stop at a newline
pub leaves_past : {R : Type 0} (kind : Kind) (feed : R → Feed) (old mid new : Source R) (run : List ℕ) (c : ℕ) (f : TextFault) → ReadsRun kind feed old mid run (Some c) → is_newline c ≡ false
    → LeavesAmid (Lacks is_newline) feed mid new f → LeavesAmid (Lacks is_newline) feed old new f
leaves_past kind feed old mid new run c f reads other l =
    leaves_behind (Lacks is_newline) (Lacks is_newline) feed old mid new (run ++ c ∷ []) f reads.takes (omega (arith, reads.spends))
    (λ bytes lacks. lacks_append (run ++ c ∷ []) bytes (lacks_append run (c ∷ []) (run_lacks kind run reads.each) (lacks_one c other)) lacks) l

-- a run to the end of its line
pub run_to_end : {R : Type 0} (kind : Kind) (feed : R → Feed) (old new : Source R) (run : List ℕ) → ReadsRun kind feed old new run None → ReadsToEnding feed old new run []
run_to_end kind feed old new run reads = record { takes = reads.takes; ends = reads.end; spends = reads.spends }

pub run_to_newline : {R : Type 0} (kind : Kind) (feed : R → Feed) (old new : Source R) (run : List ℕ) (c : ℕ) → ReadsRun kind feed old new run (Some c) → c ≡ 10 → ReadsToEnding feed old new run (10 ∷ [])
run_to_newline kind feed old new run c reads newline =
    let line = subst (λ b. ReadsRun kind feed old new run (Some b)) newline reads in
    record { takes = line.takes; ends = refl; spends = line.spends }

pub in_line_stop : (c : ℕ) → is_of InLine c ≡ false → c ≡ 10
in_line_stop c h = grind (arith, eqb-true)

in_line_ending : {R : Type 0} (feed : R → Feed) (old new : Source R) (run : List ℕ) (stop : Option ℕ) → ReadsRun InLine feed old new run stop → ReadsToEnding feed old new run (line_end (is_some stop))
in_line_ending feed old new run None reads = run_to_end InLine feed old new run reads
in_line_ending feed old new run (Some c) reads = run_to_newline InLine feed old new run c reads (in_line_stop c reads.other)

-- and what is read to the end of its line after other bytes
pub to_ending_behind : {R : Type 0} (feed : R → Feed) (old mid new : Source R) (first text all stop : List ℕ) → Takes feed old mid first → budget old ≤ budget mid → ReadsToEnding feed mid new text stop → all ≡ first ++ text → ReadsToEnding feed old new all stop
to_ending_behind feed old mid new first text all stop takes spends reads e = record {
  takes = subst (λ t. Takes feed old new t) (sym (ap (λ t. t ++ stop) e ∙ append_assoc first text stop)) (takes_then feed old mid new first (text ++ stop) takes reads.takes);
  ends = reads.ends;
  spends = omega (arith, spends, reads.spends);
}

-- after the byte that a run stopped at
behind_stop : {R : Type 0} (kind : Kind) (feed : R → Feed) (old mid new : Source R) (run text stop : List ℕ) (c : ℕ) → ReadsRun kind feed old mid run (Some c) → ReadsToEnding feed mid new text stop → ReadsToEnding feed old new (run ++ c ∷ text) stop
behind_stop kind feed old mid new run text stop c a b = to_ending_behind feed old mid new (run ++ c ∷ []) text (run ++ c ∷ text) stop a.takes (omega (arith, a.spends)) b (sym (append_assoc run (c ∷ []) text))

lacks_behind : (run text : List ℕ) (c : ℕ) → Lacks is_newline run → is_newline c ≡ false → Lacks is_newline text → Lacks is_newline (run ++ c ∷ text)
lacks_behind run text c a h b = lacks_append run (c ∷ text) a (lacks_append (c ∷ []) text (lacks_one c h) b)

pub other_than : (c d : ℕ) → c ≢ d → (c == d) ≡ false
other_than c d h = grind arith

-- ---- a value

pub value_some : {R : Type 0} (feed : R → Feed) (old mid new : Source R) (blanks bytes value : List ℕ) (c : ℕ) (stop : Option ℕ) → ReadsRun Blank feed old mid blanks (Some c) → c ≢ 10 → ReadsRun InLine feed mid new bytes stop → value ≡ c ∷ bytes → ReadsValue feed old new value (line_end (is_some stop))
value_some feed old mid new blanks bytes value c stop a h b e =
    let other : is_blank c ≡ false = a.other in
    subst (λ v. ReadsValue feed old new v (line_end (is_some stop))) (sym e) (record {
      blanks = blanks;
      each = a.each;
      begins = rw other refl;
      whole = lacks_append (c ∷ []) bytes (lacks_one c (other_than c 10 h)) (run_lacks InLine bytes b.each);
      reads = behind_stop Blank feed old mid new blanks bytes (line_end (is_some stop)) c a (in_line_ending feed mid new bytes stop b);
    })

-- ---- a record after its first byte

first_lacks : (first : ℕ) (word : List ℕ) → is_of InWord first ≡ true → AllPass (is_of InWord) word → Lacks is_blank (first ∷ word)
first_lacks first word h each = All-append (λ c. is_blank c ≡ false) (first ∷ []) word (All-push (λ c. is_blank c ≡ false) [] first (All-nil _) (word_no_blank first h)) (word_lacks word each)

pub pair_none : {R : Type 0} (feed : R → Feed) (old new : Source R) (word stop : List ℕ) (first : ℕ) → is_of InWord first ≡ true → AllPass (is_of InWord) word → ReadsToEnding feed old new word stop → ReadsPair feed old new first (record { key = first ∷ word; value = [] }) stop
pair_none feed old new word stop first h each reads = record {
  tail = word;
  whole = run_lacks InWord word each;
  pair = ap line_pair (sym (append-nil (first ∷ word))) ∙ line_pair-key (first ∷ word) [] (first_lacks first word h each) refl;
  reads = reads;
}

pub word_stop : (c : ℕ) → is_of InWord c ≡ false → (c == 10) ≡ false → is_blank c ≡ true
word_stop c h other = grind arith

pub pair_value : {R : Type 0} (feed : R → Feed) (old mid new : Source R) (word value stop : List ℕ) (first c : ℕ) → is_of InWord first ≡ true → ReadsRun InWord feed old mid word (Some c) → c ≢ 10 → ReadsValue feed mid new value stop
    → ReadsPair feed old new first (record { key = first ∷ word; value = value }) stop
pair_value feed old mid new word value stop first c h a other b =
    let no_newline = other_than c 10 other in
    let blank : is_blank c ≡ true = word_stop c a.other no_newline in
    let blanks : AllPass is_blank (c ∷ b.blanks) = All-append (λ c. is_blank c ≡ true) (c ∷ []) b.blanks (All-push (λ c. is_blank c ≡ true) [] c (All-nil _) blank) b.each in
    let v : behind_blanks (c ∷ (b.blanks ++ value)) ≡ value = behind_blanks-run (c ∷ b.blanks) value blanks b.begins in
    record {
      tail = word ++ c ∷ (b.blanks ++ value);
      whole = lacks_behind word (b.blanks ++ value) c (run_lacks InWord word a.each) no_newline (lacks_append b.blanks value (run_lacks Blank b.blanks b.each) b.whole);
      pair = line_pair-key (first ∷ word) (c ∷ (b.blanks ++ value)) (first_lacks first word h a.each) (rw blank refl) ∙ ap (λ t. let p : KeyValue = record { key = first ∷ word; value = t } in p) v;
      reads = behind_stop InWord feed old mid new word (b.blanks ++ value) stop c a b.reads;
    }

-- in the bytes of a record in memory
pub pair_is : {R : Type 0} (feed : R → Feed) (old new : Source R) (first : ℕ) (k v key value stop : List ℕ) → ReadsPair feed old new first (record { key = k; value = v }) stop → key ≡ k → value ≡ v → ReadsPair feed old new first (record { key = key; value = value }) stop
pair_is feed old new first k v key value stop p ek ev =
    let q = subst (λ t. ReadsPair feed old new first (record { key = t; value = v }) stop) (sym ek) p in
    subst (λ t. ReadsPair feed old new first (record { key = key; value = t }) stop) (sym ev) q

-- ---- a line

blank_ignored : (blanks : List ℕ) → AllPass is_blank blanks → IsIgnoredLine blanks
blank_ignored blanks each = record { whole = run_lacks Blank blanks each; none = blank_line blanks each }

noted_ignored : (blanks bytes : List ℕ) → AllPass is_blank blanks → AllPass (is_of InLine) bytes → IsIgnoredLine (blanks ++ 35 ∷ bytes)
noted_ignored blanks bytes each rest = record {
  whole = lacks_behind blanks bytes 35 (run_lacks Blank blanks each) refl (run_lacks InLine bytes rest);
  none = noted_line blanks bytes each;
}

pub line_last : {R : Type 0} (feed : R → Feed) (old new : Source R) (blanks : List ℕ) (r : KeyValue) → ReadsRun Blank feed old new blanks None → ReadsLine feed old new r Last
line_last feed old new blanks r a = (blanks, blank_ignored blanks a.each, run_to_end Blank feed old new blanks a)

pub line_ignored : {R : Type 0} (feed : R → Feed) (old new : Source R) (blanks : List ℕ) (c : ℕ) (r : KeyValue) → ReadsRun Blank feed old new blanks (Some c) → c ≡ 10 → ReadsLine feed old new r Ignored
line_ignored feed old new blanks c r a h = (blanks, blank_ignored blanks a.each, run_to_newline Blank feed old new blanks c a h)

pub note_last : {R : Type 0} (feed : R → Feed) (old mid new : Source R) (blanks bytes : List ℕ) (c : ℕ) (r : KeyValue) → ReadsRun Blank feed old mid blanks (Some c) → c ≡ 35 → ReadsRun InLine feed mid new bytes None → ReadsLine feed old new r Last
note_last feed old mid new blanks bytes c r a h b =
    let note = subst (λ b. ReadsRun Blank feed old mid blanks (Some b)) h a in
    (blanks ++ 35 ∷ bytes, noted_ignored blanks bytes a.each b.each, behind_stop Blank feed old mid new blanks bytes [] 35 note (run_to_end InLine feed mid new bytes b))

pub note_ignored : {R : Type 0} (feed : R → Feed) (old mid new : Source R) (blanks bytes : List ℕ) (c d : ℕ) (r : KeyValue) → ReadsRun Blank feed old mid blanks (Some c) → c ≡ 35 → ReadsRun InLine feed mid new bytes (Some d) → ReadsLine feed old new r Ignored
note_ignored feed old mid new blanks bytes c d r a h b =
    let note = subst (λ b. ReadsRun Blank feed old mid blanks (Some b)) h a in
    (blanks ++ 35 ∷ bytes, noted_ignored blanks bytes a.each b.each, behind_stop Blank feed old mid new blanks bytes (10 ∷ []) 35 note (run_to_newline InLine feed mid new bytes d b (in_line_stop d b.other)))

pub line_of_pair : {R : Type 0} (feed : R → Feed) (old mid new : Source R) (blanks stop : List ℕ) (c : ℕ) (r : KeyValue) → ReadsRun Blank feed old mid blanks (Some c) → c ≢ 10 → c ≢ 35 → ReadsPair feed mid new c r stop
    → (line : List ℕ) × IsLineOf r line × ReadsToEnding feed old new line stop
line_of_pair feed old mid new blanks stop c r a no_newline no_note b =
    let other : is_blank c ≡ false = a.other in
    let is : IsLineOf r (blanks ++ c ∷ b.tail) = record {
      whole = lacks_behind blanks b.tail c (run_lacks Blank blanks a.each) (other_than c 10 no_newline) b.whole;
      holds = kept_line blanks (c ∷ b.tail) r a.each (rw other refl) (other_than c 35 no_note) b.pair;
    } in
    (blanks ++ c ∷ b.tail, is, behind_stop Blank feed old mid new blanks b.tail stop c a b.reads)

-- a record's whole line, by one step
pub line_at_hand : {R : Type 0} (feed : R → Feed) (old new : Source R) (bytes : List ℕ) (n : ℕ) (r : KeyValue) → BeginsWithLine bytes n r → Takes feed old new (take n bytes)
    → new.taken ≡ old.taken + n → old.asks ≡ new.asks + n → ReadsLine feed old new r Pair
line_at_hand feed old new bytes n r begins takes counted asked = (
  begins.line,
  begins.is,
  record { takes = subst (λ t. Takes feed old new t) begins.front takes; ends = refl; spends = omega (arith, counted, asked) },
)

-- ---- lines

-- ignored lines were read so far
pub record LinesSoFar {R : Type 0} (feed : R → Feed) (old new : Source R) (ignored : List (List ℕ)) : Type 0 where
  pub are : All IsIgnoredLine ignored
  pub takes : Takes feed old new (with_newlines ignored)
  pub asks : new.asks ≤ old.asks
  pub spends : budget old ≤ budget new

with_newlines-push : (lines : List (List ℕ)) (line : List ℕ) → with_newlines (lines ++ line ∷ []) ≡ with_newlines lines ++ (line ++ 10 ∷ [])
with_newlines-push lines line = flat_map-append (λ l. l ++ 10 ∷ []) lines (line ∷ []) ∙ ap (λ t. with_newlines lines ++ t) (append-nil (line ++ 10 ∷ []))

pub lines_more : {R : Type 0} (feed : R → Feed) (old mid new : Source R) (ignored : List (List ℕ)) (line : List ℕ) → LinesSoFar feed old mid ignored → IsIgnoredLine line → ReadsToEnding feed mid new line (10 ∷ []) → new.asks < mid.asks → LinesSoFar feed old new (ignored ++ line ∷ [])
lines_more feed old mid new ignored line so is reads fewer = record {
  are = All-push IsIgnoredLine ignored line so.are is;
  takes = subst (λ t. Takes feed old new t) (sym (with_newlines-push ignored line)) (takes_then feed old mid new (with_newlines ignored) (line ++ 10 ∷ []) so.takes reads.takes);
  asks = omega (arith, so.asks, fewer);
  spends = omega (arith, so.spends, reads.spends);
}

pub lines_fail : {R : Type 0} (feed : R → Feed) (old mid new : Source R) (ignored : List (List ℕ)) (f : TextFault) → LinesSoFar feed old mid ignored → LeavesAmid (Lacks is_newline) feed mid new f → LeavesAmid IsAmidLines feed old new f
lines_fail feed old mid new ignored f so l =
    leaves_behind (Lacks is_newline) IsAmidLines feed old mid new (with_newlines ignored) f so.takes so.spends
    (λ bytes lacks. record { ignored = ignored; part = bytes; are_ignored = so.are; within = lacks; bytes_are = refl }) l

-- and after them the line of a record
pub lines_found : {R : Type 0} (feed : R → Feed) (old mid new : Source R) (ignored : List (List ℕ)) (line stop : List ℕ) (r : KeyValue) → LinesSoFar feed old mid ignored → IsLineOf r line → ReadsToEnding feed mid new line stop → ReadsLinesOf feed old new r stop
lines_found feed old mid new ignored line stop r so is reads = record {
  ignored = ignored;
  line = line;
  are_ignored = so.are;
  is = is;
  reads = to_ending_behind feed old mid new (with_newlines ignored) line (with_newlines ignored ++ line) stop so.takes so.spends reads refl;
}
