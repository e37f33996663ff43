-- What a reader of a map text took of an input, whatever bytes agree with it.
use Rattle.std.proofs.Common.{◌+◌, ◌*◌, ◌≤◌, ap, append-nil, append_assoc, arith, length, length-append, ◌∙◌}
use Rattle.cdb_show.proofs.Words.{Consumes, Feed, FromTo, HasInputFault, InputsBeginWith, IsInput, IsOfText, KeyValue, List, MapReader, TextFault, [], budget, from_kept, from_then, from_weaker, going_on, inl, inr, map_lines, nothing_taken, refl, subst, sym, with_newlines, ℕ, ◌++◌, ◌^◌, ◌∷◌, ◌≡◌, ◌≢◌, ◌⊎◌}
use Rattle.std.specs.Prelude.{All}
use Rattle.cdb_form.specs.Text.Map.{IsIgnoredLine, IsLineOf}
use Rattle.cdb_form.specs.Views.Feed.{IsAtEnd}
use Rattle.cdb_form.specs.Views.MapParser.{ReadsToEnding}
use Rattle.cdb_form.specs.Views.MapReader.{Fails, GivesEnd, GivesRecord, GivesRecords, GoesOn, HasEnded, IsGoing, ReadAmid, ReadLines, asks_left, taken_of}
use Rattle.cdb_form.specs.Views.Source.{Takes}
use Rattle.cdb_form.specs.declared.text.fault.TextFault.TheVariants.{Input, NoMemory}
use Rattle.cdb_form.proofs.MapTexts.WholeMap.{read_amid, read_before, read_both, read_last, read_more, read_none, read_rest}
use Rattle.cdb_command.specs.declared.style.Style.TheVariants as style
use Rattle.cdb_show.proofs.SpelledInputs.{from_after, from_lost}

-- of a text these records were given and so much is left; all that was taken is counted, and took 1001
-- requests a byte at most
pub record SoFar {R : Type 0} (t : MapReader R) (rs : List KeyValue) (text rest : List ℕ) : Type 0 where
  pub lines : ReadLines text rest rs
  pub counted : taken_of t + length rest ≡ length text
  pub asked : 2 ^ 48 ≤ asks_left t + 1001 * taken_of t

-- it goes on after these records, or its input has ended and they are all
abbrev pub GaveLines : {R : Type 0} → (R → Feed) → (start : Feed) → MapReader R → List KeyValue → Type 0
GaveLines feed start t rs =
    (IsGoing t × FromTo start (feed t.source.reader) (SoFar t rs))
    ⊎ (HasEnded t × FromTo start (feed t.source.reader) (IsInput style.Map 0 rs))

-- ---- the last line

to_end : (old new : Feed) (bytes : List ℕ) → Consumes old new bytes → IsAtEnd new → FromTo old new (λ text rest. (text ≡ bytes ++ rest) × (rest ≡ []))
to_end old new bytes c end = record {
  known = c.known;
  back = λ k whole rest m. (bytes ++ rest, c.back k whole rest m, (refl, end (c.known k) whole rest m));
}

-- ---- where nothing is left

none_of : {X : Type 0} (xs ys : List X) → xs ++ ys ≡ [] → (xs ≡ []) × (ys ≡ [])
none_of [] ys e = (refl, e)
none_of (x ∷ xs) ys e = absurd (let no : ⊥ = cc in no)

-- no record comes
none_left : (piece rest : List ℕ) (here : List KeyValue) → piece ++ rest ≡ [] → ReadLines piece [] here → (here ≡ []) × (rest ≡ [])
none_left piece rest here none lines =
    let all : here ++ map_lines rest ≡ [] = sym (read_rest (piece ++ rest) rest here (read_before piece rest here lines)) ∙ ap map_lines none in
    ((none_of here (map_lines rest) all).0, (none_of piece rest none).1)

module _ {R : Type 0} (feed : R → Feed) where
  pub lines_none : (t : MapReader R) → IsGoing t → taken_of t ≡ 0 → asks_left t ≡ 2 ^ 48 → GaveLines feed (feed t.source.reader) t []
  lines_none t going taken asks = inl (
    going,
    from_kept (feed t.source.reader) (feed t.source.reader) (SoFar t []) (nothing_taken (feed t.source.reader)) (λ text.
        record { lines = read_none text; counted = omega (arith, taken); asked = omega (arith, taken, asks) }),
  )

  -- ---- some records more

  to_lines : (start : Feed) (t u : MapReader R) (rs here : List KeyValue) (piece : List ℕ) → FromTo start (feed t.source.reader) (SoFar t rs) → ReadLines piece [] here → Takes feed t.source u.source piece → budget t.source ≤ budget u.source
      → FromTo start (feed u.source.reader) (SoFar u (rs ++ here))
  to_lines start t u rs here piece so lines takes spends =
      from_after start (feed t.source.reader) (feed u.source.reader) (SoFar t rs) (SoFar u (rs ++ here)) piece so takes.read
      (λ text rest s. record {
        lines = read_both text (piece ++ rest) rest rs here s.lines (read_before piece rest here lines);
        counted = omega (arith, s.counted, length-append piece rest, takes.counted);
        asked = omega (arith, s.asked, spends);
      })

  pub lines_each : (start : Feed) (t u : MapReader R) (rs here : List KeyValue) → GaveLines feed start t rs → GivesRecords feed t u here → GaveLines feed start u (rs ++ here)
  lines_each start t u rs here h m = elim h [
    | inl so ↦ inl (m.going ∙ so.0, to_lines start t u rs here m.text so.1 m.lines m.takes m.spends)
    | inr ended ↦ inr (
      m.going ∙ ended.0,
      from_after start (feed t.source.reader) (feed u.source.reader) (IsInput style.Map 0 rs) (IsInput style.Map 0 (rs ++ here)) m.text ended.1 m.takes.read
          (λ text rest s.
          let none = none_left m.text rest here s.1 m.lines in
          (s.0 ∙ sym (append-nil rs) ∙ ap (λ e. rs ++ e) (sym none.0), none.1)),
    )
  ]

  -- ---- one record more

  to_line : (start : Feed) (t u : MapReader R) (rs : List KeyValue) (r : KeyValue) (ignored : List (List ℕ)) (line ending : List ℕ) → FromTo start (feed t.source.reader) (SoFar t rs)
      → All IsIgnoredLine ignored → IsLineOf r line → ReadsToEnding feed t.source u.source (with_newlines ignored ++ line) ending → GoesOn ending u → GaveLines feed start u (rs ++ r ∷ [])
  to_line start t u rs r ignored line [] so are is reads goes =
      let mid = feed t.source.reader in
      let new = feed u.source.reader in
      inr (
        goes,
        from_weaker start new _ (IsInput style.Map 0 (rs ++ r ∷ []))
            (from_then start mid new (SoFar t rs) _ so (to_end mid new ((with_newlines ignored ++ line) ++ []) reads.takes.read reads.ends))
            (λ text rest s. (read_last text s.0 rest rs (r ∷ []) ignored line s.1.lines are is.whole is.holds s.2.0 s.2.1, s.2.1)),
      )
  to_line start t u rs r ignored line (c ∷ bytes) so are is reads goes =
      let read : List ℕ = with_newlines ignored ++ line in
      let piece : List ℕ = read ++ c ∷ bytes in
      let one : length (c ∷ bytes) ≡ 1 = ap length reads.ends in
      let whole : piece ≡ (read ++ 10 ∷ []) ++ [] = ap (λ e. read ++ e) reads.ends ∙ sym (append-nil (read ++ 10 ∷ [])) in
      inl (goes, to_lines start t u rs (r ∷ []) piece so (read_more piece piece [] [] r ignored line (read_none piece) are is whole) reads.takes (omega (arith, reads.spends, one)))

  pub lines_more : (start : Feed) (t u : MapReader R) (rs : List KeyValue) (r : KeyValue) → GaveLines feed start t rs → GivesRecord feed t u r → GaveLines feed start u (rs ++ r ∷ [])
  lines_more start t u rs r h m = elim h [
    | inl so ↦ to_line start t u rs r m.reads.ignored m.reads.line m.ending so.1 m.reads.are_ignored m.reads.is m.reads.reads m.going
    | inr ended ↦ absurd (going_on t m.was ended.0)
  ]

  -- ---- the end, and how far it is

  pub lines_all : (g : ℕ) (start : Feed) (t u : MapReader R) (rs : List KeyValue) → GaveLines feed start t rs → GivesEnd feed t u → FromTo start (feed u.source.reader) (IsInput style.Map g rs)
  lines_all g start t u rs h m = elim h [
    | inl so ↦
        let all = m.reads so.0 in
        let mid = feed t.source.reader in
        let new = feed u.source.reader in
        from_weaker start new _ (IsInput style.Map g rs)
        (from_then start mid new (SoFar t rs) _ so.1 (to_end mid new ((with_newlines all.ignored ++ all.line) ++ []) all.reads.takes.read all.reads.ends))
        (λ text rest s. (read_last text s.0 rest rs [] all.ignored all.line s.1.lines all.are_ignored all.is.whole all.is.none s.2.0 s.2.1 ∙ append-nil rs, s.2.1))
    | inr ended ↦ subst (λ v. FromTo start (feed v.source.reader) (IsInput style.Map g rs)) (sym (m.stays ended.0)) ended.1
  ]

  begins : (t : MapReader R) (rs : List KeyValue) (text rest : List ℕ) → SoFar t rs text rest → InputsBeginWith style.Map 0 rs text
  begins t rs text rest s = (map_lines rest, read_rest text rest rs s.lines)

  pub lines_begin : (g : ℕ) (start : Feed) (t : MapReader R) (rs : List KeyValue) → GaveLines feed start t rs → FromTo start (feed t.source.reader) (λ text rest. InputsBeginWith style.Map g rs text)
  lines_begin g start t rs h = elim h [
    | inl so ↦ from_weaker start (feed t.source.reader) _ (λ text rest. InputsBeginWith style.Map g rs text) so.1 (begins t rs)
    | inr ended ↦ from_weaker start (feed t.source.reader) _ (λ text rest. InputsBeginWith style.Map g rs text) ended.1 (λ text rest is. ([], is.0 ∙ sym (append-nil rs)))
  ]

  -- ---- a fault

  pub lines_fault : (g : ℕ) (start : Feed) (t u : MapReader R) (rs : List KeyValue) (f : TextFault) → GaveLines feed start t rs → Fails feed t u f → f ≢ NoMemory → FromTo start (feed u.source.reader) (λ text rest. HasInputFault style.Map g rs f text)
  lines_fault g start t u rs f h m other = elim h [
    | inl so ↦
        let meets = m.meets so.0 in
        from_after start (feed t.source.reader) (feed u.source.reader) (SoFar t rs) (λ text rest. HasInputFault style.Map g rs f text) meets.bytes so.1 meets.takes.read
        (λ text rest s.
        let amid : ReadAmid text rest rs = read_amid text (meets.bytes ++ rest) rest meets.bytes rs s.lines meets.are refl in
        let lines : List ℕ = with_newlines amid.lines.lines in
        let part : List ℕ = lines ++ amid.part in
        let whole : text ≡ part ++ rest = amid.lines.split ∙ sym (append_assoc lines amid.part rest) in
        let long : length text ≡ length part + length rest = ap length whole ∙ length-append part rest in
        record {
          of_text = λ is. absurd (meets.outside is);
          of_reader = λ is. record {
            part = part;
            more = rest;
            split = whole;
            amid = record {
              part = amid.part;
              lines = record { lines = amid.lines.lines; whole = amid.lines.whole; split = ap (λ t. lines ++ t) (sym (append-nil amid.part)); records = amid.lines.records };
              within = amid.within;
            };
            asked = λ endless. omega (arith, s.counted, s.asked, long, length-append meets.bytes rest, meets.takes.counted, meets.told.spent endless, meets.spends);
          };
        })
    | inr ended ↦ absurd (m.unended ended.0)
  ]

  pub lines_behind : (g : ℕ) (start : Feed) (t u : MapReader R) (rs : List KeyValue) (f : TextFault) → GaveLines feed start t rs → Fails feed t u f → FromTo start (feed u.source.reader) (λ text rest. InputsBeginWith style.Map g rs text)
  lines_behind g start t u rs f h m = elim h [
    | inl so ↦
        let meets = m.meets so.0 in
        from_lost start (feed t.source.reader) (feed u.source.reader) (SoFar t rs) (λ text. InputsBeginWith style.Map g rs text) meets.bytes so.1 meets.takes.read (begins t rs)
    | inr ended ↦ absurd (m.unended ended.0)
  ]

  -- a reader failed, if that is the fault
  pub lines_told : (start : Feed) (t u : MapReader R) (rs : List KeyValue) (f : TextFault) → GaveLines feed start t rs → Fails feed t u f → f ≡ Input → (feed u.source.reader).failed
  lines_told start t u rs f h m is = elim h [
    | inl so ↦ (m.meets so.0).told.failed is
    | inr ended ↦ absurd (m.unended ended.0)
  ]

  -- a map text has no fault of its own
  pub lines_own : (start : Feed) (t u : MapReader R) (rs : List KeyValue) (f : TextFault) → GaveLines feed start t rs → Fails feed t u f → IsOfText f → ⊥
  lines_own start t u rs f h m is = elim h [
    | inl so ↦ (m.meets so.0).outside is
    | inr ended ↦ m.unended ended.0
  ]
