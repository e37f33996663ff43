-- A whole map text, record after record, whatever bytes agree with what was taken.
use Rattle.std.proofs.Common.{List, ◌++◌, ◌∷◌, [], ◌∙◌, ◌≡◌, ◌≢◌, ◌⊎◌, ap, append-nil, inl, inr, refl, subst, sym, ℕ}
use Rattle.std.specs.Prelude.{All}
use Rattle.cdb_form.specs.Format.{KeyValue}
use Rattle.cdb_form.specs.Text.Map.{IsIgnoredLine, IsLineOf, map_lines, with_newlines}
use Rattle.cdb_form.specs.Views.Feed.{Consumes, Feed, FromTo}
use Rattle.cdb_form.specs.Views.MapParser.{EndsLine, ReadsToEnding}
use Rattle.cdb_form.specs.Views.MapReader.{Fails, GivesEnd, GivesRecord, GoesOn, HasEnded, IsGoing, ReadAmid, ReadLines, reader_of}
use Rattle.cdb_form.specs.declared.text.fault.TextFault.{TextFault}
use Rattle.cdb_form.specs.declared.text.fault.TextFault.TheVariants.{NoMemory}
use Rattle.cdb_form.specs.declared.text.map_reader.MapReader.{MapReader}
use Rattle.cdb_form.proofs.Fed.FeedLemmas.{from_kept, from_taken, from_then, from_weaker, nothing_taken}
use Rattle.cdb_form.proofs.MapTexts.WholeMap.{going_on, read_amid, read_last, read_more, read_none, read_rest}

-- it goes on after these records, or its input has ended and they are all
abbrev pub Gave : {R : Type 0} → (R → Feed) → (start : Feed) → MapReader R → List KeyValue → Type 0
Gave feed start t rs =
    (IsGoing t × FromTo start (feed (reader_of t)) (λ text rest. ReadLines text rest rs))
    ⊎ (HasEnded t × FromTo start (feed (reader_of t)) (λ text rest. map_lines text ≡ rs))

-- ---- how a line ends

abbrev EndsAt : (ending rest : List ℕ) → Type 0
EndsAt [] rest = rest ≡ []
EndsAt (c ∷ bytes) rest = c ∷ bytes ≡ 10 ∷ []

ends_at : (new : Feed) (ending : List ℕ) → new.known → (whole rest : List ℕ) → new.may whole rest → EndsLine ending new → EndsAt ending rest
ends_at new [] k whole rest m e = e k whole rest m
ends_at new (c ∷ bytes) k whole rest m e = e

to_ending : (old new : Feed) (bytes ending : List ℕ) → Consumes old new bytes → EndsLine ending new → FromTo old new (λ text rest. (text ≡ bytes ++ rest) × EndsAt ending rest)
to_ending old new bytes ending c e = record {
  known = c.known;
  back = λ k whole rest m. (bytes ++ rest, c.back k whole rest m, (refl, ends_at new ending (c.known k) whole rest m e));
}

module _ {R : Type 0} (feed : R → Feed) where
  pub gave_none : (t : MapReader R) → IsGoing t → Gave feed (feed (reader_of t)) t []
  gave_none t going = inl (going, from_kept (feed (reader_of t)) (feed (reader_of t)) (λ text rest. ReadLines text rest []) (nothing_taken (feed (reader_of t))) read_none)

  -- ---- one record more

  to_line : (start : Feed) (t u : MapReader R) (rs : List KeyValue) (r : KeyValue) (ignored : List (List ℕ)) (line ending : List ℕ) → FromTo start (feed (reader_of t)) (λ text rest. ReadLines text rest rs)
      → All IsIgnoredLine ignored → IsLineOf r line → ReadsToEnding feed t.source u.source (with_newlines ignored ++ line) ending → GoesOn ending u → Gave feed start u (rs ++ r ∷ [])
  to_line start t u rs r ignored line [] so are is reads goes =
      let new = feed (reader_of u) in
      inr (
        goes,
        from_weaker start new _ (λ text rest. map_lines text ≡ rs ++ r ∷ [])
            (from_then start (feed (reader_of t)) new (λ text rest. ReadLines text rest rs) _ so (to_ending (feed (reader_of t)) new ((with_newlines ignored ++ line) ++ []) [] reads.takes.read reads.ends))
            (λ text rest s. read_last text s.0 rest rs (r ∷ []) ignored line s.1 are is.whole is.holds s.2.0 s.2.1),
      )
  to_line start t u rs r ignored line (c ∷ bytes) so are is reads goes =
      let new = feed (reader_of u) in
      let read : List ℕ = with_newlines ignored ++ line in
      inl (
        goes,
        from_weaker start new _ (λ text rest. ReadLines text rest (rs ++ r ∷ []))
            (from_then start (feed (reader_of t)) new (λ text rest. ReadLines text rest rs) _ so (to_ending (feed (reader_of t)) new (read ++ c ∷ bytes) (c ∷ bytes) reads.takes.read reads.ends))
            (λ text rest s. read_more text s.0 rest rs r ignored line s.1 are is (s.2.0 ∙ ap (λ e. (read ++ e) ++ rest) s.2.1)),
      )

  pub gave_more : (start : Feed) (t u : MapReader R) (rs : List KeyValue) (r : KeyValue) → Gave feed start t rs → GivesRecord feed t u r → Gave feed start u (rs ++ r ∷ [])
  gave_more start t u rs r h m = elim h [
    | inl so ↦ to_line start t u rs r m.reads.ignored m.reads.line m.ending so.1 m.reads.are_ignored m.reads.is m.reads.reads m.going
    | inr ended ↦ absurd (going_on t m.was ended.0)
  ]

  -- ---- the end

  pub gave_all : (start : Feed) (t u : MapReader R) (rs : List KeyValue) → Gave feed start t rs → GivesEnd feed t u → FromTo start (feed (reader_of u)) (λ text rest. map_lines text ≡ rs)
  gave_all start t u rs h m = elim h [
    | inl so ↦
        let all = m.reads so.0 in
        let mid = feed (reader_of t) in
        let new = feed (reader_of u) in
        from_weaker start new _ (λ text rest. map_lines text ≡ rs)
        (from_then start mid new (λ text rest. ReadLines text rest rs) _ so.1 (to_ending mid new ((with_newlines all.ignored ++ all.line) ++ []) [] all.reads.takes.read all.reads.ends))
        (λ text rest s. read_last text s.0 rest rs [] all.ignored all.line s.1 all.are_ignored all.is.whole all.is.none s.2.0 s.2.1 ∙ append-nil rs)
    | inr ended ↦ subst (λ v. FromTo start (feed (reader_of v)) (λ text rest. map_lines text ≡ rs)) (sym (m.stays ended.0)) ended.1
  ]

  -- if it goes on, the others follow
  pub gave_rest : (start : Feed) (t : MapReader R) (rs : List KeyValue) → Gave feed start t rs → IsGoing t → FromTo start (feed (reader_of t)) (λ text rest. map_lines text ≡ rs ++ map_lines rest)
  gave_rest start t rs h going = elim h [
    | inl so ↦ from_weaker start (feed (reader_of t)) _ (λ text rest. map_lines text ≡ rs ++ map_lines rest) so.1 (λ text rest g. read_rest text rest rs g)
    | inr ended ↦ absurd (going_on t going ended.0)
  ]

  -- and if it has ended, none does
  pub gave_ended : (start : Feed) (t : MapReader R) (rs : List KeyValue) → Gave feed start t rs → HasEnded t → FromTo start (feed (reader_of t)) (λ text rest. map_lines text ≡ rs)
  gave_ended start t rs h end = elim h [
    | inl so ↦ absurd (going_on t so.0 end)
    | inr ended ↦ ended.1
  ]

  -- ---- a fault

  -- if the reader failed, the records are those of all whole lines that it gave
  pub gave_amid : (start : Feed) (t u : MapReader R) (rs : List KeyValue) (f : TextFault) → Gave feed start t rs → Fails feed t u f → f ≢ NoMemory → FromTo start (feed (reader_of u)) (λ text rest. (given : List KeyValue) × ReadAmid text rest given)
  gave_amid start t u rs f h m other = elim h [
    | inl so ↦
        let meets = m.meets so.0 in
        let mid = feed (reader_of t) in
        let new = feed (reader_of u) in
        from_weaker start new _ (λ text rest. (given : List KeyValue) × ReadAmid text rest given)
        (from_then start mid new (λ text rest. ReadLines text rest rs) (λ text rest. text ≡ meets.bytes ++ rest) so.1 (from_taken mid new meets.bytes (λ text rest. text ≡ meets.bytes ++ rest) meets.takes.read (λ rest. refl)))
        (λ text rest s. (rs, read_amid text s.0 rest meets.bytes rs s.1 meets.are s.2))
    | inr ended ↦ absurd (m.unended ended.0)
  ]
