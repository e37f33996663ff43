-- Texts are read in one way.
use Rattle.cdb_form.proofs.Words.{AllByRecursion, AllDigits, IsRecord, KeyValue, List, [], arith, decimal, digits_value, length, lit<, map, refl, suc, zero, ℕ, ◌<◌, ◌^◌, ◌∷◌, ◌≡◌}
use Rattle.std.proofs.lemmas.Str.Parse.{IsNumeralModel}
use Rattle.std.proofs.lemmas.Fmt.{digits_decimal, digits_value-decimal}
use Rattle.std.specs.Fmt.{digits}
use Rattle.cdb_form.specs.Text.Parse.{Change, Putting, Removing, SpellsChange, SpellsRemoval, SpelledChanges, change_line, removal_line}
use Rattle.cdb_form.specs.Text.Native.{IsNumeral, Spells, Spelled, spelling_of}
use Rattle.cdb_form.specs.Laws.Text.{LengthsFit, KeyFits, TextReadsBack, ChangesReadBack, AmendsByPuts}
use Rattle.cdb_form.proofs.NativeTexts.Spelling.{records, changes}
use Rattle.cdb_form.proofs.NativeTexts.WholeForm.{is_read_as, lines_read}

own : IsNumeralModel (AllDigits 10) (digits_value 10)
own = record { to = λ ds d. d; from = λ ds d. d; same = λ ds d. refl }

some_digits : (ds : List ℕ) (n : ℕ) → digits_value 10 ds ≡ suc n → 0 < length ds
some_digits [] n h = absurd (omega (arith, h))
some_digits (d ∷ ds) n h = omega arith

decimal_some : (n : ℕ) → n < 2 ^ 64 → 0 < length (decimal n)
unfolding digits
decimal_some zero h = lit< tt
decimal_some (suc n) h = some_digits (decimal (suc n)) n (digits_value-decimal own (suc n) h)

numeral : (n : ℕ) → n < 2 ^ 64 → IsNumeral (decimal n) n
numeral n h = record { some = decimal_some n h; each = digits_decimal own n h; value = digits_value-decimal own n h }

pub spells : (g : ℕ) (r : KeyValue) → g < 2 ^ 64 → IsRecord r → LengthsFit g r → Spells g (spelling_of r) r
spells g r h bytes fit = record {
  klen = decimal (length r.key);
  vlen = decimal (length r.value);
  klen_is = numeral (length r.key) (omega (arith, fit.key));
  vlen_is = numeral (length r.value) (omega (arith, fit.value));
  key_fits = fit.key;
  value_fits = fit.value;
  bytes = bytes;
  text_is = refl;
}

spell_each : (g : ℕ) (rs : List KeyValue) → g < 2 ^ 64 → AllByRecursion IsRecord rs → AllByRecursion (LengthsFit g) rs → AllByRecursion (λ r. Spells g (spelling_of r) r) rs
spell_each g [] h bytes fit = tt
spell_each g (r ∷ rs) h bytes fit = (spells g r h bytes.0 fit.0, spell_each g rs h bytes.1 fit.1)

pub text_reads_back : (g : ℕ) (rs : List KeyValue) (rest : List ℕ) → g < 2 ^ 64 → AllByRecursion IsRecord rs → AllByRecursion (LengthsFit g) rs → TextReadsBack g rs rest
text_reads_back g rs rest h bytes fit = lines_read Spells records spelling_of g rs rest (spell_each g rs h bytes fit)

-- ---- amending texts

spells_removal : (g : ℕ) (key : List ℕ) → g < 2 ^ 64 → KeyFits g key → SpellsRemoval g (removal_line key) key
spells_removal g key h fit = record {
  klen = decimal (length key);
  klen_is = numeral (length key) (omega (arith, fit.length_fits));
  key_fits = fit.length_fits;
  bytes = fit.bytes;
  text_is = refl;
}

-- a put is of bytes, as the types have it, and fits; or a removal fits
abbrev pub IsFitting : ℕ → Change → Type 0
IsFitting g (Putting r) = IsRecord r × LengthsFit g r
IsFitting g (Removing key) = KeyFits g key

spells_change : (g : ℕ) (change : Change) → g < 2 ^ 64 → IsFitting g change → SpellsChange g (change_line change) change
spells_change g (Putting r) h fit = spells g r h fit.0 fit.1
spells_change g (Removing key) h fit = spells_removal g key h fit

spell_changes : (g : ℕ) (xs : List Change) → g < 2 ^ 64 → AllByRecursion (IsFitting g) xs → AllByRecursion (λ change. SpellsChange g (change_line change) change) xs
spell_changes g [] h fit = tt
spell_changes g (change ∷ xs) h fit = (spells_change g change h fit.0, spell_changes g xs h fit.1)

pub changes_read_back : (g : ℕ) (xs : List Change) (rest : List ℕ) → g < 2 ^ 64 → AllByRecursion (IsFitting g) xs → ChangesReadBack g xs rest
changes_read_back g xs rest h fit = lines_read SpellsChange changes change_line g xs rest (spell_changes g xs h fit)

-- ---- a native text is an amending one, and its records are puts

pub spelled_puts : (g : ℕ) (rs : List KeyValue) (t rest : List ℕ) → Spelled g rs t rest → SpelledChanges g (map Putting rs) t rest
spelled_puts g [] t rest e = e
spelled_puts g (r ∷ rs) t rest (first, more, sp, e, reads) = (first, more, sp, e, spelled_puts g rs more rest reads)

spelled_records : (g : ℕ) (rs : List KeyValue) (t rest : List ℕ) → SpelledChanges g (map Putting rs) t rest → Spelled g rs t rest
spelled_records g [] t rest e = e
spelled_records g (r ∷ rs) t rest (first, more, sp, e, reads) = (first, more, sp, e, spelled_records g rs more rest reads)

pub amends_by_puts : (g : ℕ) (t : List ℕ) → AmendsByPuts g t
amends_by_puts g t = record {
  puts = λ rs rest reads. is_read_as SpellsChange changes g (map Putting rs) t rest (spelled_puts g rs t (10 ∷ rest) reads);
  records = λ rs rest reads. spelled_records g rs t (10 ∷ rest) reads;
}
