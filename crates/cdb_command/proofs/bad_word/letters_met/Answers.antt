use Rattle.std.proofs.Common.{rules, ◌≡◌, ◌∙◌, sym, ap, subst, ℕ, List, IsUtf8, chars, drop, refl, true, false, ◌∷◌, Ok, Err, Result, is_some}
use Rattle.std.proofs.lemmas.Str.{IsUtf8-past_char, chars_past_char}
use Rattle.cdb_command.specs.Refused.{Refused, refused_in}
use Rattle.cdb_command.specs.BadWord.{letter_met, letters_met, none_waits}
use Rattle.cdb_command.specs.declared.bad_word.Values.{Values}
use Rattle.cdb_command.proofs.Characters.{first_off, no_chars}
use Rattle.cdb_command.proofs.bad_word.letters_met.Goals as goal

value_came : (v : Values) (letter : ℕ) (letters : List ℕ) → is_some v.waiting ≡ true
    → letters_met v (letter ∷ letters) ≡ Ok (none_waits v)
value_came v letter letters h = rw h refl

refused_there : (v : Values) (letter : ℕ) (letters : List ℕ) (refused : Refused)
    → is_some v.waiting ≡ false → letter_met v letter ≡ Err refused
    → letters_met v (letter ∷ letters) ≡ Err refused
refused_there v letter letters refused h e = rw (h, e) refl

goes_on : (v after : Values) (letter : ℕ) (letters : List ℕ) → is_some v.waiting ≡ false
    → letter_met v letter ≡ Ok after → letters_met v (letter ∷ letters) ≡ letters_met after letters
goes_on v after letter letters h e = rw (h, e) refl

pub loop-letter-init : goal.loop-letter-init
loop-letter-init c =
    let utf8 : IsUtf8 c.chars-letters.result.rest.now = subst IsUtf8 (sym c.chars-letters.ensures.rest) c.utf8.word in
    let off = first_off c.chars-letters.result c.next.new.self c.next.result utf8 c.next.ensures.steps in
    let same = c.into_iter-letter-iterator.ensures.into_iter_gives in
    (rw same off.0, rw (same, off.1, c.chars-letters.ensures.rest) refl)

pub returns-then-is_some : goal.returns-then-is_some
returns-then-is_some c =
    let held = c.loop-letter.invariant in
    let step = chars_past_char _ _ c.in-Some.letter held.0 c.in-Some.ensures.steps.0 in
    let waits : is_some c.loop-letter.values.waiting ≡ true = sym c.is_some.ensures ∙ c.if-is_some.true in
    let came = value_came c.loop-letter.values c.in-Some.letter (chars c.next-in-loop-letter.new.self.rest.now) waits in
    ap (λ v. let r : Result Values Refused = Ok v in r) c.none_waits.ensures ∙ sym came
    ∙ ap (letters_met c.loop-letter.values) (sym step) ∙ held.1

pub returns-in_err-values : goal.returns-in_err-values
returns-in_err-values c =
    let held = c.loop-letter.invariant in
    let step = chars_past_char _ _ c.in-Some.letter held.0 c.in-Some.ensures.steps.0 in
    let waits : is_some c.loop-letter.values.waiting ≡ false = sym c.is_some.ensures ∙ c.if-is_some.false in
    let there = refused_there c.loop-letter.values c.in-Some.letter (chars c.next-in-loop-letter.new.self.rest.now)
    (refused_in c.in_err-values.field-0.0) waits (sym c.in_err-values.ensures) in
    let all : Err (refused_in c.in_err-values.field-0.0) ≡ letters_met c.args.values (drop 1 (chars c.args.word.now)) =
    sym there ∙ ap (letters_met c.loop-letter.values) (sym step) ∙ held.1 in
    search rules

pub loop-letter-preserved : goal.loop-letter-preserved
loop-letter-preserved c =
    let held = c.loop-letter.invariant in
    let parts = c.in-Some.ensures.steps.0 in
    let step = chars_past_char _ _ c.in-Some.letter held.0 parts in
    let waits : is_some c.loop-letter.values.waiting ≡ false = sym c.is_some.ensures ∙ c.if-is_some.false in
    let goes = goes_on c.loop-letter.values c.in_ok-values.values c.in-Some.letter (chars c.next-in-loop-letter.new.self.rest.now) waits
    (sym c.in_ok-values.ensures) in
    (IsUtf8-past_char _ _ c.in-Some.letter held.0 parts, sym goes ∙ ap (letters_met c.loop-letter.values) (sym step) ∙ held.1)

pub returns : goal.returns
returns c = rw (no_chars _ c.in-None.ensures.steps.0.0) at c.loop-letter.invariant.1
