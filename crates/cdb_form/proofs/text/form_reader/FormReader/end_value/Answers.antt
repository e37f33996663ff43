use Rattle.cdb_form.proofs.Words.{FailsByte, Spells, SpellsChange, refl}
use Rattle.cdb_form.specs.Format.{record_of}
use Rattle.cdb_form.specs.Text.Parse.{Putting}
use Rattle.cdb_form.specs.Views.FormReader.{taken_of}
use Rattle.cdb_form.proofs.NativeTexts.LongValues.{amid_ends, amid_fails, amid_place, newline_fails}
use Rattle.cdb_form.proofs.text.form_reader.FormReader.end_value.Goals as goal

pub returns-in-Ok-clause-gives : goal.returns-in-Ok-clause-gives
returns-in-Ok-clause-gives g c = λ first key vlen got amid long.
    let e = c.in-Ok.ensures in
    amid_ends SpellsChange (Putting (record_of key got)) g.L.Width.GREATEST g.R.Feeds.feed first c.args.self.now _ key vlen got (λ text spells. spells) amid long e.read e.counted amid.going e.fewer e.spends

pub returns-in-Ok-clause-gives_native : goal.returns-in-Ok-clause-gives_native
returns-in-Ok-clause-gives_native g c = λ first key vlen got amid long.
    let e = c.in-Ok.ensures in
    amid_ends Spells (record_of key got) g.L.Width.GREATEST g.R.Feeds.feed first c.args.self.now _ key vlen got (λ text spells. spells) amid long e.read e.counted amid.going e.fewer e.spends

pub returns-in-Err-clause-fails : goal.returns-in-Err-clause-fails
returns-in-Err-clause-fails g c = λ first key vlen got removals amid long.
    let e = c.in-Err.ensures in
    let place = amid_place g.L.Width.GREATEST g.R.Feeds.feed first c.args.self.now key vlen got amid in
    amid_fails removals g.L.Width.GREATEST g.R.Feeds.feed first c.args.self.now _ key vlen got c.in-Err.fault (FailsByte 10 (taken_of c.args.self.now)) amid refl e.fails e.leaves e.later
    (λ text h. newline_fails vlen _ _ got text _ amid.are long place h)
