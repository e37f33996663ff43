use Rattle.cdb_form.proofs.Words.{arith, length, length-take-le, refl, take, take-append-le, ◌∙◌, ◌≡◌}
use Rattle.cdb_form.specs.Views.FormReader.{taken_of}
use Rattle.cdb_form.specs.Views.NativeParser.{FailsBytes}
use Rattle.cdb_form.proofs.NativeTexts.LongValues.{amid_fails, amid_more, amid_place, piece_fails}
use Rattle.cdb_form.proofs.text.form_reader.FormReader.read_value.Goals as goal

pub returns-in-Ok-clause-reads : goal.returns-in-Ok-clause-reads
returns-in-Ok-clause-reads g c = λ first key vlen got amid left.
    let e = c.in-Ok.ensures in
    let n = c.in-Ok.n in
    let piece = c.some_bytes.new.into in
    let room : length piece ≡ c.min-most.result = c.some_bytes.auto.into ∙ length-take-le c.min-most.result c.args.into.now (omega (arith, c.min-most.ensures)) in
    let long : length (take n piece) ≡ n = length-take-le n piece e.bound.1 in
    rw (take-append-le n piece _ e.bound.1)
    (amid_more g.L.Width.GREATEST g.R.Feeds.feed first c.args.self.now _ key vlen got (take n piece) amid e.read e.are
    (omega (arith, long, e.bound, room, c.min-most.ensures, left, amid.within)) (omega (arith, long, e.counted)) amid.going e.fewer e.spends)

pub returns-in-Err-clause-fails : goal.returns-in-Err-clause-fails
returns-in-Err-clause-fails g c = λ first key vlen got removals amid.
    let e = c.in-Err.ensures in
    let place = amid_place g.L.Width.GREATEST g.R.Feeds.feed first c.args.self.now key vlen got amid in
    amid_fails removals g.L.Width.GREATEST g.R.Feeds.feed first c.args.self.now _ key vlen got c.in-Err.fault (FailsBytes 1 (taken_of c.args.self.now)) amid refl e.fails e.leaves e.later
    (λ text h. piece_fails vlen _ _ got text _ amid.are amid.within place h)
