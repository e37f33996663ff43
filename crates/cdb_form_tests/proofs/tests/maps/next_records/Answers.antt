use Rattle.std.proofs.Common.{List, ◌++◌, ◌∷◌, [], ◌∙◌, ◌≡◌, ap, subst, sym}
use Rattle.std.proofs.lemmas.List.{map-append}
use Rattle.std.proofs.lemmas.Result.{err_from_is_err_and}
use Rattle.cdb_form.specs.Views.MapReader.{reader_of}
use Rattle.cdb_form.specs.Views.Pairs.{key_value, key_values}
use Rattle.cdb_form.specs.declared.record.Record.{Record}
use Rattle.cdb_form_tests.proofs.WholeMaps.{Gave, gave_all, gave_amid, gave_ended, gave_more, gave_none, gave_rest}
use Rattle.cdb_form_tests.proofs.tests.maps.next_records.Goals as goal

pushed : (old new : List Record) (r : Record) → new ≡ old ++ r ∷ [] → key_values new ≡ key_values old ++ key_value r ∷ []
pushed old new r e = ap key_values e ∙ map-append key_value old (r ∷ [])

pub returns-in_err-record-clause-amid : goal.returns-in_err-record-clause-amid
returns-in_err-record-clause-amid g c =
    let p = err_from_is_err_and c.from_residual.result c.from_residual.ensures.1 in
    rw (p.1, p.2) (λ other. gave_amid g.F.Feeds.feed _ c.loop.maps _ (key_values c.loop.given.items) _ c.loop.invariant c.in_err-record.ensures.fails other)

pub returns-in-None-clause-all : goal.returns-in-None-clause-all
returns-in-None-clause-all g c =
    let end = rw c.in-None.is at c.in_ok-record.ensures.gives in
    λ ended. gave_all g.F.Feeds.feed _ c.loop.maps _ (key_values c.loop.given.items) c.loop.invariant end

pub loop-init : goal.loop-init
loop-init g c = rw c.new-given.ensures.items (gave_none g.F.Feeds.feed c.args.maps.now c.requires)

pub loop-preserved : goal.loop-preserved
loop-preserved g c =
    let one = rw c.in-Some.is at c.in_ok-record.ensures.gives in
    let items = pushed c.loop.given.items _ c.in-Some.record c.in_ok-push-in-Some.ensures.items in
    subst (Gave g.F.Feeds.feed (g.F.Feeds.feed (reader_of c.args.maps.now)) c.next.new.self) (sym items) (gave_more g.F.Feeds.feed _ c.loop.maps c.next.new.self (key_values c.loop.given.items) _ c.loop.invariant one)

pub returns-clause-some : goal.returns-clause-some
returns-clause-some g c = λ going. gave_rest g.F.Feeds.feed _ c.loop.maps (key_values c.loop.given.items) c.loop.invariant going

pub returns-clause-all : goal.returns-clause-all
returns-clause-all g c = λ ended. gave_ended g.F.Feeds.feed _ c.loop.maps (key_values c.loop.given.items) c.loop.invariant ended
