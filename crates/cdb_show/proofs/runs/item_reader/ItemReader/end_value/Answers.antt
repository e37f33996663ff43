use Rattle.cdb_form.specs.Format.{record_of}
use Rattle.cdb_show.proofs.ItemInputs.{amid_form, amid_no_map, form_fails, form_puts}
use Rattle.cdb_show.proofs.runs.item_reader.ItemReader.end_value.Goals as goal

pub end_value-requires : goal.end_value-requires
end_value-requires g c =
    let h = c.requires.whole in
    let a = amid_form g.L.Width.GREATEST g.F.Feeds.feed c.in-Form.removals h.0 c.args.self.now c.in-Form.reader h.1 h.2 h.3 c.in-Form.is h.4 in
    record { whole = (a.text, h.1, h.2, h.3, a.amid, h.5) }

pub unreachable-requires : goal.unreachable-requires
unreachable-requires g c =
    let h = c.requires.whole in
    amid_no_map g.L.Width.GREATEST g.F.Feeds.feed h.0 c.args.self.now _ h.1 h.2 h.3 c.in-Map.is h.4

pub returns-clause-gives : goal.returns-clause-gives
returns-clause-gives g c = λ first key vlen got amid long.
    let removals = c.in-Form.removals in
    let a = amid_form g.L.Width.GREATEST g.F.Feeds.feed removals first c.args.self.now c.in-Form.reader key vlen got c.in-Form.is amid in
    form_puts g.L.Width.GREATEST g.F.Feeds.feed removals first a.text c.end_value.new.self _ (record_of key got) a.is (c.end_value.ensures.gives a.text key vlen got a.amid long)

pub returns-clause-fails : goal.returns-clause-fails
returns-clause-fails g c = λ first key vlen got amid long.
    let removals = c.in-Form.removals in
    let a = amid_form g.L.Width.GREATEST g.F.Feeds.feed removals first c.args.self.now c.in-Form.reader key vlen got c.in-Form.is amid in
    form_fails g.L.Width.GREATEST g.F.Feeds.feed removals first a.text c.end_value.new.self _ a.is (c.end_value.ensures.fails a.text key vlen got removals a.amid long)
