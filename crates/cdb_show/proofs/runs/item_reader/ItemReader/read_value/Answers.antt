use Rattle.std.proofs.lemmas.Result.{IfOk-weaker}
use Rattle.cdb_show.proofs.ItemInputs.{amid_form, amid_no_map, form_amid, form_fails}
use Rattle.cdb_show.proofs.Words.{take, ◌++◌}
use Rattle.cdb_show.proofs.runs.item_reader.ItemReader.read_value.Goals as goal

pub read_value-requires-clause-amid : goal.read_value-requires-clause-amid
read_value-requires-clause-amid g c =
    let h = c.requires.amid in
    let a = amid_form g.L.Width.GREATEST g.F.Feeds.feed c.in-Form.removals h.0 c.args.self.now c.in-Form.reader h.1 h.2 h.3 c.in-Form.is h.4 in
    (a.text, h.1, h.2, h.3, a.amid, h.5)

pub unreachable-requires : goal.unreachable-requires
unreachable-requires g c =
    let h = c.requires.amid in
    amid_no_map g.L.Width.GREATEST g.F.Feeds.feed h.0 c.args.self.now _ h.1 h.2 h.3 c.in-Map.is h.4

pub returns-clause-reads : goal.returns-clause-reads
returns-clause-reads g c = λ first key vlen got amid left.
    let removals = c.in-Form.removals in
    let new = c.read_value.new.self in
    let a = amid_form g.L.Width.GREATEST g.F.Feeds.feed removals first c.args.self.now c.in-Form.reader key vlen got c.in-Form.is amid in
    IfOk-weaker _ _ _ (λ n. form_amid g.L.Width.GREATEST g.F.Feeds.feed removals first a.text new key vlen (got ++ take n c.read_value.new.into) a.is) (c.read_value.ensures.reads a.text key vlen got a.amid left)

pub returns-clause-fails : goal.returns-clause-fails
returns-clause-fails g c = λ first key vlen got amid.
    let removals = c.in-Form.removals in
    let a = amid_form g.L.Width.GREATEST g.F.Feeds.feed removals first c.args.self.now c.in-Form.reader key vlen got c.in-Form.is amid in
    form_fails g.L.Width.GREATEST g.F.Feeds.feed removals first a.text c.read_value.new.self _ a.is (c.read_value.ensures.fails a.text key vlen got removals a.amid)
