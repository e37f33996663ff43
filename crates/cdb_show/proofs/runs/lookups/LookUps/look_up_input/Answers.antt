use Rattle.cdb_show.proofs.Words.{BeginsWithItems, FromTo, HasLooked, IsInputOf, [], append-nil, form_of, reader_of, reads_more, reads_none, refl, subst, sym, true, ◌++◌, ◌∙◌, ◌∷◌}
use Rattle.cdb_show.specs.Runs.Lookups.{lookup_task}
use Rattle.cdb_show.proofs.KeyInputs.{keys_none, keys_more, keys_all, keys_begin, keys_behind, same_form}
use Rattle.cdb_show.proofs.LookupRuns.{found_more, missing_more, text_stops, stops_text, key_stops, key_stops_at}
use Rattle.cdb_show.proofs.runs.lookups.LookUps.look_up_input.Goals as goal

pub loop-fault-init : goal.loop-fault-init
loop-fault-init g c = record {
  last = [];
  gave = keys_none g.L.Width.GREATEST g.F.Feeds.feed c.args.keys.now c.requires;
  form = refl;
  looked = record {
    reads = reads_none g.S.Store c.args.looking.now.reader.store;
    looked = λ before start h. subst (λ k. HasLooked (lookup_task g.L.Width.WORD g.L.Width.GREATEST g.S.Store c.args.self.now.options) k c.args.looking.now.reader.store start (g.W.Sink.contents c.args.w.now) c.args.looking.now.missing) (sym (append-nil before)) h;
  };
}

pub returns-in-Err-clause-fails : goal.returns-in-Err-clause-fails
returns-in-Err-clause-fails g c =
    let inv = c.loop-fault.invariant in
    rw c.of_text.ensures (
      inv.last,
      text_stops g.L.Width.GREATEST g.F.Feeds.feed c.args.input _ c.loop-fault.keys c.read_into.new.self (form_of c.args.keys.now) inv.last c.in-Err.fault (λ it. g.met.F.Feeds.one_rest it) inv.form inv.gave c.in-Err.ensures.fails,
      record {
        reads = inv.looked.reads;
        stopped = λ before start h. stops_text (lookup_task g.L.Width.WORD g.L.Width.GREATEST g.S.Store c.args.self.now.options) _ _ _ start _ c.loop-fault.looking.missing c.args.input c.in-Err.fault (inv.looked.looked before start h);
      },
    )

pub returns-in-Ok-false-clause-ok : goal.returns-in-Ok-false-clause-ok
returns-in-Ok-false-clause-ok g c =
    let inv = c.loop-fault.invariant in
    let end = rw c.in-Ok-false.field-0-test at c.in-Ok-false.ensures.gives in
    let greatest = g.L.Width.GREATEST in
    let feed = g.F.Feeds.feed in
    let input = feed (reader_of c.args.keys.now) in
    let new = c.read_into.new.self in
    let all = keys_all greatest feed input c.loop-fault.keys new inv.last inv.gave end in
    (inv.last, subst (λ v. FromTo input (feed (reader_of new)) (IsInputOf v greatest inv.last)) inv.form all, inv.looked)

pub loop-fault-preserved-in-Ok : goal.loop-fault-preserved-in-Ok
loop-fault-preserved-in-Ok g c =
    let inv = c.loop-fault.invariant in
    let one = rw c.in-Ok-true.field-0-test at c.in-Ok-true.ensures.gives in
    let greatest = g.L.Width.GREATEST in
    let feed = g.F.Feeds.feed in
    let input = feed (reader_of c.args.keys.now) in
    let new = c.read_into.new.self in
    let key = c.read_into.new.into.key.items in
    let task = lookup_task g.L.Width.WORD greatest g.S.Store c.args.self.now.options in
    let more = keys_more greatest feed input c.loop-fault.keys new inv.last key inv.gave one in
    let query = rw (c.deref.ensures.value, c.in-Ok.is) at c.look_up_record.ensures.queries in
    record {
      last = inv.last ++ more.item ∷ [];
      gave = more.gave;
      form = same_form greatest feed c.loop-fault.keys new key one ∙ inv.form;
      looked = record {
        reads = reads_more inv.looked.reads query.reads;
        looked = λ before start h.
            subst (λ k. HasLooked task k c.look_up_record.new.reader.store start (g.W.Sink.contents c.look_up_record.new.w) c.loop-fault.looking.missing)
            (keys_behind before inv.last more.item key more.has)
            (found_more task _ key _ _ start _ _ c.loop-fault.looking.missing (inv.looked.looked before start h) query);
      };
    }

pub loop-fault-preserved : goal.loop-fault-preserved
loop-fault-preserved g c =
    let inv = c.loop-fault.invariant in
    let one = rw c.in-Ok-true.field-0-test at c.in-Ok-true.ensures.gives in
    let greatest = g.L.Width.GREATEST in
    let feed = g.F.Feeds.feed in
    let input = feed (reader_of c.args.keys.now) in
    let new = c.read_into.new.self in
    let key = c.read_into.new.into.key.items in
    let task = lookup_task g.L.Width.WORD greatest g.S.Store c.args.self.now.options in
    let more = keys_more greatest feed input c.loop-fault.keys new inv.last key inv.gave one in
    let query = rw (c.deref.ensures.value, c.in-Err-look_up_record.is, c.in-Missing.is) at c.look_up_record.ensures.queries in
    record {
      last = inv.last ++ more.item ∷ [];
      gave = more.gave;
      form = same_form greatest feed c.loop-fault.keys new key one ∙ inv.form;
      looked = record {
        reads = reads_more inv.looked.reads query.reads;
        looked = λ before start h.
            subst (λ k. HasLooked task k c.look_up_record.new.reader.store start (g.W.Sink.contents c.look_up_record.new.w) true)
            (keys_behind before inv.last more.item key more.has)
            (missing_more task _ key _ _ start _ _ c.loop-fault.looking.missing (inv.looked.looked before start h) query);
      };
    }

pub returns-in_default : goal.returns-in_default
returns-in_default g c =
    let inv = c.loop-fault.invariant in
    let one = rw c.in-Ok-true.field-0-test at c.in-Ok-true.ensures.gives in
    let greatest = g.L.Width.GREATEST in
    let feed = g.F.Feeds.feed in
    let input = feed (reader_of c.args.keys.now) in
    let new = c.read_into.new.self in
    let key = c.read_into.new.into.key.items in
    let task = lookup_task g.L.Width.WORD greatest g.S.Store c.args.self.now.options in
    let more = keys_more greatest feed input c.loop-fault.keys new inv.last key inv.gave one in
    let last = inv.last ++ more.item ∷ [] in
    let query = rw (c.deref.ensures.value, c.in-Err-look_up_record.is) at c.look_up_record.ensures.queries in
    record {
      ok = tt;
      fails = (
        last,
        key_stops _ greatest g.S.Store _ c.args.input (form_of c.args.keys.now) last input (feed (reader_of new)) _ _ _ _ c.in-Err-look_up_record.fault
            (subst (λ v. FromTo input (feed (reader_of new)) (λ text rest. BeginsWithItems v greatest last text)) (same_form greatest feed c.loop-fault.keys new key one ∙ inv.form) (keys_begin greatest feed input new last more.gave)) query,
        record {
          reads = reads_more inv.looked.reads query.reads;
          stopped = λ before start h.
              key_stops_at task before _ key last c.args.looking.now.reader.store _ _ start _ _ c.loop-fault.looking.missing c.in-Err-look_up_record.fault
              (keys_behind before inv.last more.item key more.has) (inv.looked.looked before start h) inv.looked.reads c.loop-fault.looking.reader.long query c.in_default.not-Missing;
        },
      );
      output = rw c.in-Err-look_up_record.is at c.look_up_record.ensures.output;
    }
