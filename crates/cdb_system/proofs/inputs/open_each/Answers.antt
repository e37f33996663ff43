use Rattle.cdb_system.proofs.Words.{AreUnread, OpensEach, [], arith, err_from_is_err_and, map, string_bytes, subst, sym, take, ℕ, ◌++◌, ◌+◌, ◌∷◌}
use Rattle.cdb_system.proofs.Opens.{opens_more, unread_more, names_more, stops_missed, stops_after}
use Rattle.cdb_system.proofs.inputs.open_each.Goals as goal

pub loop-name-preserved : goal.loop-name-preserved
loop-name-preserved g c =
    let i : ℕ = c.loop-name.name-index in
    let more = names_more string_bytes c.args.names.now i c.name-item.result c.as_str.result.now (omega arith) c.name-item.is c.as_str.ensures.value in
    let opens = opens_more g.Y.System (map string_bytes (take i c.args.names.now)) c.loop-name.readers.items c.as_str.result.now c.in_ok-reader.reader (g.Y.System.calls c.args.system.now) (g.Y.System.calls c.loop-name.system) (g.Y.System.calls c.open_input.new.system) c.loop-name.invariant.0 c.in_ok-reader.ensures.ok in
    let unread = unread_more g.Y.Stream.Feeds.feed c.loop-name.readers.items c.in_ok-reader.reader c.loop-name.invariant.1 c.in_ok-reader.ensures.unread in
    subst (λ v. OpensEach g.Y.System (map string_bytes (take (i + 1) c.args.names.now)) v (g.Y.System.calls c.args.system.now) (g.Y.System.calls c.open_input.new.system) × AreUnread g.Y.Stream.Feeds.feed v) (sym c.in_ok-push.ensures.items)
    (subst (λ v. OpensEach g.Y.System v (c.loop-name.readers.items ++ c.in_ok-reader.reader ∷ []) (g.Y.System.calls c.args.system.now) (g.Y.System.calls c.open_input.new.system)) more opens, unread)

pub returns-in_err-reader-clause-stops : goal.returns-in_err-reader-clause-stops
returns-in_err-reader-clause-stops g c =
    let p = err_from_is_err_and c.from_residual.result c.from_residual.ensures.1 in
    rw (p.1, p.2)
    (stops_missed g.Y.System string_bytes c.args.names.now c.loop-name.name-index c.name-item.result c.as_str.result.now c.loop-name.readers.items (g.Y.System.calls c.args.system.now) (g.Y.System.calls c.loop-name.system) (g.Y.System.calls c.open_input.new.system) _ (omega arith) c.name-item.is c.as_str.ensures.value c.loop-name.invariant.0 c.in_err-reader.ensures.missed)

pub returns-in_err-push-clause-stops : goal.returns-in_err-push-clause-stops
returns-in_err-push-clause-stops g c =
    let p = err_from_is_err_and c.from_residual-in_err-push.result c.from_residual-in_err-push.ensures.1 in
    let i : ℕ = c.loop-name.name-index in
    let more = names_more string_bytes c.args.names.now i c.name-item.result c.as_str.result.now (omega arith) c.name-item.is c.as_str.ensures.value in
    let opens = opens_more g.Y.System (map string_bytes (take i c.args.names.now)) c.loop-name.readers.items c.as_str.result.now c.in_ok-reader.reader (g.Y.System.calls c.args.system.now) (g.Y.System.calls c.loop-name.system) (g.Y.System.calls c.open_input.new.system) c.loop-name.invariant.0 c.in_ok-reader.ensures.ok in
    rw (p.1, p.2)
    (stops_after g.Y.System string_bytes c.args.names.now (i + 1) (c.loop-name.readers.items ++ c.in_ok-reader.reader ∷ []) (g.Y.System.calls c.args.system.now) (g.Y.System.calls c.open_input.new.system)
    (subst (λ v. OpensEach g.Y.System v (c.loop-name.readers.items ++ c.in_ok-reader.reader ∷ []) (g.Y.System.calls c.args.system.now) (g.Y.System.calls c.open_input.new.system)) more opens))
