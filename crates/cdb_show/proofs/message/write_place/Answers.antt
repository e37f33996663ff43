use Rattle.cdb_show.proofs.Words.{codes, err_from_is_err_and, numbered, prefix_in, refl, writes_last, writes_prefix}
use Rattle.cdb_show.proofs.message.write_place.Goals as goal

pub returns-in_err-write_numbered-in-Byte-clause-writes : goal.returns-in_err-write_numbered-in-Byte-clause-writes
returns-in_err-write_numbered-in-Byte-clause-writes g c =
    let p = err_from_is_err_and c.from_residual.result c.from_residual.ensures.1 in
    let second = numbered (codes "byte ") c.in-Byte.at in
    rw c.in-Byte.is (writes_prefix _ _ _ _ _ p.1 (prefix_in _ _ (numbered (codes "input ") c.in-Byte.input) second _ c.in_err-write_numbered-in-Byte.ensures.writes.err refl))

pub returns-in_ok-write_numbered-in-Byte-clause-writes : goal.returns-in_ok-write_numbered-in-Byte-clause-writes
returns-in_ok-write_numbered-in-Byte-clause-writes g c =
    rw c.in-Byte.is (writes_last c.write_numbered-in-Byte-2.result _ _ _ (numbered (codes "input ") c.in-Byte.input) _ _ c.in_ok-write_numbered-in-Byte.ensures.writes.ok c.write_numbered-in-Byte-2.ensures.writes refl)

pub returns-in_err-write_numbered-in-Slot-clause-writes : goal.returns-in_err-write_numbered-in-Slot-clause-writes
returns-in_err-write_numbered-in-Slot-clause-writes g c =
    let p = err_from_is_err_and c.from_residual-in_err-write_numbered-in-Slot.result c.from_residual-in_err-write_numbered-in-Slot.ensures.1 in
    let second = numbered (codes "slot ") c.in-Slot.i in
    rw c.in-Slot.is (writes_prefix _ _ _ _ _ p.1 (prefix_in _ _ (numbered (codes "table ") c.in-Slot.n) second _ c.in_err-write_numbered-in-Slot.ensures.writes.err refl))

pub returns-in_ok-write_numbered-in-Slot-clause-writes : goal.returns-in_ok-write_numbered-in-Slot-clause-writes
returns-in_ok-write_numbered-in-Slot-clause-writes g c =
    rw c.in-Slot.is (writes_last c.write_numbered-in-Slot-2.result _ _ _ (numbered (codes "table ") c.in-Slot.n) _ _ c.in_ok-write_numbered-in-Slot.ensures.writes.ok c.write_numbered-in-Slot-2.ensures.writes refl)
