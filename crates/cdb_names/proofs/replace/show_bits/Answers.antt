use Rattle.std.proofs.Common.{[], inr, refl}
use Rattle.cdb_names.specs.declared.name_trace.NameCall.TheVariants.{Made, NotMade, Seen}
use Rattle.cdb_names.specs.Wanted.{plain_bits}
use Rattle.cdb_names.proofs.Locking.{plain_removable}
use Rattle.cdb_names.proofs.Replacing.{no_step, step, cleared}
use Rattle.cdb_names.proofs.Stops.{free_goes_on, not_made, one_more, plain_seen, unseen_undone}
use Rattle.cdb_names.proofs.replace.show_bits.Goals as goal

pub returns-in-Err-clause-steps : goal.returns-in-Err-clause-steps
returns-in-Err-clause-steps g c = step _ (NotMade c.in-Err.fault, c.args.temporary.now, [], []) (no_step _) c.in-Err.ensures.err tt tt

pub returns-in-Err-clause-err : goal.returns-in-Err-clause-err
returns-in-Err-clause-err g c first free =
    rw c.open_fault.ensures (not_made _ c.args.temporary.now c.args.name.now first _ _ c.in-Err.fault (free_goes_on c.args.temporary.now first _ free) free c.in-Err.ensures.err)

pub returns-in-Some-clause-steps : goal.returns-in-Some-clause-steps
returns-in-Some-clause-steps g c =
    let t = c.args.temporary.now in
    let may = plain_removable t c.args.name.now c.bits_of-shown.result _ _ _ _ c.in-Ok.ensures.ok c.bits_of-shown.ensures in
    cleared _ (step _ (Seen c.bits_of-shown.result, t, [], _) (step _ (Made plain_bits, t, [], []) (no_step _) c.in-Ok.ensures.ok refl tt) c.bits_of-shown.ensures tt tt) may c.remove_own.ensures

pub returns-clause-steps : goal.returns-clause-steps
returns-clause-steps g c =
    let t = c.args.temporary.now in
    let may = plain_removable t c.args.name.now c.bits_of-shown.result _ _ _ _ c.in-Ok.ensures.ok c.bits_of-shown.ensures in
    cleared _ (step _ (Seen c.bits_of-shown.result, t, [], _) (step _ (Made plain_bits, t, [], []) (no_step _) c.in-Ok.ensures.ok refl tt) c.bits_of-shown.ensures tt tt) may c.remove_own.ensures

pub returns-in-Some-clause-free : goal.returns-in-Some-clause-free
returns-in-Some-clause-free g c first free =
    (_, one_more _ _ _ _ (one_more _ _ _ _ (free_goes_on c.args.temporary.now first _ free) c.in-Ok.ensures.ok) c.bits_of-shown.ensures, inr (_, c.remove_own.ensures))

pub returns-in-Some-clause-ready : goal.returns-in-Some-clause-ready
returns-in-Some-clause-ready g c =
    (_, one_more _ _ _ _ (one_more _ _ _ _ (free_goes_on c.args.temporary.now [] _ c.requires.free) c.in-Ok.ensures.ok) c.bits_of-shown.ensures, inr (_, c.remove_own.ensures))

pub returns-clause-err : goal.returns-clause-err
returns-clause-err g c first free =
    unseen_undone c.args.temporary.now c.args.name.now c.bits_of-shown.result _ first _ _ _ c.in-None.is c.in-Ok.ensures.file (one_more _ _ _ _ (free_goes_on c.args.temporary.now first _ free) c.in-Ok.ensures.ok) c.bits_of-shown.ensures c.remove_own.ensures

pub returns-in-Some-clause-seen : goal.returns-in-Some-clause-seen
returns-in-Some-clause-seen g c whose same =
    plain_seen c.args.temporary.now c.args.name.now _ c.bits_of-shown.result _ _ _ _ _ c.in-Some.is c.in-Ok.ensures.file c.in-Ok.ensures.ok c.bits_of-shown.ensures c.remove_own.ensures whose same

pub remove_own-requires : goal.remove_own-requires
remove_own-requires g c =
    (plain_removable c.args.temporary.now c.args.name.now c.bits_of-shown.result _ _ _ _ c.in-Ok.ensures.ok c.bits_of-shown.ensures).lock
