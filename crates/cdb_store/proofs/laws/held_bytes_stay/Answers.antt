use Rattle.std.proofs.Common.{length}
use Rattle.cdb_store.proofs.Moves.{kept_torn, kept_within, kept_cut, kept_read, kept_same, held_kept}
use Rattle.cdb_store.proofs.laws.held_bytes_stay.Goals as goal

pub returns-clause-write : goal.returns-clause-write
returns-clause-write g c = λ apart w. held_kept (kept_torn c.args._pos (length c.args._held.now) apart w)

pub returns-clause-moving : goal.returns-clause-moving
returns-clause-moving g c = λ apart w. held_kept (kept_within c.args._pos (length c.args._held.now) apart w)

pub returns-clause-cut : goal.returns-clause-cut
returns-clause-cut g c = λ inside w. held_kept (kept_cut c.args._pos (length c.args._held.now) inside w)

pub returns-clause-read : goal.returns-clause-read
returns-clause-read g c = λ r. held_kept (kept_read c.args._pos (length c.args._held.now) r)

pub returns-clause-same : goal.returns-clause-same
returns-clause-same g c = λ s. held_kept (kept_same c.args._pos (length c.args._held.now) s)
