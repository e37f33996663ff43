use Rattle.cdb_form.proofs.Words.{arith, inl, inr, refl}
use Rattle.cdb_form.proofs.Bytes.CopyLemmas.{put_whole}
use Rattle.cdb_form.proofs.text.fill.fill_one.Goals.{then-TOP-klen-via-else-TOP-klen+then-TOP-vlen, then-TOP-klen-via-then-TOP-klen}
use Rattle.cdb_form.proofs.text.fill.fill_one.Goals as goal

pub returns-then-TOP-klen : goal.returns-then-TOP-klen
returns-then-TOP-klen g c = inr (
  λ room. elim c.then-TOP-klen.branch [
    | then-TOP-klen-via-then-TOP-klen w ↦ omega (arith, room.fits.key, c.TOP.ensures, w.if-TOP-klen.true)
    | then-TOP-klen-via-else-TOP-klen+then-TOP-vlen w ↦ omega (arith, room.fits.value, w.TOP-else-TOP-klen.ensures, w.if-TOP-vlen.true)
  ],
  refl,
  refl,
)

pub returns : goal.returns
returns g c = inl (
  record {
    fits = record { key = omega (arith, c.TOP.ensures); value = omega (arith, c.TOP-else-TOP-klen.ensures) };
    room = omega (arith, c.pair_size-pair.ensures);
  },
  record {
    end_is = omega (arith, c.pair_size-pair.ensures);
    written = put_whole g.L.Width.WORD c.args.held _ _ _ _ _ _ c.args.into.now _ _ _ c.args.key.now c.args.value.now c.requires c.write_header.ensures.written c.copy_from_slice.ensures.after c.copy_from_slice-2.ensures.after (omega arith) (omega arith) (omega arith);
  },
)
