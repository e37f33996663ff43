use Rattle.std.proofs.Common.{ℕ, ◌≡◌, ◌+◌, ◌-◌, ap, arith, drop, length, refl, sym, take, ◌∙◌}
use Rattle.cdb_form.proofs.Bytes.HeadLemmas.{rest_of}
use Rattle.cdb_form.proofs.Files.Prefixes.{same_record}
use Rattle.cdb_form.proofs.RecordReading.Stored.{stored_prefix}
use Rattle.cdb_form.proofs.walk.prefix.stored_record.Goals as goal

pub returns : goal.returns
returns g c =
    let w = g.L.Width.WORD in
    let bytes = c.args.bytes.now in
    let size = c.pair_size-size.result in
    let h = c.read_header-header.result in
    let body = rest_of size (length bytes) bytes refl in
    let stored = stored_prefix w size bytes h c.pair_size-size.ensures c.read_header-header.ensures.read in
    let count : (h.klen + h.vlen) - h.klen ≡ h.vlen = omega arith in
    record {
      whole = stored.whole;
      is = same_record _ _ (stored.key ∙ sym (ap (take h.klen) body))
          (stored.value ∙ sym (ap (λ (k : ℕ). take k (drop h.klen (take (length bytes - size) (drop size bytes)))) count ∙ ap (λ t. take h.vlen (drop h.klen t)) body));
      within = grind arith;
    }
