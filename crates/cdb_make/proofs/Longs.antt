-- A record that is written piece after piece.
use Rattle.cdb_make.proofs.Words.{AreBytes, Enters, Ghosts, HasNotFailed, HasRoom, KeyValue, List, Maker, StaysWhole, [], ap, arith, inl, length, length-append, max, record_bytes, record_size, refl, subst, sum_by_push, sym, ℕ, ◌++◌, ◌+◌, ◌∙◌, ◌∷◌, ◌≡◌}
use Rattle.std.specs.Prelude.{sum_by}
use Rattle.cdb_form.specs.Format.{record_of}
use Rattle.cdb_form.specs.declared.width.Width.{Ghosts as Widths}
use Rattle.cdb_form.specs.declared.mode.Mode.TheVariants.{Add}
use Rattle.cdb_store.specs.Images.{ImagesHold}
use Rattle.cdb_store.proofs.Moves.{held_join}
use Rattle.cdb_make.specs.declared.answer.Put.TheVariants.{Added}
use Rattle.cdb_make.specs.declared.long.LongRecord.{LongRecord}
use Rattle.cdb_make.specs.Views.Maker.{Follows, Puts, Stays}
use Rattle.cdb_make.specs.Views.Long.{IsPart, begun_bytes}
use Rattle.cdb_make.proofs.Bytes.Written.{begun_more, begun_whole, length-begun_bytes}
use Rattle.cdb_make.proofs.Admitting.{stays_then}
use Rattle.cdb_make.proofs.Finishing.{stays_whole}
use Rattle.cdb_make.proofs.Rolls.{follows_then}

-- a piece more
pub part_more : {S L : Type 0} {s : Ghosts S} {l : Widths L} (first j k : Maker S L s l) (key : List ℕ) (vlen : ℕ) (got piece : List ℕ) (long long₁ : LongRecord) → IsPart first j key vlen got long → AreBytes (got ++ piece) → k.roll ≡ j.roll → Stays j k → Follows j k → HasNotFailed j k
    → ImagesHold first.roll.end (begun_bytes l.WORD key vlen got) (s.image k.store) → ImagesHold long.end piece (s.image k.store) → s.size k.store ≡ max (s.size j.store) (long.end + length piece) → s.written k.store ≡ s.written j.store + length piece
    → long₁.end ≡ long.end + length piece → long₁.last ≡ long.last → long₁.hash ≡ long.hash → long₁.number ≡ long.number → IsPart first k key vlen (got ++ piece) long₁
part_more {s = s} {l = l} first j k key vlen got piece long long₁ p bytes roll stays follows fine held more size written end last hash number =
    let long_is = length-append got piece in
    record {
      was = p.was;
      none = p.none;
      stays = stays_then first j k p.stays stays;
      tagged = ap (λ m. m.tagged) roll ∙ p.tagged;
      follows = follows_then first j k p.follows follows;
      fine = fine ∙ p.fine;
      are = record { key = p.are.key; value = bytes };
      stored = subst (λ (v : List ℕ). ImagesHold first.roll.end v (s.image k.store)) (begun_more l.WORD key vlen got piece) (held_join (p.end ∙ ap (λ (n : ℕ). first.roll.end + n) (sym (length-begun_bytes l.WORD key vlen got))) held more);
      inside = omega (arith, end, size);
      written = omega (arith, written, p.written, long_is);
      end = omega (arith, end, p.end, long_is);
      last = last ∙ p.last;
      hash = hash ∙ p.hash;
      number = λ tagged. number ∙ p.number (sym (ap (λ m. m.tagged) roll) ∙ tagged);
      room = subst (λ m. HasRoom m) (sym roll) p.room;
      fits = p.fits;
    }

-- the whole record is stored after the others
pub part_stored : {S L : Type 0} {s : Ghosts S} {l : Widths L} (first now : Maker S L s l) (key : List ℕ) (vlen : ℕ) (got : List ℕ) (long : LongRecord) → IsPart first now key vlen got long → long.end ≡ long.last → ImagesHold now.roll.end (record_bytes l.WORD (record_of key got)) (s.image now.store)
part_stored {s = s} {l = l} first now key vlen got long p whole =
    let all : vlen ≡ length got = omega (arith, whole, p.end, p.last) in
    subst (λ (n : ℕ). ImagesHold n (record_bytes l.WORD (record_of key got)) (s.image now.store)) (sym p.stays.same.end)
    (subst (λ (v : List ℕ). ImagesHold first.roll.end v (s.image now.store)) (begun_whole l.WORD key vlen got all) p.stored)

-- and is put once it is noted
pub part_puts : {S L : Type 0} {s : Ghosts S} {l : Widths L} (first now new : Maker S L s l) (key : List ℕ) (vlen : ℕ) (got : List ℕ) (long : LongRecord) → IsPart first now key vlen got long → new.store ≡ now.store → Enters now new (record_of key got ∷ []) → Puts first new Add (record_of key got) Added
part_puts {s = s} {l = l} first now new key vlen got long p store entered =
    let r : KeyValue = record_of key got in
    let stays : StaysWhole first now = stays_whole first now p.was p.stays in
    let one : sum_by (record_size l.WORD) (r ∷ []) ≡ record_size l.WORD r = omega (arith, sum_by_push (record_size l.WORD) [] r) in
    let wrote : s.written new.store ≡ s.written first.store + record_size l.WORD r = ap s.written store ∙ p.written in
    record {
      was = p.was;
      whole = entered.whole;
      holds = λ rs h. entered.holds rs (stays.holds rs h);
      answers = λ rs h. record { each = λ b is. refl };
      written = λ eager rs h. record { each = λ b is. wrote };
      writes = λ rs h. record {
        each = λ b is.
            let a = p.follows.comes.each b (subst (λ (v : _). s.image v b) store is) in
            let held = h.each a.0 a.1 in
            record { image = a.0; was = a.1; all = held.all; sees = held.sees; held = held.left; wrote = inl wrote };
      };
      pays = λ lazy rs h. record { each = λ b is. inl (omega (arith, wrote, entered.end, one, p.stays.same.end)) };
    }
