use Rattle.cdb_make.proofs.Words.{marks_in, AreNone, Bool, Err, List, ap, arith, common_steps, gone_of, is_gone, is_there, left, length, length-map, reads_nothing, refl, sought_by, subst, sym, ◌∙◌, ◌≡◌}
use Rattle.cdb_make.proofs.Looking.{sees_long, sees_same, same_then}
use Rattle.cdb_make.proofs.Survive.{last_there}
use Rattle.cdb_make.proofs.Rolls.{look_fails, follows_read}
use Rattle.cdb_make.proofs.Marking.{marks_long}
use Rattle.cdb_make.proofs.maker.Maker.look.Goals as goal

pub returns-in-Ok-clause-looks : goal.returns-in-Ok-clause-looks
returns-in-Ok-clause-looks g c =
    let i = c.args.self.now in
    let m = c.put_back.new.self in
    let same = same_then i.roll c.link.new.self m c.link.ensures.same c.put_back.ensures.same in
    let gone = c.put_back.ensures.gone ∙ ap gone_of c.link.ensures.marks in
    record {
      rests = record {
        was = c.if-self.false;
        whole = c.if-self.false;
        same = same;
        gone = gone;
        picked = c.put_back.ensures.picked ∙ c.link.ensures.gone;
        limit = refl;
        lazy = refl;
        reads = c.last_with_key.ensures.reads;
      };
      none = c.put_back.ensures.found;
      is = λ rs h. record {
        each = λ b is.
            let held = h.each b (c.in-Ok.ensures.reads.images b is) in
            let sees = sees_same i.roll m held.all b same held.sees in
            let last = c.in-Ok.ensures.last.each b is held.all sees in
            let long = sees_long m held.all b sees in
            let many : length (gone_of (marks_in m)) ≡ length held.all = omega (arith, long, length-map (marks_in m) is_gone, (marks_long m)) in
            c.is_some.ensures ∙ last_there c.args.key.now (gone_of (marks_in m)) held.all c.len.result c.in-Ok.last many (omega (arith, long, c.len.ensures)) last
            ∙ ap (is_there c.args.key.now) (ap (λ (v : List Bool). left v held.all) gone ∙ sym held.left);
      };
    }

pub returns-in-Err-clause-fails : goal.returns-in-Err-clause-fails
returns-in-Err-clause-fails g c =
    let i = c.args.self.now in
    let roll = c.put_back.new.self in
    let was = c.link.ensures in
    let put = c.put_back.ensures in
    let h = c.in-Err.ensures in
    let f = c.failed_look.ensures in
    look_fails i c.failed_look.new.self roll c.last_with_key.new.store c.in-Err.fault c.failed_look.result c.if-self.false (same_then i.roll c.link.new.self roll was.same put.same) (put.gone ∙ ap gone_of was.marks) (put.picked ∙ was.gone) h.reads
    (λ e. h.foreign (ap Err e)) (λ e. h.failed (ap Err e)) f.fault f.broken f.store f.roll f.limit f.lazy

pub returns-then-self-clause-follows : goal.returns-then-self-clause-follows
returns-then-self-clause-follows g c = follows_read c.args.self.now _ refl refl (reads_nothing _ _ refl)

pub returns-in-Ok-clause-follows : goal.returns-in-Ok-clause-follows
returns-in-Ok-clause-follows g c = follows_read c.args.self.now _ refl refl c.last_with_key.ensures.reads

pub returns-in-Err-clause-follows : goal.returns-in-Err-clause-follows
returns-in-Err-clause-follows g c =
    let f = c.failed_look.ensures in
    follows_read c.args.self.now c.failed_look.new.self f.limit f.lazy (rw f.store c.last_with_key.ensures.reads)

pub returns-in-Err-clause-counts : goal.returns-in-Err-clause-counts
returns-in-Err-clause-counts g c = grind (arith, common_steps)

pub returns-in-Ok-clause-room : goal.returns-in-Ok-clause-room
returns-in-Ok-clause-room g c = grind (arith, common_steps)

pub invariant_of-self-clause-told : goal.invariant_of-self-clause-told
invariant_of-self-clause-told g c = c.args.self.now.told

pub invariant_of-self-clause-eager : goal.invariant_of-self-clause-eager
invariant_of-self-clause-eager g c = λ eager whole.
    subst AreNone (sym (c.put_back.ensures.gone ∙ ap gone_of c.link.ensures.marks)) (c.args.self.now.eager eager whole)

pub returns-in-Ok-clause-tagged : goal.returns-in-Ok-clause-tagged
returns-in-Ok-clause-tagged g c = λ tagged.
    c.link.ensures.sought c.args.key.now c.args.sought c.requires ∙ ap (λ v. sought_by v c.args.key.now) (sym c.put_back.ensures.tagged ∙ tagged)

pub last_with_key-requires-clause-hash : goal.last_with_key-requires-clause-hash
last_with_key-requires-clause-hash g c =
    c.link.ensures.sought c.args.key.now c.args.sought c.requires ∙ ap (λ v. sought_by v c.args.key.now) (sym c.put_back.ensures.tagged)

pub returns-in-Err-clause-images : goal.returns-in-Err-clause-images
returns-in-Err-clause-images g c = record {
  no_other = λ b is. c.last_with_key.ensures.reads.images b (subst (λ v. g.S.Store.image v b) c.failed_look.ensures.store is);
}
