use Rattle.cdb_make.proofs.Words.{AreNone, Err, ap, arith, common_steps, gone_of, reads_nothing, refl, sought_by, subst, sym, ◌∙◌}
use Rattle.cdb_make.proofs.Looking.{same_then}
use Rattle.cdb_make.proofs.Rolls.{look_fails, follows_read}
use Rattle.cdb_make.proofs.maker.Maker.seek.Goals as goal

pub returns-in-Err-clause-fails : goal.returns-in-Err-clause-fails
returns-in-Err-clause-fails g c =
    let i = c.args.self.now in
    let roll = c.find.new.roll in
    let was = c.link.ensures in
    let h = c.in-Err.ensures in
    let f = c.failed_look.ensures in
    look_fails i c.failed_look.new.self roll c.find.new.store c.in-Err.fault c.failed_look.result c.if-self.false (same_then i.roll c.link.new.self roll was.same h.same) (h.gone ∙ ap gone_of was.marks) (h.kept ∙ was.gone) h.reads
    (λ e. h.foreign (ap Err e)) (λ e. h.failed (ap Err e)) f.fault f.broken f.store f.roll f.limit f.lazy

pub returns-then-self-clause-follows : goal.returns-then-self-clause-follows
returns-then-self-clause-follows g c = follows_read c.args.self.now _ refl refl (reads_nothing _ _ refl)

pub returns-in-Ok-clause-follows : goal.returns-in-Ok-clause-follows
returns-in-Ok-clause-follows g c = follows_read c.args.self.now _ refl refl c.find.ensures.reads

pub returns-in-Err-clause-follows : goal.returns-in-Err-clause-follows
returns-in-Err-clause-follows g c =
    let f = c.failed_look.ensures in
    follows_read c.args.self.now c.failed_look.new.self f.limit f.lazy (rw f.store c.find.ensures.reads)

pub returns-in-Err-clause-counts : goal.returns-in-Err-clause-counts
returns-in-Err-clause-counts g c = grind (arith, common_steps)

pub invariant_of-self-clause-told : goal.invariant_of-self-clause-told
invariant_of-self-clause-told g c = c.args.self.now.told

pub invariant_of-self-clause-eager : goal.invariant_of-self-clause-eager
invariant_of-self-clause-eager g c = λ eager whole.
    subst AreNone (sym (c.find.ensures.gone ∙ ap gone_of c.link.ensures.marks)) (c.args.self.now.eager eager whole)

pub returns-in-Ok-clause-seeks : goal.returns-in-Ok-clause-seeks
returns-in-Ok-clause-seeks g c =
    let f = c.find.ensures in
    let ok = c.in-Ok.ensures in
    record {
      rests = record {
        was = c.if-self.false;
        whole = c.if-self.false;
        same = same_then c.args.self.now.roll c.link.new.self c.find.new.roll c.link.ensures.same f.same;
        gone = f.gone ∙ ap gone_of c.link.ensures.marks;
        picked = f.kept ∙ c.link.ensures.gone;
        limit = refl;
        lazy = refl;
        reads = f.reads;
      };
      fine = ok.ok_failures;
      have = ok.hash;
      looks = ok.all;
      count = refl;
    }

pub returns-in-Ok-clause-tagged : goal.returns-in-Ok-clause-tagged
returns-in-Ok-clause-tagged g c = λ tagged.
    c.link.ensures.sought c.args.key.now c.args.sought c.requires ∙ ap (λ v. sought_by v c.args.key.now) (sym c.find.ensures.tagged ∙ tagged)

pub find-requires-clause-hash : goal.find-requires-clause-hash
find-requires-clause-hash g c = c.link.ensures.sought c.args.key.now c.args.sought c.requires
