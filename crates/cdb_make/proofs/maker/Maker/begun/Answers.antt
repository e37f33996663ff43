use Rattle.cdb_make.proofs.Words.{KeyValue, List, [], ap, gone_of, left, number, refl, rules, sym, ◌∙◌}
use Rattle.cdb_make.proofs.maker.Maker.begun.Goals as goal

pub returns-in-Ok-clause-begins : goal.returns-in-Ok-clause-begins
returns-in-Ok-clause-begins g c =
    let new = c.new.ensures in
    let none : List KeyValue = [] in
    record {
      holds = record {
        whole = refl;
        each = λ b is. record {
          all = [];
          sees = record { are = search rules; stand = refl; hashes = new.hashes; searched = new.searched; of = record { are = new.places; ends = new.end } };
          left = sym (ap (λ v. left (gone_of v) none) new.marks);
        };
      };
      none = c.new.result.picked.count ∙ ap (λ v. number (gone_of v)) new.marks;
      limited = refl;
      head = search rules;
      settled = search rules;
      size = search rules;
      written = search rules;
      room = search rules;
      fine = search rules;
    }
