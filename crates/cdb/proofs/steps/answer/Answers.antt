use Rattle.cdb.proofs.Words.{Err, Keeps-refl, Ok, [], ap, inl, inr, output_bytes, refl, rules, says_more}
use Rattle.cdb_command.specs.Refused.{refused_in}
use Rattle.cdb_system.specs.Causes.{more_of}
use Rattle.cdb_system.proofs.Explained.{none_said}
use Rattle.cdb.proofs.steps.answer.Goals as goal

pub returns-in-Err : goal.returns-in-Err
returns-in-Err g c = record {
  handed = search rules;
  runs = inl (record {
    refused = refused_in c.in-Err.fault;
    why = elim c.in-Err.ensures.exact [
      | inl lacks ↦ inl (ap refused_in lacks)
      | inr planned ↦ inr (rw c.as_slice-2.ensures.value at planned)
    ];
    line = rw c.as_slice.ensures.value at (rw c.explains-is_explained.ensures at c.refuse.ensures.line);
    untouched = refl;
    none = c.none_left.ensures;
    same = refl;
    kept = Keeps-refl (output_bytes c.args.streams.now.output);
    is_status = c.refuse.ensures.status;
  });
}

pub returns-in-Ok-performed : goal.returns-in-Ok-performed
returns-in-Ok-performed g c = record {
  handed = search rules;
  runs = inr (record {
    command = c.in-Ok.command;
    asks = rw c.as_slice-2.ensures.value at c.in-Ok.ensures.exact;
    result = Ok c.in-Ok-performed.field-0;
    before = output_bytes c.perform-left.new.streams.errors;
    does = rw c.as_slice.ensures.value at (rw c.explains-is_explained.ensures at (rw c.new-lines.ensures at (rw c.in-Ok-performed.is at c.perform-left.ensures.does)));
    output = tt;
    silent = c.perform-left.ensures.silent;
    same = c.perform-left.ensures.same;
    more = [];
    explains = none_said _ _ _ _ _;
    says = Keeps-refl (output_bytes c.perform-left.new.streams.errors);
    is_status = refl;
  });
}

pub returns : goal.returns
returns g c = record {
  handed = search rules;
  runs = inr (record {
    command = c.in-Ok.command;
    asks = rw c.as_slice-2.ensures.value at c.in-Ok.ensures.exact;
    result = Err c.in-Err-performed.fault;
    before = output_bytes c.perform-left.new.streams.errors;
    does = rw c.as_slice.ensures.value at (rw c.explains-is_explained.ensures at (rw c.new-lines.ensures at (rw c.in-Err-performed.is at c.perform-left.ensures.does)));
    output = says_more (Err c.in-Err-performed.fault) (λ failed. elim failed [ inl output ↦ inl output | inr errors ↦ inr (c.tell.ensures.stays errors) ]) (rw c.in-Err-performed.is at c.perform-left.ensures.output);
    silent = c.perform-left.ensures.silent;
    same = c.perform-left.ensures.same;
    more = more_of c.cause_of-reason.result;
    explains = rw c.as_slice.ensures.value at (rw c.explains-is_explained.ensures at (rw c.new-lines.ensures at (rw c.has_failed-unwritten.ensures at c.cause_of-reason.ensures)));
    says = c.tell.ensures.says;
    is_status = c.status_of.ensures;
  });
}
