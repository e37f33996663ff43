use Rattle.cdb_make.proofs.Appends.{if_ok_weaker}
use Rattle.cdb_make.proofs.Finishing.{rests_nothing}
use Rattle.cdb_make.proofs.maker.Maker.exists.Goals as goal

pub returns-clause-there : goal.returns-clause-there
returns-clause-there g c = λ rs h. if_ok_weaker c.look.result (λ there looks. looks.is rs h) c.look.ensures.looks

pub returns-clause-ok : goal.returns-clause-ok
returns-clause-ok g c = if_ok_weaker c.look.result (λ there looks. rests_nothing c.args.self.now c.look.new.self looks.rests) c.look.ensures.looks

pub returns-clause-rests : goal.returns-clause-rests
returns-clause-rests g c = if_ok_weaker c.look.result (λ there looks. looks.rests) c.look.ensures.looks
