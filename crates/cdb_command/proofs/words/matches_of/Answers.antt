use Rattle.std.proofs.Common.{◌≡◌, [], true, map, string_bytes, refl, subst, inl, inr}
use Rattle.clap.specs.Simple.{App, HasMatchesOf, app_of}
use Rattle.clap.specs.Faults.{fault_of, is_simple_and_free}
use Rattle.clap.specs.Kinds.{HasKind, IsAmong, Kinds}
use Rattle.clap.specs.Values.{kind_of}
use Rattle.cdb_command.specs.Words.{cdb_app, cdb_rows, cdb_faults}
use Rattle.cdb_command.proofs.words.matches_of.Goals as goal

pub returns-in-Ok-clause-ok : goal.returns-in-Ok-clause-ok
unfolding cdb_rows
returns-in-Ok-clause-ok c =
    let words = map string_bytes c.args.words.now in
    let built : app_of c.in_ok-parser.parser ≡ cdb_app = c.in_ok-parser.ensures in
    (subst (λ (a : App). HasMatchesOf a words c.in-Ok.matches) built c.in-Ok.ensures.matches refl).0

pub returns-in-Ok-clause-taken : goal.returns-in-Ok-clause-taken
unfolding cdb_faults
returns-in-Ok-clause-taken c =
    let words = map string_bytes c.args.words.now in
    let built : app_of c.in_ok-parser.parser ≡ cdb_app = c.in_ok-parser.ensures in
    subst (λ (a : App). is_simple_and_free a ≡ true → fault_of a words ≡ []) built
    c.in-Ok.ensures.kinds refl

pub returns-clause-refused : goal.returns-clause-refused
unfolding cdb_faults
returns-clause-refused c =
    let words = map string_bytes c.args.words.now in
    let built : app_of c.in_ok-parser.parser ≡ cdb_app = c.in_ok-parser.ensures in
    let kinds =
    subst (λ (a : App). is_simple_and_free a ≡ true → HasKind (fault_of a words) c.in-Err.error)
    built c.in-Err.ensures.kinds refl in
    elim kinds [
      | inl memory ↦ absurd (c.is_of_memory.ensures c.if-is_of_memory.false memory)
      | inr among ↦ inr (
        c.bad_word.ensures,
        λ none. subst (λ (ks : Kinds). IsAmong (kind_of c.in-Err.error) ks) none among,
      )
    ]
