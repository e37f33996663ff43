-- Readers that noted what they gave, and which bytes agree with that.
use Rattle.std.specs.Prelude.{ℕ, ◌≡◌, true, false, List, [], ◌∷◌, ◌++◌, drop, take, Some, refl}
use Rattle.std.proofs.Common.{ap, subst, sym, ◌∙◌}
use Rattle.std.proofs.lemmas.List.{append-nil, take-append-drop}
use Rattle.cdb_show.specs.Feed.{IsUnread, noted_feed}
use Rattle.cdb_show.specs.declared.noted_reader.NotedReader.{NotedReader}
use Rattle.cdb_show.specs.declared.read_trace.ReadCall.TheVariants.{Ended, Gave}
use Rattle.cdb_system.specs.State.{Agrees}

-- a reader that gave nothing yet
abbrev pub fresh : {R : Type 0} → R → NotedReader R
fresh reader = record {
  reader = reader;
  ended = false;
  trace = record { marker = record {}; events = [] };
  refused = record { marker = record {}; events = [] };
}

pub fresh_is_unread : {R : Type 0} (reader : R) → IsUnread (noted_feed (fresh reader))
fresh_is_unread reader = record { known = tt; all = λ whole rest agrees. sym agrees.begins }

-- a reader that gave these bytes, and its end or not
abbrev pub noted : {R : Type 0} → R → (came : List ℕ) → NotedReader R
noted reader came = record {
  reader = reader;
  ended = false;
  trace = record { marker = record {}; events = (Gave, came) ∷ [] };
  refused = record { marker = record {}; events = [] };
}

abbrev pub ended : {R : Type 0} → R → (came : List ℕ) → NotedReader R
ended reader came = record {
  reader = reader;
  ended = true;
  trace = record { marker = record {}; events = (Ended, []) ∷ (Gave, came) ∷ [] };
  refused = record { marker = record {}; events = [] };
}

-- all bytes that begin with these agree; once the end came, these alone
pub more_agree : {R : Type 0} (reader : R) (came more : List ℕ) → Agrees (Some (came ++ more)) (noted_feed (noted reader came))
more_agree reader came more =
    (more, record { begins = refl; ends = λ e. absurd (let no : false ≡ true = e in cc) })

pub front_agrees : {R : Type 0} (reader : R) (n : ℕ) (bytes : List ℕ) → Agrees (Some bytes) (noted_feed (noted reader (take n bytes)))
front_agrees reader n bytes =
    subst (λ whole. Agrees (Some whole) (noted_feed (noted reader (take n bytes)))) (take-append-drop n bytes)
    (more_agree reader (take n bytes) (drop n bytes))

pub these_agree : {R : Type 0} (reader : R) (came : List ℕ) → Agrees (Some came) (noted_feed (ended reader came))
these_agree reader came =
    ([], record { begins = sym (append-nil (came ++ []) ∙ append-nil came); ends = λ e. refl })

no_others_agree : {R : Type 0} (reader : R) (came whole : List ℕ) → Agrees (Some whole) (noted_feed (ended reader came)) → whole ≡ came
no_others_agree reader came whole agrees =
    agrees.1.begins ∙ ap (λ r. (came ++ []) ++ r) (agrees.1.ends refl)
    ∙ append-nil (came ++ []) ∙ append-nil came
