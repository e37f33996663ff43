-- What is said of a fault after its line.
use Rattle.cdb_system.proofs.Words.{Asked, Bool, Err, Fault, Keeps, List, Ok, Result, Says, SaysLine, [], ap, append-nil, false, fault_line, refl, subst, true, ℕ, ◌++◌, ◌∙◌, ◌≡◌}
use Rattle.std.specs.Prelude.{Option}
use Rattle.cdb_system.specs.Causes.{Called, Explains}

-- of a success nothing is said
pub none_said : (explained : Bool) (command : Asked) (done : Unit {0}) (unwritten : Type 0) (called : Called) → Explains explained command (Ok done) unwritten called []
none_said false command done unwritten called = refl
none_said true command done unwritten called = refl

-- a fault that is not explained is said by its line alone
abbrev pub SaysOnly : Result Unit Fault → (told said : Option (List ℕ)) → (unsaid : Type 0) → Type 0
SaysOnly (Ok done) told said unsaid = Keeps told said
SaysOnly (Err fault) told said unsaid = SaysLine (fault_line fault) told said unsaid

no_more : (result : Result Unit Fault) (more : List ℕ) (told said : Option (List ℕ)) (unsaid : Type 0) → more ≡ [] → Says result more told said unsaid → SaysOnly result told said unsaid
no_more (Ok done) more told said unsaid none h = h
no_more (Err fault) more told said unsaid none h = subst (λ line. SaysLine line told said unsaid) (ap (λ m. fault_line fault ++ m) none ∙ append-nil (fault_line fault)) h

pub says_only : (explained : Bool) (command : Asked) (result : Result Unit Fault) (unwritten : Type 0) (called : Called) (more : List ℕ) (told said : Option (List ℕ)) (unsaid : Type 0)
    → explained ≡ false → Explains explained command result unwritten called more → Says result more told said unsaid → SaysOnly result told said unsaid
says_only explained command result unwritten called more told said unsaid plain explains h =
    no_more result more told said unsaid (subst (λ b. Explains b command result unwritten called more) plain explains) h
