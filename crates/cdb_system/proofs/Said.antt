-- The lines on standard error.
use Rattle.std.proofs.Common.{◌≡◌, ◌∙◌, ℕ, List, [], ◌∷◌, Option, Result, Ok, Err, ◌++◌, ap, append_assoc, arith, codes, inl, inr, sym, Bool, true, false, if◌then◌else◌}
use Rattle.cdb_system.proofs.Words.{Fault, Keeps, Says, SaysLine, append-nil, fault_line, name_ending, parts_line, reason_name, shown}
use Rattle.std.specs.Prelude.{OnErr}
use Rattle.std.proofs.KnownBytes.{Appends-kept, Keeps-trans}
use Rattle.cdb_command.proofs.ShownText.{shown-append}
use Rattle.cdb_form.specs.Views.KnownBytes.{Writes}
use Rattle.cdb_show.proofs.Writers.{prefix_kept}
use Rattle.cdb_system.specs.declared.causes.Reason.{Reason}

-- a line was written, or its writer failed
pub says_line : {T E : Type 0} (r : Result T E) (told said : Option (List ℕ)) (line : List ℕ) (unsaid : Type 0) → Writes r told said line → OnErr r unsaid → SaysLine line told said unsaid
says_line (Ok done) told said line unsaid w failed = inl w.ok
says_line (Err e) told said line unsaid w failed = inr (w.err, failed)

pub line_kept : (line : List ℕ) (told mid said : Option (List ℕ)) (was is : Type 0) → (was → is) → SaysLine line told mid was → Keeps mid said → SaysLine line told said is
line_kept line told mid said was is stays (inl whole) k = inl (Appends-kept told mid said line whole k)
line_kept line told mid said was is stays (inr part) k = inr (prefix_kept told mid said line part.0 k, stays part.1)

pub says_kept : (result : Result Unit Fault) (more : List ℕ) (told mid said : Option (List ℕ)) (was is : Type 0) → (was → is) → Says result more told mid was → Keeps mid said → Says result more told said is
says_kept (Ok done) more told mid said was is stays h k = Keeps-trans told mid said h k
says_kept (Err fault) more told mid said was is stays h k = line_kept (fault_line fault ++ more) told mid said was is stays h k

-- ---- the line of a cause

-- a name is shown as it is without its ending, and then that
pub named_so : (reason : Reason) → shown (reason_name reason) ≡ shown reason.name.now ++ shown (name_ending reason)
named_so reason = named reason.is_temporary reason.name.now
  where
    named : (is_temporary : Bool) (name : List ℕ)
        → shown (if is_temporary then (name ++ codes ".tmp") else name) ≡ shown name ++ shown (if is_temporary then codes ".tmp" else [])
    named true name = shown-append name (codes "tmp") 46 (omega arith)
    named false name = sym (append-nil (shown name))

-- it has its name in two parts, and what is said of it too
pub cause_parts : (name ending whole between what words said : List ℕ) → shown whole ≡ shown name ++ shown ending → what ++ words ≡ said
    → parts_line (([], name) ∷ ([], ending) ∷ (between, []) ∷ (what, []) ∷ (words, []) ∷ []) ≡ parts_line (([], whole) ∷ (between, []) ∷ (said, []) ∷ [])
cause_parts name ending whole between what words said named told =
    let after : (t : List ℕ) → shown name ++ (shown ending ++ t) ≡ shown whole ++ t = λ t.
    sym (append_assoc (shown name) (shown ending) t) ∙ ap (λ x. x ++ t) (sym named) in
    let tail : (what ++ []) ++ ((words ++ []) ++ []) ≡ (said ++ []) ++ [] =
    ap (λ t. t ++ ((words ++ []) ++ [])) (append-nil what) ∙ ap (λ t. what ++ t) (append-nil (words ++ []) ∙ append-nil words) ∙ told ∙ sym (append-nil (said ++ []) ∙ append-nil said) in
    ap (λ t. codes "cdb: " ++ (t ++ codes "\n")) (after ((between ++ []) ++ ((what ++ []) ++ ((words ++ []) ++ []))) ∙ ap (λ t. shown whole ++ ((between ++ []) ++ t)) tail)
