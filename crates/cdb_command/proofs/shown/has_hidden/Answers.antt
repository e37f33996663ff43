use Rattle.std.proofs.Common.{◌≡◌, ◌∙◌, ◌++◌, ◌||◌, ap, sym, ℕ, List, Bool, true, false, IsUtf8, encode_utf8}
use Rattle.std.proofs.lemmas.Str.{IsUtf8-past_char, chars_past_char}
use Rattle.std.specs.List.{list_any}
use Rattle.cdb_command.specs.Refused.{has_hidden, is_hidden}
use Rattle.cdb_command.proofs.Characters.{no_chars}
use Rattle.cdb_command.proofs.shown.has_hidden.Goals as goal

-- the first character is hidden, or one that follows
met : (character : ℕ) (text rest : List ℕ) (hidden : Bool) → IsUtf8 text → text ≡ encode_utf8 character ++ rest
    → hidden ≡ is_hidden character → has_hidden text ≡ (hidden || has_hidden rest)
met character text rest hidden utf8 parts is =
    ap (list_any is_hidden) (chars_past_char _ _ character utf8 parts) ∙ ap (λ b. b || has_hidden rest) (sym is)

pub returns-then-is_hidden : goal.returns-then-is_hidden
returns-then-is_hidden c =
    let held = c.loop-character.invariant in
    sym (met c.in-Some.character _ _ true held.0 c.in-Some.ensures.steps.0 (sym c.if-is_hidden.true ∙ c.is_hidden.ensures)) ∙ held.1

pub loop-character-preserved : goal.loop-character-preserved
loop-character-preserved c =
    let held = c.loop-character.invariant in
    let parts = c.in-Some.ensures.steps.0 in (
      IsUtf8-past_char _ _ c.in-Some.character held.0 parts,
      sym (met c.in-Some.character _ _ false held.0 parts (sym c.if-is_hidden.false ∙ c.is_hidden.ensures)) ∙ held.1,
    )

pub returns : goal.returns
returns c = sym (ap (list_any is_hidden) (no_chars _ c.in-None.ensures.steps.0.0)) ∙ c.loop-character.invariant.1
