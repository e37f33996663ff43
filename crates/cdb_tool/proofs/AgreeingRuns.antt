-- What a run makes that returns its readers: what the function says of any bytes that agree with these.
use Rattle.cdb_tool.proofs.Words.{AgreesWith, AreUnread, ComesOf, FirstAgree, Ghosts, Inputs, IsUnread, List, OfBase, Option, Result, RunOptions, RunsRead, WhereHonest, [], ap, input_form, is_some, length, made_of, parsing, reached, run_state, shared_feed, sym, terms_of, Fault, ℕ, ◌++◌, ◌∙◌, ◌≡◌}
use Rattle.cdb_form.specs.Format.{AreBytes}
use Rattle.cdb_show.specs.declared.inputs.SharedWindow.TheVariants.{Unread}
use Rattle.cdb_show.proofs.InputsGiven.{all_given, left_known}
use Rattle.cdb_tool.specs.Runs.InputsRead.{InputFeeds}
use Rattle.cdb_tool.specs.Runs.Make.{HandsBack}
use Rattle.cdb_tool.proofs.MadeOf.{run_comes}
use Rattle.cdb_tool.proofs.RunEnds.{base_weaker, hands_some}

module _ {B J I : Type 0} (t : Ghosts B) (was base : Option B) (feeds : InputFeeds J I) (w g : ℕ) (o : RunOptions) (before after : Inputs J I) (images : List ℕ → Type 0) (old new : Option (List ℕ)) (result : Result Unit Fault) (run : RunsRead (terms_of w g o) feeds t (run_state was before old) (run_state base after new) images result) where
  pub agreeing_comes : HandsBack t was base → AreUnread feeds.own before.readers.items → IsUnread (feeds.shared before.shared) → (inputs : List (Option (List ℕ))) (whole : List ℕ) → length inputs ≡ length before.readers.items → FirstAgree feeds.own AreBytes (reached run.read.items run.read.stop) inputs after.readers.items
      → AgreesWith AreBytes (feeds.shared after.shared) whole → WhereHonest images (OfBase t base (λ b. ComesOf w o (made_of w g o.make b inputs whole) images old new result))
  agreeing_comes hands unread first inputs whole long agree agrees =
      let form = input_form o.make.style (is_some was) in
      let p = parsing form g result in
      let readers = before.readers.items in
      let lefts = after.readers.items in
      let known = left_known feeds.own (shared_feed feeds.shared) p [] [] run.read.items run.read.stop readers lefts (Unread before.shared) run.were.window first.known run.were.are in
      let given = all_given feeds.own (shared_feed feeds.shared) p run.read.items run.read.stop readers lefts (Unread before.shared) run.were.window inputs whole unread first run.were.are agree long
      (record { fit = agrees.fit; rest = run.were.lost ++ agrees.rest; may = run.were.let_go.back known whole agrees.rest agrees.may }) in
      record {
        each = λ im is. base_weaker t base _ _ (λ b some runs. run_comes _ w g o b inputs whole form run.read images old new result (ap (input_form o.make.style) (sym (some ∙ hands_some t was base hands))) run.is given runs) (run.runs.each im is);
      }
