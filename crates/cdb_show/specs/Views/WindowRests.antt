-- That all bytes of a window determine those that are left.
use Rattle.std.specs.Prelude.{ℕ, List, ◌≡◌, ◌++◌}
use Rattle.std.proofs.Common.{sym, ap, ◌∙◌}
use Rattle.cdb_form.specs.Views.Feed.{Feed}
use Rattle.cdb_show.specs.Views.Window.{Behind}

pub same_held : {feed : Feed} {held whole xs ys : List ℕ}
    → ((a b : List ℕ) → feed.may whole a → feed.may whole b → a ≡ b)
    → Behind feed held whole xs → Behind feed held whole ys → xs ≡ ys
same_held {held = held} one a b =
    a.is ∙ ap (λ rest. held ++ rest) (one a.behind b.behind a.may b.may) ∙ sym b.is
