-- What is known of a window over a reader.
use Rattle.std.specs.Prelude.{ℕ, List, ◌≡◌, ◌++◌, ◌-◌, take, drop}
use Rattle.cdb_form.specs.Views.Feed.{Feed}
use Rattle.cdb_show.specs.declared.window.Window.{Window}

-- the bytes in the window that were not given yet
abbrev pub held_in : {F : Type 0} → Window F → List ℕ
held_in w = take (w.end - w.start) (drop w.start w.window.items)

-- the reader of a window
abbrev pub reader_of : {F : Type 0} → Window F → F
reader_of w = w.reader

-- what is left is what the window holds, and then what may be left of its reader
pub record Behind (feed : Feed) (held whole rest : List ℕ) : Type 0 where
  pub behind : List ℕ
  pub may : feed.may whole behind
  pub is : rest ≡ held ++ behind

-- what is known of a reader and of bytes that were taken of it and not given yet
abbrev pub window_feed : Feed → (held : List ℕ) → Feed
window_feed feed held =
    record { known = feed.known; may = Behind feed held; failed = feed.failed }

-- what is known of a window
abbrev pub feed_of : {F : Type 0} → (F → Feed) → Window F → Feed
feed_of feed w = window_feed (feed (reader_of w)) (held_in w)
