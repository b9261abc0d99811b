-- What a level ends as, once a `&mut` into it has ended.
use Rattle.std.specs.Prelude.{List}
use Rattle.std.specs.Borrow.{Fml, MutBor, Lends}
use Rattle.mlt_tree.specs.declared.entry.Entry.{Entry}
use Rattle.mlt_tree.specs.Units.{Level, with_entries}
use Rattle.mlt_playlist.specs.contracts.playlist.Playlist.{the_row as row_of_list}
use Rattle.mlt_graph.specs.contracts.level.Level.{the_row}

-- the track that entries are added to has those that were left behind r
abbrev pub LendsLast : MutBor Level → MutBor (List Entry) → Fml
LendsLast level r = Lends the_row row_of_list level r (with_entries level.now)
