-- From groups to what is played: what is not built first, then the profile, then the groups in word order.
use Rattle.std.specs.Prelude.{ℕ, true, false, List}
use Rattle.mlt_tree.specs.declared.group.Group.{Group}
use Rattle.mlt_tree.specs.declared.group.GroupKind.{GroupKind}
use Rattle.mlt_tree.specs.declared.group.GroupKind.TheVariants as kind
use Rattle.mlt_tree.specs.declared.refusal.Cause.TheVariants as cause
use Rattle.mlt_tree.specs.Attaching.{attach, attach_clip, attach_track}
use Rattle.mlt_tree.specs.Clips.{Origin, OfColour, OfPicture, OfWords, Wanted, Product, asked_for, source_made, clip_added}
use Rattle.mlt_tree.specs.Composition.{State, begun, blank, join, remove, repeat, split, swap, consumer, inherit}
use Rattle.mlt_tree.specs.Loaded.{picture_made}
use Rattle.mlt_tree.specs.Loading.{Files, Read, done, plainly, through, ◌>>=◌}
use Rattle.mlt_tree.specs.Merging.{transition, mixer}
use Rattle.mlt_tree.specs.Planting.{begin_track, mix, plant_filter}
use Rattle.mlt_tree.specs.Refusing.{refuse}
use Rattle.mlt_tree.specs.Sealing.{profiled, seal}
use Rattle.mlt_tree.specs.Show.{Show, Plain}

-- what the words of a file make, by the name of the file and the place of the word that names it
abbrev pub FileWords : Type 0
FileWords = State → (place : ℕ) → (name : List ℕ) → Read Product

-- files of words are not read yet: the word that names one is refused
abbrev pub no_words : FileWords
no_words s place name = plainly (refuse place cause.Unsupported)

-- what a producer makes; only files are looked up
abbrev pub product_of : Files → FileWords → State → Group → Origin → Wanted → Read Product
product_of files inner s g (OfColour pixel) asked = done (source_made s.profile s.made (Plain pixel) asked)
product_of files inner s g (OfPicture name) asked = picture_made files s.profile s.made g.place name asked
product_of files inner s g (OfWords name) asked = inner s g.place name

-- a producer: what its word asks for, what it makes of that, and the clip of it
unfoldable pub producer : Files → FileWords → State → Group → Read State
producer files inner s g = do
  asked ← plainly (asked_for s g)
  made ← product_of files inner s g asked.0 asked.1
  plainly (clip_added s g made asked.1)

-- what a group does, where a word may name a file of words
unfoldable pub effect : Files → FileWords → State → Group → Read State
effect files inner s g = by g.kind where
  by : GroupKind → Read State
  by kind.Producer = producer files inner s g
  by kind.Attach = plainly (attach s g)
  by kind.AttachCut = plainly (attach s g)
  by kind.AttachClip = plainly (attach_clip s g)
  by kind.AttachTrack = plainly (attach_track s g)
  by kind.Filter = plainly (plant_filter s g)
  by kind.Transition = transition files s g
  by kind.Blank = plainly (blank s g)
  by kind.Group = plainly (inherit s g)
  by kind.Join = plainly (join s g)
  by kind.Mix = plainly (mix s g)
  by kind.Mixer = mixer files s g
  by kind.Remove = plainly (remove s g)
  by kind.Repeat = plainly (repeat s g)
  by kind.Split = plainly (split s g)
  by kind.Swap = plainly (swap s g)
  by kind.Track = plainly (begin_track false false s g)
  by kind.HideVideo = plainly (begin_track true false s g)
  by kind.AudioTrack = plainly (begin_track true false s g)
  by kind.HideAudio = plainly (begin_track false true s g)
  by kind.VideoTrack = plainly (begin_track false true s g)
  by kind.HideTrack = plainly (begin_track true true s g)
  by kind.NullTrack = plainly (begin_track true true s g)
  by kind.Profile = done s
  by kind.Consumer = plainly (consumer s g)
  by kind.Serialise = done s
  by kind.Query = done s
  by kind.Version = done s
  by kind.Generate = done s
  by kind.Quiet = done s
  by kind.Silent = done s
  by kind.Progress = done s
  by kind.Verbose = done s
  by kind.Debug = done s
  by kind.Getc = done s
  by kind.Timings = done s
  by kind.Abort = done s

-- the composition of the groups of so many words
unfoldable pub composed : Files → ℕ → List Group → Read State
composed files count gs = plainly (profiled gs) >>= λ profile. through (effect files no_words) (begun profile count) gs

-- the show of the groups of so many words
unfoldable pub show_of : Files → ℕ → List Group → Read Show
show_of files count gs = composed files count gs >>= λ s. plainly (seal count s)
