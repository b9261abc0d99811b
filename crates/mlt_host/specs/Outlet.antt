-- Where the ports of a program go.
use Rattle.std.specs.Prelude.{ℕ, List, Option, Some, None, if◌then◌else◌, codes}
use Rattle.std.specs.Str.{bytes_eq}
use Rattle.mlt_base.specs.declared.port.Port.{Port}
use Rattle.mlt_base.specs.declared.port.Port.TheVariants.{Video, Audio, Script, Text}
use Rattle.mlt_host.specs.declared.outlet.Outlet.{Outlet}
use Rattle.mlt_host.specs.declared.outlet.Outlets.{Outlets}
use Rattle.mlt_host.specs.declared.outlet.Target.{Target}
use Rattle.mlt_host.specs.declared.outlet.Target.TheVariants.{Nowhere, Output, Open}
use Rattle.mlt_host.specs.FileName.{name_in}
use Rattle.mlt_host.specs.Streams.{SinkState}

-- nowhere, as a port that was never created; standard output; standard error; the open file of that name
pub data Place : Type 0 where
  NoPlace : Place
  StandardOutput : Place
  StandardError : Place
  FileOf : List ℕ → Place

-- where the bytes go, with the name of the file where it is one
abbrev pub target_place : {F : Type 0} → Target F → List ℕ → Place
target_place Nowhere name = NoPlace
target_place Output name = StandardOutput
target_place (Open _) name = FileOf name

-- where the outlet goes
abbrev pub outlet_place : {F : Type 0} → Outlet F → Place
outlet_place outlet = target_place outlet.target (name_in outlet.name)

-- where the port goes
abbrev pub place_at : {F : Type 0} → Outlets F → Port → Place
place_at outlets Video = outlet_place outlets.video
place_at outlets Audio = outlet_place outlets.audio
place_at outlets Script = outlet_place outlets.script
place_at outlets Text = StandardError

-- the file that is open, where one is
abbrev pub target_file : {F : Type 0} → Target F → Option F
target_file Nowhere = None
target_file Output = None
target_file (Open file) = Some file

-- the file that the outlet has open, where it has one
abbrev pub outlet_file : {F : Type 0} → Outlet F → Option F
outlet_file outlet = target_file outlet.target

-- the file that the port has open, where it has one
abbrev pub file_at : {F : Type 0} → Outlets F → Port → Option F
file_at outlets Video = outlet_file outlets.video
file_at outlets Audio = outlet_file outlets.audio
file_at outlets Script = outlet_file outlets.script
file_at outlets Text = None

-- what the file or standard output tells to which it goes, where it goes to one
abbrev pub target_sink : {F : Type 0} → (F → SinkState) → SinkState → Target F → Option SinkState
target_sink told stdout Nowhere = None
target_sink told stdout Output = Some stdout
target_sink told stdout (Open file) = Some (told file)

-- what the file or standard output tells to which the outlet goes, where it goes to one
abbrev pub outlet_sink : {F : Type 0} → (F → SinkState) → SinkState → Outlet F → Option SinkState
outlet_sink told stdout outlet = target_sink told stdout outlet.target

-- what the file or the stream tells to which the port goes, where it goes to one
abbrev pub sink_at : {F : Type 0} → (F → SinkState) → SinkState → SinkState → Outlets F → Port → Option SinkState
sink_at told stdout stderr outlets Video = outlet_sink told stdout outlets.video
sink_at told stdout stderr outlets Audio = outlet_sink told stdout outlets.audio
sink_at told stdout stderr outlets Script = outlet_sink told stdout outlets.script
sink_at told stdout stderr outlets Text = Some stderr

-- where a name leads
abbrev pub named_place : List ℕ → Place
named_place name = if bytes_eq name (codes "-") then StandardOutput else FileOf name

-- where the port goes before any create
abbrev pub first_place : Port → Place
first_place Video = NoPlace
first_place Audio = NoPlace
first_place Script = NoPlace
first_place Text = StandardError

-- where the port goes once it is created with that name
abbrev pub place_after : Port → List ℕ → Place
place_after Video name = named_place name
place_after Audio name = named_place name
place_after Script name = named_place name
place_after Text name = StandardError
