-- What a host is to those that use it, and what each call does to that.
use Rattle.std.specs.Prelude.{◌≡◌, ◌≢◌, ℕ, ◌+◌, ◌-◌, ◌^◌, ◌<◌, ◌≤◌, ◌⊎◌, List, [], ◌∷◌, ◌++◌, length, take, Option, Some, None, Result, Ok, Err, IfSome, IsSomeAnd, OnErr, option_map, Vec}
use Rattle.std.specs.declared.alloc.Global.{Global}
use Rattle.mlt_base.specs.declared.port.Port.{Port}
use Rattle.mlt_host.specs.declared.host.LoadFault.{LoadFault}
use Rattle.mlt_host.specs.declared.host.LoadFault.TheVariants.{Missing, Failed, TooLarge, Memory}

-- what a port has got since its create; a port that was never created has the empty name and all its bytes
pub record PortState : Type 0 where
  pub name : List ℕ
  pub bytes : List ℕ
  -- how many bytes the appends that answered Ok have added
  pub acknowledged : ℕ

-- a host; None is what it does not tell
pub record HostState : Type 0 where
  -- the bytes of each file, by its name
  pub files : Option (List ℕ → Option (List ℕ))
  -- the names that were asked of load, in order
  pub asked : Option (List (List ℕ))
  pub port : Port → Option PortState
  -- how often a load has met a fault
  pub load_faults : ℕ
  -- how often a create or an append on the port has met a fault
  pub faults : Port → ℕ
  -- how often a create of the port has answered Ok
  pub creates : Port → ℕ

-- the count rose, or it stands at the last number of 64 bits
abbrev pub Rose : ℕ → ℕ → Type 0
Rose before now = (before < now) ⊎ (2 ^ 64 - 1 ≤ now)

-- the count of a port's faults: it never falls, and an Err comes only where it rose
pub record Counts {T E : Type 0} (before now : ℕ) (result : Result T E) : Type 0 where
  pub never_falls : before ≤ now
  pub failed : OnErr result (Rose before now)

-- nothing but this port and its counts has changed
pub record OnlyPort (port : Port) (old new : HostState) : Type 0 where
  pub files : new.files ≡ old.files
  pub asked : new.asked ≡ old.asked
  pub load_faults : new.load_faults ≡ old.load_faults
  pub other_ports : (other : Port) → other ≢ port → new.port other ≡ old.port other
  pub other_faults : (other : Port) → other ≢ port → new.faults other ≡ old.faults other
  pub other_creates : (other : Port) → other ≢ port → new.creates other ≡ old.creates other

-- nothing but the names asked and the count of loads has changed, and that count has not fallen
pub record OnlyLoads (old new : HostState) : Type 0 where
  pub files : new.files ≡ old.files
  pub ports : (port : Port) → new.port port ≡ old.port port
  pub faults : (port : Port) → new.faults port ≡ old.faults port
  pub creates : (port : Port) → new.creates port ≡ old.creates port
  pub never_falls : old.load_faults ≤ new.load_faults

-- a port just created
abbrev pub created : List ℕ → PortState
created name = record { name = name; bytes = []; acknowledged = 0 }

-- the port with the bytes added and acknowledged
abbrev pub appended : PortState → List ℕ → PortState
appended before bytes = record { name = before.name; bytes = before.bytes ++ bytes; acknowledged = before.acknowledged + length bytes }

-- the port with the first bytes added, and none acknowledged
abbrev pub cut_short : PortState → List ℕ → ℕ → PortState
cut_short before bytes kept = record { name = before.name; bytes = before.bytes ++ take kept bytes; acknowledged = before.acknowledged }

-- a port that is told afterwards was told before, and has got these bytes
abbrev pub Appends : Port → HostState → HostState → List ℕ → Type 0
Appends port old new bytes = IfSome (new.port port) (λ after. IsSomeAnd (old.port port) (λ before. after ≡ appended before bytes))

-- a port that is told afterwards was told before, and has got a front of these bytes
abbrev pub AppendsFront : Port → HostState → HostState → List ℕ → Type 0
AppendsFront port old new bytes = IfSome (new.port port) (λ after. IsSomeAnd (old.port port) (λ before. (kept : ℕ) × (after ≡ cut_short before bytes kept)))

-- what each answer of a load says of the file and of the count, where the files are told
abbrev pub Loads : Result (Vec ℕ Global) LoadFault → List ℕ → ℕ → HostState → HostState → Type 0
Loads (Ok bytes) name limit old new = (length bytes.items ≤ limit) × IfSome old.files (λ file. file name ≡ Some bytes.items)
Loads (Err Missing) name limit old new = Rose old.load_faults new.load_faults × IfSome old.files (λ file. file name ≡ None)
Loads (Err Failed) name limit old new = Rose old.load_faults new.load_faults
Loads (Err (TooLarge size)) name limit old new = (size ≡ limit) × IfSome old.files (λ file. IsSomeAnd (file name) (λ bytes. limit < length bytes))
Loads (Err Memory) name limit old new = Unit {0}

-- a load that meets no fault leaves the count
abbrev pub LeavesCount : Result (Vec ℕ Global) LoadFault → ℕ → ℕ → Type 0
LeavesCount (Ok _) before now = now ≡ before
LeavesCount (Err Missing) before now = Unit {0}
LeavesCount (Err Failed) before now = Unit {0}
LeavesCount (Err (TooLarge _)) before now = now ≡ before
LeavesCount (Err Memory) before now = now ≡ before

-- the names asked, with one more
abbrev pub with_name : List ℕ → Option (List (List ℕ)) → Option (List (List ℕ))
with_name name asked = option_map (λ names. names ++ name ∷ []) asked

-- the names asked after a load: each answer but Memory adds its name
abbrev pub asked_after : Result (Vec ℕ Global) LoadFault → List ℕ → Option (List (List ℕ)) → Option (List (List ℕ))
asked_after (Ok _) name asked = with_name name asked
asked_after (Err Missing) name asked = with_name name asked
asked_after (Err Failed) name asked = with_name name asked
asked_after (Err (TooLarge _)) name asked = with_name name asked
asked_after (Err Memory) name asked = asked
